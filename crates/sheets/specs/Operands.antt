-- Operands of a sheet, and what its lines have in common. Magnitudes of operands are counted in units of 2 ^ -149, those of registers in units of 2 ^ -bias.
use Rattle.std.specs.Prelude.{◌≡◌, ℕ, ◌-◌, ◌*◌, ◌%◌, ◌^◌, ◌≤◌, cond, ◌⊎◌, ◌==◌}
use Rattle.registers.specs.declared.pattern.Finite.{Finite}
use Rattle.registers.specs.Range.{bias}
use Rattle.registers.specs.Values.{Value}
use Rattle.sources.specs.Seeds.{plain}

-- the magnitude of a finite number
abbrev pub units_of : Finite → ℕ
units_of x = x.significand * 2 ^ x.exponent

-- a magnitude as a register number
abbrev pub held : ℕ → Value
held n = plain (n * 2 ^ (bias - 149))

-- a significand of 24 bits times 2 ^ (exponent - 172) as one
abbrev pub held_at : ℕ → ℕ → Value
held_at significand exponent = plain (significand * 2 ^ exponent * 2 ^ (bias - 172))

-- T, where such a number is t·4 ^ h, t from 1 up to 4 and T = t·2 ^ 23: its power of two is 2 ^ (exponent - 149), which is an odd power where the exponent is even
abbrev pub radicand_of : ℕ → ℕ → ℕ
radicand_of significand exponent = cond (exponent % 2 == 0) (2 * significand) significand

abbrev pub one : Value
one = plain (2 ^ bias)

abbrev pub half : Value
half = plain (2 ^ (bias - 1))

-- zero, or a magnitude between 2 ^ -300 and 2 ^ 300
abbrev pub Moderate : Value → Type 0
Moderate v = (v.units ≡ 0) ⊎ ((2 ^ bias ≤ v.units * 2 ^ 300) × (v.units ≤ 2 ^ bias * 2 ^ 300))
