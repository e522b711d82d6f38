-- Fractions over powers of two, in units.
use Rattle.std.specs.Prelude.{ℕ, ◌-◌, ◌*◌, ◌^◌}
use Rattle.registers.specs.Range.{bias}

-- a / 2 ^ k
abbrev pub fraction : ℕ → ℕ → ℕ
fraction a k = a * 2 ^ (bias - k)
