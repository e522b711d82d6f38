-- What a register number stands for: a sign and a whole number of units.
use Rattle.std.specs.Prelude.{◌≡◌, ℕ, ◌-◌, ◌*◌, ◌^◌, ◌<◌, ◌≤◌, Bool, false, ℤ, pos, ◌-ℤ◌, neg_ℤ, ◌≤ℤ◌}
use Rattle.registers.specs.declared.pattern.Finite.{Finite}
use Rattle.registers.specs.declared.register.Number.{Number}
use Rattle.registers.specs.declared.register.Register.{Register}
use Rattle.registers.specs.declared.register.Register.TheVariants.{Zero, Nonzero}
use Rattle.registers.specs.Range.{bias, lowest, highest}

pub record Value : Type 0 where
  pub negative : Bool
  pub units : ℕ

-- the exponent that a stored one stands for
abbrev pub exponent_of : ℕ → ℤ
exponent_of stored = pos stored -ℤ pos lowest

abbrev pub number_value : Number → Value
number_value x = record { negative = x.negative; units = x.significand * 2 ^ x.exponent }

abbrev pub value : Register → Value
value Zero = record { negative = false; units = 0 }
value (Nonzero x) = number_value x

-- a finite binary32 number: a unit of 2 ^ -149 is 2 ^ (bias - 149) units
abbrev pub finite_value : Finite → Value
finite_value x = record { negative = x.negative; units = x.significand * 2 ^ x.exponent * 2 ^ (bias - 149) }

-- an exponent and a significand that make a register number
pub record Buildable (exponent : ℤ) (significand : ℕ) : Type 0 where
  pub from : neg_ℤ (pos lowest) ≤ℤ exponent
  pub to : exponent ≤ℤ pos highest
  pub least : 2 ^ 29 ≤ significand
  pub most : significand < 2 ^ 30

-- and the number they make
pub record Built (negative : Bool) (exponent : ℤ) (significand : ℕ) (n : Number) : Type 0 where
  pub sign : n.negative ≡ negative
  pub place : exponent_of n.exponent ≡ exponent
  pub digits : n.significand ≡ significand
