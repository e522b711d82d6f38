-- The kinds of pattern.
use Rattle.std.specs.Prelude.{◌≡◌, ℕ, ◌*◌, ◌^◌, Bool, not, ◌&&◌, ◌==◌, nat_lt}
use Rattle.std.specs.Bool.{beq}
use Rattle.registers.specs.declared.pattern.Pattern.{Pattern}
use Rattle.registers.specs.declared.pattern.Finite.{Finite}
use Rattle.registers.specs.Binary32.{magnitude}
use Rattle.registers.specs.Coding as coding

-- the sign bit
unfoldable pub is_negative : Pattern → Bool
is_negative p = coding.is_negative p.bits

-- the pattern without its sign
abbrev pub unsigned : Pattern → ℕ
unsigned p = coding.unsigned p.bits

unfoldable pub is_nan : Pattern → Bool
is_nan p = coding.is_nan p.bits

unfoldable pub is_signalling : Pattern → Bool
is_signalling p = coding.is_nan p.bits && not (coding.is_quiet p.bits)

unfoldable pub is_infinite : Pattern → Bool
is_infinite p = unsigned p == 0x7F800000

unfoldable pub is_zero : Pattern → Bool
is_zero p = unsigned p == 0

-- below 2 ^ -126, and not zero
unfoldable pub is_subnormal : Pattern → Bool
is_subnormal p = nat_lt 0 (unsigned p) && nat_lt (unsigned p) (2 ^ 23)

-- the sign of a product and of a quotient
unfoldable pub signs_differ : Pattern → Pattern → Bool
signs_differ p q = not (beq (is_negative p) (is_negative q))

-- the magnitude that a finite pattern stands for, in units of 2 ^ -149
abbrev pub units : Pattern → ℕ
units p = magnitude (unsigned p)

-- x is the number that the pattern p stands for
pub record Stands (x : Finite) (p : Pattern) : Type 0 where
  pub sign : x.negative ≡ is_negative p
  pub size : x.significand * 2 ^ x.exponent ≡ units p
