-- What a pattern of binary32 stands for, and the pattern of a number.
use Rattle.std.specs.Prelude.{◌≡◌, ℕ, ◌+◌, ◌-◌, ◌*◌, ◌/◌, ◌%◌, ◌^◌, ◌<◌, ◌≤◌, Bool, false, cond, ◌==◌, nat_le, nat_lt}
use Rattle.std.specs.Float.Ieee.{size}
use Rattle.registers.specs.declared.pattern.Finite.{Finite}
use Rattle.registers.specs.declared.pattern.Datum.{Datum}
use Rattle.registers.specs.declared.pattern.Datum.TheVariants.{Nan, Infinity, Zero}
use Rattle.registers.specs.declared.pattern.Datum.TheVariants.{Finite as finite_case}
use Rattle.registers.specs.Binary32.{magnitude}
use Rattle.registers.specs.Modes.{with_sign}

-- a NaN, or a number with a sign: an infinity, or a whole number of units of 2 ^ -149, which may be none
pub data Meaning : Type 0 where
  nan : Bool → Meaning
  infinite : Bool → Meaning
  finite : Bool → ℕ → Meaning

abbrev pub is_negative : ℕ → Bool
is_negative p = nat_le (2 ^ 31) p

-- the pattern without its sign
abbrev pub unsigned : ℕ → ℕ
unsigned p = p % 2 ^ 31

abbrev pub is_nan : ℕ → Bool
is_nan p = nat_lt 0x7F800000 (unsigned p)

-- bit 22 tells a quiet NaN
abbrev pub is_quiet : ℕ → Bool
is_quiet p = p / 2 ^ 22 % 2 == 1

abbrev pub meaning : ℕ → Meaning
meaning p = cond (is_nan p) (nan (is_quiet p)) (cond (unsigned p == 0x7F800000) (infinite (is_negative p)) (finite (is_negative p) (magnitude (unsigned p))))

-- the unsigned pattern of v units, where v has at most 24 significant bits: what is past 24 bits is the exponent, and the 24 bits are added to it
unfoldable pub encoded : ℕ → ℕ
encoded v = (size v - 24) * 2 ^ 23 + v / 2 ^ (size v - 24)

-- every NaN that is given out is 7FC00000
abbrev pub encoding : Meaning → ℕ
encoding (nan quiet) = 0x7FC00000
encoding (infinite s) = with_sign s 0x7F800000
encoding (finite s v) = with_sign s (encoded v)

-- the numbers of binary32: the infinities, and what 24 bits and an exponent from 0 to 253 make
abbrev pub Binary32Number : Meaning → Type 0
Binary32Number (nan quiet) = ⊥
Binary32Number (infinite s) = Unit {0}
Binary32Number (finite s v) = (m : ℕ) × (e : ℕ) × (v ≡ m * 2 ^ e) × (m < 2 ^ 24) × (e ≤ 253)

-- what a decoded pattern says
abbrev pub finite_meaning : Finite → Meaning
finite_meaning x = finite x.negative (x.significand * 2 ^ x.exponent)

abbrev pub denoted : Datum → Meaning
denoted (Nan quiet) = nan quiet
denoted (Infinity s) = infinite s
denoted (Zero s) = finite s 0
denoted (finite_case x) = finite_meaning x

-- Decoding and encoding are inverse both ways: every pattern p but a NaN's comes back from what it stands for,
abbrev pub PatternComesBack : ℕ → Meaning → Type 0
PatternComesBack p stands = is_nan p ≡ false → encoding stands ≡ p

-- and every binary32 number comes back from its pattern p.
abbrev pub NumberComesBack : Meaning → ℕ → Type 0
NumberComesBack number p = Binary32Number number → meaning p ≡ number

-- a significand and an exponent that make a finite number other than zero
pub record Writable (significand exponent : ℕ) : Type 0 where
  pub some : 0 < significand
  pub few : significand < 2 ^ 24
  pub low : exponent ≤ 253
