-- That divide and root round the exact value once, as IEEE 754 says it: by comparison, and without the definition that computes the rounding.
use Rattle.std.specs.Prelude.{◌≡◌, ℕ, ◌*◌, ◌<◌, Bool, true, false, cond, nat_le}
use Prim.Native.Nat.{Ordering}
use Rattle.std.proofs.Math.Dec.{is_le}
use Rattle.registers.specs.declared.mode.Mode.{Mode}
use Rattle.registers.specs.declared.pattern.Pattern.{Pattern}
use Rattle.registers.specs.Binary32.{beyond, grid32}
use Rattle.registers.specs.Modes.{way_of, with_sign}
use Rattle.registers.specs.Rightly.{Rightly}
use Rattle.sheets.specs.Beside.{beside_quotient, beside_root}
use Rattle.bench.specs.Kinds.{is_negative, signs_differ, units, unsigned}
use Rattle.bench.specs.Tables.{zero_of}

-- The pattern r is the rounding of a positive value under the sign s, where `beside` tells where numbers of units of 2 ^ -324 lie beside that value.
-- In nearest no number of binary32 is nearer, and a tie goes to the even one; inward it is the greatest not above, outward the least not below.
pub record RoundedOnce (mode : Mode) (s : Bool) (beside : ℕ → Ordering) (r : Pattern) : Type 0 where
  -- a value from 2 ^ 128 up gives an infinity, or inward the greatest finite number
  pub large : is_le (beside (2 * grid32 0x7F800000)) ≡ true → r.bits ≡ with_sign s (beyond (way_of mode s))
  -- any other has its right place among the numbers of binary32, counted on as if 2 ^ 128 were one of them; at that place it has overflowed
  pub place : ℕ
  pub right : is_le (beside (2 * grid32 0x7F800000)) ≡ false → Rightly grid32 (way_of mode s) beside place
  pub pattern : is_le (beside (2 * grid32 0x7F800000)) ≡ false → r.bits ≡ with_sign s (cond (nat_le 0x7F800000 place) (beyond (way_of mode s)) place)

abbrev pub FinitePattern : Pattern → Type 0
FinitePattern p = unsigned p < 0x7F800000

-- a by b, both finite and b not zero, is r: m·b beside a tells where m lies. A quotient of zero has its sign.
pub record DividedOnce (mode : Mode) (a b r : Pattern) : Type 0 where
  pub zero : FinitePattern a → FinitePattern b → 0 < units b → units a ≡ 0 → r ≡ zero_of (signs_differ a b)
  pub value : FinitePattern a → FinitePattern b → 0 < units b → 0 < units a → RoundedOnce mode (signs_differ a b) (beside_quotient (units a) (units b)) r

-- the root of a, finite and not below zero, is r: m·m beside a tells where m lies. The root of a zero is that zero.
pub record RootedOnce (mode : Mode) (a r : Pattern) : Type 0 where
  pub zero : units a ≡ 0 → r ≡ a
  pub value : FinitePattern a → is_negative a ≡ false → 0 < units a → RoundedOnce mode false (beside_root (units a)) r
