-- The theorems on the rounding to binary32.
use Rattle.std.proofs.Common.{◌≡◌, ℕ, ◌+◌, ◌*◌, ◌^◌, ◌≤◌, Bool, true, false, cond, not, ◌||◌, leb, sym, refl, ap, le_trans, arith}
use Prim.Native.Nat.{Ordering}
use lib.Dec.{compare_is_eq, is_le}
use Rattle.std.proofs.lemmas.Bool.{both_ways, le-leb}
use Rattle.registers.specs.declared.mode.Way.{Way}
use Rattle.registers.specs.declared.mode.Mode.{Mode}
use Rattle.registers.specs.Binary32.{chosen, goes_up, grid32, grid_wide, is_odd, magnitude, rounding, place_on, seek}
use Rattle.registers.specs.Modes.{rounded, under_sign, way_of}
use Rattle.registers.specs.Rightly.{Ordered, RightRounding, SameSideSameRounding, place_of}
use Rattle.registers.proofs.Grids.{grid32_rises, grid_wide_rises, rising_mono, rounding_alike, seek_reaches}
use Rattle.registers.proofs.Orders.{rightly_once}
use Rattle.registers.proofs.Rightness.{le_down, not_le_gt, rounds_rightly, seek_between}

-- ---- inexact: the place that is chosen is the value just where the lower neighbour is

module _ (way : Way) (beside : ℕ → Ordering) (L : ℕ) (low : is_le (beside (2 * grid32 L)) ≡ true) (next : is_le (beside (2 * grid32 (L + 1))) ≡ false) (over : Bool) where
  next_off : not (compare_is_eq (beside (2 * grid32 (L + 1)))) ≡ true
  next_off = ap (λ (o : Ordering). not (compare_is_eq o)) (not_le_gt (beside (2 * grid32 (L + 1))) next)

  -- where the value is above the lower one, either choice is off it
  by_choice : (u : Bool) → beside (2 * grid32 L) ≡ Ordering.lt → (true || over) ≡ (not (compare_is_eq (beside (2 * grid32 (cond u (L + 1) L)))) || over)
  by_choice true e = ap (λ (x : Bool). x || over) (sym next_off)
  by_choice false e = ap (λ (o : Ordering). not (compare_is_eq o) || over) (sym e)

  inexact_by : (lower middle : Ordering) → beside (2 * grid32 L) ≡ lower → (not (compare_is_eq lower) || over) ≡ (not (compare_is_eq (beside (2 * grid32 (chosen way L lower middle)))) || over)
  inexact_by Ordering.lt middle e = by_choice (goes_up way Ordering.lt middle (is_odd L)) e
  inexact_by Ordering.eq middle e = ap (λ (o : Ordering). not (compare_is_eq o) || over) (sym e)
  inexact_by Ordering.gt middle e = absurd (both_ways (is_le (beside (2 * grid32 L))) (ap is_le e) low)

inexact_is : (mode : Mode) (s : Bool) (beside : ℕ → Ordering) → Ordered beside → is_le (beside (2 * grid32 (2 ^ 31))) ≡ false → (rounded mode s beside).inexact ≡ (not (compare_is_eq (beside (2 * grid32 (place_of mode s beside)))) || (rounded mode s beside).overflow)
unfolding rounding place_on magnitude
inexact_is mode s beside value end =
    let b = seek_between grid32 beside 31 0 (ap is_le value.positive) end in
    let L : ℕ = seek grid32 beside 31 0 in
    inexact_by (way_of mode s) beside L b.0 b.1 (leb 0x7F800000 (place_of mode s beside)) (beside (2 * grid32 L)) (beside (grid32 L + grid32 (L + 1))) refl

-- ---- overflow of a value however large

large_is : (mode : Mode) (s : Bool) (beside : ℕ → Ordering) → Ordered beside → is_le (beside (2 * grid32 0x7F800000)) ≡ true → (rounded mode s beside).overflow ≡ true
unfolding rounding place_on
large_is mode s beside value big =
    let L : ℕ = seek grid32 beside 31 0 in
    let reached : 0x7F800000 ≤ L = seek_reaches grid32 beside 0x7F800000 (λ p l. le_down grid32 grid32_rises beside value (2 * grid32 p) (2 * grid32 0x7F800000) (omega (arith, rising_mono grid32 grid32_rises p 0x7F800000 l)) big) 31 0 (omega arith) in
    le-leb 0x7F800000 (chosen (way_of mode s) L (beside (2 * grid32 L)) (beside (grid32 L + grid32 (L + 1)))) (le_trans reached (not_lower (goes_up (way_of mode s) (beside (2 * grid32 L)) (beside (grid32 L + grid32 (L + 1))) (is_odd L)) L))
  where
    not_lower : (u : Bool) (l : ℕ) → l ≤ cond u (l + 1) l
    not_lower true l = omega arith
    not_lower false l = omega arith

pub right_rounding : RightRounding
unfolding RightRounding magnitude rounding place_on
right_rounding = record {
  right = λ way beside value end. rounds_rightly grid32 grid32_rises beside value 31 way (ap is_le value.positive) end;
  only = λ way beside p q value. rightly_once grid32 grid32_rises beside value way p q;
  pattern = λ mode s beside. refl;
  inexact = inexact_is;
  overflow = λ mode s beside. refl;
  large = large_is;
  underflow = λ mode s beside. refl;
  wide = λ way beside value start end. rounds_rightly grid_wide grid_wide_rises beside value 32 way start end;
}

pub same_side : SameSideSameRounding
unfolding SameSideSameRounding
same_side mode s b c same = ap (under_sign s) (rounding_alike b c same (way_of mode s))
