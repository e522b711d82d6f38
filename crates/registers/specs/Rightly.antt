-- What it is for a pattern to be the rounding of a positive value, without a search: told by where numbers of units of 2 ^ -324 lie beside the value.
use Rattle.std.specs.Prelude.{◌≡◌, ℕ, ◌+◌, ◌*◌, ◌^◌, ◌<◌, Bool, true, false, cond, not, ◌&&◌, ◌||◌, ◌≢◌, nat_le}
use Prim.Native.Nat.{Ordering}
use Rattle.std.proofs.Math.Dec.{compare_is_eq, is_le}
use Rattle.registers.specs.declared.mode.Mode.{Mode}
use Rattle.registers.specs.declared.mode.Way.{Way}
use Rattle.registers.specs.declared.mode.Way.TheVariants.{Nearest, Inward, Outward}
use Rattle.registers.specs.Binary32.{is_less, is_odd, is_tiny, grid32, grid_wide, place_on, beyond, Short}
use Rattle.registers.specs.Modes.{rounded, way_of, with_sign}

-- `beside` tells a positive value: 0 is below it, and so is what is below a number not above it
pub record Ordered (beside : ℕ → Ordering) : Type 0 where
  pub positive : beside 0 ≡ Ordering.lt
  pub down : (m n : ℕ) → m < n → is_le (beside n) ≡ true → beside m ≡ Ordering.lt

-- G is a grid of numbers, in units of 2 ^ -323.
-- No number of the grid is nearer than that at p, which is to say that the value lies on its side of the middle to any other; and where another is as near, p is even.
pub record ByNearest (G : ℕ → ℕ) (beside : ℕ → Ordering) (p : ℕ) : Type 0 where
  pub from_below : (q : ℕ) → q < p → is_le (beside ((G q + G p))) ≡ true
  pub from_above : (q : ℕ) → p < q → is_less (beside ((G p + G q))) ≡ false
  pub even_at_tie : (q : ℕ) → (q ≢ p) → beside ((G p + G q)) ≡ Ordering.eq → is_odd p ≡ false

-- p is the greatest one not above the value
pub record ByInward (G : ℕ → ℕ) (beside : ℕ → Ordering) (p : ℕ) : Type 0 where
  pub not_above : is_le (beside (2 * G p)) ≡ true
  pub greatest : (q : ℕ) → p < q → is_le (beside (2 * G q)) ≡ false

-- p is the least one not below the value
pub record ByOutward (G : ℕ → ℕ) (beside : ℕ → Ordering) (p : ℕ) : Type 0 where
  pub not_below : is_less (beside (2 * G p)) ≡ false
  pub least : (q : ℕ) → q < p → is_less (beside (2 * G q)) ≡ true

abbrev pub Rightly : (ℕ → ℕ) → Way → (ℕ → Ordering) → ℕ → Type 0
Rightly G Nearest beside p = ByNearest G beside p
Rightly G Inward beside p = ByInward G beside p
Rightly G Outward beside p = ByOutward G beside p

-- the place among the patterns, with no bound above, that a value is rounded to in a mode under a sign
abbrev pub place_of : Mode → Bool → (ℕ → Ordering) → ℕ
place_of mode s beside = place_on grid32 31 (way_of mode s) beside

-- The rounding is the one that IEEE 754 describes.
pub record ByTheStandard : Type 0 where
  -- the place of a value below 2 ^ 129 is right among the patterns, and no other one is
  pub right : (way : Way) (beside : ℕ → Ordering) → Ordered beside → is_le (beside (2 * grid32 (2 ^ 31))) ≡ false → Rightly grid32 way beside (place_on grid32 31 way beside)
  pub only : (way : Way) (beside : ℕ → Ordering) (p q : ℕ) → Ordered beside → Rightly grid32 way beside p → Rightly grid32 way beside q → p ≡ q
  -- it is the result's pattern, unless it is past the greatest finite one, and then there is overflow
  pub pattern : (mode : Mode) (s : Bool) (beside : ℕ → Ordering) → (rounded mode s beside).pattern.bits ≡ with_sign s (cond (nat_le 0x7F800000 (place_of mode s beside)) (beyond (way_of mode s)) (place_of mode s beside))
  -- the result is inexact where that place is not the value, or past the greatest finite number
  pub inexact : (mode : Mode) (s : Bool) (beside : ℕ → Ordering) → Ordered beside → is_le (beside (2 * grid32 (2 ^ 31))) ≡ false → (rounded mode s beside).inexact ≡ (not (compare_is_eq (beside (2 * grid32 (place_of mode s beside)))) || (rounded mode s beside).overflow)
  pub overflow : (mode : Mode) (s : Bool) (beside : ℕ → Ordering) → (rounded mode s beside).overflow ≡ nat_le 0x7F800000 (place_of mode s beside)
  -- a value from 2 ^ 128 up, however large, overflows
  pub large : (mode : Mode) (s : Bool) (beside : ℕ → Ordering) → Ordered beside → is_le (beside (2 * grid32 0x7F800000)) ≡ true → (rounded mode s beside).overflow ≡ true
  -- underflow is inexact and tiny, and tiny is told by a place that is right among the numbers of 24 bits with unlimited exponent, for each value from 2 ^ -300 up and below 2 ^ 212
  pub underflow : (mode : Mode) (s : Bool) (beside : ℕ → Ordering) → (rounded mode s beside).underflow ≡ ((rounded mode s beside).inexact && is_tiny (way_of mode s) beside)
  pub wide : (way : Way) (beside : ℕ → Ordering) → Ordered beside → is_le (beside (2 * grid_wide 0)) ≡ true → is_le (beside (2 * grid_wide (2 ^ 32))) ≡ false → Rightly grid_wide way beside (place_on grid_wide 32 way beside)

unfoldable pub RightRounding : Type 0
RightRounding = ByTheStandard

-- Two values that lie on the same side of every number of at most 25 significant bits round to the same pattern with the same flags, in every mode and with either sign.
unfoldable pub SameSideSameRounding : Type 0
SameSideSameRounding = (mode : Mode) (s : Bool) (b c : ℕ → Ordering) → ((m : ℕ) → Short m → b m ≡ c m) → rounded mode s b ≡ rounded mode s c
