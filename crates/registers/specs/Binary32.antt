-- Rounding of a positive value to binary32, in a way that the mode and the sign decide.
-- A value is known only by where numbers lie beside it: `beside m` says whether m units of 2 ^ -324 are less than the value (lt), the value (eq) or more (gt).
use Rattle.std.specs.Prelude.{ℕ, zero, suc, ◌+◌, ◌-◌, ◌*◌, ◌/◌, ◌%◌, ◌^◌, Bool, true, false, cond, not, ◌&&◌, ◌||◌, ◌==◌, nat_le, nat_lt}
use Prim.Native.Nat.{compare, Ordering}
use Rattle.std.proofs.Math.Dec.{is_le, compare_is_eq}
use Rattle.registers.specs.declared.mode.Way.{Way}
use Rattle.registers.specs.declared.mode.Way.TheVariants.{Nearest, Inward, Outward}
use Rattle.registers.specs.Laws.{Bits}
use Rattle.registers.specs.Range.{bias}

-- What the pattern p of a magnitude stands for, in units of 2 ^ -149. It goes on past the infinity's pattern, as if there were more exponents.
unfoldable pub magnitude : ℕ → ℕ
magnitude p = cond (nat_lt p (2 ^ 23)) p ((2 ^ 23 + p % 2 ^ 23) * 2 ^ (p / 2 ^ 23 - 1))

-- The magnitudes in units of 2 ^ -323: so the middle of two neighbours is a whole number of units of 2 ^ -324.
abbrev pub grid32 : ℕ → ℕ
grid32 p = magnitude p * 2 ^ 174

-- The numbers of 24 bits from 2 ^ -300 up in units of 2 ^ -323, with no end below at 2 ^ -149: the grid with unlimited exponent. A value below 2 ^ -300 is rounded to its first number or the next one, which is as good as unlimited for telling what lies below 2 ^ -126.
unfoldable pub grid_wide : ℕ → ℕ
grid_wide p = (2 ^ 23 + p % 2 ^ 23) * 2 ^ (p / 2 ^ 23)

-- the greatest place of a grid from p up, and below p + 2 ^ k, where the number is not more than the value
unfoldable pub seek : (ℕ → ℕ) → (ℕ → Ordering) → ℕ → ℕ → ℕ
seek grid beside zero p = p
seek grid beside (suc k) p = let q = cond (is_le (beside (2 * grid (p + 2 ^ k)))) (p + 2 ^ k) p in seek grid beside k q

abbrev pub is_less : Ordering → Bool
is_less Ordering.lt = true
is_less Ordering.eq = false
is_less Ordering.gt = false

-- whether a value goes up from the lower one of two neighbours: by where the lower one and the middle lie beside it, and by whether the lower one is odd
abbrev pub past : Ordering → Bool → Bool
past Ordering.lt odd = true
past Ordering.eq odd = odd
past Ordering.gt odd = false

abbrev pub up_by : Way → Ordering → Bool → Bool
up_by Nearest middle odd = past middle odd
up_by Inward middle odd = false
up_by Outward middle odd = true

abbrev pub goes_up : Way → Ordering → Ordering → Bool → Bool
goes_up way lower middle odd = is_less lower && up_by way middle odd

abbrev pub is_odd : ℕ → Bool
is_odd n = n % 2 == 1

-- from the lower neighbour `low`, by where it and the middle to the next one lie beside the value
abbrev pub chosen : Way → ℕ → Ordering → Ordering → ℕ
chosen way low lower middle = cond (goes_up way lower middle (is_odd low)) (low + 1) low

-- the place of a grid that the value is rounded to
unfoldable pub place_on : (ℕ → ℕ) → ℕ → Way → (ℕ → Ordering) → ℕ
place_on grid k way beside = let low = seek grid beside k 0 in chosen way low (beside (2 * grid low)) (beside (grid low + grid (low + 1)))

-- whether the value, rounded to 24 bits with unlimited exponent, is below 2 ^ -126, which stands at the place 174 * 2 ^ 23 of the wide grid
unfoldable pub is_tiny : Way → (ℕ → Ordering) → Bool
is_tiny way beside = nat_lt (place_on grid_wide 32 way beside) (174 * 2 ^ 23)

-- a rounded magnitude: its pattern, and the flags
pub record Unsigned : Type 0 where
  pub pattern : ℕ
  pub inexact : Bool
  pub overflow : Bool
  pub underflow : Bool

-- what stands for a magnitude past the greatest finite one: the infinity, or inward that greatest one
abbrev pub beyond : Way → ℕ
beyond Nearest = 0x7F800000
beyond Inward = 0x7F7FFFFF
beyond Outward = 0x7F800000

-- from the greatest pattern `low` not above the value, by where its magnitude and the middle to the next one lie beside the value
abbrev pub concluded : Way → ℕ → Ordering → Ordering → Bool → Unsigned
concluded way low lower middle small =
    let p = chosen way low lower middle in
    let over = nat_le 0x7F800000 p in
    let off = not (compare_is_eq lower) || over in
    record { pattern = cond over (beyond way) p; inexact = off; overflow = over; underflow = off && small }

abbrev pub from_low : Way → (ℕ → Ordering) → ℕ → Unsigned
from_low way beside low = concluded way low (beside (2 * grid32 low)) (beside (grid32 low + grid32 (low + 1))) (is_tiny way beside)

unfoldable pub rounding : Way → (ℕ → Ordering) → Unsigned
rounding way beside = from_low way beside (seek grid32 beside 31 0)

-- a number of at most 25 significant bits
abbrev pub Short : ℕ → Type 0
Short m = Bits 25 m

-- A whole number n of squared units of register numbers as a value: a unit of 2 ^ -324 is 2 ^ (2 * bias - 324) of them.
abbrev pub beside_whole : ℕ → ℕ → Ordering
beside_whole n m = compare (m * 2 ^ (2 * bias - 324)) n
