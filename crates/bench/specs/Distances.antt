-- The distance of a tab from the datum, from the differences of their places in whole micrometres: the root of the sum of the squares, each step rounded to nearest.
use Rattle.std.specs.Prelude.{◌≡◌, ℕ, ◌*◌, ◌^◌, ◌<◌, ◌≤◌, Bool, false, cond, ◌||◌, ℤ, Ok, Err, Result, nat_lt, unsigned_abs}
use Rattle.registers.specs.declared.mode.Mode.{Mode}
use Rattle.registers.specs.declared.mode.Mode.TheVariants.{NearestEven}
use Rattle.registers.specs.declared.pattern.Pattern.{Pattern}
use Rattle.registers.specs.Coding.{encoded}
use Rattle.registers.specs.Modes.{with_sign}
use Rattle.sheets.specs.declared.sheet.Sheet.{Sheet}
use Rattle.sheets.specs.Written.{values}
use Rattle.bench.specs.declared.answer.Answer.{Answer}
use Rattle.bench.specs.declared.flags.Flags.{Flags}
use Rattle.bench.specs.declared.refusal.Refusal.{Refusal}
use Rattle.bench.specs.declared.refusal.Refusal.TheVariants.{Beyond}
use Rattle.bench.specs.Calls.{fuse_answer, root_answer}
use Rattle.bench.specs.Counts.{greatest, is_below_zero}
use Rattle.bench.specs.Kinds.{is_negative, unsigned}
use Rattle.bench.specs.Raised.{joined_flags, no_flags}
use Rattle.bench.specs.Tables.{zero_of}
use Rattle.bench.specs.Worksheets.{RootLeaves}

-- the pattern of a whole number of at most 24 bits
unfoldable pub whole_pattern : ℤ → Pattern
whole_pattern z = record { bits = with_sign (is_below_zero z) (encoded (unsigned_abs z * 2 ^ 149)) }

-- y·y + 0, then x·x + that, then the root, in a mode
unfoldable pub square_in : Mode → Pattern → Answer
square_in mode y = fuse_answer mode y y (zero_of false)

unfoldable pub sum_in : Mode → Pattern → Pattern → Answer
sum_in mode x y = fuse_answer mode x x (square_in mode y).pattern

unfoldable pub length_in : Mode → Pattern → Pattern → Answer
length_in mode x y = root_answer mode (sum_in mode x y).pattern

-- the flags of all three
unfoldable pub length_flags : Mode → Pattern → Pattern → Flags
length_flags mode x y = joined_flags (joined_flags (square_in mode y).flags (sum_in mode x y).flags) (length_in mode x y).flags

-- the same of whole numbers, in nearest
abbrev pub square_answer : ℤ → Answer
square_answer dy = square_in NearestEven (whole_pattern dy)

abbrev pub sum_answer : ℤ → ℤ → Answer
sum_answer dx dy = sum_in NearestEven (whole_pattern dx) (whole_pattern dy)

abbrev pub length_answer : ℤ → ℤ → Answer
length_answer dx dy = length_in NearestEven (whole_pattern dx) (whole_pattern dy)

abbrev pub length_raised : ℤ → ℤ → Flags
length_raised dx dy = length_flags NearestEven (whole_pattern dx) (whole_pattern dy)

-- differences that are not measured
unfoldable pub too_far : ℤ → ℤ → Bool
too_far dx dy = nat_lt greatest (unsigned_abs dx) || nat_lt greatest (unsigned_abs dy)

-- the distance, or the refusal of differences beyond ±16,777,215
abbrev pub distance_answer : ℤ → ℤ → Result Pattern Refusal
distance_answer dx dy = cond (too_far dx dy) (Err Beyond) (Ok (length_answer dx dy).pattern)

-- the flags of both fuses and of the root; a refusal raises none
abbrev pub distance_flags : ℤ → ℤ → Flags
distance_flags dx dy = cond (too_far dx dy) no_flags (length_raised dx dy)

-- the sheet is that of the root; a refusal leaves it as it was
abbrev pub DistanceLeaves : (ℕ → ℕ) → ℤ → ℤ → Sheet → Sheet → Result Pattern Refusal → Type 0
DistanceLeaves seeds dx dy before after (Ok d) = RootLeaves seeds NearestEven (sum_answer dx dy).pattern (values after) d
DistanceLeaves seeds dx dy before after (Err e) = after ≡ before

-- What every distance is: no minus, zero or from 1 to 2 ^ 25.
pub record Distance (d : Pattern) : Type 0 where
  pub sign : is_negative d ≡ false
  pub most : unsigned d ≤ 0x4C000000
  pub least : 0 < unsigned d → 0x3F800000 ≤ unsigned d

abbrev pub DistanceIfMeasured : Result Pattern Refusal → Type 0
DistanceIfMeasured (Ok d) = Distance d
DistanceIfMeasured (Err e) = Unit {0}
