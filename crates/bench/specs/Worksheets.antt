-- What a call leaves on the sheet, and that its result is the closing value over those very lines, rounded once.
use Rattle.std.specs.Prelude.{◌≡◌, ℕ, ◌*◌, ◌/◌, ◌^◌, ◌<◌, Bool, false, List, [], ℤ, Some, None, Ok, Err, Option, Result, unsigned_abs}
use Rattle.registers.specs.declared.mode.Mode.{Mode}
use Rattle.registers.specs.declared.mode.Mode.TheVariants.{TowardZero}
use Rattle.registers.specs.declared.pattern.Pattern.{Pattern}
use Rattle.registers.specs.Binary32.{beside_whole}
use Rattle.registers.specs.Modes.{rounded}
use Rattle.registers.specs.Values.{Value}
use Rattle.sheets.specs.declared.sheet.Sheet.{Sheet}
use Rattle.sheets.specs.Quotients.{QuotientSheet}
use Rattle.sheets.specs.Roots.{RootSheet}
use Rattle.sheets.specs.Written.{values}
use Rattle.bench.specs.declared.answer.Special.{Special}
use Rattle.bench.specs.declared.count.Counted.{Counted}
use Rattle.bench.specs.declared.refusal.Refusal.{Refusal}
use Rattle.bench.specs.Kinds.{signs_differ, units}
use Rattle.bench.specs.Tables.{divide_table, root_table}

-- special operands leave no line
abbrev pub ByTable : Option Special → List Value → Type 0 → Type 0
ByTable (Some special) lines closes = lines ≡ []
ByTable None lines closes = closes

-- A sheet that is filled with these lines, and the closing value over them, rounded once under the sign s: that is the result r.
pub record Closes (Filled : List Value → ℕ → Type 0) (mode : Mode) (s : Bool) (lines : List Value) (r : Pattern) : Type 0 where
  pub closing : ℕ
  pub sheet : Filled lines closing
  pub result : r ≡ (rounded mode s (beside_whole closing)).pattern

-- what a by b leaves, from a list of reciprocal seeds
abbrev pub DivideLeaves : (ℕ → ℕ) → Mode → Pattern → Pattern → List Value → Pattern → Type 0
DivideLeaves seeds mode a b lines r = ByTable (divide_table a b) lines (Closes (QuotientSheet seeds (units a) (units b)) mode (signs_differ a b) lines r)

-- what the root of a leaves, from a list of root seeds
abbrev pub RootLeaves : (ℕ → ℕ) → Mode → Pattern → List Value → Pattern → Type 0
RootLeaves seeds mode a lines r = ByTable (root_table a) lines (Closes (RootSheet seeds (units a)) mode false lines r)

-- The whole number q is the closing value of m by n, rounded toward zero, without its fraction. A unit is 2 ^ -149.
pub record CountCloses (seeds : ℕ → ℕ) (m n : ℕ) (lines : List Value) (q : ℕ) : Type 0 where
  pub pattern : Pattern
  pub closes : Closes (QuotientSheet seeds (m * 2 ^ 149) (n * 2 ^ 149)) TowardZero false lines pattern
  pub whole : q ≡ units pattern / 2 ^ 149

-- a dividend of zero leaves no line
pub record CountLines (seeds : ℕ → ℕ) (m n : ℕ) (lines : List Value) (q : ℕ) : Type 0 where
  pub none : m ≡ 0 → lines ≡ []
  pub some : 0 < m → CountCloses seeds m n lines q

-- what a count of a by b leaves of a sheet; a refused one leaves it as it was
abbrev pub CountLeaves : (ℕ → ℕ) → ℤ → ℤ → Sheet → Sheet → Result Counted Refusal → Type 0
CountLeaves seeds a b before after (Ok r) = CountLines seeds (unsigned_abs a) (unsigned_abs b) (values after) (unsigned_abs r.quotient)
CountLeaves seeds a b before after (Err e) = after ≡ before
