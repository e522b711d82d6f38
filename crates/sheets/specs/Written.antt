-- The lines of a sheet as a list, and the questions to it.
use Rattle.std.specs.Prelude.{ℕ, ◌-◌, cond, ◌||◌, List, map, length, take, Some, None, Ok, Err, Option, Result, ◌==◌, nat_lt, slice_index_or}
use Rattle.registers.specs.declared.register.Register.{Register}
use Rattle.registers.specs.declared.register.Register.TheVariants.{Zero}
use Rattle.registers.specs.Values.{Value, value}
use Rattle.sheets.specs.declared.refusal.Refusal.{Refusal}
use Rattle.sheets.specs.declared.refusal.Refusal.TheVariants.{NoSuchLine}
use Rattle.sheets.specs.declared.sheet.Sheet.{Sheet}

-- the number of the refusal
abbrev pub number : Refusal → ℕ
number NoSuchLine = 12

abbrev pub written : Sheet → List Register
written s = take s.used s.lines

-- what the lines stand for
abbrev pub values : Sheet → List Value
values s = map value (written s)

-- lines are numbered from 1
abbrev pub line_at : List Register → ℕ → Result Register Refusal
line_at xs n = cond (n == 0 || nat_lt (length xs) n) (Err NoSuchLine) (Ok (slice_index_or xs (n - 1) Zero))

-- an empty sheet has no last line
abbrev pub last_of : List Register → Option Register
last_of xs = cond (length xs == 0) None (Some (slice_index_or xs (length xs - 1) Zero))
