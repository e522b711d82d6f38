-- What a plan line says, or its fault.
use Rattle.std.specs.Prelude.{ℕ, ◌+◌, Bool, cond, List, [], ◌∷◌, map, ℤ, pos, Some, None, Ok, Err, Option, Result, ◌==◌, nat_lt}
use Rattle.std.specs.Borrow.{Bor}
use Rattle.text.specs.declared.line.Entry.{Entry}
use Rattle.text.specs.declared.line.Entry.TheVariants.{Datum, Tab, Remark}
use Rattle.text.specs.declared.refusal.Cause.{Cause}
use Rattle.text.specs.declared.refusal.Cause.TheVariants.{Count, Digits, Range}
use Rattle.text.specs.declared.refusal.Fault.{Fault}
use Rattle.text.specs.declared.refusal.Refusal.{Refusal}
use Rattle.text.specs.Columns.{column_of, narrowed, wide_of}
use Rattle.text.specs.Cutting.{Parts, datum, tab, remark, at_byte, at_start, cut_of}
use Rattle.text.specs.Numbering.{bad_line, cause_number}

-- whether a column has that cause
abbrev pub has : Cause → Result ℤ Cause → Bool
has cause (Ok z) = Bool.false
has cause (Err other) = cause_number cause == cause_number other

-- the leftmost of some columns with that cause, where the first of them begins at that byte
abbrev pub leftmost : Cause → ℕ → List (Result ℤ Cause) → Option Fault
leftmost cause byte [] = None
leftmost cause byte (r ∷ rs) = cond (has cause r) (Some (at_byte byte cause)) (leftmost cause (byte + 14) rs)

abbrev pub or_else : Option Fault → Option Fault → Option Fault
or_else (Some fault) other = Some fault
or_else None other = other

-- digits wrong in any column count before a number out of range
abbrev pub fault_of : List (Result ℤ Cause) → Option Fault
fault_of rs = or_else (leftmost Digits 1 rs) (leftmost Range 1 rs)

abbrev pub unless : {X : Type 0} → Option Fault → X → Result X Fault
unless None x = Ok x
unless (Some fault) x = Err fault

-- the number in a good column
abbrev pub number_of : Result ℤ Cause → ℤ
number_of (Ok z) = z
number_of (Err cause) = pos 0

-- the numbers in some columns, or the fault of the leftmost bad one
abbrev pub numbers_of : List (Result ℤ Cause) → Result (List ℤ) Fault
numbers_of rs = unless (fault_of rs) (map number_of rs)

abbrev pub datum_of : Result ℤ Cause → Result ℤ Cause → Result ℤ Cause → Result Entry Fault
datum_of x y pitch = unless (fault_of (x ∷ y ∷ pitch ∷ [])) (Datum (number_of x) (number_of y) (number_of pitch))

abbrev pub tab_of : Result ℤ Cause → Result ℤ Cause → Result Entry Fault
tab_of x y = unless (fault_of (x ∷ y ∷ [])) (Tab (number_of x) (number_of y))

-- what the columns say
abbrev pub entry_of : Parts → Result Entry Fault
entry_of (datum x y pitch) = datum_of (column_of x) (column_of y) (column_of pitch)
entry_of (tab x y) = tab_of (column_of x) (column_of y)
entry_of (remark bytes) = Ok Remark

-- what comes after an `Ok`; a fault goes through
abbrev pub then : {X Y : Type 0} → Result X Fault → (X → Result Y Fault) → Result Y Fault
then (Ok x) f = f x
then (Err fault) f = Err fault

-- what a line with its byte 10 says: letter and length first, then the columns
abbrev pub line_of : List ℕ → Result Entry Fault
line_of line = then (cut_of line) entry_of

abbrev pub refused_at : ℕ → Result Entry Fault → Result Entry Refusal
refused_at number (Ok entry) = Ok entry
refused_at number (Err fault) = Err (bad_line number fault)

-- what line `number` says, counted from 1: past 999,999 lines it is refused whatever it holds
abbrev pub judged_of : ℕ → List ℕ → Result Entry Refusal
judged_of number line = cond (nat_lt 999999 number) (Err (bad_line number (at_start Count))) (refused_at number (line_of line))

-- the numbers that parts of a line write as columns
abbrev pub wides_of : List (Bor (List ℕ)) → List (Option ℤ)
wides_of columns = map (λ (column : Bor (List ℕ)). wide_of column.now) columns

-- the two halves of reading a column that begins at that byte
abbrev pub digits_at : ℕ → Option ℤ → Result ℤ Fault
digits_at byte None = Err (at_byte byte Digits)
digits_at byte (Some z) = Ok z

abbrev pub range_at : ℕ → Result ℤ Cause → Result ℤ Fault
range_at byte (Ok z) = Ok z
range_at byte (Err cause) = Err (at_byte byte cause)

abbrev pub narrow_at : ℕ → ℤ → Result ℤ Fault
narrow_at byte z = range_at byte (narrowed z)
