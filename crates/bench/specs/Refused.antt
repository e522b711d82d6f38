-- The numbers of the refusals.
use Rattle.std.specs.Prelude.{ℕ, Ok, Err, Result}
use Rattle.sheets.specs.Written as lines
use Rattle.sheets.specs.declared.refusal.Refusal as of_sheet
use Rattle.bench.specs.declared.refusal.Refusal.{Refusal}
use Rattle.bench.specs.declared.refusal.Refusal.TheVariants.{HighMode, ZeroDivisor, Beyond, Line}

abbrev pub number : Refusal → ℕ
number HighMode = 1
number ZeroDivisor = 2
number Beyond = 3
number (Line e) = lines.number e

-- a question to the sheet, refused as the bench refuses it
abbrev pub from_sheet : {T : Type 0} → Result T of_sheet.Refusal → Result T Refusal
from_sheet (Ok x) = Ok x
from_sheet (Err e) = Err (Line e)
