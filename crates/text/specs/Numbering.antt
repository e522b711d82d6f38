-- The numbers of refusals and of the causes of a bad line.
use Rattle.std.specs.Prelude.{ℕ}
use Rattle.text.specs.declared.refusal.Cause.{Cause}
use Rattle.text.specs.declared.refusal.Cause.TheVariants.{Count, Letter, Length, Digits, Range, Order}
use Rattle.text.specs.declared.refusal.Fault.{Fault}
use Rattle.text.specs.declared.refusal.Layer.TheVariants.{Text}
use Rattle.text.specs.declared.refusal.Refusal.{Refusal}
use Rattle.text.specs.declared.refusal.Refusal.TheVariants.{BadLine, Unwritable, PageFull}

abbrev pub cause_number : Cause → ℕ
cause_number Count = 1
cause_number Letter = 2
cause_number Length = 3
cause_number Digits = 4
cause_number Range = 5
cause_number Order = 6

abbrev pub refusal_number : Refusal → ℕ
refusal_number (BadLine cause line byte layer) = 6
refusal_number Unwritable = 8
refusal_number PageFull = 11

-- the refusal of a line for a fault
abbrev pub bad_line : ℕ → Fault → Refusal
bad_line line fault = BadLine fault.cause line fault.byte Text
