-- The definitions on examples: each is computed.
use Rattle.std.proofs.Common.{◌≡◌, [], ◌∷◌, ◌++◌, pos, negsuc, Ok, Err, codes, refl}
use Rattle.text.specs.declared.line.Entry.TheVariants.{Tab}
use Rattle.text.specs.declared.refusal.Cause.TheVariants.{Digits, Range, Letter}
use Rattle.text.specs.Columns.{column_of}
use Rattle.text.specs.Judging.{line_of}
use Rattle.text.specs.Lines.{lines_of}

column_minus : column_of (codes "            -7") ≡ Ok (negsuc 6)
column_minus = refl

column_plus : column_of (codes "            +0") ≡ Ok (pos 0)
column_plus = refl

column_minus_zero : column_of (codes "            -0") ≡ Err Digits
column_minus_zero = refl

column_needless_zero : column_of (codes "            07") ≡ Err Digits
column_needless_zero = refl

column_too_large : column_of (codes "    2147483648") ≡ Err Range
column_too_large = refl

line_tab : line_of (codes "T             1             2" ++ (10 ∷ [])) ≡ Ok (Tab (pos 1) (pos 2))
line_tab = refl

-- range wrong in the first column and digits wrong in the second
line_digits_first : line_of (codes "T    2147483648             x" ++ (10 ∷ [])) ≡ Err (record { cause = Digits; byte = 15 })
line_digits_first = refl

line_empty : line_of (10 ∷ []) ≡ Err (record { cause = Letter; byte = 0 })
line_empty = refl

three_lines : lines_of (84 ∷ 10 ∷ 10 ∷ 35 ∷ []) ≡ (84 ∷ 10 ∷ []) ∷ (10 ∷ []) ∷ (35 ∷ []) ∷ []
three_lines = refl
