-- How numbers are written in columns, and the lines of a page.
use Rattle.std.specs.Prelude.{ℕ, ◌+◌, ◌-◌, ◌/◌, ◌%◌, ◌≤◌, Bool, cond, ◌&&◌, ◌||◌, List, [], ◌∷◌, ◌++◌, length, take, drop, replicate, ℤ, pos, Some, None, Ok, Err, decimal, Option, Result, ◌==◌, int_lt, nat_le, unsigned_abs}
use Rattle.text.specs.declared.refusal.Refusal.{Refusal}
use Rattle.text.specs.declared.refusal.Refusal.TheVariants.{Unwritable, PageFull}

-- a text after the byte that leads it, if there is one
abbrev pub led : Option ℕ → List ℕ → List ℕ
led None text = text
led (Some byte) text = byte ∷ text

-- how many bytes lead a text
abbrev pub leads : Option ℕ → ℕ
leads None = 0
leads (Some byte) = 1

-- right-justified in that many bytes
abbrev pub justified : ℕ → List ℕ → List ℕ
justified width text = replicate (width - length text) 32 ++ text

-- a minus below zero; zero has none
abbrev pub sign_of : ℤ → Option ℕ
sign_of z = cond (int_lt z (pos 0)) (Some 45) None

-- a whole number in a column
abbrev pub number_text : ℤ → List ℕ
number_text z = justified 14 (led (sign_of z) (decimal (unsigned_abs z)))

-- R and a refusal's number in a column
abbrev pub mark_text : ℕ → List ℕ
mark_text number = justified 14 (led (Some 82) (decimal number))

-- the point and the three decimals of n thousandths
abbrev pub decimals : ℕ → List ℕ
decimals n = 46 ∷ (48 + n / 100 % 10) ∷ (48 + n / 10 % 10) ∷ (48 + n % 10) ∷ []

-- thousandths in a column, with three decimals: -500 is written -0.500
abbrev pub measure_text : ℤ → List ℕ
measure_text z = justified 14 (led (sign_of z) (decimal (unsigned_abs z / 1000) ++ decimals (unsigned_abs z)))

-- two columns and byte 10
abbrev pub line_text : List ℕ → List ℕ → List ℕ
line_text first second = first ++ (second ++ (10 ∷ []))

-- a row: distance and offset in nanometres, written in micrometres
abbrev pub row_text : ℕ → ℤ → List ℕ
row_text distance offset = line_text (measure_text (pos distance)) (measure_text offset)

-- a refusal: R and its number, and the line
abbrev pub refusal_text : ℕ → ℕ → List ℕ
refusal_text number line = line_text (mark_text number) (number_text (pos line))

-- a distance and an offset that a row can hold
abbrev pub Writable : ℕ → ℤ → Type 0
Writable distance offset = (distance ≤ 99999999999) × (unsigned_abs offset ≤ 9999999999)

-- the refusals that a page can hold: 3, 4 and 6, of the lines from 1 to 1,000,000
abbrev pub writable : ℕ → ℕ → Bool
writable number line = (number == 3 || (number == 4 || number == 6)) && (nat_le 1 line && nat_le line 1000000)

-- whether 29 bytes have their place on a page
abbrev pub has_room : List ℕ → ℕ → Bool
has_room page at = nat_le (at + 29) (length page)

-- a text in the place of as many bytes of a page
abbrev pub put_at : List ℕ → ℕ → List ℕ → List ℕ
put_at page at text = take at page ++ (text ++ drop (at + length text) page)

-- a page after the call that writes a line of it, and what the call answers
abbrev pub page_after : List ℕ → ℕ → List ℕ → List ℕ
page_after page at text = cond (has_room page at) (put_at page at text) page

abbrev pub placed : List ℕ → ℕ → Result (Unit {0}) Refusal
placed page at = cond (has_room page at) (Ok tt) (Err PageFull)

abbrev pub refusal_after : List ℕ → ℕ → ℕ → ℕ → List ℕ
refusal_after page at number line = cond (writable number line) (page_after page at (refusal_text number line)) page

abbrev pub refusal_placed : List ℕ → ℕ → ℕ → ℕ → Result (Unit {0}) Refusal
refusal_placed page at number line = cond (writable number line) (placed page at) (Err Unwritable)
