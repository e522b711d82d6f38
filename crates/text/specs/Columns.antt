-- The number that a column of a plan line stands for.
use Rattle.std.specs.Prelude.{ℕ, zero, suc, ◌+◌, ◌-◌, ◌*◌, Bool, cond, not, ◌&&◌, ◌||◌, List, [], ◌∷◌, length, drop, ℤ, pos, negsuc, Some, None, Ok, Err, Option, Result, ◌==◌, int_lt, nat_le, nat_lt, slice_index}
use Rattle.text.specs.declared.refusal.Cause.{Cause}
use Rattle.text.specs.declared.refusal.Cause.TheVariants.{Digits, Range}

-- a decimal digit
abbrev pub digit : ℕ → Bool
digit b = nat_le 48 b && nat_le b 57

-- the number that a decimal digit stands for
abbrev pub digit_of : ℕ → Option ℕ
digit_of b = cond (digit b) (Some (b - 48)) None

abbrev pub digits : List ℕ → Bool
digits [] = Bool.true
digits (b ∷ bs) = digit b && digits bs

-- the number that digits write, after the number n
abbrev pub read_on : ℕ → List ℕ → ℕ
read_on n [] = n
read_on n (b ∷ bs) = read_on (n * 10 + (b - 48)) bs

-- one byte, or more of which the first is not the digit 0
abbrev pub needed : List ℕ → Bool
needed ds = length ds == 1 || (nat_lt 1 (length ds) && not (slice_index ds 0 == 48))

-- the number that digits with no needless zero write
abbrev pub whole_of : List ℕ → Option ℕ
whole_of ds = cond (needed ds && digits ds) (Some (read_on 0 ds)) None

-- after a plus or no sign
abbrev pub unsigned : Option ℕ → Option ℤ
unsigned None = None
unsigned (Some n) = Some (pos n)

-- after a minus, which zero has not
abbrev pub negated : Option ℕ → Option ℤ
negated None = None
negated (Some zero) = None
negated (Some (suc n)) = Some (negsuc n)

-- a minus, a plus or no sign, and digits
abbrev pub signed_of : List ℕ → Option ℤ
signed_of t =
    cond (slice_index t 0 == 45) (negated (whole_of (drop 1 t)))
    (cond (slice_index t 0 == 43) (unsigned (whole_of (drop 1 t))) (unsigned (whole_of t)))

abbrev pub blank : ℕ → Bool
blank b = b == 32

-- what stands after the blanks
abbrev pub after_blanks : List ℕ → List ℕ
after_blanks [] = []
after_blanks (b ∷ bs) = cond (blank b) (after_blanks bs) (b ∷ bs)

-- the number that a column of 14 bytes writes, of any size
abbrev pub wide_of : List ℕ → Option ℤ
wide_of t = cond (length t == 14) (signed_of (after_blanks t)) None

-- a signed 32-bit number, from -2147483648 to 2147483647
abbrev pub narrowed : ℤ → Result ℤ Cause
narrowed z = cond (int_lt z (negsuc 2147483647) || int_lt (pos 2147483647) z) (Err Range) (Ok z)

abbrev pub judged : Option ℤ → Result ℤ Cause
judged None = Err Digits
judged (Some z) = narrowed z

-- what a column stands for: a number, or what is wrong with it
abbrev pub column_of : List ℕ → Result ℤ Cause
column_of t = judged (wide_of t)
