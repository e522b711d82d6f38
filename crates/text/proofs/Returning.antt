-- A column written for a number reads as that number: the blanks are passed over, the sign comes back, and the digits have no needless zero.
use Rattle.std.proofs.Common.{◌≡◌, ℕ, zero, suc, ◌-◌, ◌^◌, ◌<◌, ◌≤◌, true, not, eqb, ltb, List, [], ◌∷◌, ◌++◌, length, get_or, replicate, ℤ, pos, negsuc, nat_abs, Some, None, Ok, decimal, Option, refl, ap, ◌∙◌, inl, inr, arith, rules}
use lib.Signed.{mag}
use Rattle.std.proofs.lemmas.Fmt.{decimal_digit, decimal_nonempty, digits_decimal, first_decimal, length-decimal-le, digits_value-decimal}
use Rattle.std.proofs.lemmas.Str.Parse.{IsNumeralModel, digit_at, numerals_by_fold}
use Rattle.std.proofs.lemmas.Bool.{and_from, cases_lt, cond-false, cond-true, eq-eqb, le-ltb, lt-ltb, ne_eqb, not_from_false, or_from, or_left, or_right}
use Rattle.std.specs.Int.{IsInRange}
use Rattle.text.specs.Columns.{after_blanks, column_of, digits, judged, narrowed, needed, negated, read_on, signed_of, unsigned, whole_of, wide_of}
use Rattle.text.specs.Pages.{justified, led, number_text, sign_of}
use Rattle.text.proofs.Filling.{leads_le, length_justified, length_led}

-- the words of the reading are those of decimal numerals
pub own : IsNumeralModel (λ ds. digits ds ≡ true) (read_on 0)
own = numerals_by_fold _ (search rules) read_on (search rules)

first_digit : (n : ℕ) → n < 2 ^ 64 → IsInRange 48 57 (get_or (decimal n) 0 0)
first_digit n h = digit_at (decimal n) 0 (own.to (decimal n) (digits_decimal own n h)) (decimal_nonempty n h)

-- no needless zero: the number is 0, or its first digit is another
needed_decimal : (n : ℕ) → n < 2 ^ 64 → needed (decimal n) ≡ true
needed_decimal zero h = ap needed (decimal_digit 0 (omega arith))
needed_decimal (suc n) h =
    let ds = decimal (suc n) in
    let some = decimal_nonempty (suc n) h in
    let first = first_decimal (suc n) (omega arith) h in
    let other : not (eqb (get_or ds 0 0) 48) ≡ true = not_from_false _ (ne_eqb (get_or ds 0 0) 48 (λ e. omega (arith, e))) in
    elim (cases_lt 1 (length ds)) [
      | inl more ↦ or_right (eqb (length ds) 1) _ (and_from (ltb 1 (length ds)) _ (lt-ltb 1 (length ds) more) other)
      | inr one ↦ or_left (eqb (length ds) 1) _ (eq-eqb (length ds) 1 (omega arith))
    ]

whole_decimal : (n : ℕ) → n < 2 ^ 64 → whole_of (decimal n) ≡ Some n
whole_decimal n h =
    cond-true _ _ _ (and_from (needed (decimal n)) (digits (decimal n)) (needed_decimal n h) (digits_decimal own n h))
    ∙ ap Some (digits_value-decimal own n h)

-- blanks before a text that does not begin with one
past_blanks : (k : ℕ) (t : List ℕ) → 0 < length t → (get_or t 0 0 ≡ 32 → ⊥) → after_blanks (replicate k 32 ++ t) ≡ t
past_blanks zero [] some first = absurd (omega arith)
past_blanks zero (b ∷ bs) some first = cond-false _ _ _ (ne_eqb b 32 first)
past_blanks (suc k) t some first = past_blanks k t some first

signed_pos : (n : ℕ) → n < 2 ^ 64 → signed_of (decimal n) ≡ Some (pos n)
signed_pos n h =
    let d = first_digit n h in
    cond-false _ _ _ (ne_eqb (get_or (decimal n) 0 0) 45 (λ e. omega (arith, e, d.0)))
    ∙ cond-false _ _ _ (ne_eqb (get_or (decimal n) 0 0) 43 (λ e. omega (arith, e, d.0)))
    ∙ ap unsigned (whole_decimal n h)

-- a text of at most 14 bytes that begins with no blank, right-justified
wide_justified : (t : List ℕ) → 0 < length t → length t ≤ 14 → (get_or t 0 0 ≡ 32 → ⊥) → wide_of (justified 14 t) ≡ signed_of t
wide_justified t some short first =
    cond-true _ _ _ (eq-eqb (length (justified 14 t)) 14 (length_justified t short))
    ∙ ap signed_of (past_blanks (14 - length t) t some first)

-- a number that has its place in a column
pub wide_number : (z : ℤ) → nat_abs z < 10 ^ 14 → length (led (sign_of z) (decimal (nat_abs z))) ≤ 14 → wide_of (number_text z) ≡ Some z
wide_number (pos n) small short =
    let plain : sign_of (pos n) ≡ None = cond-false _ _ _ (le-ltb n 0 (omega arith)) in
    let s : length (decimal n) ≤ 14 = rw plain at short in
    let d = first_digit n (omega arith) in
    ap (λ (o : Option ℕ). wide_of (justified 14 (led o (decimal n)))) plain
    ∙ wide_justified (decimal n) (decimal_nonempty n (omega arith)) s (λ e. omega (arith, e, d.0))
    ∙ signed_pos n (omega arith)
wide_number (negsuc n) small short =
    wide_justified (45 ∷ decimal (suc n)) (omega arith) short (λ e. omega (arith, e))
    ∙ ap negated (whole_decimal (suc n) (omega arith))

-- the same with a plus
pub wide_plus : (n : ℕ) → n < 10 ^ 14 → length (43 ∷ decimal n) ≤ 14 → wide_of (justified 14 (43 ∷ decimal n)) ≡ Some (pos n)
wide_plus n small short =
    wide_justified (43 ∷ decimal n) (omega arith) short (λ e. omega (arith, e))
    ∙ ap unsigned (whole_decimal n (omega arith))

-- a signed 32-bit number is in range
pub in_range : (z : ℤ) → mag z < 2 ^ 31 → narrowed z ≡ Ok z
in_range (pos n) h = cond-false _ _ _ (le-ltb 2147483647 n (omega arith))
in_range (negsuc n) h = cond-false _ _ _ (or_from _ _ (le-ltb 2147483647 n (omega arith)) refl)

small_abs : (z : ℤ) → mag z < 2 ^ 31 → nat_abs z ≤ 2 ^ 31
small_abs (pos n) h = omega arith
small_abs (negsuc n) h = omega arith

short : (z : ℤ) → nat_abs z ≤ 2 ^ 31 → length (led (sign_of z) (decimal (nat_abs z))) ≤ 14
short z h =
    let d : length (decimal (nat_abs z)) ≤ 10 = length-decimal-le 10 (nat_abs z) (omega arith) (omega arith) (omega arith) in
    omega (arith, length_led (sign_of z) (decimal (nat_abs z)), leads_le (sign_of z))

-- reading what was written
pub reads_back : (z : ℤ) → mag z < 2 ^ 31 → column_of (number_text z) ≡ Ok z
reads_back z h =
    let small = small_abs z h in
    ap judged (wide_number z (omega arith) (short z small)) ∙ in_range z h
