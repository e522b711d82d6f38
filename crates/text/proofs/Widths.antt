-- Every line of a page has 29 bytes: its numbers have few enough digits for their columns.
use Rattle.std.proofs.Common.{◌≡◌, ℕ, ◌/◌, ◌^◌, ◌<◌, ◌≤◌, ◌++◌, length, ℤ, pos, nat_abs, Some, decimal, arith}
use Rattle.std.proofs.lemmas.Fmt.{length-decimal-le}
use Rattle.std.proofs.lemmas.List.{length-append}
use Rattle.text.specs.Pages.{decimals, led, mark_text, measure_text, number_text, refusal_text, row_text, sign_of, Writable}
use Rattle.text.proofs.Filling.{leads_le, length_justified, length_led}
use Rattle.text.proofs.Placing.{line_length}

measure_length : (z : ℤ) → nat_abs z < 10 ^ 12 → length (measure_text z) ≡ 14
measure_length z h =
    let text = decimal (nat_abs z / 1000) ++ decimals (nat_abs z) in
    let few : length (decimal (nat_abs z / 1000)) ≤ 9 = length-decimal-le 9 (nat_abs z / 1000) (omega arith) (omega arith) (omega arith) in
    length_justified (led (sign_of z) text)
    (omega (arith, length_led (sign_of z) text, leads_le (sign_of z), length-append (decimal (nat_abs z / 1000)) (decimals (nat_abs z))))

number_length : (n : ℕ) → n < 10 ^ 13 → length (number_text (pos n)) ≡ 14
number_length n h =
    let few : length (decimal n) ≤ 13 = length-decimal-le 13 n (omega arith) h (omega arith) in
    length_justified (led (sign_of (pos n)) (decimal n)) (omega (arith, length_led (sign_of (pos n)) (decimal n), leads_le (sign_of (pos n))))

mark_length : (n : ℕ) → n < 10 ^ 13 → length (mark_text n) ≡ 14
mark_length n h =
    let few : length (decimal n) ≤ 13 = length-decimal-le 13 n (omega arith) h (omega arith) in
    length_justified (led (Some 82) (decimal n)) (omega arith)

pub row_length : (distance : ℕ) (offset : ℤ) → Writable distance offset → length (row_text distance offset) ≡ 29
row_length distance offset w =
    line_length (measure_text (pos distance)) (measure_text offset) (measure_length (pos distance) (omega arith)) (measure_length offset (omega arith))

pub refusal_length : (number line : ℕ) → number < 10 ^ 13 → line < 10 ^ 13 → length (refusal_text number line) ≡ 29
refusal_length number line m n = line_length (mark_text number) (number_text (pos line)) (mark_length number m) (number_length line n)
