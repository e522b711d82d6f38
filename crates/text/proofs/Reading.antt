-- Reading goes from left to right: what is left of a text gives, with what was read of it, what the whole text gives.
use Rattle.std.proofs.Common.{◌≡◌, ℕ, ◌+◌, ◌-◌, ◌*◌, ◌^◌, ◌<◌, ◌≤◌, Bool, true, false, cond, leb, List, [], ◌∷◌, length, take, drop, Some, None, refl, sym, ap, ◌∙◌, arith}
use native.Mathlib.Nat.{pow-le-pow_right}
use Rattle.std.proofs.lemmas.List.{at_drop_all, drop-drop, take_rest}
use Rattle.std.proofs.lemmas.List.Folds.{length-prefix_len}
use Rattle.std.proofs.lemmas.Bool.{cond-true, and_from, and_parts, leb-true}
use Rattle.std.specs.List.{prefix_len}
use Rattle.text.specs.Columns.{blank, after_blanks, digit, digit_of, digits, read_on, needed, whole_of}

small_by : (v : Bool) (b n : ℕ) → digit b ≡ v → cond v (Some (b - 48)) None ≡ Some n → n ≤ 9
small_by true b n e h =
    let p = and_parts (leb 48 b) (leb b 57) e in
    let s : b - 48 ≡ n = cc in
    omega (arith, leb-true b 57 p.1)
small_by false b n e h = absurd cc

pub small_digit : (b n : ℕ) → digit_of b ≡ Some n → n ≤ 9
small_digit b n h = small_by (digit b) b n refl h

-- a number of i digits has room for one more where i is below 14
pub room : (n i : ℕ) → n < 10 ^ i → i < 14 → n * 10 + 9 < 2 ^ 63
room n i h k = let p : i ≤ 13 = omega arith in omega (arith, pow-le-pow_right {n = 10} (omega arith) p)

pub below : (n i : ℕ) → n < 10 ^ i → i ≤ 14 → n < 2 ^ 63
below n i h k = omega (arith, pow-le-pow_right {n = 10} (omega arith) k)

pub all_read : (ds : List ℕ) (i n : ℕ) → length ds ≤ i → needed ds ≡ true → digits (drop i ds) ≡ digits ds → read_on n (drop i ds) ≡ read_on 0 ds → Some n ≡ whole_of ds
all_read ds i n h p q r =
    ap Some (sym (at_drop_all (read_on n) ds i h) ∙ r)
    ∙ sym (cond-true _ _ _ (and_from (needed ds) (digits ds) p (sym q ∙ at_drop_all digits ds i h)))

passed_by : (v : Bool) (b : ℕ) (bs : List ℕ) (n : ℕ) → after_blanks bs ≡ drop n bs → cond v (after_blanks bs) (b ∷ bs) ≡ drop (cond v (1 + n) 0) (b ∷ bs)
passed_by true b bs n e = e ∙ drop-drop n 1 (b ∷ bs)
passed_by false b bs n e = refl

-- what stands after the blanks is what is left when they are passed
after_blanks_passed : (t : List ℕ) → after_blanks t ≡ drop (prefix_len blank t) t
after_blanks_passed [] = refl
after_blanks_passed (b ∷ bs) = passed_by (blank b) b bs (prefix_len blank bs) (after_blanks_passed bs)

pub after_blanks_rest : (t : List ℕ) (n : ℕ) → n ≡ length (take (prefix_len blank t) t) → take (length t - n) (drop n t) ≡ after_blanks t
after_blanks_rest t n e = take_rest t n ∙ ap (λ (k : ℕ). drop k t) (e ∙ length-prefix_len blank t) ∙ sym (after_blanks_passed t)
