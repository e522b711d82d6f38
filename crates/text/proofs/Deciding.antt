-- A column that reads as a number writes it: what stands after the blanks is a sign or none and the decimal digits of the number.
use Rattle.std.proofs.Common.{◌≡◌, ℕ, zero, suc, ◌+◌, ◌-◌, ◌^◌, ◌<◌, ◌≤◌, Bool, true, false, cond, not, ◌&&◌, ◌||◌, eqb, ltb, ◌⊎◌, List, [], ◌∷◌, ◌++◌, length, get_or, drop, replicate, ℤ, pos, negsuc, nat_abs, Some, None, Err, decimal, Option, Result, sym, refl, ap, ◌∙◌, inl, inr, arith}
use Rattle.std.proofs.lemmas.Fmt.{decimal-digits_value}
use Rattle.std.proofs.lemmas.List.{length-append, length-drop, length-replicate}
use Rattle.std.proofs.lemmas.Option.{cond_some, none-some}
use Rattle.std.proofs.lemmas.Str.Parse.{digits_value_short}
use Rattle.std.proofs.lemmas.Bool.{and_parts, cases_Bool, cond-false, cond-true, eqb-false, eqb-true, le-ltb, ltb-true, not-true, or_cases}
use Rattle.text.specs.declared.refusal.Cause.{Cause}
use Rattle.text.specs.declared.refusal.Cause.TheVariants.{Digits}
use Rattle.text.specs.Columns.{after_blanks, blank, column_of, digits, judged, needed, negated, read_on, signed_of, unsigned, whole_of, wide_of}
use Rattle.text.specs.Pages.{justified, led, sign_of}
use Rattle.text.specs.Standing.{ReadAs, Stands}
use Rattle.text.proofs.Filling.{length_from_justified}
use Rattle.text.proofs.Returning.{own, wide_number, wide_plus}

from_cond : {X : Type 0} (b : Bool) (o : Option X) (x : X) → cond b o None ≡ Some x → (b ≡ true) × (o ≡ Some x)
from_cond true o x e = (refl, e)
from_cond false o x e = absurd (none-some x e)

-- one byte, or more of which the first is not the digit 0
needed_parts : (l b : ℕ) → (eqb l 1 || (ltb 1 l && not (eqb b 48))) ≡ true → (0 < l) × (b ≡ 48 → l ≡ 1)
needed_parts l b e =
    elim (or_cases (eqb l 1) (ltb 1 l && not (eqb b 48)) e) [
      | inl one ↦ (omega (arith, eqb-true l 1 one), λ x. eqb-true l 1 one)
      | inr more ↦
          let p = and_parts (ltb 1 l) (not (eqb b 48)) more in
          (omega (arith, ltb-true 1 l p.0), λ x. absurd (eqb-false b 48 (not-true (eqb b 48) p.1) x))
    ]

-- digits with no needless zero are the decimal digits of their number
whole_only : (ds : List ℕ) (n : ℕ) → length ds ≤ 14 → whole_of ds ≡ Some n → (ds ≡ decimal n) × (n < 10 ^ 14)
whole_only ds n short e =
    let p = cond_some (needed ds && digits ds) (read_on 0 ds) n e in
    let q = and_parts (needed ds) (digits ds) p.0 in
    let lead = needed_parts (length ds) (get_or ds 0 0) q.0 in
    let small = digits_value_short own ds 14 q.1 short in
    (sym (decimal-digits_value own ds q.1 lead.0 lead.1 (omega arith)) ∙ ap decimal p.1, omega arith)

split_by : (v : Bool) (b : ℕ) (bs : List ℕ) → (v ≡ true → b ≡ 32) → (k : ℕ) × (bs ≡ replicate k 32 ++ after_blanks bs) →
    (k : ℕ) × (b ∷ bs ≡ replicate k 32 ++ cond v (after_blanks bs) (b ∷ bs))
split_by true b bs h p = (suc p.0, ap (λ (x : ℕ). x ∷ bs) (h refl) ∙ ap (λ (r : List ℕ). 32 ∷ r) p.1)
split_by false b bs h p = (0, refl)

-- a text is blanks and what stands after them
split_blanks : (t : List ℕ) → (k : ℕ) × (t ≡ replicate k 32 ++ after_blanks t)
split_blanks [] = (0, refl)
split_blanks (b ∷ bs) = split_by (blank b) b bs (eqb-true b 32) (split_blanks bs)

right_justified : (t : List ℕ) → length t ≡ 14 → (t ≡ justified 14 (after_blanks t)) × (length (after_blanks t) ≤ 14)
right_justified t whole =
    let p = split_blanks t in
    let u = after_blanks t in
    let n : length t ≡ p.0 + length u = ap length p.1 ∙ length-append (replicate p.0 32) u ∙ ap (λ (m : ℕ). m + length u) (length-replicate {A = ℕ} p.0 32) in
    let k : p.0 ≡ 14 - length u = omega arith in
    (p.1 ∙ ap (λ (m : ℕ). replicate m 32 ++ u) k, omega arith)

-- what stands after the blanks: the number z as it is written, or with a plus
abbrev After : List ℕ → ℤ → Type 0
After u z = (nat_abs z < 10 ^ 14) × ((u ≡ led (sign_of z) (decimal (nat_abs z))) ⊎ ((n : ℕ) × (z ≡ pos n) × (u ≡ 43 ∷ decimal n)))

minus_only : (o : Option ℕ) (z : ℤ) → negated o ≡ Some z → (n : ℕ) × (o ≡ Some (suc n)) × (z ≡ negsuc n)
minus_only None z e = absurd (none-some z e)
minus_only (Some zero) z e = absurd (none-some z e)
minus_only (Some (suc n)) z e = (n, refl, cc)

plain_only : (o : Option ℕ) (z : ℤ) → unsigned o ≡ Some z → (n : ℕ) × (o ≡ Some n) × (z ≡ pos n)
plain_only None z e = absurd (none-some z e)
plain_only (Some n) z e = (n, refl, cc)

led_by : (u : List ℕ) (b : ℕ) → 0 < b → get_or u 0 0 ≡ b → u ≡ b ∷ drop 1 u
led_by [] b h e = absurd (omega arith)
led_by (x ∷ xs) b h e = ap (λ (y : ℕ). y ∷ xs) e

no_sign : (n : ℕ) → decimal n ≡ led (sign_of (pos n)) (decimal n)
no_sign n = sym (ap (λ (o : Option ℕ). led o (decimal n)) (cond-false _ _ _ (le-ltb n 0 (omega arith))))

after_minus : (u : List ℕ) (z : ℤ) → length u ≤ 14 → get_or u 0 0 ≡ 45 → negated (whole_of (drop 1 u)) ≡ Some z → After u z
after_minus u z short b e =
    let p = minus_only (whole_of (drop 1 u)) z e in
    let w = whole_only (drop 1 u) (suc p.0) (omega (arith, length-drop 1 u)) p.1 in
    rw p.2 (w.1, inl (led_by u 45 (omega arith) b ∙ ap (λ (r : List ℕ). 45 ∷ r) w.0))

after_plus : (u : List ℕ) (z : ℤ) → length u ≤ 14 → get_or u 0 0 ≡ 43 → unsigned (whole_of (drop 1 u)) ≡ Some z → After u z
after_plus u z short b e =
    let p = plain_only (whole_of (drop 1 u)) z e in
    let w = whole_only (drop 1 u) p.0 (omega (arith, length-drop 1 u)) p.1 in
    rw p.2 (w.1, inr (p.0, refl, led_by u 43 (omega arith) b ∙ ap (λ (r : List ℕ). 43 ∷ r) w.0))

after_none : (u : List ℕ) (z : ℤ) → length u ≤ 14 → unsigned (whole_of u) ≡ Some z → After u z
after_none u z short e =
    let p = plain_only (whole_of u) z e in
    let w = whole_only u p.0 short p.1 in
    rw p.2 (w.1, inl (w.0 ∙ no_sign p.0))

after_blanks_lem : (u : List ℕ) (z : ℤ) → length u ≤ 14 → signed_of u ≡ Some z → After u z
after_blanks_lem u z short e =
    elim (cases_Bool (eqb (get_or u 0 0) 45)) [
      | inl minus ↦ after_minus u z short (eqb-true (get_or u 0 0) 45 minus) (sym (cond-true _ _ _ minus) ∙ e)
      | inr other ↦
          let f = sym (cond-false _ _ _ other) ∙ e in
          elim (cases_Bool (eqb (get_or u 0 0) 43)) [
            | inl plus ↦ after_plus u z short (eqb-true (get_or u 0 0) 43 plus) (sym (cond-true _ _ _ plus) ∙ f)
            | inr plain ↦ after_none u z short (sym (cond-false _ _ _ plain) ∙ f)
          ]
    ]

-- a column that reads as z writes z
stands_from : (t : List ℕ) (z : ℤ) → wide_of t ≡ Some z → Stands t z
stands_from t z e =
    let p = from_cond (eqb (length t) 14) (signed_of (after_blanks t)) z e in
    let whole = eqb-true (length t) 14 p.0 in
    let right = right_justified t whole in
    let a = after_blanks_lem (after_blanks t) z right.1 p.1 in
    record {
      whole = whole;
      small = a.0;
      writes = elim a.1 [
        | inl f ↦ inl (right.0 ∙ ap (justified 14) f)
        | inr q ↦ inr (q.0, q.1, right.0 ∙ ap (justified 14) q.2)
      ];
    }

-- a column that writes z reads as z
wide_from : (t : List ℕ) (z : ℤ) → Stands t z → wide_of t ≡ Some z
wide_from t z s =
    elim s.writes [
      | inl e ↦ ap wide_of e ∙ wide_number z s.small (length_from_justified (led (sign_of z) (decimal (nat_abs z))) (sym (ap length e) ∙ s.whole))
      | inr q ↦
          let small : q.0 < 10 ^ 14 = rw q.1 at s.small in
          ap wide_of q.2 ∙ wide_plus q.0 small (length_from_justified (43 ∷ decimal q.0) (sym (ap length q.2) ∙ s.whole)) ∙ ap Some (sym q.1)
    ]

none_judged : (o : Option ℤ) → ((z : ℤ) → o ≡ Some z → ⊥) → judged o ≡ Err Digits
none_judged None h = refl
none_judged (Some z) h = absurd (h z refl)

pub read_as : (t : List ℕ) (r : Result ℤ Cause) → r ≡ column_of t → ReadAs t r
read_as t r e =
    record {
      number = λ z s. e ∙ ap judged (wide_from t z s);
      none = λ h. e ∙ none_judged (wide_of t) (λ z f. h z (stands_from t z f));
    }
