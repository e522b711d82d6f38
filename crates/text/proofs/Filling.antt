-- A column is filled from the right: a tail, the digits before it, a byte that leads them; the blanks before them stay.
use Rattle.std.proofs.Common.{◌≡◌, ℕ, ◌+◌, ◌-◌, ◌^◌, ◌<◌, ◌≤◌, List, ◌∷◌, ◌++◌, length, take, drop, set, replicate, Some, None, decimal, Option, sym, ap, ◌∙◌, arith}
use borrow.Rule.Slice.PartMut.{put_mid}
use Rattle.std.proofs.lemmas.List.{append-nil, drop-set, drop_all, drop_at, length-append, length-drop, length-replicate, take-append-drop, take-append-le, take-replicate, take-set, take-take}
use Rattle.std.proofs.lemmas.Fmt.{length-decimal-le}
use Rattle.text.specs.Pages.{justified, leads, led}

-- a tail, written over the last of 14 blanks
tail_over : (tail : List ℕ) (end k : ℕ) → end + length tail ≡ 14 → k ≡ length tail → put_mid end k (replicate 14 32) tail ≡ replicate end 32 ++ tail
tail_over tail end k e f =
    ap (λ (r : List ℕ). r ++ (tail ++ drop k (drop end (replicate 14 32)))) (take-replicate end 14 32 (omega arith))
    ∙ ap (λ (r : List ℕ). replicate end 32 ++ (tail ++ r)) (drop_all k (drop end (replicate 14 32)) (omega (arith, length-drop end (replicate {A = ℕ} 14 32))))
    ∙ ap (λ (r : List ℕ). replicate end 32 ++ r) (append-nil tail)

-- then digits before the tail: what stands before them is blank
over_blanks : (xs tail part d : List ℕ) (at : ℕ) → part ≡ tail → length tail ≤ 14 → at + length d ≡ 14 - length tail →
    take at xs ≡ take at (put_mid (14 - length tail) (14 - (14 - length tail)) (replicate 14 32) part) →
    drop at xs ≡ d ++ drop (14 - length tail) (put_mid (14 - length tail) (14 - (14 - length tail)) (replicate 14 32) part) →
    (take at xs ≡ replicate at 32) × (drop at xs ≡ d ++ tail)
over_blanks xs tail part d at p l s front back =
    let end = 14 - length tail in
    let e : put_mid end (14 - end) (replicate 14 32) part ≡ replicate end 32 ++ tail =
    ap (put_mid end (14 - end) (replicate 14 32)) p ∙ tail_over tail end (14 - end) (omega arith) (omega arith) in (
      front ∙ ap (take at) e ∙ take-append-le at (replicate end 32) tail (omega (arith, length-replicate {A = ℕ} end 32)) ∙ take-replicate at end 32 (omega arith),
      back ∙ ap (λ (r : List ℕ). d ++ drop end r) e ∙ ap (λ (r : List ℕ). d ++ r) (drop_at (replicate end 32) tail end (length-replicate end 32)),
    )

-- blanks and then a text are the text right-justified
after_front : (xs t : List ℕ) (k : ℕ) → take k xs ≡ replicate k 32 → drop k xs ≡ t → k + length t ≡ 14 → xs ≡ justified 14 t
after_front xs t k p q e =
    let w : k ≡ 14 - length t = omega arith in
    sym (take-append-drop k xs)
    ∙ ap (λ (r : List ℕ). r ++ drop k xs) p
    ∙ ap (λ (r : List ℕ). replicate k 32 ++ r) q
    ∙ ap (λ (n : ℕ). replicate n 32 ++ t) w

-- a byte before the text
with_lead : (xs : List ℕ) (k b : ℕ) → 0 < k → k ≤ length xs → drop (k - 1) (set xs (k - 1) b) ≡ b ∷ drop k xs
with_lead xs k b h l =
    let s : k - 1 + 1 ≡ k = omega arith in
    drop-set xs (k - 1) b (omega arith) ∙ ap (λ (i : ℕ). b ∷ drop i xs) s

led_column : (xs t : List ℕ) (at b : ℕ) → 0 < at → at ≤ length xs → take at xs ≡ replicate at 32 → drop at xs ≡ t → at + length t ≡ 14 →
    set xs (at - 1) b ≡ justified 14 (b ∷ t)
led_column xs t at b some h p q e =
    after_front (set xs (at - 1) b) (b ∷ t) (at - 1)
    (take-set xs (at - 1) b ∙ sym (take-take (at - 1) at xs (omega arith)) ∙ ap (take (at - 1)) p ∙ take-replicate (at - 1) at 32 (omega arith))
    (with_lead xs at b some h ∙ ap (λ (r : List ℕ). b ∷ r) q)
    (omega arith)

-- then what leads the digits, if there is anything
pub filled : (xs tail part d : List ℕ) (at : ℕ) (lead : Option ℕ) → part ≡ tail → leads lead + length d + length tail ≤ 14 → at ≤ length xs → at + length d ≡ 14 - length tail →
    take at xs ≡ take at (put_mid (14 - length tail) (14 - (14 - length tail)) (replicate 14 32) part) →
    drop at xs ≡ d ++ drop (14 - length tail) (put_mid (14 - length tail) (14 - (14 - length tail)) (replicate 14 32) part) →
    (lead ≡ None → xs ≡ justified 14 (led lead (d ++ tail))) × ((b : ℕ) → lead ≡ Some b → set xs (at - 1) b ≡ justified 14 (led lead (d ++ tail)))
filled xs tail part d at lead p l m s front back =
    let o = over_blanks xs tail part d at p (omega arith) s front back in (
      λ e. after_front xs (d ++ tail) at o.0 o.1 (omega (arith, length-append d tail)) ∙ sym (ap (λ (z : Option ℕ). justified 14 (led z (d ++ tail))) e),
      λ b e.
          let one = ap leads e in
          led_column xs (d ++ tail) at b (omega arith) m o.0 o.1 (omega (arith, length-append d tail)) ∙ sym (ap (λ (z : Option ℕ). justified 14 (led z (d ++ tail))) e),
    )

pub length_led : (o : Option ℕ) (t : List ℕ) → length (led o t) ≡ length t + leads o
length_led None t = omega arith
length_led (Some b) t = omega arith

pub leads_le : (o : Option ℕ) → leads o ≤ 1
leads_le None = omega arith
leads_le (Some b) = omega arith

-- a byte that leads at most k digits and a tail have room
pub room_for : (o : Option ℕ) (k n tail : ℕ) → 0 < k → n < 10 ^ k → n < 2 ^ 64 → 1 + k + tail ≤ 14 → leads o + length (decimal n) + tail ≤ 14
room_for o k n tail some few small h = omega (arith, leads_le o, length-decimal-le k n some few small)

-- a text right-justified in 14 bytes has 14 bytes just where it has no more
pub length_justified : (t : List ℕ) → length t ≤ 14 → length (justified 14 t) ≡ 14
length_justified t h = omega (arith, length-append (replicate (14 - length t) 32) t, length-replicate {A = ℕ} (14 - length t) 32)

pub length_from_justified : (t : List ℕ) → length (justified 14 t) ≡ 14 → length t ≤ 14
length_from_justified t e = omega (arith, length-append (replicate (14 - length t) 32) t, length-replicate {A = ℕ} (14 - length t) 32)
