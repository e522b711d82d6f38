-- Whole numbers are told in order, and a value has one right rounding.
use Rattle.std.proofs.Common.{◌≡◌, ℕ, ◌+◌, ◌-◌, ◌*◌, ◌%◌, ◌^◌, ◌<◌, true, false, refl, ap, ◌∙◌, inl, inr, mul-lt-mul_of_pos_right, zero-mul, arith, pow_pos}
use Prim.Native.Nat.{compare, Ordering}
use lib.Dec.{is_le}
use Rattle.std.proofs.lemmas.Bool.{cases_order, cases_eq, both_ways, leb-true, eqb-false}
use Rattle.registers.specs.declared.mode.Way.{Way}
use Rattle.registers.specs.declared.mode.Way.TheVariants.{Nearest, Inward, Outward}
use Rattle.registers.specs.Range.{bias}
use Rattle.registers.specs.Binary32.{is_less, is_odd, beside_whole}
use Rattle.registers.specs.Rightly.{Ordered, ByNearest, Rightly}
use Rattle.registers.proofs.Grids.{Rising, rising_mono}
use Rattle.registers.proofs.Compared.{cmp_lt}

pub ordered_by : (f : ℕ → ℕ) (t : ℕ) → f 0 < t → ((m n : ℕ) → m < n → f m < f n) → Ordered (λ m. compare (f m) t)
ordered_by f t p up = record { positive = cmp_lt (f 0) t p; down = λ m n l e. cmp_lt (f m) t (omega (arith, up m n l, leb-true (f n) t e)) }

pub whole_ordered : (n : ℕ) → 0 < n → Ordered (beside_whole n)
whole_ordered n p = ordered_by (λ m. m * 2 ^ (2 * bias - 324)) n (omega (arith, zero-mul (2 ^ (2 * bias - 324)))) (λ m k l. mul-lt-mul_of_pos_right l (pow_pos (2 * bias - 324)))

-- ---- one right rounding

equal_tests : (o : Ordering) → is_le o ≡ true → is_less o ≡ false → o ≡ Ordering.eq
equal_tests Ordering.lt a b = absurd (both_ways true b refl)
equal_tests Ordering.eq a b = refl
equal_tests Ordering.gt a b = absurd (both_ways false refl a)

module _ (G : ℕ → ℕ) (rises : Rising G) (beside : ℕ → Ordering) (value : Ordered beside) where
  nearest_below : (p r : ℕ) → ByNearest G beside p → ByNearest G beside r → p < r → ⊥
  nearest_below p r x y l =
      let tie : beside ((G p + G r)) ≡ Ordering.eq = equal_tests (beside ((G p + G r))) (y.from_below p l) (x.from_above r l) in
      elim (cases_eq r (p + 1)) [
        | inl s ↦
            let swapped : beside ((G r + G p)) ≡ Ordering.eq = (let e : G r + G p ≡ G p + G r = omega arith in ap beside e) ∙ tie in
            let a : is_odd p ≡ false = x.even_at_tie r (λ e. omega (arith, e)) tie in
            let b : is_odd r ≡ false = y.even_at_tie p (λ e. omega (arith, e)) swapped in
            let c : p % 2 ≡ 1 → ⊥ = eqb-false (p % 2) 1 a in
            let d : r % 2 ≡ 1 → ⊥ = eqb-false (r % 2) 1 b in
            omega (arith, c, d, s)
        | inr d ↦
            let m : (G p + G (p + 1)) < (G p + G r) = omega (arith, rises (p + 1), rising_mono G rises (p + 1 + 1) r (omega arith)) in
            both_ways (is_less (beside ((G p + G (p + 1))))) (x.from_above (p + 1) (omega arith)) (ap is_less (value.down ((G p + G (p + 1))) ((G p + G r)) m (ap is_le tie)))
      ]

  pub rightly_once : (way : Way) (p r : ℕ) → Rightly G way beside p → Rightly G way beside r → p ≡ r
  rightly_once Nearest p r x y = elim (cases_order p r) [ inl e ↦ e | inr o ↦ elim o [ inl l ↦ absurd (nearest_below p r x y l) | inr g ↦ absurd (nearest_below r p y x g) ] ]
  rightly_once Inward p r x y = elim (cases_order p r) [
    | inl e ↦ e
    | inr o ↦ elim o [
      | inl l ↦ absurd (both_ways (is_le (beside (2 * G r))) (x.greatest r l) y.not_above)
      | inr g ↦ absurd (both_ways (is_le (beside (2 * G p))) (y.greatest p g) x.not_above)
    ]
  ]
  rightly_once Outward p r x y = elim (cases_order p r) [
    | inl e ↦ e
    | inr o ↦ elim o [
      | inl l ↦ absurd (both_ways (is_less (beside (2 * G p))) x.not_below (y.least p l))
      | inr g ↦ absurd (both_ways (is_less (beside (2 * G r))) y.not_below (x.least r g))
    ]
  ]
