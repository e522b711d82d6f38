-- The rounding by search is the rounding that `Rightly` describes, of any value that `beside` tells.
use Rattle.std.proofs.Common.{◌≡◌, ℕ, zero, suc, ◌+◌, ◌*◌, ◌%◌, ◌^◌, ◌<◌, ◌≤◌, Bool, true, false, cond, sym, refl, ap, ◌∙◌, subst, inl, inr, zero-add, arith}
use Prim.Native.Nat.{Ordering}
use native.Mathlib.Nat.{two-pow-succ}
use lib.Dec.{is_le}
use Rattle.std.proofs.lemmas.Bool.{cases_lt, cases_eq, cases_Bool, both_ways, ne_eqb, eqb-true}
use Rattle.registers.specs.declared.mode.Way.{Way}
use Rattle.registers.specs.declared.mode.Way.TheVariants.{Nearest, Inward, Outward}
use Rattle.registers.specs.Binary32.{seek, chosen, place_on, is_less, is_odd}
use Rattle.registers.specs.Rightly.{Ordered, ByNearest, ByInward, ByOutward, Rightly}
use Rattle.registers.proofs.Grids.{Rising, rising_mono}

-- the tests of an ordering
pub not_le_gt : (o : Ordering) → is_le o ≡ false → o ≡ Ordering.gt
not_le_gt Ordering.lt e = absurd (both_ways true e refl)
not_le_gt Ordering.eq e = absurd (both_ways true e refl)
not_le_gt Ordering.gt e = refl

is_less_lem : (o : Ordering) → is_less o ≡ true → o ≡ Ordering.lt
is_less_lem Ordering.lt e = refl
is_less_lem Ordering.eq e = absurd (both_ways false refl e)
is_less_lem Ordering.gt e = absurd (both_ways false refl e)

-- the search keeps one pattern that is not above the value and one that is
pub seek_between : (G : ℕ → ℕ) (beside : ℕ → Ordering) (k p : ℕ) → is_le (beside (2 * G p)) ≡ true → is_le (beside (2 * G (p + 2 ^ k))) ≡ false → (is_le (beside (2 * G (seek G beside k p))) ≡ true) × (is_le (beside (2 * G (seek G beside k p + 1))) ≡ false)
unfolding seek
seek_between G beside zero p a b = (a, b)
seek_between G beside (suc k) p a b = elim (cases_Bool (is_le (beside (2 * G (p + 2 ^ k))))) [
  | inl y ↦
      let e : p + 2 ^ suc k ≡ p + 2 ^ k + 2 ^ k = omega (arith, two-pow-succ k) in
      rw y (seek_between G beside k (p + 2 ^ k) y (subst (λ (x : ℕ). is_le (beside (2 * G x)) ≡ false) e b))
  | inr z ↦ rw z (seek_between G beside k p a z)
]

module _ (G : ℕ → ℕ) (rises : Rising G) (beside : ℕ → Ordering) (value : Ordered beside) where
  -- what is not above stays so going down, and what is not below stays so going up
  pub le_down : (m n : ℕ) → m ≤ n → is_le (beside n) ≡ true → is_le (beside m) ≡ true
  le_down m n l t = elim (cases_eq m n) [ inl e ↦ subst (λ (x : ℕ). is_le (beside x) ≡ true) (sym e) t | inr d ↦ ap is_le (value.down m n (omega arith) t) ]

  pub not_less_up : (m n : ℕ) → m ≤ n → is_less (beside m) ≡ false → is_less (beside n) ≡ false
  not_less_up m n l t = elim (cases_eq m n) [
    | inl e ↦ subst (λ (x : ℕ). is_less (beside x) ≡ false) e t
    | inr d ↦ elim (cases_Bool (is_less (beside n))) [
      | inl y ↦ absurd (both_ways (is_less (beside m)) t (ap is_less (value.down m n (omega arith) (ap is_le (is_less_lem (beside n) y)))))
      | inr z ↦ z
    ]
  ]

  pub not_le_up : (m n : ℕ) → m ≤ n → is_le (beside m) ≡ false → is_le (beside n) ≡ false
  not_le_up m n l t = elim (cases_Bool (is_le (beside n))) [ inl y ↦ absurd (both_ways (is_le (beside m)) t (le_down m n l y)) | inr z ↦ z ]

  not_less_of_not_le : (m : ℕ) → is_le (beside m) ≡ false → is_less (beside m) ≡ false
  not_less_of_not_le m e = ap is_less (not_le_gt (beside m) e)

  module _ (L : ℕ) (low : is_le (beside (2 * G L)) ≡ true) (next : is_le (beside (2 * G (L + 1))) ≡ false) where
    -- ---- the two neighbours, and any other pattern
    -- at the lower one
    lower_below : (q : ℕ) → q < L → beside ((G q + G L)) ≡ Ordering.lt
    lower_below q l = value.down ((G q + G L)) (2 * G L) (omega (arith, rises q, rising_mono G rises (q + 1) L (omega arith))) low

    lower_above : is_less (beside ((G L + G (L + 1)))) ≡ false → (q : ℕ) → L < q → is_less (beside ((G L + G q))) ≡ false
    lower_above m q l = not_less_up ((G L + G (L + 1))) ((G L + G q)) (omega (arith, rising_mono G rises (L + 1) q (omega arith))) m

    -- at the upper one
    upper_below : is_le (beside ((G L + G (L + 1)))) ≡ true → (q : ℕ) → q < L + 1 → is_le (beside ((G q + G (L + 1)))) ≡ true
    upper_below m q l = le_down ((G q + G (L + 1))) ((G L + G (L + 1))) (omega (arith, rising_mono G rises q L (omega arith))) m

    upper_above : (q : ℕ) → L + 1 < q → is_le (beside ((G (L + 1) + G q))) ≡ false
    upper_above q l = not_le_up (2 * G (L + 1)) ((G (L + 1) + G q)) (omega (arith, rising_mono G rises (L + 1) q (omega arith))) next

    -- only the middle between the two neighbours can be the value itself
    never : (o : Ordering) → o ≡ Ordering.eq → o ≡ Ordering.lt → ⊥
    never o e f = both_ways (is_less o) (ap is_less e) (ap is_less f)

    swap : (p q : ℕ) → beside ((G p + G q)) ≡ beside ((G q + G p))
    swap p q = let e : G p + G q ≡ G q + G p = omega arith in ap beside e

    lower_nearest : is_less (beside ((G L + G (L + 1)))) ≡ false → (beside ((G L + G (L + 1))) ≡ Ordering.eq → is_odd L ≡ false) → ByNearest G beside L
    lower_nearest m even = record {
      from_below = λ q l. ap is_le (lower_below q l);
      from_above = lower_above m;
      even_at_tie = λ q d e. elim (cases_lt q L) [
        | inl l ↦ absurd (never (beside ((G L + G q))) e (swap L q ∙ lower_below q l))
        | inr g ↦ even (tied q (omega arith) e)
      ];
    }
      where
        tied : (q : ℕ) → L < q → beside ((G L + G q)) ≡ Ordering.eq → beside ((G L + G (L + 1))) ≡ Ordering.eq
        tied q l e = elim (cases_eq q (L + 1)) [
          | inl s ↦ subst (λ (x : ℕ). beside ((G L + G x)) ≡ Ordering.eq) s e
          | inr d ↦ absurd (both_ways (is_less (beside ((G L + G (L + 1))))) m (ap is_less (value.down ((G L + G (L + 1))) ((G L + G q)) (omega (arith, rises (L + 1), rising_mono G rises (L + 1 + 1) q (omega arith))) (ap is_le e))))
        ]

    upper_nearest : is_le (beside ((G L + G (L + 1)))) ≡ true → (beside ((G L + G (L + 1))) ≡ Ordering.eq → is_odd (L + 1) ≡ false) → ByNearest G beside (L + 1)
    upper_nearest m even = record {
      from_below = upper_below m;
      from_above = λ q l. not_less_of_not_le ((G (L + 1) + G q)) (upper_above q l);
      even_at_tie = λ q d e. elim (cases_lt q (L + 1)) [
        | inl l ↦ even (tied q l e)
        | inr g ↦ absurd (both_ways (is_le (beside ((G (L + 1) + G q)))) (upper_above q (omega arith)) (ap is_le e))
      ];
    }
      where
        tied : (q : ℕ) → q < L + 1 → beside ((G (L + 1) + G q)) ≡ Ordering.eq → beside ((G L + G (L + 1))) ≡ Ordering.eq
        tied q l e = elim (cases_eq q L) [
          | inl s ↦ subst (λ (x : ℕ). beside ((G x + G (L + 1))) ≡ Ordering.eq) s (swap q (L + 1) ∙ e)
          | inr d ↦ absurd (never (beside ((G q + G (L + 1)))) (swap q (L + 1) ∙ e) (value.down ((G q + G (L + 1))) ((G L + G (L + 1))) (omega (arith, rises q, rising_mono G rises (q + 1) L (omega arith))) m))
        ]

    odd_next : (n : ℕ) → is_odd n ≡ true → is_odd (n + 1) ≡ false
    odd_next n e = ne_eqb ((n + 1) % 2) 1 (λ x. omega (arith, eqb-true (n % 2) 1 e))

    -- a value that is the lower one
    exact_middle : beside (2 * G L) ≡ Ordering.eq → is_less (beside ((G L + G (L + 1)))) ≡ false
    exact_middle e = not_less_up (2 * G L) ((G L + G (L + 1))) (omega (arith, rises L)) (ap is_less e)

    exact_tie : beside (2 * G L) ≡ Ordering.eq → beside ((G L + G (L + 1))) ≡ Ordering.eq → ⊥
    exact_tie e f = never (beside (2 * G L)) e (value.down (2 * G L) ((G L + G (L + 1))) (omega (arith, rises L)) (ap is_le f))

    inward_right : ByInward G beside L
    inward_right = record { not_above = low; greatest = λ q l. not_le_up (2 * G (L + 1)) (2 * G q) (omega (arith, rising_mono G rises (L + 1) q (omega arith))) next }

    outward_exact : beside (2 * G L) ≡ Ordering.eq → ByOutward G beside L
    outward_exact e = record { not_below = ap is_less e; least = λ q l. ap is_less (value.down (2 * G q) (2 * G L) (omega (arith, rises q, rising_mono G rises (q + 1) L (omega arith))) low) }

    outward_next : beside (2 * G L) ≡ Ordering.lt → ByOutward G beside (L + 1)
    outward_next e = record {
      not_below = not_less_of_not_le (2 * G (L + 1)) next;
      least = λ q l. elim (cases_eq q L) [
        | inl s ↦ subst (λ (x : ℕ). is_less (beside (2 * G x)) ≡ true) (sym s) (ap is_less e)
        | inr d ↦ ap is_less (value.down (2 * G q) (2 * G L) (omega (arith, rises q, rising_mono G rises (q + 1) L (omega arith))) low)
      ];
    }

    -- by the way, the lower one and the middle
    right : (way : Way) (a b : Ordering) → beside (2 * G L) ≡ a → beside ((G L + G (L + 1))) ≡ b → Rightly G way beside (chosen way L a b)
    right Nearest Ordering.lt Ordering.lt e f = upper_nearest (ap is_le f) (λ t. absurd (never (beside ((G L + G (L + 1)))) t f))
    right Nearest Ordering.lt Ordering.eq e f = elim (cases_Bool (is_odd L)) [
      | inl y ↦ subst (λ (x : Bool). ByNearest G beside (cond x (L + 1) L)) (sym y) (upper_nearest (ap is_le f) (λ t. odd_next L y))
      | inr z ↦ subst (λ (x : Bool). ByNearest G beside (cond x (L + 1) L)) (sym z) (lower_nearest (ap is_less f) (λ t. z))
    ]
    right Nearest Ordering.lt Ordering.gt e f = lower_nearest (ap is_less f) (λ t. absurd (both_ways (is_le (beside ((G L + G (L + 1))))) (ap is_le f) (ap is_le t)))
    right Nearest Ordering.eq b e f = lower_nearest (exact_middle e) (λ t. absurd (exact_tie e t))
    right Nearest Ordering.gt b e f = absurd (both_ways (is_le (beside (2 * G L))) (ap is_le e) low)
    right Inward Ordering.lt b e f = inward_right
    right Inward Ordering.eq b e f = inward_right
    right Inward Ordering.gt b e f = inward_right
    right Outward Ordering.lt b e f = outward_next e
    right Outward Ordering.eq b e f = outward_exact e
    right Outward Ordering.gt b e f = absurd (both_ways (is_le (beside (2 * G L))) (ap is_le e) low)

  -- the rounding of a value between the first and the last place is right
  pub rounds_rightly : (k : ℕ) (way : Way) → is_le (beside (2 * G 0)) ≡ true → is_le (beside (2 * G (2 ^ k))) ≡ false → Rightly G way beside (place_on G k way beside)
  unfolding place_on
  rounds_rightly k way start end =
      let s = seek_between G beside k 0 start (subst (λ (x : ℕ). is_le (beside (2 * G x)) ≡ false) (sym (zero-add (2 ^ k))) end) in
      right (seek G beside k 0) s.0 s.1 way (beside (2 * G (seek G beside k 0))) (beside (G (seek G beside k 0) + G (seek G beside k 0 + 1))) refl refl
