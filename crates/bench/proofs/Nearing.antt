-- The nearest quotient is the nearest whole number: any other lies further off or, at a tie, as far and is odd.
use Rattle.std.proofs.Common.{◌≡◌, ℕ, ◌+◌, ◌-◌, ◌*◌, ◌/◌, ◌%◌, ◌<◌, ◌≤◌, true, false, ◌⊎◌, sym, ap, inl, inr, mul-le-mul_right, mod-lt, add-mul, le_antisymm, one-mul, div-add-mod', arith}
use Rattle.std.proofs.lemmas.Bool.{cases_lt, cases_eq, cases_Bool, eqb-true, eqb-false}
use Rattle.registers.specs.Binary32.{is_odd}
use Rattle.registers.specs.Laws.{apart}
use Rattle.bench.specs.Remainders.{nearest_quotient, NearestCount, IsNearestQuotient}
use Rattle.bench.proofs.Dividing.{quotient_up, quotient_down}

-- how another number compares with n, which is nearest
pub record Further (x y n k : ℕ) : Type 0 where
  pub near : apart x (n * y) ≤ apart x (k * y)
  pub tied : apart x (k * y) ≡ apart x (n * y) → (k ≡ n → ⊥) → (n % 2 ≡ 0) × (k % 2 ≡ 1)

module _ (x y : ℕ) (p : 0 < y) where
  -- where n lies one or two steps above the quotient, or at it
  next : (x / y + 1) * y ≡ x / y * y + y
  next = omega (arith, add-mul (x / y) 1 y, one-mul y)

  after : (x / y + 2) * y ≡ x / y * y + 2 * y
  after = add-mul (x / y) 2 y

  data Place (k : ℕ) : Type 0 where
    before : k + 1 ≤ x / y → Place k
    here : k ≡ x / y → Place k
    above : k ≡ x / y + 1 → Place k
    beyond : x / y + 2 ≤ k → Place k

  place : (k : ℕ) → Place k
  place k = elim (cases_lt k (x / y)) [
    | inl l ↦ before (omega arith)
    | inr g ↦ elim (cases_eq k (x / y)) [
      | inl e ↦ here e
      | inr n ↦ elim (cases_eq k (x / y + 1)) [ inl e ↦ above e | inr m ↦ beyond (omega arith) ]
    ]
  ]

  at_before : (k : ℕ) → k + 1 ≤ x / y → x % y + y ≤ apart x (k * y)
  at_before k h = omega (arith, mul-le-mul_right y h, add-mul k 1 y, one-mul y, div-add-mod' x y)

  at_here : (k : ℕ) → k ≡ x / y → apart x (k * y) ≡ x % y
  at_here k e = omega (arith, ap (λ (j : ℕ). j * y) e, div-add-mod' x y)

  at_above : (k : ℕ) → k ≡ x / y + 1 → apart x (k * y) ≡ y - x % y
  at_above k e = omega (arith, ap (λ (j : ℕ). j * y) e, next, div-add-mod' x y, mod-lt x p)

  at_beyond : (k : ℕ) → x / y + 2 ≤ k → 2 * y - x % y ≤ apart x (k * y)
  at_beyond k h = omega (arith, mul-le-mul_right y h, after, div-add-mod' x y, mod-lt x p)

  down_further : (n k : ℕ) → n ≡ x / y → (2 * (x % y) < y) ⊎ ((2 * (x % y) ≡ y) × (is_odd (x / y) ≡ false)) → Place k → Further x y n k
  down_further n k e o (before h) = record { near = omega (arith, at_here n e, at_before k h); tied = λ t d. absurd (omega (arith, at_here n e, at_before k h)) }
  down_further n k e o (here h) = record { near = omega (arith, at_here n e, at_here k h); tied = λ t d. absurd (d (omega arith)) }
  down_further n k e (inl l) (above h) = record { near = omega (arith, at_here n e, at_above k h); tied = λ t d. absurd (omega (arith, at_here n e, at_above k h)) }
  down_further n k e (inr l) (above h) = record { near = omega (arith, l.0, at_here n e, at_above k h); tied = λ t d. (omega (arith, eqb-false _ 1 l.1), omega (arith, eqb-false _ 1 l.1)) }
  down_further n k e (inl l) (beyond h) = record { near = omega (arith, at_here n e, at_beyond k h, mod-lt x p); tied = λ t d. absurd (omega (arith, at_here n e, at_beyond k h, mod-lt x p)) }
  down_further n k e (inr l) (beyond h) = record { near = omega (arith, at_here n e, at_beyond k h, mod-lt x p); tied = λ t d. absurd (omega (arith, at_here n e, at_beyond k h, mod-lt x p)) }

  up_further : (n k : ℕ) → n ≡ x / y + 1 → (y < 2 * (x % y)) ⊎ ((2 * (x % y) ≡ y) × (is_odd (x / y) ≡ true)) → Place k → Further x y n k
  up_further n k e (inl l) (before h) = record { near = omega (arith, at_above n e, at_before k h); tied = λ t d. absurd (omega (arith, at_above n e, at_before k h)) }
  up_further n k e (inr l) (before h) = record { near = omega (arith, l.0, at_above n e, at_before k h); tied = λ t d. absurd (omega (arith, l.0, at_above n e, at_before k h)) }
  up_further n k e (inl l) (here h) = record { near = omega (arith, at_above n e, at_here k h); tied = λ t d. absurd (omega (arith, at_above n e, at_here k h)) }
  up_further n k e (inr l) (here h) = record { near = omega (arith, l.0, at_above n e, at_here k h); tied = λ t d. (omega (arith, eqb-true _ 1 l.1), omega (arith, eqb-true _ 1 l.1)) }
  up_further n k e o (above h) = record { near = omega (arith, at_above n e, at_above k h); tied = λ t d. absurd (d (omega arith)) }
  up_further n k e o (beyond h) = record { near = omega (arith, at_above n e, at_beyond k h); tied = λ t d. absurd (omega (arith, at_above n e, at_beyond k h, mod-lt x p)) }

  pub further : (k : ℕ) → Further x y (nearest_quotient x y) k
  further k = elim (cases_lt y (2 * (x % y))) [
    | inl u ↦ up_further _ k (quotient_up x y p (inl u)) (inl u) (place k)
    | inr g ↦ elim (cases_eq (2 * (x % y)) y) [
      | inl t ↦ elim (cases_Bool (is_odd (x / y))) [
        | inl o ↦ up_further _ k (quotient_up x y p (inr (t, o))) (inr (t, o)) (place k)
        | inr o ↦ down_further _ k (quotient_down x y p (inr (t, o))) (inr (t, o)) (place k)
      ]
      | inr n ↦ let l : 2 * (x % y) < y = omega arith in down_further _ k (quotient_down x y p (inl l)) (inl l) (place k)
    ]
  ]

  pub is_nearest : NearestCount x y (nearest_quotient x y)
  is_nearest = record { closest = λ k. (further k).near; even_at_tie = λ k d t. ((further k).tied t d).0 }

  pub only_nearest : (n : ℕ) → NearestCount x y n → n ≡ nearest_quotient x y
  only_nearest n c = elim (cases_eq n (nearest_quotient x y)) [
    | inl e ↦ e
    | inr d ↦
        let N : ℕ = nearest_quotient x y in
        let a : apart x (n * y) ≤ apart x (N * y) = c.closest N in
        let b : apart x (N * y) ≤ apart x (n * y) = (further n).near in
        let t : apart x (n * y) ≡ apart x (N * y) = le_antisymm a b in
        let o : n % 2 ≡ 1 = ((further n).tied t d).1 in
        let z : n % 2 ≡ 0 = c.even_at_tie N (λ e. d (sym e)) (sym t) in
        absurd (omega (arith, o, z))
  ]

pub nearest_quotient_lem : IsNearestQuotient
nearest_quotient_lem = record { nearest = is_nearest; only = λ x y n p. only_nearest x y p n }
