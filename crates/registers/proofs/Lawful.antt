-- `nearest` keeps the laws of rounding to nearest.
use Rattle.std.proofs.Common.{◌≡◌, ℕ, zero, suc, ◌+◌, ◌-◌, ◌*◌, ◌/◌, ◌%◌, ◌^◌, ◌<◌, ◌≤◌, ◌⊎◌, sym, ap, ◌∙◌, subst, inl, inr, mul-le-mul_right, mod-lt, suc-mul, lt_of_mul-lt-mul_right, mul-le-mul_left, le_of_mul-le-mul_right, arith, pow_pos, pow_mono, pow-add}
use native.Mathlib.Nat.{pow-succ'}
use lib.Pow.{split}
use Rattle.std.proofs.lemmas.Bool.{cases_order, cases_lt}
use Rattle.registers.specs.Nearest.{upward, nearest}
use Rattle.registers.specs.Laws.{apart, Bits, Rounds, NearestLaws}
use Rattle.registers.proofs.Nearness.{upward_over, upward_tie, upward_under, multiple_is, multiple_close, nearest_view, nearest_at, nearest_exact, nearest_scale, nearest_error}

-- ---- the rounding is one

even_up : (q : ℕ) → q + q % 2 ≡ 2 * ((q + q % 2) / 2)
even_up q = omega arith

-- a tie goes to the even one
tied : (q r U v n : ℕ) → r < U → n ≡ q * U + r → v ≡ (q + upward q r U) * U → 2 * apart v n ≡ U → q + upward q r U ≡ 2 * ((q + upward q r U) / 2)
tied q r U v n small parts is h = elim (cases_order (2 * r) U) [
  | inl e ↦ subst (λ u. q + u ≡ 2 * ((q + u) / 2)) (sym (upward_tie q r U e)) (even_up q)
  | inr o ↦ elim o [
    | inl l ↦ absurd (omega (arith, is, parts, ap (λ u. (q + u) * U) (upward_under q r U l)))
    | inr g ↦ absurd (omega (arith, is, parts, ap (λ u. (q + u) * U) (upward_over q r U g)))
  ]
]

pub rounds : (k n : ℕ) → Rounds k n (nearest k n)
rounds k n = go v.0 v.1 v.2
  where
    v : (e : ℕ) × (n < 2 ^ (k + e)) × ((e ≡ 0) ⊎ (2 ^ (k + e) ≤ 2 * n))
    v = nearest_view k n

    go : (e : ℕ) → n < 2 ^ (k + e) → (e ≡ 0) ⊎ (2 ^ (k + e) ≤ 2 * n) → Rounds k n (nearest k n)
    go e s o = record {
      part = q + upward q r (2 ^ e);
      exp = e;
      is = is;
      roof = omega (arith, s, pow-add 2 k e);
      tight = elim o [ inl z ↦ inl z | inr t ↦ inr (omega (arith, t, pow-add 2 k e)) ];
      half = omega (arith, nearest_at k e n s o, (multiple_close e n).0, (multiple_close e n).1);
      tie = tied q r (2 ^ e) (nearest k n) n (mod-lt n (pow_pos e)) (sym (split n e)) is;
    }
      where
        q : ℕ
        q = n / 2 ^ e

        r : ℕ
        r = n % 2 ^ e

        is : nearest k n ≡ (q + upward q r (2 ^ e)) * 2 ^ e
        is = nearest_at k e n s o ∙ multiple_is e n q r (sym (split n e)) (mod-lt n (pow_pos e))

-- ---- nothing of that width is nearer

-- a power is a multiple of a lower one
raise : (i j : ℕ) → i ≤ j → (t : ℕ) × (2 ^ j ≡ 2 ^ t * 2 ^ i)
raise i j h =
    let e : j ≡ (j - i) + i = omega arith in
    (j - i, ap (λ (x : ℕ). 2 ^ x) e ∙ pow-add 2 (j - i) i)

module _ (k n v : ℕ) (r : Rounds k n v) (pos : 1 ≤ k) where
  -- a multiple of the last place is no nearer
  no_multiple : (x : ℕ) → apart v n ≤ apart (x * 2 ^ r.exp) n
  no_multiple x = elim (cases_order r.part x) [
    | inl e ↦ omega (arith, r.is, ap (λ y. y * 2 ^ r.exp) e)
    | inr o ↦ elim o [ inl h ↦ omega (arith, r.is, r.half, mul-le-mul_right (2 ^ r.exp) h) | inr h ↦ omega (arith, r.is, r.half, mul-le-mul_right (2 ^ r.exp) h) ]
  ]

  two : 2 ^ k ≡ 2 * 2 ^ (k - 1)
  two =
      let e : k ≡ suc (k - 1) = omega arith in
      ap (λ x. 2 ^ x) e ∙ pow-succ' 2 (k - 1)

  part_most : r.part < 2 ^ k + 1
  part_most = lt_of_mul-lt-mul_right (2 * 2 ^ r.exp) (omega (arith, r.is, r.half, r.roof, pow_pos r.exp))

  pub rounds_short : Bits k v
  rounds_short = elim (cases_lt r.part (2 ^ k)) [
    | inl h ↦ record { part = r.part; exp = r.exp; fits = h; is = r.is }
    | inr h ↦
        let full : r.part ≡ 2 ^ k = omega (arith, part_most) in
        record { part = 1; exp = k + r.exp; fits = omega (arith, two, pow_pos (k - 1)); is = omega (arith, r.is, pow-add 2 k r.exp, ap (λ x. x * 2 ^ r.exp) full) }
  ]

  pub rounds_closest : (m : ℕ) → Bits k m → apart v n ≤ apart m n
  rounds_closest m b = elim (cases_lt b.exp r.exp) [
    | inl h ↦ elim r.tight [ inl z ↦ absurd (omega (arith, h, z)) | inr t ↦ fine t (raise (suc b.exp) r.exp h) ]
    | inr h ↦ wide (raise r.exp b.exp h)
  ]
    where
      wide : (t : ℕ) × (2 ^ b.exp ≡ 2 ^ t * 2 ^ r.exp) → apart v n ≤ apart m n
      wide t = subst (λ x. apart v n ≤ apart x n) (sym e) (no_multiple (b.part * 2 ^ t.0))
        where
          e : m ≡ b.part * 2 ^ t.0 * 2 ^ r.exp
          e = omega (arith, b.is, ap (λ x. b.part * x) t.1)

      fine : 2 ^ k * 2 ^ r.exp ≤ 2 * n → (t : ℕ) × (2 ^ r.exp ≡ 2 ^ t * 2 ^ suc b.exp) → apart v n ≤ apart m n
      fine f t = omega (arith, no_multiple (2 ^ (k - 1)), floor, low)
        where
          floor : 2 * (2 ^ (k - 1) * 2 ^ r.exp) ≤ 2 * n
          floor = omega (arith, f, ap (λ x. x * 2 ^ r.exp) two)

          dbl : 2 * 2 ^ b.exp ≤ 2 ^ r.exp
          dbl = omega (arith, t.1, ap (λ x. 2 ^ t.0 * x) (pow-succ' 2 b.exp), mul-le-mul_right (2 ^ b.exp) (pow_pos t.0))

          low : 2 * m ≤ 2 * (2 ^ (k - 1) * 2 ^ r.exp)
          low = omega (arith, b.is, mul-le-mul_right (2 ^ b.exp) b.fits, mul-le-mul_left (2 ^ k) dbl, ap (λ x. x * 2 ^ r.exp) two)

-- ---- one value rounds to one

ties : (p q U n v w : ℕ) → zero < U → v ≡ p * U → w ≡ q * U → 2 * apart v n ≤ U → 2 * apart w n ≤ U
    → (2 * apart v n ≡ U → p ≡ 2 * (p / 2)) → (2 * apart w n ≡ U → q ≡ 2 * (q / 2)) → p < q → ⊥
ties p q U n v w pos ev ew hv hw tv tw h = omega (arith, next, tv tied_v, tw tied_w)
  where
    gap : v + U ≤ w
    gap = omega (arith, mul-le-mul_right U h)

    tied_v : 2 * apart v n ≡ U
    tied_v = omega (arith, gap)

    tied_w : 2 * apart w n ≡ U
    tied_w = omega (arith, gap)

    next : q ≤ p + 1
    next = le_of_mul-le-mul_right {k = U} (omega (arith, gap)) pos

pub unique : (k n v w : ℕ) → Rounds k n v → Rounds k n w → v ≡ w
unique k n v w a b = elim (cases_order a.part b.part) [
  | inl e ↦ omega (arith, a.is, w_is, ap (λ x. x * 2 ^ a.exp) e)
  | inr o ↦ elim o [
    | inl h ↦ absurd (ties a.part b.part (2 ^ a.exp) n v w (pow_pos a.exp) a.is w_is a.half half_w a.tie tie_w h)
    | inr h ↦ absurd (ties b.part a.part (2 ^ a.exp) n w v (pow_pos a.exp) w_is a.is half_w a.half tie_w a.tie h)
  ]
]
  where
    later : (x y : ℕ) → n < 2 ^ k * 2 ^ x → (y ≡ zero) ⊎ (2 ^ k * 2 ^ y ≤ 2 * n) → y ≤ x
    later x y f (inl z) = omega arith
    later x y f (inr t) = elim (cases_lt x y) [ inl h ↦ absurd (omega (arith, t, f, mul-le-mul_left (2 ^ k) (pow_mono h), ap (λ z. 2 ^ k * z) (pow-succ' 2 x))) | inr h ↦ h ]

    exps : b.exp ≡ a.exp
    exps = omega (arith, later a.exp b.exp a.roof b.tight, later b.exp a.exp b.roof a.tight)

    u : 2 ^ b.exp ≡ 2 ^ a.exp
    u = ap (λ x. 2 ^ x) exps

    w_is : w ≡ b.part * 2 ^ a.exp
    w_is = omega (arith, b.is, ap (λ x. b.part * x) u)

    half_w : 2 * apart w n ≤ 2 ^ a.exp
    half_w = omega (arith, b.half, u)

    tie_w : 2 * apart w n ≡ 2 ^ a.exp → b.part ≡ 2 * (b.part / 2)
    tie_w h = b.tie (h ∙ sym u)

-- ---- all together

low : (k n : ℕ) → (2 ^ k - 1) * n ≤ 2 ^ k * nearest k n
low k n =
    let e : suc (2 ^ k - 1) ≡ 2 ^ k = omega (arith, pow_pos k) in
    omega (arith, (nearest_error k n).0, suc-mul (2 ^ k - 1) n, ap (λ (x : ℕ). x * n) e)

pub nearest_laws : NearestLaws
nearest_laws = record {
  rounds = rounds;
  unique = unique;
  unchanged = λ k n b. ap (nearest k) b.is ∙ nearest_exact k b.part b.exp b.fits ∙ sym b.is;
  scales = nearest_scale;
  not_low = low;
  not_high = λ k n. omega (arith, (nearest_error k n).1);
  short = λ k n p. rounds_short k n (nearest k n) (rounds k n) p;
  closest = λ k n m p. rounds_closest k n (nearest k n) (rounds k n) p m;
}
