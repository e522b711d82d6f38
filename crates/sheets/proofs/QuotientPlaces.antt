-- The closing value of a quotient beside the places of its 25th bit. Where a is b·g, g has at most 24 bits, q1 is g and r1 is zero.
use Rattle.std.proofs.Common.{◌≡◌, ℕ, zero, ◌+◌, ◌-◌, ◌*◌, ◌/◌, ◌^◌, ◌<◌, ◌≤◌, ap, inl, inr, mul-le-mul_right, mul-le-mul, lt_of_mul-lt-mul_right, mul-pos, le_of_mul-le-mul_right, arith, pow_pos, pow_mono, pow-add}
use native.Mathlib.Nat.{eq_of_mul-eq-mul_right}
use Rattle.registers.proofs.Near.{Near, Near24}
use Rattle.registers.specs.Laws.{Bits}
use Rattle.registers.proofs.Spacing.{Rounded, spacing, odd_out, order, raise}
use Rattle.sheets.proofs.QuotientError.{sum_below, sum_above}
use Rattle.sheets.proofs.Correction.{Correction}

-- where b g is a, the first approximation is g
module _ (W A B Y Q G : ℕ)
    (one : zero < W)
    (inv : Near 50000000 (W * W) (B * Y))
    (is : A * W ≡ B * G)
    (rq : Rounded 24 (A * Y) (Q * W))
    (grid : Bits 24 (G * W))
  where
    hi_x : 50000000 * (A * Y) ≤ 50000000 * (G * W) + G * W
    hi_x = le_of_mul-le-mul_right {k = W} (omega (arith, ap (λ x. x * Y) is, mul-le-mul_right G inv.0)) one

    lo_x : 50000000 * (G * W) ≤ 50000000 * (A * Y) + G * W
    lo_x = le_of_mul-le-mul_right {k = W} (omega (arith, ap (λ x. x * Y) is, mul-le-mul_right G inv.1)) one

    same : Q * W ≡ G * W
    same = elim (order (Q * W) (G * W)) [ inl h ↦ elim (order (G * W) (Q * W)) [ inl k ↦ omega (arith, h, k) | inr k ↦ omega (arith, hi_x, lo_x, rq.closest (G * W) grid, k, spacing 24 rq.bits grid k) ] | inr k ↦ omega (arith, hi_x, lo_x, rq.closest (G * W) grid, k, spacing 24 grid rq.bits k) ]

    pub hit : Q ≡ G
    hit = eq_of_mul-eq-mul_right W one Q G same

-- b is b' T, the quotient's places of 25 bits are multiples of P
module _ (W A B Y Q R N b T P a : ℕ)
    (one : zero < W)
    (pt : zero < T)
    (pp : zero < P)
    (hb : B ≡ b * T)
    (ha : A * W ≡ a * (T * P))
    (top : b < 2 ^ 24)
    (hi : a < 2 ^ 25 * b)
    (inv : Near 50000000 (W * W) (B * Y))
    (rq : Near24 (A * Y) (Q * W))
    (last : Correction W (A * W) (B * Q) Q Y R (R * W) N)
  where
    size : A * W ≤ 2 ^ 49 * (T * P)
    size = omega (arith, mul-le-mul_right {m = a} {n = 2 ^ 49} (T * P) (omega arith))

    bg : (g : ℕ) → B * (g * P) ≡ b * g * (T * P)
    bg g = omega (arith, ap (λ x. x * (g * P)) hb)

    gap_below : (g : ℕ) → A * W < B * (g * P) → A * W + T * P ≤ B * (g * P)
    gap_below g h = omega (arith, bg g, mul-le-mul_right (T * P) (lt_of_mul-lt-mul_right (T * P) {m = a} {n = b * g} (omega (arith, bg g))))

    gap_above : (g : ℕ) → B * (g * P) < A * W → B * (g * P) + T * P ≤ A * W
    gap_above g h = omega (arith, bg g, mul-le-mul_right (T * P) (lt_of_mul-lt-mul_right (T * P) {m = b * g} {n = a} (omega (arith, bg g))))

    pub at_below : (g : ℕ) → A * W < B * (g * P) → N < g * P * W
    at_below g h = sum_below W A B Y Q (T * P) one (mul-pos pt pp) inv rq size R N last (g * P) (gap_below g h)

    pub at_above : (g : ℕ) → B * (g * P) < A * W → g * P * W < N
    at_above g h = sum_above W A B Y Q (T * P) one (mul-pos pt pp) inv rq size R N last (g * P) (gap_above g h)

-- nothing is left over where q is the quotient
pub nothing : (W A B Y Q R N : ℕ) → zero < W → Correction W (A * W) (B * Q) Q Y R (R * W) N → A * W ≡ B * Q → N ≡ Q * W
nothing W A B Y Q R N one last is = elim last [ inl l ↦ omega (arith, l.1, ap (λ x. x * Y) (r0 (omega (arith, l.0)))) | inr l ↦ omega (arith, l.1, ap (λ x. x * Y) (r0 (omega (arith, l.0)))) ]
  where
    r0 : R * W ≡ zero → R ≡ zero
    r0 h = eq_of_mul-eq-mul_right W one R zero (omega arith)

-- a quotient of numbers of 24 bits that has 25 bits has 24
pub even_part : (A' α B' β g j : ℕ) → A' < 2 ^ 24 → 2 ^ 23 ≤ B' → B' < 2 ^ 24
    → A' * 2 ^ α ≡ B' * 2 ^ β * (g * 2 ^ j) → 2 ^ 24 ≤ g → g ≡ 2 * (g / 2)
even_part A' α B' β g j ta lb tb e lg = elim (order α (β + j + 23)) [ inl h ↦ absurd (short h) | inr h ↦ long (raise (β + j + 24) α (omega (arith, h))) ]
  where
    e' : A' * 2 ^ α ≡ B' * g * 2 ^ (β + j)
    e' = omega (arith, e, ap (λ x. B' * g * x) (pow-add 2 β j))

    big : 2 ^ 23 * 2 ^ 24 ≤ B' * g
    big = mul-le-mul lb lg

    short : α ≤ β + j + 23 → ⊥
    short h = omega (arith, e', mul-le-mul {n₁ = A'} {n₂ = 2 ^ 24 - 1} (omega arith) (pow_mono h), pow-add 2 (β + j) 23, mul-le-mul_right (2 ^ (β + j)) big, pow_pos (β + j))

    long : (t : ℕ) × (2 ^ α ≡ 2 ^ t * 2 ^ (β + j + 24)) → g ≡ 2 * (g / 2)
    long t = elim (order g (2 * (g / 2))) [ inl h ↦ omega (arith, h) | inr h ↦ absurd (none (odd_out 24 B' (g / 2) (A' * 2 ^ t.0) (omega (arith, whole, ap (λ x. B' * x) (odd h))))) ]
      where
        odd : 2 * (g / 2) < g → 2 * (g / 2) + 1 ≡ g
        odd h = omega arith

        whole : B' * g ≡ 2 ^ 24 * (A' * 2 ^ t.0)
        whole = eq_of_mul-eq-mul_right (2 ^ (β + j)) (pow_pos (β + j)) _ _ (omega (arith, e', ap (λ x. A' * x) t.1, ap (λ x. A' * (2 ^ t.0 * x)) (pow-add 2 (β + j) 24)))

        none : (s : ℕ) × (B' ≡ 2 ^ 24 * s) → ⊥
        none s = omega (arith, s.1)
