-- How far b times the closing value q1 + r1·y1 is from a: b·(q1 + r1·y1) - a is r1·(b·y1 - 1), which is below the unit that a and b·g are multiples of.
use Rattle.std.proofs.Common.{ℕ, zero, ◌+◌, ◌*◌, ◌^◌, ◌<◌, ◌≤◌, ap, inl, inr, mul-le-mul_right, le_of_mul-le-mul_right, arith}
use native.Mathlib.Nat.{lt_of_mul-lt-mul_left}
use Rattle.registers.proofs.Near.{Near, Near24}
use Rattle.sheets.proofs.Correction.{Correction}

-- W is one; U is a unit, in W², of which a and b·g are multiples
module _ (W A B Y Q U : ℕ)
    (one : zero < W)
    (some : zero < U)
    (inv : Near 50000000 (W * W) (B * Y))
    (rq : Near24 (A * Y) (Q * W))
    (size : A * W ≤ 2 ^ 49 * U)
  where
    -- b q beside a
    pub hi_bq : 2 ^ 24 * 50000000 * (B * Q) ≤ (2 ^ 24 + 1) * 50000001 * (A * W)
    hi_bq = le_of_mul-le-mul_right {k = W} (omega (arith, mul-le-mul_right B rq.0, mul-le-mul_right A inv.0)) one

    pub lo_bq : 2 ^ 24 * 50000000 * (A * W) ≤ 2 ^ 24 * 50000000 * (B * Q) + (2 ^ 24 + 50000001) * (A * W)
    lo_bq = le_of_mul-le-mul_right {k = W} (omega (arith, mul-le-mul_right B rq.1, mul-le-mul_right A inv.1, mul-le-mul_right A inv.0)) one

    -- b times the closing value beside a
    module _ (R N : ℕ) (last : Correction W (A * W) (B * Q) Q Y R (R * W) N) where
      small_r : R * W < 50000000 * U
      small_r = elim last [ inl l ↦ omega (arith, l.0, lo_bq) | inr l ↦ omega (arith, l.0, hi_bq) ]

      hi_n : B * N < A * W * W + U * W
      hi_n = elim last [
        | inl l ↦ omega (arith, ap (λ x. x * W) l.0, ap (λ x. B * x) l.1, mul-le-mul_right R inv.0, mul-le-mul_right W small_r)
        | inr l ↦ omega (arith, ap (λ x. x * W) l.0, ap (λ x. B * x) l.1, mul-le-mul_right R inv.1, mul-le-mul_right W small_r)
      ]

      lo_n : A * W * W < B * N + U * W
      lo_n = elim last [
        | inl l ↦ omega (arith, ap (λ x. x * W) l.0, ap (λ x. B * x) l.1, mul-le-mul_right R inv.1, mul-le-mul_right W small_r)
        | inr l ↦ omega (arith, ap (λ x. x * W) l.0, ap (λ x. B * x) l.1, mul-le-mul_right R inv.0, mul-le-mul_right W small_r)
      ]

      pub sum_below : (G : ℕ) → A * W + U ≤ B * G → N < G * W
      sum_below G h = lt_of_mul-lt-mul_left B (omega (arith, hi_n, mul-le-mul_right W h))

      pub sum_above : (G : ℕ) → B * G + U ≤ A * W → G * W < N
      sum_above G h = lt_of_mul-lt-mul_left B (omega (arith, lo_n, mul-le-mul_right W h))
