-- The first root s1 improved by its residual: (s1 + e1·h1)² is a up to one part in 2 ^ 30, by the cubic identity at m = a·s1 and x = s1³.
use Rattle.std.proofs.Common.{◌≡◌, ℕ, zero, suc, ◌+◌, ◌-◌, ◌*◌, ◌^◌, ◌<◌, ◌≤◌, ◌⊎◌, refl, ap, inl, inr, mul-le-mul_right, mul-le-mul, mul-le-mul_left, mul-pos, le_of_mul-le-mul_right, arith}
use Rattle.registers.proofs.Near.{Near, Near30}
use Rattle.sheets.proofs.Correction.{Correction}
use Rattle.sheets.proofs.Cubic.{Apart, Cube, cubic_within, apart_small}

-- s1² is not much above a
pub square_most : (W A H S : ℕ) → zero < W → 2 ^ 30 * (4 * (A * (H * H))) ≤ 2 ^ 30 * (W * W * W) + 6 * (W * W * W) → 2 ^ 28 * (S * W) ≤ 2 ^ 28 * (2 * (A * H)) + 2 * (A * H) → 2 ^ 30 * (S * S) ≤ 2 ^ 30 * (A * W) + 15 * (A * W)
square_most W A H S one m_hi twin = le_of_mul-le-mul_right {k = W * W} (omega (arith, mul-le-mul twin twin, mul-le-mul_left A m_hi)) (mul-pos one one)

module _ (W A H S N E C : ℕ)
    (one : zero < W)
    (some : zero < A)
    (m_hi : 2 ^ 30 * (4 * (A * (H * H))) ≤ 2 ^ 30 * (W * W * W) + 6 * (W * W * W))
    (m_lo : 52000 * (W * W * W) ≤ 52000 * (4 * (A * (H * H))) + W * W * W)
    (twin : Near (2 ^ 28) (2 * (A * H)) (S * W))
    (rest : Correction W (A * W) (S * S) S H E N C)
    (re : Near30 N (E * W))
  where
    t_hi : 2 ^ 30 * (S * S) ≤ 2 ^ 30 * (A * W) + 15 * (A * W)
    t_hi = square_most W A H S one m_hi twin.0

    t_lo : 51000 * (A * W) ≤ 51000 * (S * S) + A * W
    t_lo = le_of_mul-le-mul_right {k = W * W} (omega (arith, mul-le-mul lo lo, mul-le-mul_left A m_lo, mul-le-mul_left A m_hi)) (mul-pos one one)
      where
        lo : (2 ^ 28 - 1) * (2 * (A * H)) ≤ 2 ^ 28 * (S * W)
        lo = omega (arith, twin.1)

    n_small : 51000 * N ≤ A * W
    n_small = elim rest [ inl l ↦ omega (arith, t_lo, l.0) | inr l ↦ omega (arith, t_hi, l.0) ]

    some_s : zero < S
    some_s = elim (pos S) [ inl h ↦ h | inr h ↦ absurd (omega (arith, ap (λ x. x * S) h, t_lo, mul-pos some one)) ]
      where
        pos : (n : ℕ) → (zero < n) ⊎ (n ≡ zero)
        pos zero = inr refl
        pos (suc n) = inl (omega arith)

    -- e (2 a h) is n s
    eh_hi : 2 ^ 30 * (E * (2 * (A * H))) ≤ 2 ^ 30 * (N * S) + 6 * (N * S)
    eh_hi = omega (arith, mul-le-mul_right E twin.1, mul-le-mul_right S re.0)

    eh_lo : 2 ^ 30 * (N * S) ≤ 2 ^ 30 * (E * (2 * (A * H))) + 6 * (N * S)
    eh_lo = omega (arith, mul-le-mul_right E twin.0, mul-le-mul_right S re.1, eh_hi)

    g_hi : 2 ^ 31 * (2 * (A * C) + S * S * S) ≤ 2 ^ 31 * (3 * (A * W * S)) + A * W * S
    g_hi = elim rest [ inl l ↦ omega (arith, eh_hi, mul-le-mul_right S n_small, ap (λ x. x * S) l.0, ap (λ x. A * x) l.1) | inr l ↦ omega (arith, eh_lo, mul-le-mul_right S n_small, ap (λ x. x * S) l.0, ap (λ x. A * x) l.1) ]

    g_lo : 2 ^ 31 * (3 * (A * W * S)) ≤ 2 ^ 31 * (2 * (A * C) + S * S * S) + A * W * S
    g_lo = elim rest [ inl l ↦ omega (arith, eh_lo, mul-le-mul_right S n_small, ap (λ x. x * S) l.0, ap (λ x. A * x) l.1) | inr l ↦ omega (arith, eh_hi, mul-le-mul_right S n_small, ap (λ x. x * S) l.0, ap (λ x. A * x) l.1) ]

    -- s + e h squared is a
    pub squared : Near (2 ^ 30) (A * W * (W * W)) (C * C)
    squared = (le_of_mul-le-mul_right {k = 4 * (A * A) * (S * S * S)} (omega (arith, q.2.0)) pos, le_of_mul-le-mul_right {k = 4 * (A * A) * (S * S * S)} (omega (arith, q.2.1, mul-le-mul_left (A * W * S) (mul-le-mul z z))) pos)
      where
        near : Near 50001 (A * W * S) (S * S * S)
        near = (omega (arith, mul-le-mul_right S t_hi), omega (arith, mul-le-mul_right S t_lo))

        q : (z : ℕ) × Apart (A * W * S) (S * S * S) z × Cube (2 ^ 31 * (A * W * S)) (2 ^ 31 * (S * S * S)) (2 ^ 31 * (2 * (A * C))) (2 ^ 31 * z) (1 * (A * W * S))
        q = cubic_within (2 ^ 31) 1 (A * W * S) (S * S * S) (2 * (A * C)) (omega arith) (omega (arith, near.0), omega (arith, near.1)) (omega (arith, g_hi)) (omega (arith, g_lo))

        z : 50001 * q.0 ≤ A * W * S
        z = apart_small 50001 (A * W * S) (S * S * S) q.0 near q.1

        pos : zero < 4 * (A * A) * (S * S * S)
        pos = mul-pos (mul-pos (omega arith) (mul-pos some some)) (mul-pos (mul-pos some_s some_s) some_s)
