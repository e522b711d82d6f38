-- The two rounds of a root that improve the half inverse h: 4·a·h² comes from one part in 199 to one in 52,000 and then to one in 2 ^ 27, while s stays 2·a·h.
use Rattle.std.proofs.Common.{◌≡◌, ℕ, zero, ◌+◌, ◌-◌, ◌*◌, ◌^◌, ◌<◌, ◌≤◌, ◌⊎◌, ap, inl, inr, mul-le-mul_right, mul-le-mul, mul-le-mul_left, mul-pos, le_of_mul-le-mul_right, arith}
use Rattle.registers.proofs.Near.{Near, Near30}
use Rattle.sheets.proofs.Cubic.{cubic_within, apart_small}

-- 1/2 - p is n, up or down, d is n rounded, and f is 1 + d
abbrev pub Half : ℕ → ℕ → ℕ → ℕ → ℕ → Type 0
Half W P N D F = ((2 * N + 2 * P ≡ W * W) × (F ≡ W + D)) ⊎ ((2 * N + W * W ≡ 2 * P) × (F + D ≡ W))

-- 2 f is 3 - 2 p
factor : (W P N D F : ℕ) → Half W P N D F → Near30 N (D * W)
    → (2 ^ 30 * (2 * (F * W) + 2 * P) ≤ 2 ^ 30 * (3 * (W * W)) + 2 * N) × (2 ^ 30 * (3 * (W * W)) ≤ 2 ^ 30 * (2 * (F * W) + 2 * P) + 2 * N)
factor W P N D F (inl l) r = omega (arith, l.0, r.0, r.1, ap (λ x. x * W) l.1)
factor W P N D F (inr l) r = omega (arith, l.0, r.0, r.1, ap (λ x. x * W) l.1)

-- h grown by f
module _ (A W H F H' : ℕ) (r : Near30 (H * F) (H' * W)) where
  pub grown_hi : 2 ^ 60 * (4 * (4 * (A * (H' * H'))) * (W * W * W * (W * W * W))) ≤ (2 ^ 30 + 1) * (2 ^ 30 + 1) * (4 * (A * (H * H)) * (2 * (F * W) * W * (2 * (F * W) * W)))
  grown_hi = omega (arith, mul-le-mul_left (16 * A * (W * W * (W * W))) (mul-le-mul r.0 r.0))

  pub grown_lo : (2 ^ 30 - 1) * (2 ^ 30 - 1) * (4 * (A * (H * H)) * (2 * (F * W) * W * (2 * (F * W) * W))) ≤ 2 ^ 60 * (4 * (4 * (A * (H' * H'))) * (W * W * W * (W * W * W)))
  grown_lo = omega (arith, mul-le-mul_left (16 * A * (W * W * (W * W))) (mul-le-mul lo lo))
    where
      lo : (2 ^ 30 - 1) * (H * F) ≤ 2 ^ 30 * (H' * W)
      lo = omega arith

-- what the cubic identity makes of it
module _ (M X G X' : ℕ)
    (one : zero < M)
    (hi : 2 ^ 60 * (4 * X' * (M * M)) ≤ (2 ^ 30 + 1) * (2 ^ 30 + 1) * (X * (G * G)))
    (lo : (2 ^ 30 - 1) * (2 ^ 30 - 1) * (X * (G * G)) ≤ 2 ^ 60 * (4 * X' * (M * M)))
  where
    -- from one part in 199 to one in 52,000, and hardly above
    once : Near 199 M X → 2 ^ 30 * (G + X) ≤ 2 ^ 30 * (3 * M) + 2 * M → 2 ^ 30 * (3 * M) ≤ 2 ^ 30 * (G + X) + 2 * M
        → (2 ^ 30 * X' ≤ 2 ^ 30 * M + 6 * M) × (52000 * M ≤ 52000 * X' + M)
    once near c d = let q = cubic_within (2 ^ 30) 2 M X G (omega arith) near c d in
        let z = apart_small 199 M X q.0 near q.1 in (
          le_of_mul-le-mul_right {k = M * M} (omega (arith, hi, q.2.0)) (mul-pos one one),
          le_of_mul-le-mul_right {k = M * M} (omega (arith, lo, q.2.1, mul-le-mul_left M (mul-le-mul z z))) (mul-pos one one),
        )

    -- from one part in 50,001 to one in 2 ^ 27
    twice : Near 50001 M X → 2 ^ 32 * (G + X) ≤ 2 ^ 32 * (3 * M) + 17 * M → 2 ^ 32 * (3 * M) ≤ 2 ^ 32 * (G + X) + 17 * M → Near (2 ^ 27) M X'
    twice near c d = let q = cubic_within (2 ^ 32) 17 M X G (omega arith) (omega (arith, near.0), omega (arith, near.1)) c d in
        let z = apart_small 50001 M X q.0 near q.1 in (
          le_of_mul-le-mul_right {k = M * M} (omega (arith, hi, q.2.0)) (mul-pos one one),
          le_of_mul-le-mul_right {k = M * M} (omega (arith, lo, q.2.1, mul-le-mul_left M (mul-le-mul z z))) (mul-pos one one),
        )

-- the first round: h0, s0, d0, f0 = 1 + d0, h1, s1
module _ (W A H S N D F H' S' : ℕ)
    (one : zero < W)
    (seed-lo : 159201 * (W * W * W) ≤ 160000 * (A * (2 * H) * (2 * H)))
    (seed-hi : 160000 * (A * (2 * H) * (2 * H)) ≤ 160801 * (W * W * W))
    (rs : Near30 (A * (2 * H)) (S * W))
    (half : Half W (S * H) N D F)
    (rd : Near30 N (D * W))
    (rh : Near30 (H * F) (H' * W))
    (rs' : Near30 (S * F) (S' * W))
  where
    m_lo : 199 * (W * W * W) ≤ 199 * (4 * (A * (H * H))) + W * W * W
    m_lo = omega arith

    m_hi : 199 * (4 * (A * (H * H))) ≤ 199 * (W * W * W) + W * W * W
    m_hi = omega arith

    -- 2 s0 h0
    p_hi : 2 ^ 30 * (2 * (S * H) * W) ≤ 2 ^ 30 * (4 * (A * (H * H))) + 4 * (A * (H * H))
    p_hi = omega (arith, mul-le-mul_right (2 * H) rs.0)

    p_lo : 2 ^ 30 * (4 * (A * (H * H))) ≤ 2 ^ 30 * (2 * (S * H) * W) + 4 * (A * (H * H))
    p_lo = omega (arith, mul-le-mul_right (2 * H) rs.1)

    n_small : 198 * (2 * N * W) ≤ W * W * W
    n_small = elim half [ inl l ↦ omega (arith, m_lo, p_lo, m_hi, ap (λ x. x * W) l.0) | inr l ↦ omega (arith, m_hi, p_hi, ap (λ x. x * W) l.0) ]

    g_hi : 2 ^ 30 * (2 * (F * W) * W + 4 * (A * (H * H))) ≤ 2 ^ 30 * (3 * (W * W * W)) + 2 * (W * W * W)
    g_hi = let f = factor W (S * H) N D F half rd in omega (arith, p_lo, m_hi, n_small, mul-le-mul_right W f.0)

    g_lo : 2 ^ 30 * (3 * (W * W * W)) ≤ 2 ^ 30 * (2 * (F * W) * W + 4 * (A * (H * H))) + 2 * (W * W * W)
    g_lo = let f = factor W (S * H) N D F half rd in omega (arith, p_hi, m_hi, n_small, mul-le-mul_right W f.1)

    pub first : (2 ^ 30 * (4 * (A * (H' * H'))) ≤ 2 ^ 30 * (W * W * W) + 6 * (W * W * W)) × (52000 * (W * W * W) ≤ 52000 * (4 * (A * (H' * H'))) + W * W * W)
    first = once (W * W * W) (4 * (A * (H * H))) (2 * (F * W) * W) (4 * (A * (H' * H'))) (mul-pos (mul-pos one one) one) (grown_hi A W H F H' rh) (grown_lo A W H F H' rh) (m_hi, m_lo) g_hi g_lo

    -- s1 is 2 a h1
    pub twin : Near (2 ^ 28) (2 * (A * H')) (S' * W)
    twin = (
      le_of_mul-le-mul_right {k = W} (omega (arith, mul-le-mul_right W rs'.0, mul-le-mul_right F rs.0, mul-le-mul_left (2 * A) rh.1, mul-le-mul_left (2 * A) rh.0)) one,
      le_of_mul-le-mul_right {k = W} (omega (arith, mul-le-mul_right W rs'.1, mul-le-mul_right W rs'.0, mul-le-mul_right F rs.1, mul-le-mul_right F rs.0, mul-le-mul_left (2 * A) rh.0, mul-le-mul_left (2 * A) rh.1)) one,
    )

-- the second round: h1, s1, d1, f1 = 1 + d1, h2
module _ (W A H S N D F H' : ℕ)
    (one : zero < W)
    (m_hi : 2 ^ 30 * (4 * (A * (H * H))) ≤ 2 ^ 30 * (W * W * W) + 6 * (W * W * W))
    (m_lo : 52000 * (W * W * W) ≤ 52000 * (4 * (A * (H * H))) + W * W * W)
    (rs : Near (2 ^ 28) (2 * (A * H)) (S * W))
    (half : Half W (S * H) N D F)
    (rd : Near30 N (D * W))
    (rh : Near30 (H * F) (H' * W))
  where
    p_hi' : 2 ^ 28 * (2 * (S * H) * W) ≤ 2 ^ 28 * (4 * (A * (H * H))) + 4 * (A * (H * H))
    p_hi' = omega (arith, mul-le-mul_right (2 * H) rs.0)

    p_lo' : 2 ^ 28 * (4 * (A * (H * H))) ≤ 2 ^ 28 * (2 * (S * H) * W) + 4 * (A * (H * H))
    p_lo' = omega (arith, mul-le-mul_right (2 * H) rs.1)

    n_small' : 51000 * (2 * N * W) ≤ W * W * W
    n_small' = elim half [ inl l ↦ omega (arith, m_lo, p_lo', m_hi, ap (λ x. x * W) l.0) | inr l ↦ omega (arith, m_hi, p_hi', ap (λ x. x * W) l.0) ]

    g_hi' : 2 ^ 32 * (2 * (F * W) * W + 4 * (A * (H * H))) ≤ 2 ^ 32 * (3 * (W * W * W)) + 17 * (W * W * W)
    g_hi' = let f = factor W (S * H) N D F half rd in omega (arith, p_lo', m_hi, n_small', mul-le-mul_right W f.0)

    g_lo' : 2 ^ 32 * (3 * (W * W * W)) ≤ 2 ^ 32 * (2 * (F * W) * W + 4 * (A * (H * H))) + 17 * (W * W * W)
    g_lo' = let f = factor W (S * H) N D F half rd in omega (arith, p_hi', m_hi, n_small', mul-le-mul_right W f.1)

    pub second : Near (2 ^ 27) (W * W * W) (4 * (A * (H' * H')))
    second = twice (W * W * W) (4 * (A * (H * H))) (2 * (F * W) * W) (4 * (A * (H' * H'))) (mul-pos (mul-pos one one) one) (grown_hi A W H F H' rh) (grown_lo A W H F H' rh) (omega arith, omega arith) g_hi' g_lo'
