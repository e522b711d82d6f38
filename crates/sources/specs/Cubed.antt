-- One round of the reciprocal root: x (3 m - x)² is 4 m³ less 3 m z² and z³ at most, where z is how far x is from m.
use Rattle.std.specs.Prelude.{◌≡◌, ℕ, zero, ◌+◌, ◌-◌, ◌*◌, ◌^◌, ◌<◌, ◌≤◌}
use Rattle.std.proofs.Math.Nat.{mul-le-mul, mul-le-mul_left, le_dest}
use Rattle.std.proofs.Common.{mul-le-mul_right, le_of_mul-le-mul_right, mul-pos, arith, subst, subst₂, inl, inr}
use Rattle.sources.specs.Squared.{Apart}

-- g is 3 m - x, up to m / 2 ^ 29
abbrev pub Factor₃ : ℕ → ℕ → ℕ → Type 0
Factor₃ M X G = (2 ^ 30 * (G + X) ≤ 2 ^ 30 * (3 * M) + 2 * M) × (2 ^ 30 * (3 * M) ≤ 2 ^ 30 * (G + X) + 2 * M)

abbrev pub Product₃ : ℕ → ℕ → ℕ → ℕ → Type 0
Product₃ M X z G = (2 ^ 30 * (X * (G * G)) ≤ (2 ^ 30 + 3) * (4 * (M * M * M))) × (2 ^ 30 * (4 * (M * M * M)) ≤ 2 ^ 30 * (X * (G * G)) + 2 ^ 30 * (3 * (M * (z * z)) + z * z * z) + 3 * (4 * (M * M * M)))

module _ (x z g : ℕ)
    (sm : 4 * z ≤ x)
    (hi : 2 ^ 30 * g ≤ 2 ^ 30 * (2 * x + 3 * z) + 2 * (x + z))
    (lo : 2 ^ 30 * (2 * x + 3 * z) ≤ 2 ^ 30 * g + 2 * (x + z))
  where
    less : Product₃ (x + z) x z g
    less = (
      omega (arith, mul-le-mul_left x (mul-le-mul hi hi), mul-le-mul_right (x * x) sm, mul-le-mul_right (x * z) sm, mul-le-mul_right (z * z) sm),
      omega (arith, mul-le-mul_left x (mul-le-mul lo lo), mul-le-mul_left (x * (x + z)) hi, mul-le-mul_right (x * x) sm, mul-le-mul_right (x * z) sm, mul-le-mul_right (z * z) sm),
    )

module _ (x z g : ℕ)
    (sm : 4 * z ≤ x)
    (hi : 2 ^ 30 * g ≤ 2 ^ 30 * (2 * x + z) + 2 * (x + z))
    (lo : 2 ^ 30 * (2 * x + z) ≤ 2 ^ 30 * g + 2 * (x + z))
  where
    over : Product₃ (x + z) (x + 2 * z) z g
    over = (
      omega (arith, mul-le-mul_left (x + 2 * z) (mul-le-mul hi hi), mul-le-mul_right (x * x) sm, mul-le-mul_right (x * z) sm, mul-le-mul_right (z * z) sm),
      omega (arith, mul-le-mul_left (x + 2 * z) (mul-le-mul lo lo), mul-le-mul_left ((x + 2 * z) * (x + z)) hi, mul-le-mul_right (x * x) sm, mul-le-mul_right (x * z) sm, mul-le-mul_right (z * z) sm),
    )

pub product₃ : (M X z G : ℕ) → Apart M X z → 5 * z ≤ M → Factor₃ M X G → Product₃ M X z G
product₃ M X z G (inl e) h f = subst (λ m. Product₃ m X z G) e (less X z G (omega arith) (omega (arith, f.0, f.1)) (omega (arith, f.0, f.1)))
product₃ M X z G (inr e) h f = go (le_dest {n = z} {m = M} (omega arith))
  where
    go : (x : ℕ) × (z + x ≡ M) → Product₃ M X z G
    go x = subst₂ (λ m y. Product₃ m y z G) em ex (over x.0 z G (omega (arith, x.1)) (omega (arith, x.1, f.0, f.1)) (omega (arith, x.1, f.0, f.1)))
      where
        em : x.0 + z ≡ M
        em = omega (arith, x.1)

        ex : x.0 + 2 * z ≡ X
        ex = omega (arith, x.1)

-- z is at most q / p of m; 4 x' m² is x g², rounded twice
module _ (p q M X z G X' : ℕ)
    (one : zero < M)
    (apart : Apart M X z)
    (small : 5 * z ≤ M)
    (close : p * z ≤ q * M)
    (factor : Factor₃ M X G)
    (hi : 2 ^ 60 * (4 * X' * (M * M)) ≤ (2 ^ 30 + 1) * (2 ^ 30 + 1) * (X * (G * G)))
    (lo : (2 ^ 30 - 1) * (2 ^ 30 - 1) * (X * (G * G)) ≤ 2 ^ 60 * (4 * X' * (M * M)))
  where
    exact : Product₃ M X z G
    exact = product₃ M X z G apart small factor

    -- never much above one
    pub betters₃_most : 2 ^ 27 * X' ≤ 2 ^ 27 * M + M
    betters₃_most = le_of_mul-le-mul_right {k = M * M} (omega (arith, hi, exact.0)) (mul-pos one one)

    L : ℕ
    L = 3 * (M * (z * z)) + z * z * z

    lo_l : 2 ^ 27 * (4 * (M * M * M)) ≤ 2 ^ 27 * (4 * X' * (M * M)) + 2 ^ 27 * L + 4 * (M * M * M)
    unfolding L
    lo_l = omega (arith, lo, exact.1)

    lo_p : p * p * p * L ≤ (3 * p + q) * (q * q) * (M * M * M)
    unfolding L
    lo_p = omega (arith, mul-le-mul_left (3 * p * M) (mul-le-mul close close), mul-le-mul close (mul-le-mul close close))

    pub betters₃_least : 2 ^ 27 * (4 * (p * p * p * M)) ≤ 2 ^ 27 * (4 * (p * p * p * X')) + 2 ^ 27 * ((3 * p + q) * (q * q) * M) + 4 * (p * p * p * M)
    betters₃_least = le_of_mul-le-mul_right {k = M * M} (omega (arith, mul-le-mul_left (p * p * p) lo_l, lo_p)) (mul-pos one one)
