-- One round of the reciprocal squares its error: x (2 m - x) is m² less n², where n is how far x is from m.
use Rattle.std.specs.Prelude.{◌≡◌, ℕ, zero, ◌+◌, ◌*◌, ◌^◌, ◌<◌, ◌≤◌, ◌⊎◌}
use Rattle.std.proofs.Common.{mul-le-mul, mul-le-mul_right, mul-le-mul_left, arith, subst, inl, inr}
use Rattle.std.proofs.Math.Nat.{le_of_mul-le-mul_right}
use Rattle.registers.proofs.Near.{Near30}

-- n is how far x is from m
abbrev pub Apart : ℕ → ℕ → ℕ → Type 0
Apart M X N = (X + N ≡ M) ⊎ (M + N ≡ X)

-- g is 2 m - x, up to n / 2 ^ 30
abbrev pub Factor : ℕ → ℕ → ℕ → ℕ → Type 0
Factor M X N G = (2 ^ 30 * (G + X) ≤ 2 ^ 30 * (2 * M) + N) × (2 ^ 30 * (2 * M) ≤ 2 ^ 30 * (G + X) + N)

-- x g is m² less n², up to x n / 2 ^ 30
abbrev pub Product : ℕ → ℕ → ℕ → ℕ → Type 0
Product M X N G = (2 ^ 30 * (X * G + N * N) ≤ 2 ^ 30 * (M * M) + X * N) × (2 ^ 30 * (M * M) ≤ 2 ^ 30 * (X * G + N * N) + X * N)

below : (X N G : ℕ) → Factor (X + N) X N G → Product (X + N) X N G
below X N G f = (omega (arith, mul-le-mul_left X f.0), omega (arith, mul-le-mul_left X f.1))

above : (M N G : ℕ) → Factor M (M + N) N G → Product M (M + N) N G
above M N G f = (omega (arith, mul-le-mul_left (M + N) f.0), omega (arith, mul-le-mul_left (M + N) f.1))

pub product : (M X N G : ℕ) → Apart M X N → Factor M X N G → Product M X N G
product M X N G (inl e) = subst (λ m. Factor m X N G → Product m X N G) e (below X N G)
product M X N G (inr e) = subst (λ x. Factor M x N G → Product M x N G) e (above M N G)

-- v is m x', and x g rounded
module _ (K M X N G X' : ℕ)
    (one : zero < M)
    (some : 2 ≤ K)
    (apart : Apart M X N)
    (close : K * N ≤ M)
    (factor : Factor M X N G)
    (round : Near30 (X * G) (X' * M))
  where
    half : 2 * N ≤ M
    half = omega (arith, mul-le-mul_right N some)

    least : X ≤ M + N
    least = elim apart [ inl e ↦ omega (arith, e) | inr e ↦ omega (arith, e) ]

    -- x n is at most 3/4
    part : 4 * (X * N) ≤ 3 * (M * M)
    part = omega (arith, mul-le-mul_right N least, mul-le-mul_right M half, mul-le-mul half half)

    exact : Product M X N G
    exact = product M X N G apart factor

    Z : ℕ
    Z = X * G

    hi_z : 2 ^ 30 * Z ≤ 2 ^ 30 * (M * M) + M * M
    unfolding Z
    hi_z = omega (arith, exact.0, part)

    lo_z : 2 ^ 32 * (M * M) ≤ 2 ^ 32 * Z + 2 ^ 32 * (N * N) + 3 * (M * M)
    unfolding Z
    lo_z = omega (arith, exact.1, part)

    -- never much above one
    pub betters_most : 2 ^ 29 * X' ≤ 2 ^ 29 * M + M
    unfolding Z
    betters_most = le_of_mul-le-mul_right {k = M} (omega (arith, exact.0, part, round.0)) one

    lo_v : 2 ^ 29 * (M * M) ≤ 2 ^ 29 * (X' * M) + 2 ^ 29 * (N * N) + M * M
    unfolding Z
    lo_v = omega (arith, lo_z, hi_z, round.1)

    -- below one by no more than the square of what it was, and a little
    pub betters_least : 2 ^ 29 * (K * K * M) ≤ 2 ^ 29 * (K * K * X') + 2 ^ 29 * M + K * K * M
    betters_least = le_of_mul-le-mul_right {k = M} (omega (arith, mul-le-mul_left (K * K) lo_v, mul-le-mul close close)) one
