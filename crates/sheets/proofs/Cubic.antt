-- The identity that three steps of a root rest on: x·(3m - x)² is 4m³ less 3m·z² and up to z³, where x is z away from m.
-- Where g is 3m - x up to d, x·g² stays below 4m³ but for d, and above it but for z² and d.
use Rattle.std.proofs.Common.{◌≡◌, ℕ, ◌+◌, ◌*◌, ◌≤◌, ◌⊎◌, ap, subst, subst₂, inl, inr, le_of_lt, mul-le-mul_right, mul-le-mul, mul-le-mul_left, arith}
use native.Mathlib.Nat.{le_dest}
use Rattle.registers.proofs.Near.{Near}
use Rattle.registers.proofs.Spacing.{order}

-- what is shown of m, x, g and the two errors
abbrev pub Cube : ℕ → ℕ → ℕ → ℕ → ℕ → Type 0
Cube m x g z d = (200 * (x * (g * g)) ≤ 200 * (4 * (m * m * m)) + 804 * (d * (m * m)))
    × (200 * (4 * (m * m * m)) ≤ 200 * (x * (g * g)) + 602 * (m * (z * z)) + 804 * (d * (m * m)))

-- m is x + z
module _ (x z g d : ℕ)
    (near : 198 * z ≤ x)
    (few : 1000 * d ≤ x)
    (hi : g ≤ 2 * x + 3 * z + d)
    (lo : 2 * x + 3 * z ≤ g + d)
  where
    below : Cube (x + z) x g z d
    below = (
      omega (arith, mul-le-mul_left x (mul-le-mul hi hi), mul-le-mul_right (x * z) near, mul-le-mul_right (z * z) near, mul-le-mul_right (x * d) near, mul-le-mul_right (z * d) near, mul-le-mul_right (x * d) few),
      omega (arith, mul-le-mul_left x (mul-le-mul lo lo), mul-le-mul_left (x * d) hi, mul-le-mul_right (x * z) near, mul-le-mul_right (z * z) near, mul-le-mul_right (x * d) near, mul-le-mul_right (z * d) near, mul-le-mul_right (x * d) few),
    )

-- m is y + z, and x is y + 2z
module _ (y z g d : ℕ)
    (near : 198 * z ≤ y)
    (few : 1000 * d ≤ y)
    (hi : g ≤ 2 * y + z + d)
    (lo : 2 * y + z ≤ g + d)
  where
    above : Cube (y + z) (y + 2 * z) g z d
    above = (
      omega (arith, mul-le-mul_left (y + 2 * z) (mul-le-mul hi hi), mul-le-mul_right (y * z) near, mul-le-mul_right (z * z) near, mul-le-mul_right (y * d) near, mul-le-mul_right (z * d) near, mul-le-mul_right (y * d) few, mul-le-mul_right (z * d) few),
      omega (arith, mul-le-mul_left (y + 2 * z) (mul-le-mul lo lo), mul-le-mul_left ((y + 2 * z) * d) hi, mul-le-mul_right (y * z) near, mul-le-mul_right (z * z) near, mul-le-mul_right (y * d) near, mul-le-mul_right (z * d) near, mul-le-mul_right (y * d) few, mul-le-mul_right (z * d) few),
    )

-- m and x are z apart
abbrev pub Apart : ℕ → ℕ → ℕ → Type 0
Apart m x z = (x + z ≡ m) ⊎ (m + z ≡ x)

cubic : (m x g z d : ℕ) → Apart m x z → 199 * z ≤ m → 2000 * d ≤ m → g + x ≤ 3 * m + d → 3 * m ≤ g + x + d → Cube m x g z d
cubic m x g z d (inl e) near few hi lo = subst (λ t. Cube t x g z d) e (below x z g d (omega (arith, e)) (omega (arith, e)) (omega (arith, e)) (omega (arith, e)))
cubic m x g z d (inr e) near few hi lo = go (le_dest {n = z} {m = m} (omega (arith, e)))
  where
    go : (y : ℕ) × (z + y ≡ m) → Cube m x g z d
    go y = subst₂ (λ s t. Cube s t g z d) em ex (above y.0 z g d (omega (arith, e, y.1)) (omega (arith, e, y.1)) (omega (arith, e, y.1)) (omega (arith, e, y.1)))
      where
        em : y.0 + z ≡ m
        em = omega (arith, y.1)

        ex : y.0 + 2 * z ≡ x
        ex = omega (arith, y.1, e)

-- The same where the error of g is a part c / k of m: all is counted k times.
pub cubic_within : (k c m x g : ℕ) → 2000 * c ≤ k → Near 199 m x → k * (g + x) ≤ k * (3 * m) + c * m → k * (3 * m) ≤ k * (g + x) + c * m
    → (z : ℕ) × Apart m x z × Cube (k * m) (k * x) (k * g) (k * z) (c * m)
cubic_within k c m x g few near hi lo = elim (order x m) [ inl h ↦ low (le_dest h) | inr h ↦ high (le_dest (le_of_lt h)) ]
  where
    part : 2000 * (c * m) ≤ k * m
    part = omega (arith, mul-le-mul_right m few)

    low : (z : ℕ) × (x + z ≡ m) → (z : ℕ) × Apart m x z × Cube (k * m) (k * x) (k * g) (k * z) (c * m)
    low z = (z.0, inl z.1, cubic (k * m) (k * x) (k * g) (k * z.0) (c * m) (inl e) (omega (arith, mul-le-mul_left k small)) part (omega (arith, hi)) (omega (arith, lo)))
      where
        small : 199 * z.0 ≤ m
        small = omega (arith, z.1, near)

        e : k * x + k * z.0 ≡ k * m
        e = omega (arith, ap (λ t. k * t) z.1)

    high : (z : ℕ) × (m + z ≡ x) → (z : ℕ) × Apart m x z × Cube (k * m) (k * x) (k * g) (k * z) (c * m)
    high z = (z.0, inr z.1, cubic (k * m) (k * x) (k * g) (k * z.0) (c * m) (inr e) (omega (arith, mul-le-mul_left k small)) part (omega (arith, hi)) (omega (arith, lo)))
      where
        small : 199 * z.0 ≤ m
        small = omega (arith, z.1, near)

        e : k * m + k * z.0 ≡ k * x
        e = omega (arith, ap (λ t. k * t) z.1)

-- how large z is
pub apart_small : (j m x z : ℕ) → Near j m x → Apart m x z → j * z ≤ m
apart_small j m x z near (inl e) = omega (arith, near.1, ap (λ t. j * t) e)
apart_small j m x z near (inr e) = omega (arith, near.0, ap (λ t. j * t) e)
