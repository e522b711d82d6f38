-- How large the exact sums of a sheet's steps are: zero, or between 2 ^ -c and 2 ^ c. One is W; a sum is counted in W².
-- A difference of two numbers of few bits is zero or not much less than they are, since such numbers keep a distance.
use Rattle.std.proofs.Common.{◌≡◌, ℕ, zero, suc, ◌+◌, ◌*◌, ◌^◌, ◌<◌, ◌≤◌, Bool, true, false, ◌⊎◌, sym, ap, ◌∙◌, subst, inl, inr, mul-le-mul_right, mul-le-mul, mul-le-mul_left, mul-pos, le_of_mul-le-mul_right, arith, pow_mono, pow-add}
use native.Mathlib.Nat.{pow-succ'}
use Rattle.std.proofs.lemmas.Nat.{mul-lt}
use Rattle.registers.specs.Laws.{Bits}
use Rattle.registers.specs.Lines.{Sum}
use Rattle.registers.proofs.Granted.{Sized, Within}
use Rattle.registers.proofs.Near.{Near30}
use Rattle.registers.proofs.Spacing.{order, spacing}
use Rattle.sheets.proofs.Correction.{sum_most}
use Rattle.sheets.proofs.RootNear.{sq_le}

-- ---- bits

-- a product of two numbers has the bits of both
pub both_bits : (i j : ℕ) {x y : ℕ} → Bits i x → Bits j y → Bits (i + j) (x * y)
both_bits i j {x} {y} p q = record {
  part = p.part * q.part;
  exp = p.exp + q.exp;
  fits = subst (λ t. p.part * q.part < t) (sym (pow-add 2 i j)) (mul-lt p.part q.part (2 ^ i) (2 ^ j) p.fits q.fits);
  is = omega (arith, ap (λ t. t * y) p.is, ap (λ t. p.part * 2 ^ p.exp * t) q.is, ap (λ t. p.part * q.part * t) (pow-add 2 p.exp q.exp));
}

-- a power of two has one bit, and as a factor changes none
pub power_bits : (k e : ℕ) → 1 ≤ k → Bits k (2 ^ e)
power_bits k e h = record { part = 1; exp = e; fits = pow_mono {i = 1} h; is = omega arith }

pub shifted_bits : (k w : ℕ) {x : ℕ} → Bits k x → Bits k (x * 2 ^ w)
shifted_bits k w {x} b = record { part = b.part; exp = b.exp + w; fits = b.fits; is = omega (arith, ap (λ t. t * 2 ^ w) b.is, ap (λ t. b.part * t) (pow-add 2 b.exp w)) }

pub more_bits : (j k : ℕ) → j ≤ k → {x : ℕ} → Bits j x → Bits k x
more_bits j k h b = record { part = b.part; exp = b.exp; fits = omega (arith, b.fits, pow_mono h); is = b.is }

none_or : (n : ℕ) → (n ≡ zero) ⊎ (zero < n)
none_or n = elim (order n zero) [ inl h ↦ inl (omega arith) | inr h ↦ inr h ]

-- ---- sums

module _ (W : ℕ) (pos : zero < W) where
  -- r - x·y
  module _ (i j c r x y : ℕ)
      (r-bits : Bits (i + j) (r * (W * W)))
      (x-bits : Bits i (x * W))
      (y-bits : Bits j (y * W))
      (near : x * y ≤ 2 * r)
      (least : W * W ≤ r * 2 ^ c)
      (most : r ≤ W * W * 2 ^ c)
    where
      product_bits : Bits (i + j) (x * y * (W * W))
      product_bits = subst (Bits (i + j)) (omega arith) (both_bits i j x-bits y-bits)

      far : (n : ℕ) → r * (W * W) ≤ 2 ^ (i + j) * (n * (W * W)) → r ≤ 2 ^ (i + j) * n
      far n h = le_of_mul-le-mul_right {k = W * W} (omega (arith, h)) (mul-pos pos pos)

      apart_by : (s : Bool) (n : ℕ) → Sum false r true (x * y) s n → zero < n → (r ≤ 2 ^ (i + j) * n) × (n ≤ r)
      apart_by false n e k = (far n (omega (arith, ap (λ t. 2 ^ (i + j) * t) scaled, spacing (i + j) product_bits r-bits (omega (arith, scaled, mul-pos k (mul-pos pos pos))))), omega (arith, e))
        where
          scaled : r * (W * W) ≡ x * y * (W * W) + n * (W * W)
          scaled = ap (λ t. t * (W * W)) {x = r} {y = x * y + n} (omega (arith, e)) ∙ omega arith
      apart_by true n e k = (far n (omega (arith, scaled, ap (λ t. 2 ^ (i + j) * t) scaled, spacing (i + j) r-bits product_bits (omega (arith, scaled, mul-pos k (mul-pos pos pos))))), omega (arith, e, near))
        where
          scaled : r * (W * W) + n * (W * W) ≡ x * y * (W * W)
          scaled = sym (ap (λ t. t * (W * W)) {x = x * y} {y = r + n} (omega (arith, e)) ∙ omega arith)

      pub residual_size : (s : Bool) (n : ℕ) → Sum false r true (x * y) s n → Sized W (c + (i + j)) n
      residual_size s n e = elim (none_or n) [ inl z ↦ inl z | inr k ↦ inr (low (apart_by s n e k).0, high (apart_by s n e k).1) ]
        where
          low : r ≤ 2 ^ (i + j) * n → W * W ≤ n * 2 ^ (c + (i + j))
          low h = omega (arith, least, mul-le-mul_right (2 ^ c) h, ap (λ t. n * t) (pow-add 2 c (i + j)))

          high : n ≤ r → n ≤ W * W * 2 ^ (c + (i + j))
          high h = omega (arith, most, h, mul-le-mul_left (W * W) (pow_mono {i = c} {j = c + (i + j)} (omega arith)))

  -- e + e·e, where e comes from an exact sum n0
  pub square_size : (n0 E : ℕ) (s t : Bool) (n : ℕ) → Sized W 54 n0 → Near30 n0 (E * W) → 399 * E ≤ W → Sum s (E * W) false (E * E) t n → Sized W 56 n
  square_size n0 E s t n (inl z) r sm e = inl (omega (arith, nothing, sum_most s false t (E * W) (E * E) n e, mul-le-mul_left E sm))
    where
      nothing : E * W ≡ zero
      nothing = omega (arith, r.0, z)
  square_size n0 E s t n (inr b) r sm e = go s t e
    where
      sq : E * (399 * E) ≤ E * W
      sq = mul-le-mul_left E sm

      go : (s t : Bool) → Sum s (E * W) false (E * E) t n → Sized W 56 n
      go false false e = inr (omega (arith, b.0, r.1, sq), omega (arith, mul-le-mul_left W sm, sq))
      go false true e = inl (omega (arith, sq))
      go true false e = inl (omega (arith, sq))
      go true true e = inr (omega (arith, b.0, r.1, sq), omega (arith, mul-le-mul_left W sm, sq))

  -- x + d·x
  pub grown_size : (c x d : ℕ) → 2 * d ≤ W → W ≤ x * 2 ^ c → x ≤ W * 2 ^ c → (s t : Bool) (n : ℕ) → Sum false (x * W) s (d * x) t n → Sized W (suc c) n
  grown_size c x d sm lo hi s t n e = go s t e
    where
      part : 2 * d * x ≤ W * x
      part = mul-le-mul_right x sm

      two : 2 ^ suc c ≡ 2 * 2 ^ c
      two = pow-succ' 2 c

      go : (s t : Bool) → Sum false (x * W) s (d * x) t n → Sized W (suc c) n
      go false false e = inr (omega (arith, mul-le-mul_right W lo, ap (λ z. n * z) two, mul-le-mul_right {m = x * W} {n = n} (2 ^ c) (omega (arith, e))), omega (arith, part, mul-le-mul_right W hi, ap (λ z. W * W * z) two))
      go false true e = inl (omega arith)
      go true false e = inr (omega (arith, mul-le-mul_right W lo, ap (λ z. n * z) two, mul-le-mul_right {m = x * W} {n = 2 * n} (2 ^ c) (omega (arith, e, part))), omega (arith, part, mul-le-mul_right W hi, ap (λ z. W * W * z) two))
      go true true e = inl (omega (arith, part))

  -- x·y
  pub product_size : (c d x y : ℕ) → W ≤ x * 2 ^ c → x ≤ W * 2 ^ c → W ≤ y * 2 ^ d → y ≤ W * 2 ^ d → (t : Bool) (n : ℕ) → Sum false (zero * W) false (x * y) t n → Sized W (c + d) n
  product_size c d x y lx hx ly hy t n e = go t e
    where
      go : (t : Bool) → Sum false (zero * W) false (x * y) t n → Sized W (c + d) n
      go false e = inr (
        omega (arith, mul-le-mul lx ly, ap (λ z. n * z) (pow-add 2 c d), ap (λ z. z * (2 ^ c * 2 ^ d)) {x = n} {y = x * y} (omega (arith, e))),
        omega (arith, e, mul-le-mul hx hy, ap (λ z. W * W * z) (pow-add 2 c d)),
      )
      go true e = inl (omega arith)

  -- ---- ranges of lines

  -- near a reciprocal of b
  pub reciprocal_range : (b y : ℕ) → W ≤ b * 2 ^ 149 → b ≤ W * 2 ^ 128 → W * W ≤ 2 * (b * y) → b * y ≤ 2 * (W * W) → (W ≤ y * 2 ^ 150) × (y ≤ W * 2 ^ 150)
  reciprocal_range b y l h lo hi = (
    le_of_mul-le-mul_right {k = W} (omega (arith, lo, mul-le-mul_right y h)) pos,
    le_of_mul-le-mul_right {k = W} (omega (arith, hi, mul-le-mul_right y l)) pos,
  )

  -- near the root of a
  pub root_range : (a s : ℕ) → W ≤ a * 2 ^ 149 → a ≤ W * 2 ^ 128 → a * W ≤ 2 * (s * s) → s * s ≤ 2 * (a * W) → (W ≤ s * 2 ^ 75) × (s ≤ W * 2 ^ 75)
  root_range a s l h lo hi = (
    sq_le _ _ (omega (arith, lo, mul-le-mul_right W l)),
    sq_le _ _ (omega (arith, hi, mul-le-mul_right W h)),
  )

  -- near the root of a, in squared units
  pub sum_range : (a n : ℕ) → W ≤ a * 2 ^ 149 → a ≤ W * 2 ^ 128 → a * W * (W * W) ≤ 2 * (n * n) → n * n ≤ 2 * (a * W * (W * W)) → (W * W ≤ n * 2 ^ 75) × (n ≤ W * W * 2 ^ 75)
  sum_range a n l h lo hi = (
    sq_le _ _ (omega (arith, lo, mul-le-mul_right (W * (W * W)) l)),
    sq_le _ _ (omega (arith, hi, mul-le-mul_right (W * (W * W)) h)),
  )

  -- near the reciprocal of the root of a, or half of it
  pub inverse_range : (a h : ℕ) → W ≤ a * 2 ^ 149 → a ≤ W * 2 ^ 128 → W * W * W ≤ 8 * (a * (h * h)) → a * (h * h) ≤ 2 * (W * W * W) → (W ≤ h * 2 ^ 75) × (h ≤ W * 2 ^ 75)
  inverse_range a h l m lo hi = (
    sq_le _ _ (le_of_mul-le-mul_right {k = W} (omega (arith, lo, mul-le-mul_right (h * h) m)) pos),
    sq_le _ _ (le_of_mul-le-mul_right {k = W} (omega (arith, hi, mul-le-mul_right (h * h) l)) pos),
  )

  -- a range is one where more is allowed
  pub wider : (c d : ℕ) → c ≤ d → (x : ℕ) → Within W c x → Within W d x
  wider c d h x (inl z) = inl z
  wider c d h x (inr b) = inr (omega (arith, b.0, mul-le-mul_left x (pow_mono h)), omega (arith, b.1, mul-le-mul_left W (pow_mono h)))
