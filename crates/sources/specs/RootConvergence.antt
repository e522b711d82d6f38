-- How close the reciprocal root comes. A round takes z to z·(3 - t·z²)/2, after which t·z² is off by about three quarters of the square of what it was off before; the line starts within 9 parts in 50 of t·z² = 1.
use Rattle.std.specs.Prelude.{◌≡◌, ℕ, zero, ◌+◌, ◌-◌, ◌*◌, ◌^◌, ◌<◌, ◌≤◌, Bool, true, false, ◌⊎◌, refl}
use Rattle.std.proofs.Common.{mul-le-mul, mul-le-mul_left, le_of_mul-le-mul_right, lt_of_mul-lt-mul_right, mul-pos, le_of_lt, arith, subst, subst₂}
use Rattle.std.proofs.Math.Nat.{mul-le-mul_right, le_dest}
use Rattle.std.proofs.Math.Path.{ap}
use Rattle.std.proofs.Math.Logic.{inl, inr}
use Rattle.registers.specs.Lines.{FusedLine}
use Rattle.registers.proofs.Near.{Near30}
use Rattle.registers.proofs.Spacing.{order}
use Rattle.registers.proofs.Signs.{Line, line_of}
use Rattle.sources.specs.Convergence.{InverseRoot, RootRound, RootBetters}
use Rattle.sources.specs.Nonnegative.{Plain, plus, minus, positive}
use Rattle.sources.specs.Squared.{Apart}
use Rattle.sources.specs.Cubed.{Factor₃, betters₃_most, betters₃_least}

-- x is m up to q / p of it
abbrev pub Within : ℕ → ℕ → ℕ → ℕ → Type 0
Within p q M X = (p * X ≤ p * M + q * M) × (p * M ≤ p * X + q * M)

-- what one round makes of a seed whose square times t is one up to q / p
pub record Bettered (p q W T : ℕ) (s : Bool) (Z' : ℕ) : Type 0 where
  pub sign : s ≡ false
  pub most : 2 ^ 27 * (T * Z' * Z') ≤ 2 ^ 27 * (W * W * W) + W * W * W
  pub least : 2 ^ 27 * (4 * (p * p * p * (W * W * W))) ≤ 2 ^ 27 * (4 * (p * p * p * (T * Z' * Z'))) + 2 ^ 27 * ((3 * p + q) * (q * q) * (W * W * W)) + 4 * (p * p * p * (W * W * W))

gap_of : (M X : ℕ) → (z : ℕ) × Apart M X z
gap_of M X = elim (order X M) [ inl h ↦ below (le_dest h) | inr h ↦ above (le_dest (le_of_lt h)) ]
  where
    below : (z : ℕ) × (X + z ≡ M) → (z : ℕ) × Apart M X z
    below z = (z.0, inl z.1)

    above : (z : ℕ) × (M + z ≡ X) → (z : ℕ) × Apart M X z
    above z = (z.0, inr z.1)

gap_within : (p q M X z : ℕ) → Apart M X z → Within p q M X → p * z ≤ q * M
gap_within p q M X z (inl h) w = omega (arith, w.1, ap (λ x. p * x) h)
gap_within p q M X z (inr h) w = omega (arith, w.0, ap (λ x. p * x) h)

module _ (p q W U T Z : ℕ)
    (one : zero < W)
    (halves : W ≡ 2 * U)
    (small : Within 5 1 (W * W * W) (T * Z * Z))
    (close : Within p q (W * W * W) (T * Z * Z))
  where
    cube : zero < W * W * W
    cube = mul-pos (mul-pos one one) one

    some_z : zero < Z
    some_z = positive Z (λ e. omega (arith, small.1, cube, ap (λ z. T * Z * z) e))

    ww : W * W ≡ 2 * (U * W)
    ww = omega (arith, ap (λ x. x * W) halves)

    module _ (h S : ℕ) (halved : Z ≡ 2 * h) (near_s : Near30 (T * Z) (S * W)) where
      -- s z is t z²
      p_hi : 2 ^ 30 * (S * Z * W) ≤ 2 ^ 30 * (T * Z * Z) + T * Z * Z
      p_hi = omega (arith, mul-le-mul_right Z near_s.0)

      p_lo : 2 ^ 30 * (T * Z * Z) ≤ 2 ^ 30 * (S * Z * W) + T * Z * Z
      p_lo = omega (arith, mul-le-mul_right Z near_s.1)

      sz : S * Z ≡ 2 * (S * h)
      sz = omega (arith, ap (λ x. S * x) halved)

      -- d is n rounded, n is how far s z / 2 is from a half, and f is 1 + d or 1 - d
      Turned : ℕ → ℕ → ℕ → Type 0
      Turned n d f = ((2 * n + S * Z ≡ W * W) × (f ≡ W + d)) ⊎ ((2 * n + W * W ≡ S * Z) × (f + d ≡ W))

      module _ (n d f : ℕ) (turned : Turned n d f) (near_d : Near30 n (d * W)) where
        n_small : 10 * (2 * n * W) ≤ 3 * (W * W * W)
        unfolding Turned
        n_small = elim turned [ inl l ↦ omega (arith, small.1, small.0, p_lo, ap (λ x. x * W) l.0) | inr l ↦ omega (arith, small.0, p_hi, ap (λ x. x * W) l.0) ]

        factor : (2 ^ 30 * (2 * (f * W) + S * Z) ≤ 2 ^ 30 * (3 * (W * W)) + 2 * n) × (2 ^ 30 * (3 * (W * W)) ≤ 2 ^ 30 * (2 * (f * W) + S * Z) + 2 * n)
        unfolding Turned
        factor = elim turned [ inl l ↦ (omega (arith, l.0, near_d.0, ap (λ x. x * W) l.1), omega (arith, l.0, near_d.1, ap (λ x. x * W) l.1)) | inr l ↦ (omega (arith, l.0, near_d.1, ap (λ x. x * W) l.1), omega (arith, l.0, near_d.0, ap (λ x. x * W) l.1)) ]

        factor₃ : Factor₃ (W * W * W) (T * Z * Z) (2 * (f * W) * W)
        factor₃ = (omega (arith, p_lo, small.0, n_small, mul-le-mul_right W factor.0), omega (arith, p_hi, small.0, n_small, mul-le-mul_right W factor.1))

        close_by : (s : Bool) (Z' : ℕ) → Plain (Z * f) W s Z' → Bettered p q W T s Z'
        close_by s Z' r = let g = gap_of (W * W * W) (T * Z * Z) in
            record {
              sign = r.sign;
              most = betters₃_most p q (W * W * W) (T * Z * Z) g.0 (2 * (f * W) * W) (T * Z' * Z') cube g.1 (fifth g.0 g.1) (gap_within p q (W * W * W) (T * Z * Z) g.0 g.1 close) factor₃ hi lo;
              least = betters₃_least p q (W * W * W) (T * Z * Z) g.0 (2 * (f * W) * W) (T * Z' * Z') cube g.1 (fifth g.0 g.1) (gap_within p q (W * W * W) (T * Z * Z) g.0 g.1 close) factor₃ hi lo;
            }
          where
            fifth : (z : ℕ) → Apart (W * W * W) (T * Z * Z) z → 5 * z ≤ W * W * W
            fifth z a = omega (arith, gap_within 5 1 (W * W * W) (T * Z * Z) z a small)

            hi : 2 ^ 60 * (4 * (T * Z' * Z') * (W * W * W * (W * W * W))) ≤ (2 ^ 30 + 1) * (2 ^ 30 + 1) * (T * Z * Z * (2 * (f * W) * W * (2 * (f * W) * W)))
            hi = omega (arith, mul-le-mul_left (4 * T * (W * W * (W * W))) (mul-le-mul r.near.0 r.near.0))

            low : (2 ^ 30 - 1) * (Z * f) ≤ 2 ^ 30 * (Z' * W)
            low = omega (arith, r.near.1)

            lo : (2 ^ 30 - 1) * (2 ^ 30 - 1) * (T * Z * Z * (2 * (f * W) * W * (2 * (f * W) * W))) ≤ 2 ^ 60 * (4 * (T * Z' * Z') * (W * W * W * (W * W * W)))
            lo = omega (arith, mul-le-mul_left (4 * T * (W * W * (W * W))) (mul-le-mul low low))

      less : (d : ℕ) → Line 30 W false U true (S * h) false d → (s : Bool) (Z' : ℕ) → Line 30 W false Z false (d * Z) s Z' → Bettered p q W T s Z'
      unfolding Turned
      less d l s Z' m = close_by l.n d (W + d) (inl (omega (arith, l.sum, ww, sz), refl)) l.line.near s Z'
          (subst (λ x. Plain x W s Z') (omega arith) (plus W Z (d * Z) s Z' one m))

      over : (d : ℕ) → Line 30 W false U true (S * h) true d → (s : Bool) (Z' : ℕ) → Line 30 W false Z true (d * Z) s Z' → Bettered p q W T s Z'
      unfolding Turned
      over d l s Z' m = go (le_dest {n = d} {m = W} (omega (arith, d<))) (minus W Z (d * Z) s Z' (omega (arith, mul-le-mul_right Z d<, some_z)) m)
        where
          gap : 2 * l.n + W * W ≡ S * Z
          gap = omega (arith, l.sum, ww, sz)

          n_less : 10 * (2 * l.n) ≤ 3 * (W * W)
          n_less = le_of_mul-le-mul_right {k = W} (omega (arith, small.0, p_hi, ap (λ x. x * W) gap)) one

          d< : d < W
          d< = lt_of_mul-lt-mul_right W (omega (arith, n_less, l.line.near.0, mul-pos one one))

          go : (f : ℕ) × (d + f ≡ W) → (n : ℕ) × (n + d * Z ≡ Z * W) × Plain n W s Z' → Bettered p q W T s Z'
          go f n = close_by l.n d f.0 (inr (gap, omega (arith, f.1))) l.line.near s Z'
              (subst (λ x. Plain x W s Z') (omega (arith, n.1, ap (λ x. x * Z) f.1)) n.2)

      ways : (t : Bool) (d : ℕ) → Line 30 W false U true (S * h) t d → (s : Bool) (Z' : ℕ) → Line 30 W false Z t (d * Z) s Z' → Bettered p q W T s Z'
      ways false = less
      ways true = over

    pub round : (s : Bool) (Z' : ℕ) → RootRound W U T Z s Z' → Bettered p q W T s Z'
    round s Z' r = ways r.h r.product r.halved near_s r.sign r.d (line_of 30 (omega arith) r.rest) s Z' (line_of 30 (omega arith) r.next)
      where
        near_s : Near30 (T * Z) (r.product * W)
        near_s = subst (λ x. Near30 x (r.product * W)) (omega arith) (plus W zero (T * Z) r.sign_s r.product one (line_of 30 (omega arith) r.line_s)).near

-- from one part in K, K at least 29: the square is within 1/14
pub within_of : (K W T Z : ℕ) → 29 ≤ K → InverseRoot K W T Z → Within 14 1 (W * W * W) (T * Z * Z)
within_of K W T Z big c = (
  le_of_mul-le-mul_right {k = K * K} (omega (arith, c.most, mul-le-mul_right (W * W * W) square)) (omega (arith, square)),
  le_of_mul-le-mul_right {k = K * K} (omega (arith, least (le_dest {n = 1} {m = K} (omega arith)), mul-le-mul_right (W * W * W) square)) (omega (arith, square)),
)
  where
    square : 14 * (2 * K + 1) ≤ K * K
    square = omega (arith, mul-le-mul_right K big)

    from : (j : ℕ) → (1 + j - 1) * (1 + j - 1) * (W * W * W) ≤ (1 + j) * (1 + j) * (T * Z * Z) → ((1 + j) * (1 + j) + 1) * (W * W * W) ≤ (1 + j) * (1 + j) * (T * Z * Z) + 2 * (1 + j) * (W * W * W)
    from j x = omega (arith, subst (λ i. i * i * (W * W * W) ≤ (1 + j) * (1 + j) * (T * Z * Z)) same x)
      where
        same : 1 + j - 1 ≡ j
        same = omega arith

    least : (j : ℕ) × (1 + j ≡ K) → (K * K + 1) * (W * W * W) ≤ K * K * (T * Z * Z) + 2 * K * (W * W * W)
    least j = subst (λ k. (k - 1) * (k - 1) * (W * W * W) ≤ k * k * (T * Z * Z) → (k * k + 1) * (W * W * W) ≤ k * k * (T * Z * Z) + 2 * k * (W * W * W)) j.1 (from j.0) c.least

pub root_betters : RootBetters
root_betters K W U T Z one halves big c s Z' r = (b.sign, record { most = omega (arith, b.most); least = omega (arith, b.least) })
  where
    w : Within 14 1 (W * W * W) (T * Z * Z)
    w = within_of K W T Z big c

    b : Bettered 14 1 W T s Z'
    b = round 14 1 W U T Z one halves (omega (arith, w.0), omega (arith, w.1)) w s Z' r

-- the start: t (7 - t)² lies between 36 and 1372/27
most_of : (p g : ℕ) → 27 * (p * (g * g)) ≤ (p + 2 * g) * ((p + 2 * g) * (p + 2 * g))
most_of p g = elim (order p g) [ inl h ↦ up (le_dest h) | inr h ↦ down (le_dest {n = g} {m = p} (omega (arith, h))) ]
  where
    up : (x : ℕ) × (p + x ≡ g) → 27 * (p * (g * g)) ≤ (p + 2 * g) * ((p + 2 * g) * (p + 2 * g))
    up x = subst (λ g. 27 * (p * (g * g)) ≤ (p + 2 * g) * ((p + 2 * g) * (p + 2 * g))) x.1 (omega arith)

    down : (x : ℕ) × (g + x ≡ p) → 27 * (p * (g * g)) ≤ (p + 2 * g) * ((p + 2 * g) * (p + 2 * g))
    down x = subst (λ p. 27 * (p * (g * g)) ≤ (p + 2 * g) * ((p + 2 * g) * (p + 2 * g))) x.1 (omega arith)

least_of : (p q : ℕ) → 36 * ((p + q) * ((p + q) * (p + q))) ≤ (4 * p + q) * ((3 * p + 6 * q) * (3 * p + 6 * q))
least_of p q = omega arith

module _ (W T R C : ℕ)
    (one : zero < W)
    (low : W ≤ T)
    (high : T ≤ 4 * W)
    (r : 256 * R ≡ 273 * W)
    (c : 256 * C ≡ 39 * W)
  where
    fits : C * T < R * W
    fits = omega (arith, ap (λ x. x * W) r, ap (λ x. x * T) c, mul-le-mul_right W high, mul-pos one one)

    module _ (g : ℕ) (eg : T + g ≡ 7 * W) where
      most : 27 * (T * (g * g)) ≤ 1372 * (W * W * W)
      most = omega (arith, subst (λ x. 27 * (2 * T * (g * g)) ≤ x * (x * x)) e (most_of (2 * T) g))
        where
          e : 2 * T + 2 * g ≡ 14 * W
          e = omega (arith, eg)

      least : 36 * (W * W * W) ≤ T * (g * g)
      least = go (le_dest low) (le_dest high)
        where
          go : (p : ℕ) × (W + p ≡ T) → (q : ℕ) × (T + q ≡ 4 * W) → 36 * (W * W * W) ≤ T * (g * g)
          go p q = omega (arith, subst (λ x. 36 * (x * (x * x)) ≤ 3 * T * (3 * g * (3 * g))) ew (subst₂ (λ y z. 36 * ((p.0 + q.0) * ((p.0 + q.0) * (p.0 + q.0))) ≤ y * (z * z)) et eg' (least_of p.0 q.0)))
            where
              ew : p.0 + q.0 ≡ 3 * W
              ew = omega (arith, p.1, q.1)

              et : 4 * p.0 + q.0 ≡ 3 * T
              et = omega (arith, p.1, q.1)

              eg' : 3 * p.0 + 6 * q.0 ≡ 3 * g
              eg' = omega (arith, p.1, q.1, eg)

      start : (n Z : ℕ) → n + C * T ≡ R * W → Near30 n (Z * W) → Within 50 9 (W * W * W) (T * Z * Z)
      start n Z e near = (omega (arith, hi, most), omega (arith, lo, least))
        where
          line : 256 * n ≡ 39 * (W * g)
          line = omega (arith, ap (λ x. x * W) r, ap (λ x. x * T) c, e, ap (λ x. x * W) eg)

          up : 2 ^ 30 * (256 * Z) ≤ (2 ^ 30 + 1) * (39 * g)
          up = le_of_mul-le-mul_right {k = W} (omega (arith, near.0, line)) one

          down : (2 ^ 30 - 1) * (39 * g) ≤ 2 ^ 30 * (256 * Z)
          down = le_of_mul-le-mul_right {k = W} (omega (arith, near.1, line)) one

          hi : 2 ^ 60 * (65536 * (T * Z * Z)) ≤ (2 ^ 30 + 1) * (2 ^ 30 + 1) * (1521 * (T * (g * g)))
          hi = omega (arith, mul-le-mul_left T (mul-le-mul up up))

          lo : (2 ^ 30 - 1) * (2 ^ 30 - 1) * (1521 * (T * (g * g))) ≤ 2 ^ 60 * (65536 * (T * Z * Z))
          lo = omega (arith, mul-le-mul_left T (mul-le-mul down down))

    pub started : (s : Bool) (Z : ℕ) → FusedLine 30 W false R true (C * T) s Z → (s ≡ false) × Within 50 9 (W * W * W) (T * Z * Z)
    started s Z f = let n = minus W R (C * T) s Z fits (line_of 30 (omega arith) f) in
        let g = le_dest {n = T} {m = 7 * W} (omega arith) in
        (n.2.sign, start g.0 g.1 n.0 Z n.1 n.2.near)

    module _ (U : ℕ) (halves : W ≡ 2 * U) where
      pub first : (s : Bool) (Z Z' : ℕ) → Within 50 9 (W * W * W) (T * Z * Z) → RootRound W U T Z s Z' → (s ≡ false) × Within 38 1 (W * W * W) (T * Z' * Z')
      first s Z Z' h x = let b = round 50 9 W U T Z one halves (omega (arith, h), omega (arith, h)) h s Z' x in (b.sign, (omega (arith, b.most), omega (arith, b.least)))

      pub second : (s : Bool) (Z Z' : ℕ) → Within 38 1 (W * W * W) (T * Z * Z) → RootRound W U T Z s Z' → (s ≡ false) × Within 1000 1 (W * W * W) (T * Z' * Z')
      second s Z Z' h x = let b = round 38 1 W U T Z one halves (omega (arith, h), omega (arith, h)) h s Z' x in (b.sign, (omega (arith, b.most), omega (arith, b.least)))
