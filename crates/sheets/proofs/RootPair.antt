-- The two rounds of a root, with the signs of their lines: h is half the inverse of the root of a, s the root, and both are improved by d = 1/2 - s·h.
-- One is W = 2·U.
use Rattle.std.proofs.Common.{◌≡◌, ℕ, zero, ◌+◌, ◌-◌, ◌*◌, ◌^◌, ◌<◌, ◌≤◌, Bool, true, false, refl, ap, subst, inl, inr, mul-le-mul_right, mul-le-mul, mul-le-mul_left, mul-pos, le_of_mul-le-mul_right, arith}
use native.Mathlib.Nat.{le_dest}
use Rattle.registers.specs.Lines.{Sum}
use Rattle.registers.proofs.Near.{Near, Near30}
use Rattle.registers.proofs.Spacing.{order}
use Rattle.registers.proofs.Signs.{Line, upright}
use Rattle.sheets.proofs.Correction.{left_over, sum_plus, correction}
use Rattle.sheets.proofs.Inverse.{firm}
use Rattle.sheets.proofs.RootStages.{Half, first, twin, second}
use Rattle.sheets.proofs.RootSquare.{squared, square_most}

pub some_of : (n : ℕ) → (n ≡ zero → ⊥) → zero < n
some_of n h = elim (order n zero) [ inl k ↦ absurd (h (omega (arith, k))) | inr k ↦ k ]

-- ---- one round: d = 1/2 - s·h, and x + d·x is x times the factor f = 1 + d, rounded

-- d and its factor
pub record Factor (W S H : ℕ) (s : Bool) (D : ℕ) : Type 0 where
  pub n : ℕ
  pub f : ℕ
  pub half : Half W (S * H) n D f
  pub near : Near30 n (D * W)
  pub grows : (K : ℕ) → zero < K → (t : Bool) (K' : ℕ) → Line 30 W false K s (D * K) t K' → Near30 (K * f) (K' * W)
  pub small : 2 * D ≤ W

module _ (W U S H : ℕ) (one : zero < W) (two : W ≡ 2 * U) (least : 99 * (W * W) ≤ 100 * (2 * (S * H))) (most : 100 * (2 * (S * H)) ≤ 101 * (W * W)) where
  ww : W * W ≡ 2 * (U * W)
  ww = omega (arith, ap (λ x. x * W) two)

  -- d is far below one
  d_small : (n d : ℕ) → 200 * n ≤ W * W → Near30 n (d * W) → 2 * d ≤ W
  d_small n d h r = le_of_mul-le-mul_right {k = W} (omega arith) one

  pub factor_of : (s : Bool) (D : ℕ) → Line 30 W false U true (S * H) s D → Factor W S H s D
  factor_of false D l = record {
    n = l.n;
    f = W + D;
    half = inl (omega (arith, l.sum, ww), refl);
    near = l.line.near;
    grows = λ K pos t K' g. subst (λ x. Near30 x (K' * W)) (omega arith) (upright 30 W K (D * K) t K' g).near;
    small = d_small l.n D (omega (arith, l.sum, ww, least)) l.line.near;
  }
  factor_of true D l = by (le_dest {n = D} {m = W} (omega (arith, small)))
    where
      small : 2 * D ≤ W
      small = d_small l.n D (omega (arith, l.sum, ww, most)) l.line.near

      by : (f : ℕ) × (D + f ≡ W) → Factor W S H true D
      by f = record {
        n = l.n;
        f = f.0;
        half = inr (omega (arith, l.sum, ww), omega (arith, f.1));
        near = l.line.near;
        grows = λ K pos t K' g.
            let h = firm 30 W K (D * K) t K' (omega (arith, mul-le-mul_right K small, mul-pos pos one)) g in
            subst (λ x. Near30 x (K' * W)) (omega (arith, h.1, ap (λ x. x * K) f.1)) h.2.near;
        small = small;
      }

-- ---- the first round

-- h and s after it
pub record Paired (W A H S : ℕ) : Type 0 where
  pub one : zero < W
  pub some_a : zero < A
  pub some_h : zero < H
  pub most : 2 ^ 30 * (4 * (A * (H * H))) ≤ 2 ^ 30 * (W * W * W) + 6 * (W * W * W)
  pub least : 52000 * (W * W * W) ≤ 52000 * (4 * (A * (H * H))) + W * W * W
  pub twin : Near (2 ^ 28) (2 * (A * H)) (S * W)

-- a seed that is the inverse of the root of a up to one part in 400, by its half h0
pub record Close (W U A H0 : ℕ) : Type 0 where
  pub one : zero < W
  pub halves : W ≡ 2 * U
  pub least : 159201 * (W * W * W) ≤ 160000 * (A * (2 * H0) * (2 * H0))
  pub most : 160000 * (A * (2 * H0) * (2 * H0)) ≤ 160801 * (W * W * W)

module _ {W U A H0 : ℕ} (c : Close W U A H0) where
  one : zero < W
  one = c.one

  lo : 159201 * (W * W * W) ≤ 160000 * (A * (2 * H0) * (2 * H0))
  lo = c.least

  hi : 160000 * (A * (2 * H0) * (2 * H0)) ≤ 160801 * (W * W * W)
  hi = c.most

  cube : zero < W * W * W
  cube = mul-pos (mul-pos one one) one

  some_a : zero < A
  some_a = some_of A (λ h. omega (arith, cube, lo, ap (λ x. x * (H0 * H0)) h))

  pub some_h0 : zero < H0
  some_h0 = some_of H0 (λ h. omega (arith, cube, lo, ap (λ x. x * (A * H0)) h))

  module _ {z0 : Bool} {S0 : ℕ} (line-s0 : Line 30 W false zero false (A * (2 * H0)) z0 S0) where
    rs0 : Near30 (A * (2 * H0)) (S0 * W)
    rs0 = subst (λ x. Near30 x (S0 * W)) (omega arith) (upright 30 W zero (A * (2 * H0)) z0 S0 line-s0).near

    pub some_s0 : zero < S0
    some_s0 = some_of S0 (λ h. omega (arith, rs0.1, ap (λ x. x * W) h, mul-pos some_a some_h0))

    pub p0_most : 100 * (2 * (S0 * H0)) ≤ 101 * (W * W)
    p0_most = le_of_mul-le-mul_right {k = W} (omega (arith, hi, mul-le-mul_right (2 * H0) rs0.0)) one

    p0_least : 99 * (W * W) ≤ 100 * (2 * (S0 * H0))
    p0_least = le_of_mul-le-mul_right {k = W} (omega (arith, lo, hi, mul-le-mul_right (2 * H0) rs0.1)) one

    -- s0² is a, up to two parts in a hundred
    pub s0_square : (98 * (A * W) ≤ 100 * (S0 * S0)) × (100 * (S0 * S0) ≤ 102 * (A * W))
    s0_square = (
      le_of_mul-le-mul_right {k = W * W} (omega (arith, mul-le-mul_left A lo, mul-le-mul low low)) (mul-pos one one),
      le_of_mul-le-mul_right {k = W * W} (omega (arith, mul-le-mul_left A hi, mul-le-mul rs0.0 rs0.0)) (mul-pos one one),
    )
      where
        low : (2 ^ 30 - 1) * (A * (2 * H0)) ≤ 2 ^ 30 * (S0 * W)
        low = omega (arith, rs0.1)

    module _ {s0 : Bool} {D0 : ℕ} (line-d0 : Line 30 W false U true (S0 * H0) s0 D0) where
      factor_0 : Factor W S0 H0 s0 D0
      factor_0 = factor_of W U S0 H0 one c.halves p0_least p0_most s0 D0 line-d0

      pub d0_small : 2 * D0 ≤ W
      d0_small = factor_0.small

      pub paired : {z1 : Bool} {H1 : ℕ} → Line 30 W false H0 s0 (D0 * H0) z1 H1 → {z2 : Bool} {S1 : ℕ} → Line 30 W false S0 s0 (D0 * S0) z2 S1 → Paired W A H1 S1
      paired {z1} {H1} line-h1 {z2} {S1} line-s1 = record {
        one = one;
        some_a = some_a;
        some_h = some_of H1 (λ h. omega (arith, cube, near.1, ap (λ x. x * (A * H1)) h));
        most = near.0;
        least = near.1;
        twin = twin W A H0 S0 factor_0.n D0 factor_0.f H1 S1 one lo hi rs0 factor_0.half factor_0.near rh1 rs1;
      }
        where
          rh1 : Near30 (H0 * factor_0.f) (H1 * W)
          rh1 = factor_0.grows H0 some_h0 z1 H1 line-h1

          rs1 : Near30 (S0 * factor_0.f) (S1 * W)
          rs1 = factor_0.grows S0 some_s0 z2 S1 line-s1

          near : (2 ^ 30 * (4 * (A * (H1 * H1))) ≤ 2 ^ 30 * (W * W * W) + 6 * (W * W * W)) × (52000 * (W * W * W) ≤ 52000 * (4 * (A * (H1 * H1))) + W * W * W)
          near = first W A H0 S0 factor_0.n D0 factor_0.f H1 S1 one lo hi rs0 factor_0.half factor_0.near rh1 rs1

-- ---- the second round, and the root improved by its residual

module _ {W A H S : ℕ} (k : Paired W A H S) where
  some_sw : zero < S * W
  some_sw = omega (arith, k.twin.1, mul-pos k.some_a k.some_h)

  pub p1_most : 100 * (2 * (S * H)) ≤ 101 * (W * W)
  p1_most = le_of_mul-le-mul_right {k = W} (omega (arith, k.most, mul-le-mul_right (2 * H) k.twin.0)) k.one

  p1_least : 99 * (W * W) ≤ 100 * (2 * (S * H))
  p1_least = le_of_mul-le-mul_right {k = W} (omega (arith, k.most, k.least, mul-le-mul_right (2 * H) k.twin.1)) k.one

  module _ {U : ℕ} (halves : W ≡ 2 * U) {s1 : Bool} {D1 : ℕ} (line-d1 : Line 30 W false U true (S * H) s1 D1) where
    factor_1 : Factor W S H s1 D1
    factor_1 = factor_of W U S H k.one halves p1_least p1_most s1 D1 line-d1

    pub d1_small : 2 * D1 ≤ W
    d1_small = factor_1.small

    -- 4·a·h2² is one, up to one part in 2 ^ 27
    pub h2_near : {z : Bool} {H2 : ℕ} → Line 30 W false H s1 (D1 * H) z H2 → Near (2 ^ 27) (W * W * W) (4 * (A * (H2 * H2)))
    h2_near {z} {H2} l = second W A H S factor_1.n D1 factor_1.f H2 k.one k.most k.least k.twin factor_1.half factor_1.near (factor_1.grows H k.some_h z H2 l)

  -- s1² is not much above a
  pub s1_square : 2 ^ 30 * (S * S) ≤ 2 ^ 30 * (A * W) + 15 * (A * W)
  s1_square = square_most W A H S k.one k.most k.twin.0

  module _ {s2 : Bool} {E1 : ℕ} (line-e1 : Line 30 W false A true (S * S) s2 E1) (z : Bool) (C : ℕ) (sum : Sum false (S * W) s2 (E1 * H) z C) where
    e1_faint : s2 ≡ true → E1 * H < S * W
    e1_faint e = omega (arith, k.twin.1, some_sw, mul-le-mul_right H small)
      where
        small : 1000 * E1 ≤ A
        small = le_of_mul-le-mul_right {k = W} (omega (arith, s1_square, left_over (A * W) (S * S) line-e1.n s2 e line-e1.sum, line-e1.line.near.0)) k.one

    -- s1 + e1·h1 is above zero, and its square is a up to one part in 2 ^ 30
    pub sum_above : z ≡ false
    sum_above = sum_plus (S * W) (E1 * H) s2 z C some_sw e1_faint sum

    pub sum_square : Near (2 ^ 30) (A * W * (W * W)) (C * C)
    sum_square = squared W A H S line-e1.n E1 C k.one k.some_a k.most k.least k.twin
        (correction W (A * W) (S * S) S H s2 E1 line-e1.n C line-e1.sum (subst (λ x. Sum false (S * W) s2 (E1 * H) x C) sum_above sum)) line-e1.line.near
