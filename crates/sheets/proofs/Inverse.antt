-- The second reciprocal y1 of b is its inverse up to one part in 50,000,000.
-- Where b·y0 is 1 - e, the factor 1 + e + e² brings it to 1 - e³; where it is 1 + e, the factor 1 - e + e² brings it to 1 + e³.
-- With W = E + D, E being e in units, all is a polynomial in E and D.
use Rattle.std.proofs.Common.{◌≡◌, ℕ, zero, ◌+◌, ◌*◌, ◌^◌, ◌<◌, ◌≤◌, Bool, true, false, refl, ap, subst, mul-le-mul_right, mul-le-mul, mul-le-mul_left, mul-pos, le_of_mul-le-mul_right, arith}
use native.Mathlib.Nat.{le_dest, eq_of_mul-eq-mul_right}
use Rattle.registers.specs.Lines.{Sum}
use Rattle.registers.proofs.Near.{Near, Near30}
use Rattle.registers.proofs.Spacing.{Rounded}
use Rattle.registers.proofs.Signs.{Line, true≢false, upright, upright_sign}
use Rattle.sheets.proofs.Correction.{sum_most}

-- e0 stands within a 399th of one
pub small : (W E N : ℕ) → zero < W → 400 * N ≤ W * W → Near30 N (E * W) → 399 * E ≤ W
small W E N p h n = le_of_mul-le-mul_right {k = W} (omega arith) p

-- y1 is y0 times the factor g, rounded: so b·y1 is what b·y0·g is
corrected : (W B Y0 Y1 g : ℕ) → zero < W → Near30 (Y0 * g) (Y1 * W) → Near 63000000 (W * W * (W * W)) (B * Y0 * (g * W)) → Near 50000000 (W * W) (B * Y1)
corrected W B Y0 Y1 g one r z = (
  le_of_mul-le-mul_right {k = W * W} (omega (arith, z.0, mul-le-mul_right (B * W) r.0)) (mul-pos one one),
  le_of_mul-le-mul_right {k = W * W} (omega (arith, z.0, z.1, mul-le-mul_right (B * W) r.1)) (mul-pos one one),
)

-- b·y0 is one or less, and the factor is 1 + e1
module _ (E D B Y0 E1 N0 : ℕ)
    (seed : N0 + B * Y0 ≡ (E + D) * (E + D))
    (close : 400 * N0 ≤ (E + D) * (E + D))
    (r0 : Near30 N0 (E * (E + D)))
    (r1 : Near30 (E * (E + D) + E * E) (E1 * (E + D)))
    (sm : 398 * E ≤ D)
  where
    by_most : 400 * 2 ^ 30 * (B * Y0) ≤ 400 * 2 ^ 30 * (D * (E + D)) + (E + D) * (E + D)
    by_most = omega arith

    by_least : 400 * 2 ^ 30 * (D * (E + D)) ≤ 400 * 2 ^ 30 * (B * Y0) + (E + D) * (E + D)
    by_least = omega arith

    factor_most : 398 * 2 ^ 30 * ((E + D + E1) * (E + D)) ≤ 398 * 2 ^ 30 * (D * D + 3 * (D * E) + 3 * (E * E)) + (E + D) * (E + D)
    factor_most = omega (arith, mul-le-mul_right E sm, mul-le-mul_right D sm)

    factor_least : 398 * 2 ^ 30 * (D * D + 3 * (D * E) + 3 * (E * E)) ≤ 398 * 2 ^ 30 * ((E + D + E1) * (E + D)) + (E + D) * (E + D)
    factor_least = omega (arith, mul-le-mul_right E sm, mul-le-mul_right D sm)

    below_one : Near 63000000 ((E + D) * (E + D) * ((E + D) * (E + D))) (B * Y0 * ((E + D + E1) * (E + D)))
    below_one = (
      omega (arith, mul-le-mul by_most factor_most, mul-le-mul_right (D * D * D) sm, mul-le-mul_right (D * D * E) sm, mul-le-mul_right (D * E * E) sm, mul-le-mul_right (E * E * E) sm),
      omega (arith, mul-le-mul by_least factor_least, mul-le-mul_right ((E + D) * (E + D)) by_most, mul-le-mul_right ((E + D) * (E + D)) factor_most, mul-le-mul_right (D * D * D) sm, mul-le-mul_right (D * D * E) sm, mul-le-mul_right (D * E * E) sm, mul-le-mul_right (E * E * E) sm),
    )

-- b·y0 is more than one, and the factor g is 1 - e1
module _ (E D B Y0 E1 g N0 : ℕ)
    (seed : N0 + (E + D) * (E + D) ≡ B * Y0)
    (close : 400 * N0 ≤ (E + D) * (E + D))
    (r0 : Near30 N0 (E * (E + D)))
    (r1 : Near30 (E * D) (E1 * (E + D)))
    (split : g + E1 ≡ E + D)
    (sm : 398 * E ≤ D)
  where
    by_most' : 400 * 2 ^ 30 * (B * Y0) ≤ 400 * 2 ^ 30 * ((2 * E + D) * (E + D)) + (E + D) * (E + D)
    by_most' = omega arith

    by_least' : 400 * 2 ^ 30 * ((2 * E + D) * (E + D)) ≤ 400 * 2 ^ 30 * (B * Y0) + (E + D) * (E + D)
    by_least' = omega arith

    factor_most' : 398 * 2 ^ 30 * (g * (E + D)) ≤ 398 * 2 ^ 30 * (D * D + D * E + E * E) + (E + D) * (E + D)
    factor_most' = omega (arith, ap (λ x. x * (E + D)) split, mul-le-mul_right E sm, mul-le-mul_right D sm)

    factor_least' : 398 * 2 ^ 30 * (D * D + D * E + E * E) ≤ 398 * 2 ^ 30 * (g * (E + D)) + (E + D) * (E + D)
    factor_least' = omega (arith, ap (λ x. x * (E + D)) split, mul-le-mul_right E sm, mul-le-mul_right D sm)

    above_one : Near 63000000 ((E + D) * (E + D) * ((E + D) * (E + D))) (B * Y0 * (g * (E + D)))
    above_one = (
      omega (arith, mul-le-mul by_most' factor_most', mul-le-mul_right (D * D * D) sm, mul-le-mul_right (D * D * E) sm, mul-le-mul_right (D * E * E) sm, mul-le-mul_right (E * E * E) sm),
      omega (arith, mul-le-mul by_least' factor_least', mul-le-mul_right ((E + D) * (E + D)) by_most', mul-le-mul_right ((E + D) * (E + D)) factor_most', mul-le-mul_right (D * D * D) sm, mul-le-mul_right (D * D * E) sm, mul-le-mul_right (D * E * E) sm, mul-le-mul_right (E * E * E) sm),
    )

-- a difference that is not below zero, since what is taken away is less
pub firm : (k W r t : ℕ) (s : Bool) (v : ℕ) → t < r * W → Line k W false r true t s v → (n : ℕ) × (n + t ≡ r * W) × Rounded k n (v * W)
firm k W r t false v h f = (f.n, omega (arith, f.sum), f.line)
firm k W r t true v h f = absurd (omega (arith, f.sum, h))

-- x + d·x is above zero where d is at most one half
pub grown_plus : {W K : ℕ} (D : ℕ) → zero < W → zero < K → 2 * D ≤ W → {s t : Bool} {K' : ℕ} → Line 30 W false K s (D * K) t K' → t ≡ false
grown_plus {W} {K} D one some small {s} {t} {K'} f = by s t f
  where
    by : (s t : Bool) → Line 30 W false K s (D * K) t K' → t ≡ false
    by false t l = upright_sign 30 W K (D * K) t K' one l
    by true false l = refl
    by true true l = absurd (omega (arith, l.sum, mul-le-mul_right K small, mul-pos some one))

-- a seed y0 that is the inverse of b up to one part in 400
pub record Close (W B Y0 : ℕ) : Type 0 where
  pub one : zero < W
  pub some : zero < Y0
  pub least : 399 * (W * W) ≤ 400 * (B * Y0)
  pub most : 400 * (B * Y0) ≤ 401 * (W * W)

-- the lines e0, e1 and y1
module _ {W B Y0 : ℕ} (c : Close W B Y0) {s0 : Bool} {E0 : ℕ} (f0 : Line 30 W false W true (B * Y0) s0 E0) where
  one : zero < W
  one = c.one

  pub e0_small : 399 * E0 ≤ W
  e0_small = small W E0 f0.n one (by_sign s0 f0.sum) f0.line.near
    where
      by_sign : (s : Bool) → Sum false (W * W) true (B * Y0) s f0.n → 400 * f0.n ≤ W * W
      by_sign false e = omega (arith, c.least)
      by_sign true e = omega (arith, c.most)

  module _ {s1 : Bool} {E1 : ℕ} (f1 : Line 30 W s0 E0 false (E0 * E0) s1 E1) where
    pub e1_small : 2 * E1 ≤ W
    e1_small = le_of_mul-le-mul_right {k = W} (omega (arith, sum_most s0 false s1 (E0 * W) (E0 * E0) f1.n f1.sum, f1.line.near.0, mul-le-mul_right W e0_small, mul-le-mul_left E0 e0_small)) one

    less : E1 * Y0 < Y0 * W
    less = omega (arith, mul-le-mul_right Y0 e1_small, mul-pos c.some one)

  pub inverse : {s1 : Bool} {E1 : ℕ} → Line 30 W s0 E0 false (E0 * E0) s1 E1 → {s2 : Bool} {Y1 : ℕ} → Line 30 W false Y0 s1 (E1 * Y0) s2 Y1 → Near 50000000 (W * W) (B * Y1)
  inverse {s1} {E1} f1 {s2} {Y1} f2 = by_sign s0 s1 f0 f1 f2
    where
      rest : (D : ℕ) × (E0 + D ≡ W)
      rest = le_dest {n = E0} {m = W} (omega (arith, e0_small))

      under : (N0 : ℕ) → N0 + B * Y0 ≡ W * W → Near30 N0 (E0 * W) → Near30 (E0 * W + E0 * E0) (E1 * W) → Near30 (Y0 * W + E1 * Y0) (Y1 * W) → Near 50000000 (W * W) (B * Y1)
      under N0 gap r0 r1 r2 = corrected W B Y0 Y1 (W + E1) one (subst (λ x. Near30 x (Y1 * W)) (omega arith) r2)
          (subst (λ w. N0 + B * Y0 ≡ w * w → 400 * N0 ≤ w * w → Near30 N0 (E0 * w) → Near30 (E0 * w + E0 * E0) (E1 * w) → Near 63000000 (w * w * (w * w)) (B * Y0 * ((w + E1) * w))) rest.1
          (λ s c a b. below_one E0 rest.0 B Y0 E1 N0 s c a b (omega (arith, rest.1, e0_small))) gap (omega (arith, gap, c.least)) r0 r1)

      over : (N0 N1 N2 : ℕ) → N0 + W * W ≡ B * Y0 → Near30 N0 (E0 * W) → N1 + E0 * E0 ≡ E0 * W → Near30 N1 (E1 * W) → N2 + E1 * Y0 ≡ Y0 * W → Near30 N2 (Y1 * W) → Near 50000000 (W * W) (B * Y1)
      over N0 N1 N2 gap r0 sum1 r1 sum2 r2 = by (le_dest {n = E1} {m = W} (omega (arith, e1_small f1)))
        where
          by : (g : ℕ) × (E1 + g ≡ W) → Near 50000000 (W * W) (B * Y1)
          by g = corrected W B Y0 Y1 g.0 one (subst (λ x. Near30 x (Y1 * W)) (omega (arith, sum2, ap (λ x. Y0 * x) g.1)) r2)
              (subst (λ w. N0 + w * w ≡ B * Y0 → 400 * N0 ≤ w * w → Near30 N0 (E0 * w) → N1 + E0 * E0 ≡ E0 * w → Near30 N1 (E1 * w) → E1 + g.0 ≡ w → Near 63000000 (w * w * (w * w)) (B * Y0 * (g.0 * w))) rest.1
              (λ s c a h b k. above_one E0 rest.0 B Y0 E1 g.0 N0 s c a (omega arith) (omega (arith, k)) (omega (arith, rest.1, e0_small))) gap (omega (arith, gap, c.most)) r0 sum1 r1 g.1)

      by_sign : (s t : Bool) → Line 30 W false W true (B * Y0) s E0 → Line 30 W s E0 false (E0 * E0) t E1 → Line 30 W false Y0 t (E1 * Y0) s2 Y1 → Near 50000000 (W * W) (B * Y1)
      by_sign false false l0 l1 l2 = under l0.n (omega (arith, l0.sum)) l0.line.near (upright 30 W E0 (E0 * E0) false E1 l1).near (upright 30 W Y0 (E1 * Y0) s2 Y1 l2).near
      by_sign false true l0 l1 l2 = absurd (true≢false (upright_sign 30 W E0 (E0 * E0) true E1 one l1))
      by_sign true false l0 l1 l2 = absurd (true≢false (l0.plain (eq_of_mul-eq-mul_right W one E0 zero (omega (arith, l1.sum, mul-le-mul_left E0 e0_small)))))
      by_sign true true l0 l1 l2 =
          let h = firm 30 W Y0 (E1 * Y0) s2 Y1 (less f1) l2 in
          over l0.n l1.n h.0 (omega (arith, l0.sum)) l0.line.near (omega (arith, l1.sum)) l1.line.near h.1 h.2.near
