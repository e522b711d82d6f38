-- Two numbers lie to one another as two others do: what a closing value has in common with the exact one.
use Rattle.std.proofs.Common.{◌≡◌, ℕ, suc, ◌*◌, ◌^◌, ◌<◌, ◌⊎◌, sym, ap, ◌∙◌, inl, inr, mul-le-mul_right, lt_of_mul-lt-mul_right, mul-lt-mul_of_pos_right, arith, pow_pos}
use Prim.Native.Nat.{compare}
use native.Mathlib.Nat.{pow-succ', eq_of_mul-eq-mul_right}
use Rattle.registers.specs.Laws.{Bits}
use Rattle.registers.proofs.Spacing.{order, raise}
use Rattle.registers.proofs.Compared.{cmp_lt, cmp_eq, cmp_gt}

-- x lies to y as m lies to n
pub record Side (x y m n : ℕ) : Type 0 where
  pub below : x < y → m < n
  pub above : y < x → n < m
  pub equal : x ≡ y → m ≡ n

-- the same in other units
pub scaled : (x y m n X Y M N k l p : ℕ) → Side x y m n → 0 < k → 0 < l → 0 < p
    → X ≡ x * k → Y ≡ y * k → M * l ≡ m * p → N * l ≡ n * p → Side X Y M N
scaled x y m n X Y M N k l p s pk pl pp ex ey em en = record {
  below = λ h. lt_of_mul-lt-mul_right l (omega (arith, em, en, mul-lt-mul_of_pos_right (s.below (lt_of_mul-lt-mul_right k (omega (arith, h, ex, ey)))) pp));
  above = λ h. lt_of_mul-lt-mul_right l (omega (arith, em, en, mul-lt-mul_of_pos_right (s.above (lt_of_mul-lt-mul_right k (omega (arith, h, ex, ey)))) pp));
  equal = λ h. eq_of_mul-eq-mul_right l pl M N (omega (arith, em, en, ap (λ t. t * p) (s.equal (eq_of_mul-eq-mul_right k pk x y (omega (arith, h, ex, ey))))));
}

-- as comparisons
pub compared : (x y m n : ℕ) → Side x y m n → compare n m ≡ compare y x
compared x y m n s = elim (order x y) [
  | inl h ↦ elim (order y x) [
    | inl k ↦ let e : x ≡ y = omega (arith, h, k) in cmp_eq n m (sym (s.equal e)) ∙ sym (cmp_eq y x (sym e))
    | inr k ↦ cmp_gt n m (s.below k) ∙ sym (cmp_gt y x k)
  ]
  | inr h ↦ cmp_lt n m (s.above h) ∙ sym (cmp_lt y x h)
]

-- a number of at most 25 bits is a multiple of 2 ^ s, or it has fewer digits than 25 from there
pub on_place : (s G : ℕ) → Bits 25 G → ((g : ℕ) × (G ≡ g * 2 ^ s)) ⊎ (G < 2 ^ 24 * 2 ^ s)
on_place s G b = elim (order s b.exp) [ inl h ↦ inl (wide (raise s b.exp h)) | inr h ↦ inr (low (raise (suc b.exp) s h)) ]
  where
    wide : (t : ℕ) × (2 ^ b.exp ≡ 2 ^ t * 2 ^ s) → (g : ℕ) × (G ≡ g * 2 ^ s)
    wide t = (b.part * 2 ^ t.0, omega (arith, b.is, ap (λ x. b.part * x) t.1))

    low : (t : ℕ) × (2 ^ s ≡ 2 ^ t * 2 ^ suc b.exp) → G < 2 ^ 24 * 2 ^ s
    low t = omega (arith, b.is, t.1, mul-le-mul_right (2 ^ b.exp) b.fits, pow_pos b.exp, ap (λ x. 2 ^ t.0 * x) (pow-succ' 2 b.exp), mul-le-mul_right (2 ^ b.exp) (pow_pos t.0))
