-- The rounded root s2, counted at the place of the root's 25th bit, is an even number, and its square is within 9/4 of itself of a.
use Rattle.std.proofs.Common.{◌≡◌, ℕ, zero, suc, ◌+◌, ◌-◌, ◌*◌, ◌/◌, ◌%◌, ◌^◌, ◌<◌, ◌≤◌, sym, refl, ap, subst, inl, inr, mul-le-mul_right, mul-le-mul, lt_of_mul-lt-mul_right, mul-pos, div-mul-le_self, le_of_mul-le-mul_right, arith, pow_pos, pow_mono, pow-add}
use native.Mathlib.Nat.{lt-div-mul-add, pow-succ'}
use Rattle.registers.proofs.Near.{Near}
use Rattle.registers.specs.Laws.{Bits}
use Rattle.registers.proofs.Spacing.{Rounded, spacing, order, raise}
use Rattle.sheets.proofs.Powers.{power_parts}

pub sq_le : (x y : ℕ) → x * x ≤ y * y → x ≤ y
sq_le x y h = elim (order x y) [ inl k ↦ k | inr k ↦ absurd (omega (arith, mul-le-mul k k)) ]

-- the rounded root
pub record NearRoot (a T V : ℕ) : Type 0 where
  pub root : ℕ
  pub half : ℕ
  pub is : V ≡ root * T
  pub even : root ≡ 2 * half
  pub least : 2 ^ 24 ≤ root
  pub most : root ≤ 2 ^ 25
  pub not_over : 4 * a ≤ 4 * (root * root) + 9 * root
  pub not_under : 4 * (root * root) ≤ 4 * a + 9 * root

module _ (a τ T C V : ℕ)
    (tw : T ≡ 2 ^ τ)
    (lo : 2 ^ 48 ≤ a)
    (hi : a < 2 ^ 50)
    (sq : Near (2 ^ 30) (a * (T * T)) (C * C))
    (r : Rounded 24 C V)
  where
    some : zero < T
    some = omega (arith, tw, pow_pos τ)

    c_lo : (2 ^ 28 - 1) * T ≤ 16 * C
    c_lo = sq_le _ _ (omega (arith, sq.1, mul-le-mul_right (T * T) lo))

    c_hi : 16 * C ≤ (2 ^ 29 + 1) * T
    c_hi = sq_le _ _ (omega (arith, sq.0, mul-le-mul_right (T * T) hi))

    grid : (j : ℕ) → j ≤ 2 ^ 24 → Bits 24 (2 * j * T)
    grid j h = elim (order (2 ^ 24) j) [ inl k ↦ record { part = 1; exp = 25 + τ; fits = omega arith; is = omega (arith, pow-add 2 25 τ, tw, ap (λ x. x * T) (full k)) } | inr k ↦ record { part = j; exp = 1 + τ; fits = k; is = omega (arith, ap (λ x. j * x) (pow-add 2 1 τ), ap (λ x. j * x) tw) } ]
      where
        full : 2 ^ 24 ≤ j → j ≡ 2 ^ 24
        full k = omega arith

    v_lo : 2 ^ 24 * T ≤ V
    v_lo = elim (order (2 ^ 24 * T) V) [ inl h ↦ h | inr h ↦ absurd (omega (arith, h, c_lo, some, r.closest (2 * 2 ^ 23 * T) (grid (2 ^ 23) (omega arith)), spacing 24 r.bits (grid (2 ^ 23) (omega arith)) (omega (arith, h)))) ]

    v_hi : V ≤ 2 ^ 25 * T
    v_hi = elim (order V (2 ^ 25 * T)) [ inl h ↦ h | inr h ↦ absurd (omega (arith, h, c_hi, some, r.closest (2 * 2 ^ 24 * T) (grid (2 ^ 24) (omega arith)), spacing 24 (grid (2 ^ 24) (omega arith)) r.bits (omega (arith, h)))) ]

    -- the nearest even multiple of T
    j : ℕ
    j = (C + T) / (2 * T)

    j_lo : j * (2 * T) ≤ C + T
    unfolding j
    j_lo = div-mul-le_self (C + T) (2 * T)

    j_hi : C + T < j * (2 * T) + 2 * T
    unfolding j
    j_hi = lt-div-mul-add {a = C + T} (omega (arith, some))

    j≤ : j < 2 ^ 24 + 1
    j≤ = lt_of_mul-lt-mul_right (2 * T) (omega (arith, j_lo, c_hi, some))

    v_near : (V ≤ C + T) × (C ≤ V + T)
    v_near = let q = r.closest (2 * j * T) (grid j (omega (arith, j≤))) in (omega (arith, q, j_lo, j_hi), omega (arith, q, j_lo, j_hi))

    made : (S q : ℕ) → V ≡ S * T → S ≡ 2 * q → NearRoot a T V
    made S q is even = record { root = S; half = q; is = is; even = even; least = s_lo; most = le_of_mul-le-mul_right {k = T} (omega (arith, v_hi)) some; not_over = omega (arith, s_lo, over); not_under = omega (arith, s_lo, under) }
      where
        s_lo : 2 ^ 24 ≤ S
        s_lo = le_of_mul-le-mul_right {k = T} (omega (arith, v_lo)) some

        c≤ : C ≤ (S + 1) * T
        c≤ = omega (arith, v_near.1)

        s≤ : S * T ≤ C + T
        s≤ = omega (arith, v_near.0)

        over : 2 ^ 30 * a ≤ 2 ^ 30 * ((S + 1) * (S + 1)) + a
        over = le_of_mul-le-mul_right {k = T * T} (omega (arith, sq.1, mul-le-mul c≤ c≤)) (mul-pos some some)

        under : 2 ^ 30 * (S * S) ≤ 2 ^ 30 * (a + 2 * S + 3) + a
        under = le_of_mul-le-mul_right {k = T * T} (omega (arith, sq.0, mul-le-mul s≤ s≤, mul-le-mul_right T c≤)) (mul-pos some some)

    pub near_root : NearRoot a T V
    near_root = elim (order r.bits.exp τ) [ inl h ↦ absurd (omega (arith, v_lo, tw, r.bits.is, pow_pos r.bits.exp, mul-le-mul {n₁ = r.bits.part} {n₂ = 2 ^ 24 - 1} (omega (arith, r.bits.fits)) (pow_mono h), some)) | inr h ↦ make (raise (suc τ) r.bits.exp h) ]
      where
        make : (t : ℕ) × (2 ^ r.bits.exp ≡ 2 ^ t * 2 ^ suc τ) → NearRoot a T V
        make t = made (2 * (r.bits.part * 2 ^ t.0)) (r.bits.part * 2 ^ t.0) (omega (arith, r.bits.is, ap (λ x. r.bits.part * x) t.1, ap (λ x. r.bits.part * (2 ^ t.0 * x)) (pow-succ' 2 τ), ap (λ x. r.bits.part * (2 ^ t.0 * x)) tw)) refl

-- the place of the root's 25th bit
pub choose_root : (X A' α : ℕ) → X ≡ A' * 2 ^ α → 2 ^ 23 ≤ A' → A' < 2 ^ 24 → 26 ≤ α
    → (s : ℕ) × (a : ℕ) × (k : ℕ) × (X ≡ a * (2 ^ s * 2 ^ s)) × (a ≡ 4 * k) × (2 ^ 48 ≤ a) × (a < 2 ^ 50)
choose_root X A' α ha la ta room = elim (order ((α - 25) % 2) zero) [
  | inl h ↦ ((α - 25) / 2, A' * 2 ^ 25, A' * 2 ^ 23, split 25 ((α - 25) / 2) (omega (arith, h)), omega arith, omega arith, omega arith)
  | inr h ↦ ((α - 26) / 2, A' * 2 ^ 26, A' * 2 ^ 24, split 26 ((α - 26) / 2) (omega (arith, h)), omega arith, omega arith, omega arith)
]
  where
    split : (i s : ℕ) → i + (s + s) ≡ α → X ≡ A' * 2 ^ i * (2 ^ s * 2 ^ s)
    split i s e = omega (arith, ha, ap (λ x. A' * x) (power_parts α i (s + s) (sym e)), ap (λ x. A' * (2 ^ i * x)) (pow-add 2 s s))

-- the rounded root of a sum C whose square is a, counted at the place of the root's 25th bit
pub near_place : (w W A C S s a : ℕ) → W ≡ 2 ^ w → A * W ≡ a * (2 ^ s * 2 ^ s) → 2 ^ 48 ≤ a → a < 2 ^ 50 → Near (2 ^ 30) (A * W * (W * W)) (C * C) → Rounded 24 C (S * W) → NearRoot a (2 ^ s * W) (S * W)
near_place w W A C S s a whole is lo hi sq r =
    near_root a (s + w) (2 ^ s * W) C (S * W) (omega (arith, pow-add 2 s w, ap (λ x. 2 ^ s * x) whole)) lo hi (subst (λ x. Near (2 ^ 30) x (C * C)) (omega (arith, ap (λ x. x * (W * W)) is)) sq) r
