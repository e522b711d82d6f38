-- A step whose exact sum is of a moderate size is not refused, and its line is of that size.
use Rattle.std.proofs.Common.{◌≡◌, ℕ, zero, suc, ◌+◌, ◌-◌, ◌*◌, ◌^◌, ◌<◌, ◌≤◌, Bool, true, false, cond, ◌&&◌, ◌||◌, eqb, leb, ◌⊎◌, is_ok, Ok, Err, Result, sym, refl, ap, subst, inl, inr, mul-le-mul_right, mul-pos, le_of_mul-le-mul_right, arith, pow_pos, pow_mono, pow-add}
use native.Mathlib.Nat.{pow-succ'}
use lib.Ieee.{size}
use lib.Ieee.Digits.{size-lt, size-le}
use Rattle.std.proofs.lemmas.Bool.{cases_lt, eq-eqb, le-leb, and_from, or_left, or_right}
use Rattle.registers.specs.declared.register.Choice.{Choice}
use Rattle.registers.specs.Nearest.{nearest}
use Rattle.registers.specs.Range.{bias, bias_is, span}
use Rattle.registers.specs.Values.{Value}
use Rattle.registers.specs.Fused.{kept, fused, fused_size, fused_sign}
use Rattle.registers.proofs.Near.{Near}
use Rattle.registers.proofs.Spacing.{order}
use Rattle.registers.proofs.Nearness.{nearest_error}

-- of two powers the less has the less exponent
pub below_of : (i j : ℕ) → 2 ^ i < 2 ^ j → i < j
below_of i j h = elim (cases_lt i j) [ inl l ↦ l | inr g ↦ absurd (omega (arith, h, pow_mono g)) ]

-- n, in units of W * W, is zero, or between 2^-c and 2^c
abbrev pub Sized : ℕ → ℕ → ℕ → Type 0
Sized W c n = (n ≡ zero) ⊎ ((W * W ≤ n * 2 ^ c) × (n ≤ W * W * 2 ^ c))

-- x is zero, or between 2^-c and 2^c
abbrev pub Within : ℕ → ℕ → ℕ → Type 0
Within W c x = (x ≡ zero) ⊎ ((W ≤ x * 2 ^ c) × (x ≤ W * 2 ^ c))

none_or : (n : ℕ) → (n ≡ zero) ⊎ (zero < n)
none_or n = elim (order n zero) [ inl h ↦ inl (omega arith) | inr h ↦ inr h ]

module _ (W : ℕ) (pos : zero < W) where
  -- a rounded line
  pub within : (k c n x : ℕ) → 1 ≤ k → Near (2 ^ k) n (x * W) → Sized W c n → Within W (suc c) x
  within k c n x h r (inl z) = inl (elim (none_or x) [ inl e ↦ e | inr p ↦ absurd (omega (arith, r.0, z, ap (λ t. 2 ^ k * t) z, mul-pos (pow_pos k) (mul-pos p pos))) ])
  within k c n x h r (inr b) = inr (
    le_of_mul-le-mul_right {k = W} (omega (arith, b.0, mul-le-mul_right (2 ^ c) low, ap (λ t. x * W * t) (two c))) pos,
    le_of_mul-le-mul_right {k = W} (omega (arith, b.1, high, ap (λ t. W * W * t) (two c))) pos,
  )
    where
      two : (c : ℕ) → 2 ^ suc c ≡ 2 * 2 ^ c
      two c = pow-succ' 2 c

      big : 2 ≤ 2 ^ k
      big = subst (λ t. 2 ≤ 2 ^ t) (one_more k h) (omega (arith, two (k - 1), pow_pos (k - 1)))
        where
          one_more : (k : ℕ) → 1 ≤ k → suc (k - 1) ≡ k
          one_more k h = omega arith

      low : n ≤ 2 * (x * W)
      low = le_of_mul-le-mul_right {k = 2 ^ k} (omega (arith, r.1, mul-le-mul_right n big)) (pow_pos k)

      high : x * W ≤ 2 * n
      high = le_of_mul-le-mul_right {k = 2 ^ k} (omega (arith, r.0, mul-le-mul_right n big)) (pow_pos k)

-- ---- what is kept

kept_given : (s : Bool) (v : ℕ) → (v ≡ zero) ⊎ ((30 + bias ≤ size v) × (size v ≤ 30 + span + bias)) → is_ok (kept s v) ≡ true
kept_given s v (inl z) = rw (eq-eqb v 0 z) refl
kept_given s v (inr b) = go (eqb v 0) (leb (30 + bias) (size v) && leb (size v) (30 + span + bias)) _ _ (and_from _ _ (le-leb (30 + bias) (size v) b.0) (le-leb (size v) (30 + span + bias) b.1))
  where
    go : (x y : Bool) (u w : Value) → y ≡ true → is_ok (cond {A = Result Value ℕ} x (Ok u) (cond {A = Result Value ℕ} y (Ok w) (Err 7))) ≡ true
    go true y u w e = refl
    go false true u w e = refl
    go false false u w e = e

-- v over W², as a value over W
pub step_given : (k : ℕ) → (k ≡ 24) ⊎ (k ≡ 30) → (choice : Choice) (r p q : Value) (c : ℕ) → c ≤ 299 → Sized (2 ^ bias) c (fused_size choice r p q) → is_ok (fused k choice r p q) ≡ true
step_given k w choice r p q c few sized = rw known (kept_given (fused_sign choice r p q) (nearest k n) (ways sized))
  where
    n : ℕ
    n = fused_size choice r p q

    known : (eqb k 24 || eqb k 30) ≡ true
    known = elim w [ inl x ↦ or_left _ _ (eq-eqb k 24 x) | inr y ↦ or_right _ _ (eq-eqb k 30 y) ]

    some : 1 ≤ k
    some = elim w [ inl x ↦ omega arith | inr x ↦ omega arith ]

    around : Near (2 ^ k) n (nearest k n)
    around = ((nearest_error k n).1, (nearest_error k n).0)

    big : 2 ≤ 2 ^ k
    big = pow_mono {i = 1} some

    low : n ≤ 2 * nearest k n
    low = le_of_mul-le-mul_right {k = 2 ^ k} (omega (arith, around.1, mul-le-mul_right n big)) (pow_pos k)

    high : nearest k n ≤ 2 * n
    high = le_of_mul-le-mul_right {k = 2 ^ k} (omega (arith, around.0, mul-le-mul_right n big)) (pow_pos k)

    ww : 2 ^ bias * 2 ^ bias ≡ 2 ^ (bias + bias)
    ww = sym (pow-add 2 bias bias)

    ways : Sized (2 ^ bias) c n → (nearest k n ≡ zero) ⊎ ((30 + bias ≤ size (nearest k n)) × (size (nearest k n) ≤ 30 + span + bias))
    ways (inl z) = inl (omega (arith, high, z))
    ways (inr b) = inr (omega (arith, bias_is, below_of (bias + bias) (size (nearest k n) + suc c) least), size-le (nearest k n) (30 + span + bias) most)
      where
        least : 2 ^ (bias + bias) < 2 ^ (size (nearest k n) + suc c)
        least = omega (arith, ww, b.0, mul-le-mul_right (2 ^ c) low, mul-le-mul_right (2 ^ c) (size-lt (nearest k n)), pow_pos c, pow-add 2 (size (nearest k n)) (suc c), ap (λ t. 2 ^ size (nearest k n) * t) (pow-succ' 2 c))

        over : 2 ^ (bias + bias + suc c) ≤ 2 ^ (29 + span + bias)
        over = pow_mono (omega (arith, bias_is))

        most : nearest k n < 2 ^ (30 + span + bias)
        most = omega (arith, ww, b.1, high, over, pow-succ' 2 (29 + span + bias), pow_pos (29 + span + bias), pow-add 2 (bias + bias) (suc c), ap (λ t. 2 ^ (bias + bias) * t) (pow-succ' 2 c), ap (λ t. t * 2 ^ c) ww, ap (λ t. 2 ^ t) next)
          where
            next : 30 + span + bias ≡ suc (29 + span + bias)
            next = omega arith

-- arguments by their values
pub carry_given : (k : ℕ) (choice : Choice) {r r' p p' q q' : Value} → r ≡ r' → p ≡ p' → q ≡ q' → is_ok (fused k choice r' p' q') ≡ true → is_ok (fused k choice r p q) ≡ true
carry_given k choice {r} {r'} {p} {p'} {q} {q'} e f g h =
    subst (λ x. is_ok (fused k choice x p q) ≡ true) (sym e) (subst (λ x. is_ok (fused k choice r' x q) ≡ true) (sym f) (subst (λ x. is_ok (fused k choice r' p' x) ≡ true) (sym g) h))

pub carry_is : (k : ℕ) (choice : Choice) {r r' p p' q q' z : Value} → r ≡ r' → p ≡ p' → q ≡ q' → fused k choice r p q ≡ Ok z → fused k choice r' p' q' ≡ Ok z
carry_is k choice {r} {r'} {p} {p'} {q} {q'} {z} e f g h =
    subst (λ x. fused k choice x p' q' ≡ Ok z) e (subst (λ x. fused k choice r x q' ≡ Ok z) f (subst (λ x. fused k choice r p x ≡ Ok z) g h))
