-- What a fused step that is not refused says over whole numbers, and when it is not refused.
use Rattle.std.proofs.Common.{◌≡◌, ℕ, zero, ◌+◌, ◌*◌, ◌/◌, ◌^◌, ◌<◌, ◌≤◌, Bool, true, false, cond, ◌&&◌, ◌||◌, eqb, leb, ◌⊎◌, Ok, Err, Result, sym, refl, ap, ◌∙◌, subst, inl, inr, mul-le-mul_right, zero-mul, mul-div_cancel, arith, pow_pos, pow_mono, pow-add}
use lib.Ieee.{size}
use lib.Ieee.Digits.{size-le}
use Rattle.std.proofs.lemmas.Bool.{cases_order, cases_lt, lt-ltb, le-ltb, eqb-true, eqb-false, eq-eqb, leb-true, false≢true, or_left, or_right}
use Rattle.registers.specs.Nearest.{nearest}
use Rattle.registers.specs.Sums.{sum_size, sum_sign}
use Rattle.registers.specs.Fused.{kept, fused, fused_size, fused_sign, product_sign}
use Rattle.registers.specs.Range.{bias, span}
use Rattle.registers.specs.Values.{Value}
use Rattle.registers.specs.declared.register.Choice.{Choice}
use Rattle.registers.specs.Laws.{Rounds, Bits}
use Rattle.registers.specs.Lines.{Sum, ExactSum, FusedLine}
use Rattle.registers.proofs.Spacing.{Rounded, order, raise}
use Rattle.registers.proofs.Near.{Near}
use Rattle.registers.proofs.Lawful.{rounds, rounds_short, rounds_closest, unique}
use Rattle.registers.proofs.Nearness.{nearest_error}

-- a rounding by what is needed of it
pub rounded_of : (k n v : ℕ) → Rounds k n v → 1 ≤ k → Rounded k n v
rounded_of k n v r h = record { near = near; bits = rounds_short k n v r h; closest = rounds_closest k n v r h }
  where
    near : Near (2 ^ k) n v
    near =
        let e : nearest k n ≡ v = unique k n (nearest k n) v (rounds k n) r in
        subst (Near (2 ^ k) n) e ((nearest_error k n).1, (nearest_error k n).0)

-- ---- the exact sum

-- no proof cites it; it stands because no other fact states it
pub exact_of : (t : Bool) (a b : ℕ) → ExactSum false a t b (sum_sign false a t b) (sum_size false a t b)
exact_of false a b = record { sum = omega arith; plain = λ e. refl }
exact_of true a b = elim (cases_lt a b) [
  | inl h ↦ record { sum = rw (lt-ltb a b h) (omega arith); plain = λ e. absurd (omega (arith, rw (lt-ltb a b h) at e)) }
  | inr h ↦ record { sum = rw (le-ltb a b h) (omega arith); plain = λ e. rw (le-ltb a b h) refl }
]

pub sum_of : (s : Bool) (a : ℕ) (t : Bool) (b : ℕ) → Sum s a t b (sum_sign s a t b) (sum_size s a t b)
sum_of false a false b = omega arith
sum_of true a true b = omega arith
sum_of false a true b = elim (cases_lt a b) [ inl h ↦ rw (lt-ltb a b h) (omega arith) | inr h ↦ rw (le-ltb a b h) (omega arith) ]
sum_of true a false b = elim (cases_order a b) [
  | inl e ↦ rw (le-ltb a b (omega arith), le-ltb b a (omega arith)) (omega arith)
  | inr o ↦ elim o [ inl l ↦ rw (lt-ltb a b l) (omega arith) | inr g ↦ rw (le-ltb a b (omega arith), lt-ltb b a g) (omega arith) ]
]

-- ---- a register number of what is kept

given : Value → Result Value ℕ → Value
given d (Ok z) = z
given d (Err e) = d

pub is_given : Result Value ℕ → Bool
is_given (Ok z) = true
is_given (Err e) = false

-- the three ways of a kept number
ways : (x y : Bool) (z0 z1 z : Value) → cond {A = Result Value ℕ} x (Ok z0) (cond {A = Result Value ℕ} y (Ok z1) (Err 7)) ≡ Ok z → ((x ≡ true) × (z0 ≡ z)) ⊎ ((x ≡ false) × (y ≡ true) × (z1 ≡ z))
unfolding given is_given
ways true y z0 z1 z e = inl (refl, ap (given z0) e)
ways false true z0 z1 z e = inr (refl, refl, ap (given z1) e)
ways false false z0 z1 z e = absurd (false≢true (ap is_given e))

-- a number of at most 30 bits and of at least 30 + e digits is a multiple of 2 ^ e
whole_of : (v e : ℕ) → Bits 30 v → 30 + e ≤ size v → v / 2 ^ e * 2 ^ e ≡ v
whole_of v e b h = elim (order e b.exp) [ inl l ↦ fits (raise e b.exp l) | inr l ↦ absurd (omega (arith, size-le v (30 + b.exp) top)) ]
  where
    top : v < 2 ^ (30 + b.exp)
    top = omega (arith, b.is, pow-add 2 30 b.exp, mul-le-mul_right (2 ^ b.exp) b.fits, pow_pos b.exp)

    fits : (t : ℕ) × (2 ^ b.exp ≡ 2 ^ t * 2 ^ e) → v / 2 ^ e * 2 ^ e ≡ v
    fits t =
        let e' : v ≡ b.part * 2 ^ t.0 * 2 ^ e = omega (arith, b.is, ap (λ x. b.part * x) t.1) in
        ap (λ x. x / 2 ^ e * 2 ^ e) e' ∙ ap (λ x. x * 2 ^ e) (mul-div_cancel (b.part * 2 ^ t.0) (pow_pos e)) ∙ sym e'

-- what is kept of v with the sign s: nought, or v with that sign
pub record Kept (s : Bool) (v : ℕ) (z : Value) : Type 0 where
  pub whole : z.units * 2 ^ bias ≡ v
  pub plain : z.units ≡ zero → z.negative ≡ false
  pub sign : (v ≡ zero) ⊎ (z.negative ≡ s)

pub kept_of : (s : Bool) (v : ℕ) (z : Value) → Bits 30 v → kept s v ≡ Ok z → Kept s v z
kept_of s v z b e = elim (ways (eqb v 0) (leb (30 + bias) (size v) && leb (size v) (30 + span + bias)) _ _ z e) [
  | inl h ↦ subst (Kept s v) h.1 (record { whole = zero-mul (2 ^ bias) ∙ sym (eqb-true v 0 h.0); plain = λ k. refl; sign = inl (eqb-true v 0 h.0) })
  | inr h ↦
      let w : v / 2 ^ bias * 2 ^ bias ≡ v = whole_of v bias b (leb-true (30 + bias) (size v) (left (leb (30 + bias) (size v)) _ h.1)) in
      subst (Kept s v) h.2 (record { whole = w; plain = λ k. absurd (eqb-false v 0 h.0 (sym w ∙ ap (λ x. x * 2 ^ bias) k ∙ zero-mul (2 ^ bias))); sign = inr refl })
]
  where
    left : (x y : Bool) → (x && y) ≡ true → x ≡ true
    left true y h = refl
    left false y h = h

-- ---- a step

thirty : (k : ℕ) → k ≤ 30 → (v : ℕ) → Bits k v → Bits 30 v
thirty k h v b = record { part = b.part; exp = b.exp; fits = omega (arith, b.fits, pow_mono h); is = b.is }

pub fused_is : (k : ℕ) → (k ≡ 24) ⊎ (k ≡ 30) → (choice : Choice) (r p q z : Value) → fused k choice r p q ≡ Ok z → kept (fused_sign choice r p q) (nearest k (fused_size choice r p q)) ≡ Ok z
fused_is k w choice r p q z e = sym (rw known) ∙ e
  where
    known : (eqb k 24 || eqb k 30) ≡ true
    known = elim w [ inl x ↦ or_left _ _ (eq-eqb k 24 x) | inr y ↦ or_right _ _ (eq-eqb k 30 y) ]

pub fused_line : (k : ℕ) → (k ≡ 24) ⊎ (k ≡ 30) → (choice : Choice) (r p q z : Value) → fused k choice r p q ≡ Ok z
    → FusedLine k (2 ^ bias) r.negative r.units (product_sign choice p q) (p.units * q.units) z.negative z.units
fused_line k w choice r p q z e = record { n = n; sum = sum; round = subst (Rounds k n) (sym g.whole) near; plain = g.plain }
  where
    n : ℕ
    n = fused_size choice r p q

    near : Rounds k n (nearest k n)
    near = rounds k n

    some : 1 ≤ k
    some = elim w [ inl x ↦ omega arith | inr x ↦ omega arith ]

    few : k ≤ 30
    few = elim w [ inl x ↦ omega arith | inr x ↦ omega arith ]

    around : Rounded k n (nearest k n)
    around = rounded_of k n (nearest k n) near some

    g : Kept (fused_sign choice r p q) (nearest k n) z
    g = kept_of (fused_sign choice r p q) (nearest k n) z (thirty k few _ around.bits) (fused_is k w choice r p q z e)

    exactly : Sum r.negative (r.units * 2 ^ bias) (product_sign choice p q) (p.units * q.units) (fused_sign choice r p q) n
    exactly = sum_of r.negative (r.units * 2 ^ bias) (product_sign choice p q) (p.units * q.units)

    none : nearest k n ≡ zero → n ≡ zero
    none h = elim (order n zero) [ inl l ↦ omega (arith, l) | inr l ↦ absurd (omega (arith, around.near.1, h, ap (λ x. 2 ^ k * x) h, l, mul-le-mul_right n big)) ]
      where
        big : 2 ≤ 2 ^ k
        big = pow_mono {i = 1} some

    flat : (a : Bool) (x : ℕ) (b : Bool) (y : ℕ) (s t : Bool) → Sum a x b y s zero → Sum a x b y t zero
    flat a x b y false false h = h
    flat a x b y true true h = h
    flat a x b y false true h = h
    flat a x b y true false h = h

    sum : Sum r.negative (r.units * 2 ^ bias) (product_sign choice p q) (p.units * q.units) z.negative n
    sum = elim g.sign [
      | inl h ↦ let m : n ≡ zero = none h in
          subst (Sum r.negative (r.units * 2 ^ bias) (product_sign choice p q) (p.units * q.units) z.negative) (sym m)
          (flat r.negative (r.units * 2 ^ bias) (product_sign choice p q) (p.units * q.units) (fused_sign choice r p q) z.negative (subst (Sum r.negative (r.units * 2 ^ bias) (product_sign choice p q) (p.units * q.units) (fused_sign choice r p q)) m exactly))
      | inr h ↦ subst (λ s. Sum r.negative (r.units * 2 ^ bias) (product_sign choice p q) (p.units * q.units) s n) (sym h) exactly
    ]
