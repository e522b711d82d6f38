-- A step of a sheet by its signs: what its equation says, and that it is not refused where its exact sum is of moderate size.
use Rattle.std.proofs.Common.{◌≡◌, ℕ, suc, ◌*◌, ◌^◌, ◌≤◌, Bool, true, false, not, ◌⊎◌, is_ok, Ok, sym, refl, subst, inl, inr, arith, pow_pos}
use mathlib.Core.Bool.{beq}
use Rattle.registers.specs.declared.register.Choice.{Choice}
use Rattle.registers.specs.declared.fused.FusedSum.{FusedSum}
use Rattle.registers.specs.Fused.{fused, fused_sign, fused_size, product_sign}
use Rattle.registers.specs.Lines.{Sum}
use Rattle.registers.specs.Range.{bias}
use Rattle.registers.specs.Values.{Value, value}
use Rattle.registers.proofs.Granted.{Sized, step_given, within}
use Rattle.registers.proofs.Near.{Near}
use Rattle.registers.proofs.Related.{fused_line, sum_of}
use Rattle.registers.proofs.Signs.{Line, line_of, true≢false}
use Rattle.sheets.specs.Operands.{Moderate}
use Rattle.sheets.proofs.Sizes.{wider}

-- the two widths
abbrev pub Width : ℕ → Type 0
Width k = (k ≡ 24) ⊎ (k ≡ 30)

pub narrow : Width 24
narrow = inl refl

pub wide : Width 30
wide = inr refl

-- signs of products
pub with_plus : (s t : Bool) → t ≡ false → not (beq s t) ≡ s
with_plus s true e = absurd (true≢false e)
with_plus true false e = refl
with_plus false false e = refl

pub of_plus : (t : Bool) → t ≡ false → not (beq false t) ≡ false
of_plus false e = refl
of_plus true e = e

pub with_itself : (s : Bool) → not (beq s s) ≡ false
with_itself true = refl
with_itself false = refl

pub both_plus : (s t : Bool) → s ≡ false → t ≡ false → beq s t ≡ true
both_plus false false e f = refl
both_plus false true e f = sym f
both_plus true t e f = absurd (true≢false e)

-- the exact sum of a step, with the signs of its two terms
pub exact_sum : (choice : Choice) (r p q : Value) (s t : Bool) → r.negative ≡ s → product_sign choice p q ≡ t
    → Sum s (r.units * 2 ^ bias) t (p.units * q.units) (fused_sign choice r p q) (fused_size choice r p q)
exact_sum choice r p q s t e f =
    subst (λ x. Sum x (r.units * 2 ^ bias) t (p.units * q.units) (fused_sign choice r p q) (fused_size choice r p q)) e
    (subst (λ x. Sum r.negative (r.units * 2 ^ bias) x (p.units * q.units) (fused_sign choice r p q) (fused_size choice r p q)) f
    (sum_of r.negative (r.units * 2 ^ bias) (product_sign choice p q) (p.units * q.units)))

pub line_at : (k : ℕ) → Width k → (choice : Choice) (r p q z : Value) (s t : Bool) → r.negative ≡ s → product_sign choice p q ≡ t → fused k choice r p q ≡ Ok z
    → Line k (2 ^ bias) s r.units t (p.units * q.units) z.negative z.units
line_at k w choice r p q z s t e f h =
    subst (λ x. Line k (2 ^ bias) x r.units t (p.units * q.units) z.negative z.units) e
    (subst (λ x. Line k (2 ^ bias) r.negative r.units x (p.units * q.units) z.negative z.units) f
    (line_of k (some w) (fused_line k w choice r p q z h)))
  where
    some : Width k → 1 ≤ k
    some (inl x) = omega arith
    some (inr x) = omega arith

pub given_at : (k : ℕ) → Width k → (choice : Choice) (r p q : Value) (s t : Bool) → r.negative ≡ s → product_sign choice p q ≡ t
    → (c : ℕ) → c ≤ 299 → ((u : Bool) (n : ℕ) → Sum s (r.units * 2 ^ bias) t (p.units * q.units) u n → Sized (2 ^ bias) c n)
    → is_ok (fused k choice r p q) ≡ true
given_at k w choice r p q s t e f c few sized = step_given k w choice r p q c few (sized _ _ (exact_sum choice r p q s t e f))

-- a line is of moderate size where its exact sum is
pub moderate : (k c : ℕ) → 1 ≤ k → suc c ≤ 300 → (n : ℕ) (v : Value) → Near (2 ^ k) n (v.units * 2 ^ bias) → Sized (2 ^ bias) c n → Moderate v
moderate k c h few n v near sized = wider (2 ^ bias) (pow_pos bias) (suc c) 300 few v.units (within (2 ^ bias) (pow_pos bias) k c n v.units h near sized)

-- a step by the sum that it takes
pub sum_given : (k : ℕ) {s t : FusedSum} → s ≡ t → is_ok (fused k t.choice (value t.r) (value t.p) (value t.q)) ≡ true → is_ok (fused k s.choice (value s.r) (value s.p) (value s.q)) ≡ true
sum_given k e h = subst (λ (x : FusedSum). is_ok (fused k x.choice (value x.r) (value x.p) (value x.q)) ≡ true) (sym e) h

pub sum_is : (k : ℕ) {s t : FusedSum} {z : Value} → s ≡ t → fused k s.choice (value s.r) (value s.p) (value s.q) ≡ Ok z → fused k t.choice (value t.r) (value t.p) (value t.q) ≡ Ok z
sum_is k {s} {t} {z} e h = subst (λ (x : FusedSum). fused k x.choice (value x.r) (value x.p) (value x.q) ≡ Ok z) e h
