-- The sum of register numbers that stand for finite patterns, beside the sum of the patterns in units of 2 ^ -298: a sum does not turn on the unit, and the sign of a zero is of no account in a sum other than zero.
use Rattle.std.proofs.Common.{◌≡◌, ℕ, ◌+◌, ◌-◌, ◌*◌, ◌^◌, ◌<◌, ◌≤◌, Bool, true, false, cond, not, eqb, ltb, ◌⊎◌, Some, None, sym, refl, ap, ◌∙◌, subst, inl, inr, mul_assoc, mul-lt-mul_of_pos_right, mul-pos, mul-zero, zero-mul, arith, pow_pos, pow-add}
use mathlib.Core.Bool.{beq}
use Prim.Native.Nat.{compare}
use Rattle.std.proofs.lemmas.Bool.{lt-ltb, le-ltb, eq-eqb, ne_eqb, eqb-true, eqb-false, cases_lt, cases_eq, cases_order}
use Rattle.registers.specs.declared.mode.Mode.{Mode}
use Rattle.registers.specs.declared.mode.Rounded.{Rounded}
use Rattle.registers.specs.declared.mode.Mode.TheVariants.{NearestEven, Down, Up, TowardZero}
use Rattle.registers.specs.declared.pattern.Pattern.{Pattern}
use Rattle.registers.specs.declared.register.Choice.TheVariants.{Plus}
use Rattle.registers.specs.Binary32.{magnitude, rounding, place_on, is_tiny, seek, grid_wide, beside_whole}
use Rattle.registers.specs.Fused.{fused_size, fused_sign, product_sign}
use Rattle.registers.specs.Modes.{fused_rounded, rounded, under_sign, way_of}
use Rattle.registers.specs.Range.{bias, bias_is}
use Rattle.registers.specs.Sums.{sum_size, sum_sign}
use Rattle.registers.specs.Values.{Value}
use Rattle.registers.proofs.Adding.{raise_parts, size_scaled, sign_scaled}
use Rattle.registers.proofs.Compared.{cmp_lt, cmp_eq, cmp_gt}
use Rattle.registers.proofs.Grids.{rounding_alike}
use Rattle.registers.proofs.Scaling.{product_size}
use Rattle.bench.specs.Kinds.{is_negative, units, signs_differ}
use Rattle.bench.specs.Values.{beside_exact, fuse_size, fuse_sign, zero_sign, zero_rounded}

-- ---- the sign of a zero is of no account

size_left : (s t : Bool) (b : ℕ) → sum_size s 0 t b ≡ b
size_left s t b = go (beq s t) (cases_lt 0 b)
  where
    go : (x : Bool) → (0 < b) ⊎ (b ≤ 0) → cond x (0 + b) (cond (ltb 0 b) (b - 0) (0 - b)) ≡ b
    go true o = omega arith
    go false (inl l) = rw (lt-ltb 0 b l) (omega arith)
    go false (inr g) = rw (le-ltb 0 b g) (omega arith)

size_right : (s t : Bool) (a : ℕ) → sum_size s a t 0 ≡ a
size_right s t a = rw (le-ltb a 0 (omega arith)) (go (beq s t))
  where
    go : (x : Bool) → cond x (a + 0) (a - 0) ≡ a
    go true = omega arith
    go false = omega arith

sign_left : (s t : Bool) (b : ℕ) → 0 < b → sum_sign s 0 t b ≡ t
sign_left true true b h = refl
sign_left false false b h = refl
sign_left true false b h = rw (lt-ltb 0 b h)
sign_left false true b h = rw (lt-ltb 0 b h)

sign_right : (s t : Bool) (a : ℕ) → 0 < a → sum_sign s a t 0 ≡ s
sign_right true true a h = refl
sign_right false false a h = refl
sign_right true false a h = rw (le-ltb a 0 (omega arith), lt-ltb 0 a h)
sign_right false true a h = rw (le-ltb a 0 (omega arith))

signs_of_zeros : (s s' t t' : Bool) (a b : ℕ) → (0 < a → s' ≡ s) → (0 < b → t' ≡ t) → (sum_size s' a t' b ≡ sum_size s a t b) × (0 < sum_size s a t b → sum_sign s' a t' b ≡ sum_sign s a t b)
signs_of_zeros s s' t t' a b f g = elim (cases_eq a 0) [
  | inl z ↦ rw z (size_left s' t' b ∙ sym (size_left s t b), λ (h : 0 < sum_size s 0 t b). let p : 0 < b = omega (arith, size_left s t b) in sign_left s' t' b p ∙ g p ∙ sym (sign_left s t b p))
  | inr n ↦ elim (cases_eq b 0) [
    | inl z ↦ rw z (size_right s' t' a ∙ sym (size_right s t a), λ (h : 0 < sum_size s a t 0). let p : 0 < a = omega arith in sign_right s' t' a p ∙ f p ∙ sym (sign_right s t a p))
    | inr m ↦ rw (f (omega arith), g (omega arith)) (refl, λ (h : 0 < sum_size s a t b). refl)
  ]
]

-- ---- a whole number of units of 2 ^ -324 as a number of squared units of registers

compare_scaled : (a b c : ℕ) → 0 < c → compare (a * c) (b * c) ≡ compare a b
compare_scaled a b c p = elim (cases_order a b) [
  | inl e ↦ cmp_eq (a * c) (b * c) (ap (λ (x : ℕ). x * c) e) ∙ sym (cmp_eq a b e)
  | inr o ↦ elim o [
    | inl l ↦ cmp_lt (a * c) (b * c) (mul-lt-mul_of_pos_right l p) ∙ sym (cmp_lt a b l)
    | inr g ↦ cmp_gt (a * c) (b * c) (mul-lt-mul_of_pos_right g p) ∙ sym (cmp_gt a b g)
  ]
]

rounded_in_units : (mode : Mode) (s : Bool) (n : ℕ) → rounded mode s (beside_whole (n * 2 ^ (2 * bias - 298))) ≡ rounded mode s (beside_exact (n * 2 ^ 26))
rounded_in_units mode s n = ap (under_sign s) (rounding_alike (beside_whole (n * 2 ^ (2 * bias - 298))) (beside_exact (n * 2 ^ 26)) (λ m short. same m) (way_of mode s))
  where
    same : (m : ℕ) → compare (m * 2 ^ (2 * bias - 324)) (n * 2 ^ (2 * bias - 298)) ≡ compare m (n * 2 ^ 26)
    same m =
        ap (compare (m * 2 ^ (2 * bias - 324))) (raise_parts n 26 (2 * bias - 324) (2 * bias - 298) (omega (arith, bias_is)))
        ∙ compare_scaled m (n * 2 ^ 26) (2 ^ (2 * bias - 324)) (pow_pos (2 * bias - 324))

magnitude_nothing : (mode : Mode) (s : Bool) → rounding (way_of mode s) (beside_exact 0) ≡ record { pattern = 0; inexact = false; overflow = false; underflow = false }
unfolding rounding place_on is_tiny magnitude grid_wide seek
magnitude_nothing NearestEven s = refl
magnitude_nothing Down true = refl
magnitude_nothing Down false = refl
magnitude_nothing Up true = refl
magnitude_nothing Up false = refl
magnitude_nothing TowardZero s = refl

-- a value of zero is its own rounding
pub nothing : (mode : Mode) (s : Bool) → rounded mode s (beside_exact 0) ≡ zero_rounded s
nothing mode s = ap (under_sign s) (magnitude_nothing mode s)

-- ---- the rounded sum of the step

none_is : (mode : Mode) (s : Bool) (n : ℕ) → None ≡ cond (eqb n 0) None (Some (rounded mode s (beside_whole n))) → n ≡ 0
none_is mode s n e = go (eqb n 0) refl e
  where
    go : (b : Bool) → eqb n 0 ≡ b → None ≡ cond b None (Some (rounded mode s (beside_whole n))) → n ≡ 0
    go true z e = eqb-true n 0 z
    go false z e = absurd (let z : ◌≡◌ {A = ℕ} 0 1 = cc in omega arith)

some_is : (mode : Mode) (s : Bool) (n : ℕ) (v : Rounded) → Some v ≡ cond (eqb n 0) None (Some (rounded mode s (beside_whole n))) → (0 < n) × (v ≡ rounded mode s (beside_whole n))
some_is mode s n v e = go (eqb n 0) refl e
  where
    go : (b : Bool) → eqb n 0 ≡ b → Some v ≡ cond b None (Some (rounded mode s (beside_whole n))) → (0 < n) × (v ≡ rounded mode s (beside_whole n))
    go true z e = absurd (let z : ◌≡◌ {A = ℕ} 0 1 = cc in omega arith)
    go false z e = let i : v ≡ rounded mode s (beside_whole n) = cc in (omega (arith, eqb-false n 0 z), i)

positive_left : (a b : ℕ) → 0 < a * b → 0 < a
positive_left a b h = elim (cases_eq a 0) [ inl z ↦ absurd (omega (arith, ap (λ (x : ℕ). x * b) z, zero-mul b)) | inr n ↦ omega arith ]

positive_right : (a b : ℕ) → 0 < a * b → 0 < b
positive_right a b h = elim (cases_eq b 0) [ inl z ↦ absurd (omega (arith, ap (λ (x : ℕ). a * x) z, mul-zero a)) | inr n ↦ omega arith ]

-- what a register number says of the pattern that it was made from
pub record Held (p : Pattern) (v : Value) : Type 0 where
  pub size : v.units ≡ units p * 2 ^ (bias - 149)
  pub sign : 0 < units p → v.negative ≡ is_negative p

module _ (p q r : Pattern) (vp vq vr : Value) (hp : Held p vp) (hq : Held q vq) (hr : Held r vr) (mode : Mode) where
  addend_is : vr.units * 2 ^ bias ≡ units r * 2 ^ 149 * 2 ^ (2 * bias - 298)
  addend_is =
      ap (λ (x : ℕ). x * 2 ^ bias) hr.size ∙ mul_assoc (units r) (2 ^ (bias - 149)) (2 ^ bias) ∙ ap (λ (x : ℕ). units r * x) (sym (pow-add 2 (bias - 149) bias))
      ∙ raise_parts (units r) 149 (2 * bias - 298) (bias - 149 + bias) (omega (arith, bias_is))

  product_is : vp.units * vq.units ≡ units p * units q * 2 ^ (2 * bias - 298)
  product_is =
      let e : bias - 149 + (bias - 149) ≡ 2 * bias - 298 = omega (arith, bias_is) in
      sym (product_size (units p * units q) (units p) (bias - 149) (units q) (bias - 149) vp.units vq.units refl (sym hp.size) (sym hq.size)) ∙ ap (λ (x : ℕ). units p * units q * 2 ^ x) e

  product_sign_lem : 0 < units p * units q → product_sign Plus vp vq ≡ signs_differ p q
  unfolding signs_differ
  product_sign_lem h =
      ap (λ (x : Bool). not (beq x vq.negative)) (hp.sign (positive_left (units p) (units q) h))
      ∙ ap (λ (x : Bool). not (beq (is_negative p) x)) (hq.sign (positive_right (units p) (units q) h))

  sums : (fused_size Plus vr vp vq ≡ fuse_size p q r * 2 ^ (2 * bias - 298)) × (0 < fuse_size p q r → fused_sign Plus vr vp vq ≡ sum_sign (is_negative r) (units r * 2 ^ 149) (signs_differ p q) (units p * units q))
  unfolding fuse_size
  sums =
      let s : Bool = vr.negative in
      let t : Bool = product_sign Plus vp vq in
      let a : ℕ = units r * 2 ^ 149 in
      let b : ℕ = units p * units q in
      let c : ℕ = 2 ^ (2 * bias - 298) in
      let z = signs_of_zeros (is_negative r) s (signs_differ p q) t a b (λ h. hr.sign (positive_left (units r) (2 ^ 149) h)) product_sign_lem in (
        ap (λ (x : ℕ). sum_size s x t (vp.units * vq.units)) addend_is ∙ ap (λ (x : ℕ). sum_size s (a * c) t x) product_is ∙ size_scaled s t a b c (pow_pos (2 * bias - 298)) ∙ ap (λ (x : ℕ). x * c) z.0,
        λ (h : 0 < sum_size (is_negative r) a (signs_differ p q) b). ap (λ (x : ℕ). sum_sign s x t (vp.units * vq.units)) addend_is ∙ ap (λ (x : ℕ). sum_sign s (a * c) t x) product_is ∙ sign_scaled s t a b c (pow_pos (2 * bias - 298)) ∙ z.1 h,
      )

  sign_some : 0 < fuse_size p q r → fuse_sign mode p q r ≡ sum_sign (is_negative r) (units r * 2 ^ 149) (signs_differ p q) (units p * units q)
  unfolding fuse_sign
  sign_some n = rw (ne_eqb (fuse_size p q r) 0 (omega arith))

  sign_none : fuse_size p q r ≡ 0 → fuse_sign mode p q r ≡ zero_sign mode (is_negative r) (signs_differ p q)
  unfolding fuse_sign
  sign_none n = rw (eq-eqb (fuse_size p q r) 0 n)

  pub fuse_some : (v : Rounded) → Some v ≡ fused_rounded mode Plus vr vp vq → v ≡ rounded mode (fuse_sign mode p q r) (beside_exact (fuse_size p q r * 2 ^ 26))
  fuse_some v e =
      let o = some_is mode (fused_sign Plus vr vp vq) (fused_size Plus vr vp vq) v e in
      let n : 0 < fuse_size p q r = positive_left (fuse_size p q r) (2 ^ (2 * bias - 298)) (subst (λ (x : ℕ). 0 < x) sums.0 o.0) in
      o.1 ∙ ap (λ (x : ℕ). rounded mode (fused_sign Plus vr vp vq) (beside_whole x)) sums.0
      ∙ ap (λ (s : Bool). rounded mode s (beside_whole (fuse_size p q r * 2 ^ (2 * bias - 298)))) (sums.1 n ∙ sym (sign_some n)) ∙ rounded_in_units mode (fuse_sign mode p q r) (fuse_size p q r)

  pub fuse_none : None ≡ fused_rounded mode Plus vr vp vq → zero_rounded (zero_sign mode (is_negative r) (signs_differ p q)) ≡ rounded mode (fuse_sign mode p q r) (beside_exact (fuse_size p q r * 2 ^ 26))
  fuse_none e =
      let m : fuse_size p q r * 2 ^ (2 * bias - 298) ≡ 0 = sym sums.0 ∙ none_is mode (fused_sign Plus vr vp vq) (fused_size Plus vr vp vq) e in
      let n : fuse_size p q r ≡ 0 = elim (cases_lt 0 (fuse_size p q r)) [ inl l ↦ absurd (omega (arith, mul-pos l (pow_pos (2 * bias - 298)))) | inr g ↦ omega arith ] in
      ap zero_rounded (sym (sign_none n)) ∙ sym (nothing mode (fuse_sign mode p q r))
      ∙ ap (λ (x : ℕ). rounded mode (fuse_sign mode p q r) (beside_exact (x * 2 ^ 26))) (sym n)
