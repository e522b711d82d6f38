-- The sum of two signed numbers, and as it is held.
use Rattle.std.proofs.Common.{◌≡◌, ℕ, ◌+◌, ◌-◌, ◌*◌, ◌^◌, ◌<◌, ◌≤◌, Bool, true, false, cond, not, ◌&&◌, ltb, sym, refl, ap, ◌∙◌, subst, inl, inr, lt_of_lt_of_le, add-zero, mul-le-mul_right, mul_assoc, suc-mul, mul_comm, add-mul, add_comm, mul-lt-mul_of_pos_right, mul-pos, arith, pow_pos, pow_mono, pow-add}
use mathlib.Core.Bool.{beq}
use native.Mathlib.Nat.{mul-sub}
use Rattle.std.proofs.lemmas.Bool.{lt-ltb, le-ltb, cases_lt, cases_Bool, both_ways}
use Rattle.registers.specs.Held.{Held}
use Rattle.registers.specs.Sides.{one}
use Rattle.registers.specs.Sums.{sum_size, sum_sign}

pub sub_mul : (a b c : ℕ) → (a - b) * c ≡ a * c - b * c
sub_mul a b c = mul_comm (a - b) c ∙ mul-sub c a b ∙ rw (mul_comm c a, mul_comm c b)

-- ---- a sum does not turn on the unit

ltb_scaled : (a b c : ℕ) → 0 < c → ltb (a * c) (b * c) ≡ ltb a b
ltb_scaled a b c p = elim (cases_lt a b) [
  | inl l ↦ lt-ltb (a * c) (b * c) (mul-lt-mul_of_pos_right l p) ∙ sym (lt-ltb a b l)
  | inr g ↦ le-ltb (a * c) (b * c) (mul-le-mul_right c g) ∙ sym (le-ltb a b g)
]

cond_scaled : (t : Bool) (x y c : ℕ) → cond t (x * c) (y * c) ≡ cond t x y * c
cond_scaled true x y c = refl
cond_scaled false x y c = refl

pub size_scaled : (s t : Bool) (a b c : ℕ) → 0 < c → sum_size s (a * c) t (b * c) ≡ sum_size s a t b * c
size_scaled s t a b c p =
    rw (ltb_scaled a b c p, ← sub_mul b a c, ← sub_mul a b c, ← add-mul a b c, cond_scaled (ltb a b) (b - a) (a - b) c, cond_scaled (beq s t) (a + b) (cond (ltb a b) (b - a) (a - b)) c)

pub sign_scaled : (s t : Bool) (a b c : ℕ) → 0 < c → sum_sign s (a * c) t (b * c) ≡ sum_sign s a t b
sign_scaled s t a b c p = rw (ltb_scaled a b c p, ltb_scaled b a c p)

-- ---- whole numbers of one unit

pub held_whole : (x e : ℕ) → Held x e false (x * 2 ^ e)
held_whole x e = record { rest = 0; parts = sym (add-zero (x * 2 ^ e)); small = pow_pos e; told = refl }

pub near_held : (s t : Bool) (a b e w : ℕ) → w ≡ sum_size s a t b → Held w e false (sum_size s (a * 2 ^ e) t (b * 2 ^ e))
near_held s t a b e w d = subst (Held w e false) (ap (λ (x : ℕ). x * 2 ^ e) d ∙ sym (size_scaled s t a b (2 ^ e) (pow_pos e))) (held_whole w e)

pub near_sign : (s t z : Bool) (a b e : ℕ) → z ≡ sum_sign s a t b → z ≡ sum_sign s (a * 2 ^ e) t (b * 2 ^ e)
near_sign s t z a b e d = d ∙ sym (sign_scaled s t a b (2 ^ e) (pow_pos e))

-- ---- terms far from one another

-- a multiple of a lower power
pub raise_parts : (a k e f : ℕ) → k + e ≡ f → a * 2 ^ f ≡ a * 2 ^ k * 2 ^ e
raise_parts a k e f d = ap (λ (x : ℕ). a * 2 ^ x) (sym d) ∙ ap (λ (x : ℕ). a * x) (pow-add 2 k e) ∙ sym (mul_assoc a (2 ^ k) (2 ^ e))

-- the lower term is less than the unit
low_part : (b f e : ℕ) → b < 2 ^ 60 → 0 < b → f + 60 ≤ e → (0 < b * 2 ^ f) × (b * 2 ^ f < 2 ^ e)
low_part b f e l p d = (
  mul-pos p (pow_pos f),
  lt_of_lt_of_le (mul-lt-mul_of_pos_right l (pow_pos f)) (subst (λ (x : ℕ). x ≤ 2 ^ e) (ap (λ (x : ℕ). 2 ^ x) (add_comm f 60) ∙ pow-add 2 60 f) (pow_mono d)),
)

-- the sum and its sign, by how the signs and the sizes lie
size_alike : (s t : Bool) (x y : ℕ) → beq s t ≡ true → sum_size s x t y ≡ x + y
size_alike s t x y e = rw e

sign_alike : (s t : Bool) (x y : ℕ) → beq s t ≡ true → sum_sign s x t y ≡ s
sign_alike s t x y e = rw e

size_above : (s t : Bool) (x y : ℕ) → beq s t ≡ false → y ≤ x → sum_size s x t y ≡ x - y
size_above s t x y e l = rw (e, le-ltb x y l)

sign_above : (s t : Bool) (x y : ℕ) → beq s t ≡ false → y < x → sum_sign s x t y ≡ s
sign_above s t x y e l = rw (e, le-ltb x y (omega arith), lt-ltb y x l) (and_true s)
  where
    and_true : (b : Bool) → (b && true) ≡ b
    and_true true = refl
    and_true false = refl

module _ (s t : Bool) (a ea b eb w e : ℕ) (few : b < 2 ^ 60) (some : 0 < b) (apart : 64 ≤ ea - eb) (e-is : e + 4 ≡ ea) where
  low : (0 < b * 2 ^ eb) × (b * 2 ^ eb < 2 ^ e)
  low = low_part b eb e few some (omega arith)

  up : a * 2 ^ ea ≡ a * 2 ^ 4 * 2 ^ e
  up = raise_parts a 4 e ea (omega arith)

  -- where the signs differ there is one unit less, and a part of that one more
  pub far_held : (u : Bool) → not (beq s t) ≡ u → 0 < a → w + one u ≡ a * 2 ^ 4 → Held w e true (sum_size s (a * 2 ^ ea) t (b * 2 ^ eb)) × (s ≡ sum_sign s (a * 2 ^ ea) t (b * 2 ^ eb))
  far_held false d p is =
      let k : beq s t ≡ true = elim (cases_Bool (beq s t)) [ inl y ↦ y | inr z ↦ absurd (both_ways (not (beq s t)) d (ap not z)) ] in
      let v : w ≡ a * 2 ^ 4 = omega arith in (
        record {
          rest = b * 2 ^ eb;
          parts = size_alike s t (a * 2 ^ ea) (b * 2 ^ eb) k ∙ ap (λ (x : ℕ). x + b * 2 ^ eb) (up ∙ ap (λ (x : ℕ). x * 2 ^ e) (sym v));
          small = low.1;
          told = sym (lt-ltb 0 (b * 2 ^ eb) low.0);
        },
        sym (sign_alike s t (a * 2 ^ ea) (b * 2 ^ eb) k),
      )
  far_held true d p is =
      let k : beq s t ≡ false = elim (cases_Bool (beq s t)) [ inl y ↦ absurd (both_ways (not (beq s t)) (ap not y) d) | inr z ↦ z ] in
      let v : w * 2 ^ e + 2 ^ e ≡ a * 2 ^ 4 * 2 ^ e = sym (suc-mul w (2 ^ e)) ∙ ap (λ (x : ℕ). x * 2 ^ e) (omega arith) in
      let l : b * 2 ^ eb < a * 2 ^ ea = omega (arith, up, low.1, v) in (
        record {
          rest = 2 ^ e - b * 2 ^ eb;
          parts = size_above s t (a * 2 ^ ea) (b * 2 ^ eb) k (omega arith) ∙ omega (arith, v, up, low.1);
          small = omega (arith, low.0, pow_pos e);
          told = sym (lt-ltb 0 (2 ^ e - b * 2 ^ eb) (omega (arith, low.1)));
        },
        sym (sign_above s t (a * 2 ^ ea) (b * 2 ^ eb) k l),
      )
