-- Sizes of exact sums. A number of at most 30 bits that is not small is a whole number of coarse parts, so a difference of such products is zero or not small: that is what keeps the small terms of a round within the exponents.
use Rattle.std.specs.Prelude.{◌≡◌, ℕ, zero, ◌+◌, ◌-◌, ◌*◌, ◌^◌, ◌≤◌, Bool, true, false, ◌⊎◌}
use Rattle.std.proofs.Common.{mul-le-mul_right, arith, sym, ap, ◌∙◌, inl, inr, pow_pos, pow-add, pow_mono}
use Rattle.std.proofs.Math.Nat.{le_dest, eq_of_mul-eq-mul_right}
use Rattle.std.proofs.lemmas.Bool.{cases_lt, lt-ltb, le-ltb}
use Rattle.registers.specs.Sums.{sum_size}
use Rattle.registers.specs.Range.{bias, bias_is}
use Rattle.registers.specs.Laws.{Bits}
use Rattle.registers.specs.Lines.{FusedLine}
use Rattle.registers.proofs.Granted.{Sized}
use Rattle.registers.proofs.Related.{rounded_of}

-- n squared units are zero, or from 2 ^ -100 to 2 ^ 100
abbrev pub Moderate : ℕ → Type 0
Moderate n = Sized (2 ^ bias) 100 n

-- one squared
pub square : 2 ^ bias * 2 ^ bias ≡ 2 ^ (bias + bias)
square = sym (pow-add 2 bias bias)

-- a factor of the powers
pub scaled : (k : ℕ) → k ≤ bias → 2 ^ k * 2 ^ (bias - k) ≡ 2 ^ bias
scaled k h = sym (pow-add 2 k (bias - k)) ∙ ap (λ x. 2 ^ x) e
  where
    e : k + (bias - k) ≡ bias
    e = omega arith

mono : (i j : ℕ) → i ≤ j → 2 ^ i ≤ 2 ^ j
mono i j h = pow_mono h

pub large : 4 * 2 ^ 30 ≤ 2 ^ bias
large = omega (arith, mono 32 bias (omega (arith, bias_is)))

-- ---- whole numbers of coarse parts

-- a whole number of 2 ^ i
abbrev pub Coarse : ℕ → ℕ → Type 0
Coarse i v = (m : ℕ) × (v ≡ m * 2 ^ i)

pub coarse_power : (i : ℕ) → Coarse i (2 ^ i)
coarse_power i = (1, omega arith)

pub coarse_product : (i j k x y : ℕ) → k ≤ i + j → Coarse i x → Coarse j y → Coarse k (x * y)
coarse_product i j k x y h m n = go (le_dest h)
  where
    go : (d : ℕ) × (k + d ≡ i + j) → (p : ℕ) × (x * y ≡ p * 2 ^ k)
    go d = (m.0 * n.0 * 2 ^ d.0, ap (λ z. z * y) m.1 ∙ ap (λ z. m.0 * 2 ^ i * z) n.1 ∙ omega arith ∙ ap (λ z. m.0 * n.0 * z) (sym (pow-add 2 i j) ∙ ap (λ z. 2 ^ z) (sym d.1) ∙ pow-add 2 k d.0) ∙ omega arith)

-- ---- differences

-- the parts of which a moderate sum is a whole number
abbrev pub parts : ℕ
parts = bias + bias - 100

parts_are : 2 ^ parts * 2 ^ 100 ≡ 2 ^ bias * 2 ^ bias
parts_are = sym (pow-add 2 parts 100) ∙ ap (λ x. 2 ^ x) e ∙ sym square
  where
    e : parts + 100 ≡ bias + bias
    e = omega (arith, bias_is)

difference : (x y : ℕ) → (sum_size false x true y + y ≡ x) ⊎ (sum_size false x true y + x ≡ y)
difference x y = elim (cases_lt x y) [ inl l ↦ inr (rw (lt-ltb x y l) (omega arith)) | inr g ↦ inl (rw (le-ltb x y g) (omega arith)) ]

gap : (P n c d : ℕ) → n + d * P ≡ c * P → (n ≡ zero) ⊎ (P ≤ n)
gap P n c d e = elim (cases_lt d c) [ inl l ↦ inr (omega (arith, e, mul-le-mul_right P l)) | inr g ↦ inl (omega (arith, e, mul-le-mul_right P g)) ]

apart_coarse : (P x y : ℕ) → (c : ℕ) × (x ≡ c * P) → (d : ℕ) × (y ≡ d * P) → (sum_size false x true y ≡ zero) ⊎ (P ≤ sum_size false x true y)
apart_coarse P x y c d = elim (difference x y) [ inl e ↦ gap P (sum_size false x true y) c.0 d.0 (omega (arith, e, c.1, d.1)) | inr e ↦ gap P (sum_size false x true y) d.0 c.0 (omega (arith, e, c.1, d.1)) ]

-- a difference of coarse numbers
pub moderate_apart : (x y : ℕ) → Coarse parts x → Coarse parts y → x ≤ 16 * (2 ^ bias * 2 ^ bias) → y ≤ 16 * (2 ^ bias * 2 ^ bias) → Moderate (sum_size false x true y)
moderate_apart x y c d hx hy = elim (apart_coarse (2 ^ parts) x y c d) [
  | inl z ↦ inl z
  | inr g ↦ inr (omega (arith, parts_are, mul-le-mul_right (2 ^ 100) g), elim (difference x y) [ inl e ↦ omega (arith, e) | inr e ↦ omega (arith, e) ])
]

-- n + k and n - k, where k is at most 3/4 of n; W is one squared
moderate : (W n k : ℕ) (t : Bool) → W ≤ 8 * n → n ≤ 8 * W → 4 * k ≤ 3 * n → (W ≤ sum_size false n t k * 2 ^ 100) × (sum_size false n t k ≤ W * 2 ^ 100)
moderate W n k false a b c = (omega arith, omega arith)
moderate W n k true a b c = elim (difference n k) [ inl e ↦ (omega (arith, e), omega (arith, e)) | inr e ↦ (omega (arith, e), omega (arith, e)) ]

pub moderate_next : (n k : ℕ) (t : Bool) → 2 ^ bias * 2 ^ bias ≤ 8 * n → n ≤ 8 * (2 ^ bias * 2 ^ bias) → 4 * k ≤ 3 * n → Moderate (sum_size false n t k)
moderate_next n k t a b c = inr (moderate (2 ^ bias * 2 ^ bias) n k t a b c)

-- ---- numbers of 30 bits

-- one that is large has a last place that is not small
deep : (k j : ℕ) (v : ℕ) → (b : Bits 30 v) → 2 ^ (30 + k) ≤ 2 ^ j * v → (d : ℕ) × (k + d ≡ j + b.exp)
deep k j v b h = elim (cases_lt (j + b.exp) k) [
  | inl l ↦ absurd (omega (arith, h, pow-add 2 30 k, pow-add 2 j b.exp, mono (1 + (j + b.exp)) k (omega (arith, l)), pow-add 2 1 (j + b.exp), small, pow_pos (j + b.exp)))
  | inr g ↦ le_dest g
]
  where
    small : 2 ^ j * v ≤ 2 ^ 30 * (2 ^ j * 2 ^ b.exp)
    small = omega (arith, ap (λ x. 2 ^ j * x) b.is, mul-le-mul_right (2 ^ j * 2 ^ b.exp) b.fits)

-- one that is not below 1/4 is a whole number of parts of 2 ^ -40
pub coarse_of : (v : ℕ) → Bits 30 v → 2 ^ bias ≤ 4 * v → Coarse (bias - 40) v
coarse_of v b h = go (deep (bias - 40 + 2) 2 v b (omega (arith, h, mono (30 + (bias - 40 + 2)) bias (omega (arith, bias_is)))))
  where
    go : (d : ℕ) × (bias - 40 + 2 + d ≡ 2 + b.exp) → Coarse (bias - 40) v
    go d = (b.part * 2 ^ d.0, b.is ∙ ap (λ x. b.part * 2 ^ x) e ∙ ap (λ x. b.part * x) (pow-add 2 (bias - 40) d.0) ∙ omega arith)
      where
        e : b.exp ≡ bias - 40 + d.0
        e = omega (arith, d.1)

-- what a step gives, unless it is small, has 30 bits
pub bits_of : {a b s : Bool} {r t v : ℕ} → FusedLine 30 (2 ^ bias) a r b t s v → 2 ^ bias ≤ 4 * v → Bits 30 v
bits_of {v = v} f h = go (deep (bias + 2) 2 (v * 2 ^ bias) w (omega (arith, mul-le-mul_right (2 ^ bias) h, square, mono (30 + (bias + 2)) (bias + bias) (omega (arith, bias_is)))))
  where
    w : Bits 30 (v * 2 ^ bias)
    w = (rounded_of 30 f.n (v * 2 ^ bias) f.round (omega arith)).bits

    go : (d : ℕ) × (bias + 2 + d ≡ 2 + w.exp) → Bits 30 v
    go d = record { part = w.part; exp = d.0; fits = w.fits; is = eq_of_mul-eq-mul_right (2 ^ bias) (pow_pos bias) v (w.part * 2 ^ d.0) (w.is ∙ ap (λ x. w.part * 2 ^ x) e ∙ ap (λ x. w.part * x) (pow-add 2 bias d.0) ∙ omega arith) }
      where
        e : w.exp ≡ bias + d.0
        e = omega (arith, d.1)
