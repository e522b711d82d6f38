-- An operand as a significand of 24 bits and an exponent, in register units; and a seed brought to it.
use Rattle.std.proofs.Common.{◌≡◌, ℕ, ◌+◌, ◌-◌, ◌*◌, ◌/◌, ◌%◌, ◌^◌, ◌<◌, ◌≤◌, eqb, sym, refl, ap, ◌∙◌, inl, inr, mul-le-mul_right, mul_assoc, mul-le-mul, mul-le-mul_left, le_of_mul-le-mul_right, arith, pow_pos, pow_mono, pow-add}
use Rattle.std.proofs.lemmas.Bool.{cases_Bool, cases_order, eqb-true, eqb-false}
use Rattle.registers.specs.Laws.{Bits}
use Rattle.registers.specs.Range.{bias, bias_is, unit}
use Rattle.registers.specs.Values.{Value}
use Rattle.registers.proofs.Granted.{below_of}
use Rattle.sources.specs.Seeds.{IsRadicand, IsSignificand, ReciprocalSeed, RootSeed, plain}
use Rattle.sheets.specs.Operands.{radicand_of}
use Rattle.sheets.proofs.Powers.{power_parts}
use Rattle.sheets.proofs.RootNear.{sq_le}
use Rattle.sheets.proofs.Shape.{Shape}

-- a magnitude of n units of 2 ^ -149 is a significand times 2 ^ (exponent - 172)
pub record Decoded (n : ℕ) : Type 0 where
  pub significand : ℕ
  pub exponent : ℕ
  pub range : IsSignificand significand
  pub few : exponent ≤ 276
  pub is : significand * 2 ^ exponent ≡ n * 2 ^ 23

raised : 2 ^ (bias - 149) ≡ 2 ^ 23 * 2 ^ (bias - 172)
raised = power_parts (bias - 149) 23 (bias - 172) (split bias_is)
  where
    split : bias ≡ unit → bias - 149 ≡ 23 + (bias - 172)
    split e = omega arith

full : 2 ^ bias ≡ 2 ^ 172 * 2 ^ (bias - 172)
full = power_parts bias 172 (bias - 172) (split bias_is)
  where
    split : bias ≡ unit → bias ≡ 172 + (bias - 172)
    split e = omega arith

module _ (n : ℕ) (o : Decoded n) where
  at_base : n * 2 ^ (bias - 149) ≡ o.significand * 2 ^ o.exponent * 2 ^ (bias - 172)
  at_base = by n (o.significand * 2 ^ o.exponent) (2 ^ (bias - 149)) (2 ^ (bias - 172)) raised o.is
    where
      by : (n m u v : ℕ) → u ≡ 2 ^ 23 * v → m ≡ n * 2 ^ 23 → n * u ≡ m * v
      by n m u v e f = rw (e, f) (omega arith)

  -- in register units
  pub placed_units : n * 2 ^ (bias - 149) ≡ o.significand * 2 ^ (o.exponent + (bias - 172))
  placed_units = at_base ∙ mul_assoc o.significand (2 ^ o.exponent) (2 ^ (bias - 172)) ∙ ap (λ t. o.significand * t) (sym (pow-add 2 o.exponent (bias - 172)))

  -- in squared units
  pub product_place : n * 2 ^ (bias - 149) * 2 ^ bias ≡ o.significand * 2 ^ (o.exponent + (bias - 172) + bias)
  product_place = ap (λ t. t * 2 ^ bias) placed_units ∙ mul_assoc o.significand (2 ^ (o.exponent + (bias - 172))) (2 ^ bias) ∙ ap (λ t. o.significand * t) (sym (pow-add 2 (o.exponent + (bias - 172)) bias))

  abbrev pub shape : Shape (2 ^ bias) (n * 2 ^ (bias - 149))
  shape = record { w = bias; significand = o.significand; exponent = o.exponent + (bias - 172) + bias; whole = refl; is = product_place; least = o.range.least; most = o.range.most }

  pub least : 2 ^ bias ≤ n * 2 ^ (bias - 149) * 2 ^ 149
  least = omega (arith, full, at_base, mul-le-mul_right (2 ^ (bias - 172)) (mul-le-mul o.range.least (pow_pos o.exponent)))

  pub most : n * 2 ^ (bias - 149) ≤ 2 ^ bias * 2 ^ 128
  most = omega (arith, full, at_base, mul-le-mul_right (2 ^ (bias - 172)) (mul-le-mul {n₁ = o.significand} {n₂ = 2 ^ 24} (omega (arith, o.range.most)) (pow_mono {i = o.exponent} {j = 276} o.few)))

  pub units_bits : Bits 24 (n * 2 ^ (bias - 149))
  units_bits = record { part = o.significand; exp = o.exponent + (bias - 172); fits = o.range.most; is = placed_units }

  -- the closeness of the seed for its significand is that of the seed brought to it
  pub reciprocal_close : (y y0 : ℕ) → ReciprocalSeed 400 o.significand y → y0 * 2 ^ o.exponent ≡ y * 2 ^ 149
      → (399 * (2 ^ bias * 2 ^ bias) ≤ 400 * (n * 2 ^ (bias - 149) * y0)) × (400 * (n * 2 ^ (bias - 149) * y0) ≤ 401 * (2 ^ bias * 2 ^ bias))
  reciprocal_close y y0 c e = (
    le_of_mul-le-mul_right {k = 2 ^ 23} (omega (arith, mul-le-mul_right (2 ^ bias) c.least, scaled)) (omega arith),
    le_of_mul-le-mul_right {k = 2 ^ 23} (omega (arith, mul-le-mul_right (2 ^ bias) c.most, scaled)) (omega arith),
  )
    where
      by : (m B p y y0 u W : ℕ) → m ≡ B * p * u → y0 * p ≡ y * 2 ^ 149 → W ≡ 2 ^ 172 * u → m * y0 * 2 ^ 23 ≡ y * B * W
      by m B p y y0 u W f g h = rw (f, h) (omega (arith, ap (λ t. B * u * t) g))

      scaled : n * 2 ^ (bias - 149) * y0 * 2 ^ 23 ≡ y * o.significand * 2 ^ bias
      scaled = by (n * 2 ^ (bias - 149)) o.significand (2 ^ o.exponent) y y0 (2 ^ (bias - 172)) (2 ^ bias) at_base e full

-- a register number of 24 bits and an exponent is that of the magnitude
pub held_is : (n B k : ℕ) → B * 2 ^ k ≡ n * 2 ^ 23 → B * 2 ^ k * 2 ^ (bias - 172) ≡ n * 2 ^ (bias - 149)
held_is n B k e = omega (arith, ap (λ t. t * 2 ^ (bias - 172)) e, ap (λ t. n * t) raised)

-- a seed is of moderate size
pub reciprocal_moderate : (B y : ℕ) (v : Value) → IsSignificand B → ReciprocalSeed 400 B y → v ≡ plain y → (2 ^ bias ≤ v.units * 2 ^ 150) × (v.units ≤ 2 ^ bias * 2 ^ 150)
reciprocal_moderate B y v r c e = (
  omega (arith, ap (λ t. t.units) e, c.least, mul-le-mul_left {m = B} {n = 2 ^ 24} y (omega (arith, r.most))),
  omega (arith, ap (λ t. t.units) e, c.most, mul-le-mul_left y r.least),
)

-- ---- the seed of a root

-- an operand as T·4 ^ j
pub radicand_is : (B k : ℕ) → radicand_of B k * 2 ^ (2 * ((k + 1) / 2)) ≡ B * 2 ^ k * 2
radicand_is B k = elim (cases_Bool (eqb (k % 2) 0)) [
  | inl e ↦ rw e (even (eqb-true (k % 2) 0 e))
  | inr e ↦ rw e (odd (eqb-false (k % 2) 0 e))
]
  where
    power_is : (i : ℕ) → 2 * ((k + 1) / 2) ≡ i → 2 ^ (2 * ((k + 1) / 2)) ≡ 2 ^ i
    power_is i h = ap (λ t. 2 ^ t) h

    even : k % 2 ≡ 0 → 2 * B * 2 ^ (2 * ((k + 1) / 2)) ≡ B * 2 ^ k * 2
    even h = omega (arith, ap (λ t. B * t) (power_is k (omega arith)))

    odd : (k % 2 ≡ 0 → ⊥) → B * 2 ^ (2 * ((k + 1) / 2)) ≡ B * 2 ^ k * 2
    odd h = omega (arith, ap (λ t. B * t) (power_is (k + 1) (next (one_left h)) ∙ pow-add 2 k 1))
      where
        one_left : (k % 2 ≡ 0 → ⊥) → k % 2 ≡ 1
        one_left f = elim (cases_order (k % 2) 1) [ inl e ↦ e | inr o ↦ absurd (elim o [ inl l ↦ f (omega (arith, l)) | inr g ↦ omega (arith, g) ]) ]

        next : k % 2 ≡ 1 → 2 * ((k + 1) / 2) ≡ k + 1
        next e = omega arith

-- the closeness of the seed for T is that of the seed brought to the operand
pub root_close : (n T j z y0 : ℕ) → RootSeed 400 T z → T * 2 ^ (2 * j) ≡ n * 2 ^ 24 → y0 * 2 ^ j ≡ z * 2 ^ 75
    → (159201 * (2 ^ bias * 2 ^ bias * 2 ^ bias) ≤ 160000 * (n * 2 ^ (bias - 149) * y0 * y0)) × (160000 * (n * 2 ^ (bias - 149) * y0 * y0) ≤ 160801 * (2 ^ bias * 2 ^ bias * 2 ^ bias))
root_close n T j z y0 c e f = (
  le_of_mul-le-mul_right {k = 2 ^ 23} (omega (arith, mul-le-mul_right (2 ^ bias) c.least, scaled)) (omega arith),
  le_of_mul-le-mul_right {k = 2 ^ 23} (omega (arith, mul-le-mul_right (2 ^ bias) c.most, scaled)) (omega arith),
)
  where
    twofold : 2 ^ (2 * j) ≡ 2 ^ j * 2 ^ j
    twofold = power_parts (2 * j) j j (double j)
      where
        double : (j : ℕ) → 2 * j ≡ j + j
        double j = omega arith

    wide : 2 ^ bias ≡ 2 ^ 149 * 2 ^ (bias - 149)
    wide = power_parts bias 149 (bias - 149) (split bias_is)
      where
        split : bias ≡ unit → bias ≡ 149 + (bias - 149)
        split h = omega arith

    by : (p u W : ℕ) → T * (p * p) ≡ n * 2 ^ 24 → y0 * p ≡ z * 2 ^ 75 → W ≡ 2 ^ 149 * u → n * u * y0 * y0 * 2 ^ 23 ≡ z * z * T * W
    by p u W g h i = rw i (omega (arith, ap (λ t. t * (u * y0 * y0)) g, ap (λ t. T * u * (y0 * p) * t) h, ap (λ t. T * u * t * (z * 2 ^ 75)) h))

    scaled : n * 2 ^ (bias - 149) * y0 * y0 * 2 ^ 23 ≡ z * z * T * 2 ^ bias
    scaled = by (2 ^ j) (2 ^ (bias - 149)) (2 ^ bias) (ap (λ t. T * t) (sym twofold) ∙ e) f wide

-- a seed is of moderate size
pub root_moderate : (T z : ℕ) (v : Value) → IsRadicand T → RootSeed 400 T z → v ≡ plain z → (2 ^ bias ≤ v.units * 2 ^ 150) × (v.units ≤ 2 ^ bias * 2 ^ 150)
root_moderate T z v r c e = (omega (arith, ap (λ t. t.units) e, low), omega (arith, ap (λ t. t.units) e, high))
  where
    low : 2 ^ bias ≤ 3 * z
    low = sq_le (2 ^ bias) (3 * z) (omega (arith, c.least, mul-le-mul_left {m = T} {n = 2 ^ 25} (z * z) (omega (arith, r.most))))

    high : z ≤ 2 * 2 ^ bias
    high = sq_le z (2 * 2 ^ bias) (omega (arith, c.most, mul-le-mul_left (z * z) r.least))

-- ---- register numbers by their stored exponents

-- a power of two
pub power : (e i : ℕ) → i ≡ 29 + e → 0x20000000 * 2 ^ e ≡ 2 ^ i
power e i h = sym (power_parts i 29 e h)

-- a number of moderate size has a moderate exponent, and can be brought to another
module _ (S e : ℕ) (low : 2 ^ 29 ≤ S) (high : S < 2 ^ 30) (above : 2 ^ bias ≤ S * 2 ^ e * 2 ^ 150) (below : S * 2 ^ e ≤ 2 ^ bias * 2 ^ 150) where
  pub exponent_above : bias ≤ e + 180
  exponent_above = omega (arith, below_of bias (30 + e + 150) (omega (arith, above, pow-add 2 (30 + e) 150, pow-add 2 30 e, mul-le-mul_right (2 ^ e) high, pow_pos e)))

  pub exponent_below : e ≤ bias + 121
  exponent_below = omega (arith, below_of (29 + e) (bias + 151) (omega (arith, below, pow-add 2 29 e, pow-add 2 bias 151, mul-le-mul_right (2 ^ e) low, pow_pos bias)))

pub moved : (S e up down : ℕ) → down ≤ e + up → S * 2 ^ (e + up - down) * 2 ^ down ≡ S * 2 ^ e * 2 ^ up
moved S e up down h =
    mul_assoc S (2 ^ (e + up - down)) (2 ^ down)
    ∙ ap (λ x. S * x) (sym (pow-add 2 (e + up - down) down) ∙ power_parts (e + up - down + down) e up sums)
    ∙ sym (mul_assoc S (2 ^ e) (2 ^ up))
  where
    sums : e + up - down + down ≡ e + up
    sums = omega arith
