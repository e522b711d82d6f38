-- Constants and operands in units, and closeness in units of one: a seed's law is told with the operand's bits, the analysis with the operand in units.
use Rattle.std.specs.Prelude.{◌≡◌, ℕ, zero, ◌+◌, ◌-◌, ◌*◌, ◌^◌, ◌<◌, ◌≤◌, refl}
use Rattle.std.proofs.Common.{mul-le-mul_right, le_of_mul-le-mul_right, mul_assoc, arith, sym, ap, ◌∙◌, pow_pos}
use Rattle.registers.specs.Laws.{Bits}
use Rattle.registers.specs.Range.{bias, bias_is}
use Rattle.sources.specs.Convergence.{Inverse, InverseRoot}
use Rattle.sources.specs.Fractions.{fraction}
use Rattle.sources.specs.Seeds.{ReciprocalSeed, RootSeed}
use Rattle.sources.specs.Grain.{Coarse, scaled}

-- ---- the constants

pub one_is : fraction 1 0 ≡ 2 ^ bias
one_is = ap (λ x. 1 * 2 ^ x) e ∙ omega arith
  where
    e : bias - 0 ≡ bias
    e = omega arith

pub half_is : fraction 1 1 ≡ 2 ^ (bias - 1)
half_is = omega arith

pub halves : 2 ^ bias ≡ 2 * 2 ^ (bias - 1)
halves = sym (scaled 1 (omega (arith, bias_is)))

-- a / 256
pub ratio : (a : ℕ) → 256 * fraction a 8 ≡ a * 2 ^ bias
ratio a = go (2 ^ (bias - 8)) (2 ^ bias) (scaled 8 (omega (arith, bias_is)))
  where
    go : (u w : ℕ) → 2 ^ 8 * u ≡ w → 256 * (a * u) ≡ a * w
    go u w e = omega (arith, ap (λ x. a * x) e)

-- ---- the operands

-- an operand n / 2 ^ 23
pub operand_coarse : (n : ℕ) → Coarse (bias - 23) (fraction n 23)
operand_coarse n = (n, refl)

pub operand_least : (n : ℕ) → 2 ^ 23 ≤ n → 2 ^ bias ≤ fraction n 23
operand_least n h = omega (arith, scaled 23 (omega (arith, bias_is)), mul-le-mul_right (2 ^ (bias - 23)) h)

pub operand_most : (k n : ℕ) → n < k * 2 ^ 23 → fraction n 23 ≤ k * 2 ^ bias
operand_most k n h = omega (arith, ap (λ x. k * x) (scaled 23 (omega (arith, bias_is))), mul-le-mul_right (2 ^ (bias - 23)) h)

unit_parts : 2 ^ 23 * 2 ^ (bias - 23) ≡ 2 ^ bias
unit_parts = scaled 23 (omega (arith, bias_is))

-- ---- closeness

-- one is W, an operand of n bits is n parts u of one; V is any number
module _ (V W u : ℕ) (parts : 2 ^ 23 * u ≡ W) (n v : ℕ) where
  up_least : (i j : ℕ) → i * (V * 2 ^ 23) ≤ j * (v * n) → i * (V * W) ≤ j * (n * u * v)
  up_least i j h = omega (arith, mul-le-mul_right u h, ap (λ x. i * (V * x)) parts)

  up_most : (i j : ℕ) → j * (v * n) ≤ i * (V * 2 ^ 23) → j * (n * u * v) ≤ i * (V * W)
  up_most i j h = omega (arith, mul-le-mul_right u h, ap (λ x. i * (V * x)) parts)

  down_least : zero < u → (i j : ℕ) → i * (V * W) ≤ j * (n * u * v) → i * (V * 2 ^ 23) ≤ j * (v * n)
  down_least some i j h = le_of_mul-le-mul_right {k = u} (omega (arith, h, ap (λ x. i * (V * x)) parts)) some

  down_most : zero < u → (i j : ℕ) → j * (n * u * v) ≤ i * (V * W) → j * (v * n) ≤ i * (V * 2 ^ 23)
  down_most some i j h = le_of_mul-le-mul_right {k = u} (omega (arith, h, ap (λ x. i * (V * x)) parts)) some

pub inverse_of : (K b y : ℕ) → ReciprocalSeed K b y → Inverse K (2 ^ bias) (fraction b 23) y
inverse_of K b y s = record {
  most = up_most (2 ^ bias) (2 ^ bias) (2 ^ (bias - 23)) unit_parts b y (K + 1) K s.most;
  least = up_least (2 ^ bias) (2 ^ bias) (2 ^ (bias - 23)) unit_parts b y (K - 1) K s.least;
}

pub reciprocal_seed : (K b y : ℕ) → Bits 30 y → Inverse K (2 ^ bias) (fraction b 23) y → ReciprocalSeed K b y
reciprocal_seed K b y bits i = record {
  bits = bits;
  least = down_least (2 ^ bias) (2 ^ bias) (2 ^ (bias - 23)) unit_parts b y (pow_pos (bias - 23)) (K - 1) K i.least;
  most = down_most (2 ^ bias) (2 ^ bias) (2 ^ (bias - 23)) unit_parts b y (pow_pos (bias - 23)) (K + 1) K i.most;
}

-- a root's law has the square of the seed
squared : (T z : ℕ) → T * z * z ≡ T * (z * z)
squared T z = mul_assoc T z z

pub inverse_root_of : (K t z : ℕ) → RootSeed K t z → InverseRoot K (2 ^ bias) (fraction t 23) z
inverse_root_of K t z s = record {
  most = rw (squared (fraction t 23) z) (up_most (2 ^ bias * 2 ^ bias) (2 ^ bias) (2 ^ (bias - 23)) unit_parts t (z * z) ((K + 1) * (K + 1)) (K * K) s.most);
  least = rw (squared (fraction t 23) z) (up_least (2 ^ bias * 2 ^ bias) (2 ^ bias) (2 ^ (bias - 23)) unit_parts t (z * z) ((K - 1) * (K - 1)) (K * K) s.least);
}

pub root_seed : (K t z : ℕ) → Bits 30 z → InverseRoot K (2 ^ bias) (fraction t 23) z → RootSeed K t z
root_seed K t z bits i = record {
  bits = bits;
  least = down_least (2 ^ bias * 2 ^ bias) (2 ^ bias) (2 ^ (bias - 23)) unit_parts t (z * z) (pow_pos (bias - 23)) ((K - 1) * (K - 1)) (K * K) (rw (squared (fraction t 23) z) at i.least);
  most = down_most (2 ^ bias * 2 ^ bias) (2 ^ bias) (2 ^ (bias - 23)) unit_parts t (z * z) (pow_pos (bias - 23)) ((K + 1) * (K + 1)) (K * K) (rw (squared (fraction t 23) z) at i.most);
}
