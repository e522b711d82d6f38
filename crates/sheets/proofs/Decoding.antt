-- A finite number as a register number has 24 significant bits, so that the last six of its significand are zero; what its significand's first 24 bits and its exponent make.
use Rattle.std.proofs.Common.{◌≡◌, ℕ, zero, ◌+◌, ◌-◌, ◌*◌, ◌/◌, ◌^◌, ◌<◌, ◌≤◌, sym, ap, ◌∙◌, mul-le-mul_right, mul_assoc, arith, pow_pos, pow-add}
use native.Mathlib.Nat.{eq_of_mul-eq-mul_right}
use Rattle.registers.specs.Range.{bias, bias_is, lowest, unit}
use Rattle.registers.proofs.Granted.{below_of}
use Rattle.registers.proofs.Spacing.{raise}
use Rattle.sheets.proofs.Powers.{power_parts}

-- S·2 ^ e units are m·2 ^ k units of 2 ^ -149
module _ (S e m k : ℕ)
    (least : 2 ^ 29 ≤ S)
    (most : S < 2 ^ 30)
    (some : zero < m)
    (few : m < 2 ^ 24)
    (top : k ≤ 253)
    (is : S * 2 ^ e ≡ m * 2 ^ k * 2 ^ (bias - 149))
  where
    whole : m * 2 ^ k * 2 ^ (bias - 149) ≡ m * 2 ^ (k + (bias - 149))
    whole = mul_assoc m (2 ^ k) (2 ^ (bias - 149)) ∙ ap (λ t. m * t) (sym (pow-add 2 k (bias - 149)))

    pub exponent_least : lowest ≤ e + 149
    exponent_least = omega (arith, bias_is, below_of (k + (bias - 149)) (30 + e) (omega (arith, is, whole, pow-add 2 30 e, mul-le-mul_right (2 ^ e) most, pow_pos e, mul-le-mul_right (2 ^ (k + (bias - 149))) some)))

    past : 29 + e < 24 + (k + (bias - 149))
    past = below_of (29 + e) (24 + (k + (bias - 149))) (omega (arith, is, whole, pow-add 2 29 e, pow-add 2 24 (k + (bias - 149)), mul-le-mul_right (2 ^ e) least, mul-le-mul_right (2 ^ (k + (bias - 149))) few, pow_pos (k + (bias - 149))))

    pub exponent_most : e ≤ lowest + 127
    exponent_most = omega (arith, bias_is, past)

    sixty_four : S ≡ 64 * (S / 64)
    sixty_four = by (raise (e + 6) (k + (bias - 149)) (omega (arith, past)))
      where
        by : (t : ℕ) × (2 ^ (k + (bias - 149)) ≡ 2 ^ t * 2 ^ (e + 6)) → S ≡ 64 * (S / 64)
        by t = omega (arith, eq_of_mul-eq-mul_right (2 ^ e) (pow_pos e) S (64 * (m * 2 ^ t.0)) (omega (arith, is, whole, ap (λ x. m * x) t.1, ap (λ x. m * (2 ^ t.0 * x)) (pow-add 2 e 6))))

    pub first_bits : (S / 64) * 2 ^ (e - (lowest - 149)) ≡ m * 2 ^ k * 2 ^ 23
    first_bits = eq_of_mul-eq-mul_right (2 ^ (bias - 172)) (pow_pos (bias - 172)) _ _ (left ∙ is ∙ right)
      where
        sums : bias ≡ unit → e - (lowest - 149) + (bias - 172) ≡ 6 + e
        sums h = omega (arith, exponent_least)

        left : (S / 64) * 2 ^ (e - (lowest - 149)) * 2 ^ (bias - 172) ≡ S * 2 ^ e
        left =
            mul_assoc (S / 64) (2 ^ (e - (lowest - 149))) (2 ^ (bias - 172))
            ∙ ap (λ t. (S / 64) * t) (sym (pow-add 2 (e - (lowest - 149)) (bias - 172)) ∙ power_parts (e - (lowest - 149) + (bias - 172)) 6 e (sums bias_is))
            ∙ omega (arith, ap (λ t. t * 2 ^ e) sixty_four)

        raised : bias ≡ unit → bias - 149 ≡ 23 + (bias - 172)
        raised h = omega arith

        right : m * 2 ^ k * 2 ^ (bias - 149) ≡ m * 2 ^ k * 2 ^ 23 * 2 ^ (bias - 172)
        right = ap (λ t. m * 2 ^ k * t) (power_parts (bias - 149) 23 (bias - 172) (raised bias_is)) ∙ sym (mul_assoc (m * 2 ^ k) (2 ^ 23) (2 ^ (bias - 172)))

-- the register number of 24 bits and an exponent
widened_by : (B k h : ℕ) → bias - 172 ≡ 6 + h → B * 64 * 2 ^ (k + h) ≡ B * 2 ^ k * 2 ^ (bias - 172)
widened_by B k h e = omega (arith, ap (λ t. B * 64 * t) (pow-add 2 k h), ap (λ t. B * 2 ^ k * t) (power_parts (bias - 172) 6 h e))

pub widened : (B k : ℕ) → B * 64 * 2 ^ (k + (lowest - 149)) ≡ B * 2 ^ k * 2 ^ (bias - 172)
widened B k = widened_by B k (lowest - 149) (omega (arith, bias_is))
