-- From register units to the units in which an exact value is told: a Side for every number of at most 25 bits is the same side there, and so the same rounding.
use Rattle.std.proofs.Common.{◌≡◌, ℕ, zero, ◌+◌, ◌-◌, ◌*◌, ◌^◌, ◌<◌, sym, ap, ◌∙◌, mul_assoc, mul-lt-mul_of_pos_right, mul-pos, arith, pow_pos}
use Prim.Native.Nat.{compare}
use Rattle.registers.specs.Binary32.{beside_whole}
use Rattle.registers.specs.Laws.{Bits}
use Rattle.registers.specs.Range.{bias, bias_is, unit}
use Rattle.registers.specs.Rightly.{SameSideSameRounding}
use Rattle.registers.proofs.Standing.{same_side}
use Rattle.sheets.specs.Beside.{SameRounding, SameSide, beside_quotient, beside_root}
use Rattle.sheets.proofs.Powers.{power_parts}
use Rattle.sheets.proofs.Side.{Side, compared}
use Rattle.sheets.proofs.Sizes.{shifted_bits}

pub rounds_alike : {b c : ℕ → Prim.Native.Nat.Ordering} → SameSide b c → SameRounding b c
unfolding SameSideSameRounding
rounds_alike {b} {c} h mode s = same_side mode s b c h

-- a side of two multiples of u is that of what is multiplied
unscaled : (x y X Y u m n : ℕ) → zero < u → X ≡ x * u → Y ≡ y * u → Side X Y m n → Side x y m n
unscaled x y X Y u m n some e f s = record {
  below = λ h. s.below (rw (e, f) (mul-lt-mul_of_pos_right h some));
  above = λ h. s.above (rw (e, f) (mul-lt-mul_of_pos_right h some));
  equal = λ h. s.equal (e ∙ ap (λ t. t * u) h ∙ sym f);
}

-- the powers that the units differ by
fine : 2 ^ bias ≡ 2 ^ 324 * 2 ^ (bias - 324)
fine = power_parts bias 324 (bias - 324) (split bias_is)
  where
    split : bias ≡ unit → bias ≡ 324 + (bias - 324)
    split e = omega arith

squares : 2 ^ (2 * bias - 324) ≡ 2 ^ (bias - 324) * 2 ^ bias
squares = power_parts (2 * bias - 324) (bias - 324) bias (split bias_is)
  where
    split : bias ≡ unit → 2 * bias - 324 ≡ bias - 324 + bias
    split e = omega arith

coarse : 2 ^ (bias - 149) ≡ 2 ^ 175 * 2 ^ (bias - 324)
coarse = power_parts (bias - 149) 175 (bias - 324) (split bias_is)
  where
    split : bias ≡ unit → bias - 149 ≡ 175 + (bias - 324)
    split e = omega arith

whole : (m : ℕ) → m * 2 ^ (2 * bias - 324) ≡ m * 2 ^ (bias - 324) * 2 ^ bias
whole m = ap (λ t. m * t) squares ∙ sym (mul_assoc m (2 ^ (bias - 324)) (2 ^ bias))

pub quotient_beside : (a b N : ℕ) → ((G : ℕ) → Bits 25 G → Side (a * 2 ^ (bias - 149) * 2 ^ bias) (b * 2 ^ (bias - 149) * G) N (G * 2 ^ bias)) → SameSide (beside_whole N) (beside_quotient a b)
quotient_beside a b N side m short = ap (λ t. compare t N) (whole m) ∙ compared (a * 2 ^ 324) (m * b) N (m * 2 ^ (bias - 324) * 2 ^ bias)
    (unscaled (a * 2 ^ 324) (m * b) _ _ (2 ^ (bias - 149) * 2 ^ (bias - 324)) N _ (mul-pos (pow_pos (bias - 149)) (pow_pos (bias - 324)))
    (dividend a (2 ^ (bias - 149)) (2 ^ (bias - 324)) (2 ^ bias) fine) (divisor (2 ^ (bias - 149)) (2 ^ (bias - 324)))
    (side (m * 2 ^ (bias - 324)) (shifted_bits 25 (bias - 324) short)))
  where
    dividend : (a u v w : ℕ) → w ≡ 2 ^ 324 * v → a * u * w ≡ a * 2 ^ 324 * (u * v)
    dividend a u v w e = rw e (omega arith)

    divisor : (u v : ℕ) → b * u * (m * v) ≡ m * b * (u * v)
    divisor u v = omega arith

pub root_beside : (a N : ℕ) → ((G : ℕ) → Bits 25 G → Side (a * 2 ^ (bias - 149) * 2 ^ bias) (G * G) N (G * 2 ^ bias)) → SameSide (beside_whole N) (beside_root a)
root_beside a N side m short = ap (λ t. compare t N) (whole m) ∙ compared (a * 2 ^ 499) (m * m) N (m * 2 ^ (bias - 324) * 2 ^ bias)
    (unscaled (a * 2 ^ 499) (m * m) _ _ (2 ^ (bias - 324) * 2 ^ (bias - 324)) N _ (mul-pos (pow_pos (bias - 324)) (pow_pos (bias - 324)))
    (radicand a (2 ^ (bias - 149)) (2 ^ (bias - 324)) (2 ^ bias) coarse fine) (square (2 ^ (bias - 324)))
    (side (m * 2 ^ (bias - 324)) (shifted_bits 25 (bias - 324) short)))
  where
    radicand : (a u v w : ℕ) → u ≡ 2 ^ 175 * v → w ≡ 2 ^ 324 * v → a * u * w ≡ a * 2 ^ 499 * (v * v)
    radicand a u v w e f = rw (e, f) (omega arith)

    square : (v : ℕ) → m * v * (m * v) ≡ m * m * (v * v)
    square v = omega arith
