-- Register numbers as terms of a sum.
use Rattle.std.proofs.Common.{◌≡◌, ℕ, ◌+◌, ◌-◌, ◌*◌, ◌^◌, sym, ap, ◌∙◌, mul_assoc, arith, pow-add}
use native.Mathlib.Nat.{mul-mul-mul_comm}
use Rattle.registers.specs.Range.{bias, bias_is, unit}

pub addend_size : (w e n : ℕ) → w * 2 ^ e ≡ n → w * 2 ^ (e + unit) ≡ n * 2 ^ bias
addend_size w e n h =
    let d : e + unit ≡ e + bias = omega (arith, bias_is) in
    ap (λ (x : ℕ). w * 2 ^ x) d ∙ ap (λ (x : ℕ). w * x) (pow-add 2 e bias) ∙ sym (mul_assoc w (2 ^ e) (2 ^ bias)) ∙ ap (λ (x : ℕ). x * 2 ^ bias) h

pub product_size : (u v d w e m n : ℕ) → u ≡ v * w → v * 2 ^ d ≡ m → w * 2 ^ e ≡ n → u * 2 ^ (d + e) ≡ m * n
product_size u v d w e m n i h k = ap (λ (x : ℕ). x * 2 ^ (d + e)) i ∙ ap (λ (x : ℕ). v * w * x) (pow-add 2 d e) ∙ mul-mul-mul_comm v w (2 ^ d) (2 ^ e) ∙ ap (λ (x : ℕ). x * (w * 2 ^ e)) h ∙ ap (λ (x : ℕ). m * x) k

-- a significand of `long` digits moved to 30
pub finite_size : (sig k long S : ℕ) → S * 2 ^ long ≡ sig * 2 ^ 30 → S * 2 ^ (k + long + (unit - 149 - 30)) ≡ sig * 2 ^ k * 2 ^ (bias - 149)
finite_size sig k long S same =
    ap (λ (x : ℕ). S * 2 ^ x) d ∙ ap (λ (x : ℕ). S * x) (pow-add 2 long (k + rest)) ∙ sym (mul_assoc S (2 ^ long) (2 ^ (k + rest))) ∙ ap (λ (x : ℕ). x * 2 ^ (k + rest)) same
    ∙ mul_assoc sig (2 ^ 30) (2 ^ (k + rest)) ∙ ap (λ (x : ℕ). sig * x) (sym (pow-add 2 30 (k + rest)) ∙ ap (λ (x : ℕ). 2 ^ x) f ∙ pow-add 2 k (bias - 149)) ∙ sym (mul_assoc sig (2 ^ k) (2 ^ (bias - 149)))
  where
    rest : ℕ
    rest = unit - 149 - 30

    d : k + long + rest ≡ long + (k + rest)
    d = omega arith

    f : 30 + (k + rest) ≡ k + (bias - 149)
    f = omega (arith, bias_is)
