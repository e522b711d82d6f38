-- A rounded number as a register number: in range it is kept, else it is refused.
use Rattle.std.proofs.Common.{◌≡◌, ℕ, ◌+◌, ◌-◌, ◌*◌, ◌/◌, ◌^◌, ◌<◌, Bool, true, false, ◌&&◌, eqb, leb, Ok, Err, sym, refl, ap, ◌∙◌, mul_assoc, mul-pos, mul_right_comm, mul-div_cancel, arith, pow_pos, pow-add}
use native.Mathlib.Nat.{eq_of_mul-eq-mul_right}
use lib.Ieee.{size}
use Rattle.std.proofs.lemmas.Bool.{ne_eqb, and_parts, leb-true}
use Rattle.registers.specs.Fused.{in_range, kept}
use Rattle.registers.specs.Range.{bias, bias_is, span, unit}
use Rattle.registers.proofs.Fitting.{size_scale}

-- sig other than zero, of `long` digits
module _ (s : Bool) (sig e long : ℕ) (some : 0 < sig) (long-is : long ≡ size sig) where
  v≢0 : eqb (sig * 2 ^ e) 0 ≡ false
  v≢0 = ne_eqb (sig * 2 ^ e) 0 (λ z. omega (arith, mul-pos some (pow_pos e)))

  -- the range as the code tells it
  told : (leb (30 + unit) (e + long) && leb (e + long) (30 + span + unit)) ≡ in_range (sig * 2 ^ e)
  told =
      let top : e + long ≡ size (sig * 2 ^ e) = omega (arith, size_scale sig e some) in
      ap (λ (x : ℕ). leb (30 + unit) x && leb x (30 + span + unit)) top ∙ ap (λ (x : ℕ). leb (30 + x) (size (sig * 2 ^ e)) && leb (size (sig * 2 ^ e)) (30 + span + x)) (sym bias_is)

  pub kept_refused : (leb (30 + unit) (e + long) && leb (e + long) (30 + span + unit)) ≡ false → Err 7 ≡ kept s (sig * 2 ^ e)
  kept_refused out = sym (rw (v≢0, sym told ∙ out) refl)

  pub kept_given : (S : ℕ) → (leb (30 + unit) (e + long) && leb (e + long) (30 + span + unit)) ≡ true → S * 2 ^ long ≡ sig * 2 ^ 30
      → Ok (record { negative = s; units = S * 2 ^ (e + long - 30 - unit) }) ≡ kept s (sig * 2 ^ e)
  kept_given S within same = sym (rw (v≢0, sym told ∙ within, quotient) refl)
    where
      k : ℕ
      k = e + long - 30 - unit

      lhs : sig * 2 ^ e * 2 ^ 30 ≡ S * 2 ^ (long + e)
      lhs = mul_right_comm sig (2 ^ e) (2 ^ 30) ∙ ap (λ (x : ℕ). x * 2 ^ e) (sym same) ∙ mul_assoc S (2 ^ long) (2 ^ e) ∙ ap (λ (x : ℕ). S * x) (sym (pow-add 2 long e))

      sums : k + bias + 30 ≡ long + e
      sums = omega (arith, bias_is, leb-true (30 + unit) (e + long) (and_parts _ _ within).0)

      rhs : S * 2 ^ k * 2 ^ bias * 2 ^ 30 ≡ S * 2 ^ (long + e)
      rhs =
          mul_assoc (S * 2 ^ k) (2 ^ bias) (2 ^ 30) ∙ mul_assoc S (2 ^ k) (2 ^ bias * 2 ^ 30)
          ∙ ap (λ (x : ℕ). S * x) (sym (mul_assoc (2 ^ k) (2 ^ bias) (2 ^ 30)) ∙ ap (λ (x : ℕ). x * 2 ^ 30) (sym (pow-add 2 k bias)) ∙ sym (pow-add 2 (k + bias) 30) ∙ ap (λ (x : ℕ). 2 ^ x) sums)

      equal : sig * 2 ^ e ≡ S * 2 ^ k * 2 ^ bias
      equal = eq_of_mul-eq-mul_right (2 ^ 30) (pow_pos 30) (sig * 2 ^ e) (S * 2 ^ k * 2 ^ bias) (lhs ∙ sym rhs)

      quotient : sig * 2 ^ e / 2 ^ bias ≡ S * 2 ^ k
      quotient = ap (λ (x : ℕ). x / 2 ^ bias) equal ∙ mul-div_cancel (S * 2 ^ k) (pow_pos bias)
