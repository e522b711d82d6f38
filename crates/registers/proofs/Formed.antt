-- A finite number brought to its one form: moving the significand up by s places and the exponent down by as many leaves the number as it is.
use Rattle.std.proofs.Common.{◌≡◌, ℕ, ◌+◌, ◌-◌, ◌*◌, ◌%◌, ◌^◌, ◌<◌, ◌≤◌, ◌⊎◌, sym, ap, ◌∙◌, inl, inr, mul-le-mul_right, mod-eq_of_lt, mul_assoc, mul-pos, arith, pow_pos, pow_mono, pow-add, shl_lt}
use lib.Ieee.{size}
use lib.Ieee.Digits.{size-lt, size-le}
use Rattle.registers.proofs.Fitting.{size_full}

pub few_digits : (m : ℕ) → m < 2 ^ 24 → size m ≤ 24
few_digits m few = size-le m 24 few

module _ (m e s : ℕ) (some : 0 < m) (few : m < 2 ^ 24) (low : s ≤ e) (room : s ≤ 24 - size m) where
  moved : m * 2 ^ s < 2 ^ 24
  moved =
      let l : size m ≤ 24 = few_digits m few in
      let t : size m + s ≤ 24 = omega arith in
      let p : 2 ^ (size m + s) ≤ 2 ^ 24 = pow_mono t in
      omega (arith, shl_lt (size m) s (size-lt m), p)

  pub kept : m * 2 ^ s % 2 ^ 32 ≡ m * 2 ^ s
  kept = mod-eq_of_lt (omega (arith, moved))

  pub same : m * 2 ^ s % 2 ^ 32 * 2 ^ (e - s) ≡ m * 2 ^ e
  same =
      let t : s + (e - s) ≡ e = omega arith in
      ap (λ (x : ℕ). x * 2 ^ (e - s)) kept ∙ mul_assoc m (2 ^ s) (2 ^ (e - s)) ∙ ap (λ (x : ℕ). m * x) (sym (pow-add 2 s (e - s)) ∙ ap (λ (x : ℕ). 2 ^ x) t)

  full : s ≡ 24 - size m → 2 ^ 23 ≤ m * 2 ^ s
  full all =
      let l : size m ≤ 24 = few_digits m few in
      let t : size m + s ≡ 24 = omega arith in
      let b : 2 ^ size m * 2 ^ s ≡ 2 ^ 24 = sym (pow-add 2 (size m) s) ∙ ap (λ (x : ℕ). 2 ^ x) t in
      let c : 2 ^ size m * 2 ^ s ≤ 2 * m * 2 ^ s = mul-le-mul_right (2 ^ s) (size_full m some) in
      omega (arith, b, c, mul_assoc 2 m (2 ^ s))

  pub form : e ≤ 253 → (s ≡ 24 - size m) ⊎ (e - s ≡ 0) → (0 < m * 2 ^ s % 2 ^ 32) × (m * 2 ^ s % 2 ^ 32 < 2 ^ 24) × (e - s ≤ 253) × (0 < e - s → 2 ^ 23 ≤ m * 2 ^ s % 2 ^ 32)
  form h o = (omega (arith, kept, mul-pos some (pow_pos s)), omega (arith, kept, moved), omega arith, λ p. elim o [ inl all ↦ omega (arith, kept, full all) | inr z ↦ omega arith ])
