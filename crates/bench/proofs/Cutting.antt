-- A quotient of whole numbers rounded toward zero to binary32 has the quotient cut toward zero as its whole part, since that is a binary32 number not above it.
use Rattle.std.proofs.Common.{◌≡◌, ℕ, ◌+◌, ◌-◌, ◌*◌, ◌/◌, ◌%◌, ◌^◌, ◌<◌, ◌≤◌, true, false, sym, refl, ap, ◌∙◌, inl, inr, lt_of_lt_of_le, mul-le-mul_right, mod-lt, mul-le-mul, le_antisymm, mul-le-mul_left, mul-pos, div-add-mod', div-le_self, arith, pow_pos, pow_mono, pow-add}
use Prim.Native.Nat.{Ordering}
use native.Mathlib.Nat.{mul-div-mul_right, div-eq_of_lt}
use lib.Dec.{is_le}
use Rattle.std.proofs.lemmas.Bool.{cases_lt, le-leb, lt-leb, leb-true, both_ways}
use Rattle.registers.specs.declared.mode.Mode.TheVariants.{TowardZero}
use Rattle.registers.specs.declared.pattern.Pattern.{Pattern}
use Rattle.registers.specs.declared.mode.Rounded.{Rounded}
use Rattle.registers.specs.Binary32.{magnitude, grid32, beside_whole}
use Rattle.registers.specs.Coding.{encoded}
use Rattle.registers.specs.Modes.{rounded, way_of}
use Rattle.registers.specs.Rightly.{ByInward, Ordered, RightRounding, place_of}
use Rattle.registers.proofs.Encodings.{encoded_number}
use Rattle.registers.proofs.Grids.{magnitude_step, rising_mono}
use Rattle.registers.proofs.Standing.{right_rounding}
use Rattle.sheets.specs.Beside.{SameRounding, beside_quotient}
use Rattle.bench.specs.Kinds.{units, unsigned}
use Rattle.bench.proofs.Closes.{quotient_value, rounds_as}
use Rattle.bench.proofs.Comparing.{quotient_ordered}

-- the whole part of a pattern's magnitude is the quotient of m by n, cut toward zero
pub record Cut (m n : ℕ) (p : Pattern) : Type 0 where
  pub finite : unsigned p < 0x7F800000
  pub bounded : units p < 2 ^ 24 * 2 ^ 149
  pub whole : units p / 2 ^ 149 ≡ m / n

module _ (m n : ℕ) (some : 0 < m) (few : m < 2 ^ 24) (part : 0 < n) (small : n < 2 ^ 24) where
  beside : ℕ → Ordering
  beside = beside_quotient (m * 2 ^ 149) (n * 2 ^ 149)

  -- a pattern lies to the quotient as its magnitude times the divisor does to the dividend
  products : (p : ℕ) → 2 * grid32 p * (n * 2 ^ 149) ≡ magnitude p * n * 2 ^ 324
  products p = omega arith

  not_above : (p : ℕ) → is_le (beside (2 * grid32 p)) ≡ true → magnitude p * n ≤ m * 2 ^ 149
  unfolding beside
  not_above p e = omega (arith, products p, leb-true (2 * grid32 p * (n * 2 ^ 149)) (m * 2 ^ 149 * 2 ^ 324) e)

  is_le_lem : (p : ℕ) → magnitude p * n ≤ m * 2 ^ 149 → is_le (beside (2 * grid32 p)) ≡ true
  unfolding beside
  is_le_lem p l = le-leb (2 * grid32 p * (n * 2 ^ 149)) (m * 2 ^ 149 * 2 ^ 324) (omega (arith, products p))

  is_more : (p : ℕ) → m * 2 ^ 149 < magnitude p * n → is_le (beside (2 * grid32 p)) ≡ false
  unfolding beside
  is_more p l = lt-leb (2 * grid32 p * (n * 2 ^ 149)) (m * 2 ^ 149 * 2 ^ 324) (omega (arith, products p))

  -- a magnitude from 2 ^ 277 up is past every quotient
  beyond : (p : ℕ) → 2 ^ 277 ≤ magnitude p → m * 2 ^ 149 < magnitude p * n
  beyond p h = omega (arith, mul-le-mul_left (magnitude p) part)

  infinity_is : magnitude 0x7F800000 ≡ 2 ^ 277
  unfolding magnitude
  infinity_is = refl

  end : is_le (beside (2 * grid32 (2 ^ 31))) ≡ false
  end = is_more (2 ^ 31) (beyond (2 ^ 31) (omega (arith, infinity_is, rising_mono magnitude magnitude_step 0x7F800000 (2 ^ 31) (omega arith))))

  value : Ordered beside
  unfolding beside
  value = quotient_ordered (m * 2 ^ 149) (n * 2 ^ 149) (mul-pos some (pow_pos 149)) (mul-pos part (pow_pos 149))

  -- the place that the quotient is rounded to
  place : ℕ
  place = place_of TowardZero false beside

  inward : ByInward grid32 beside place
  unfolding RightRounding place
  inward = right_rounding.right (way_of TowardZero false) beside value end

  below : magnitude place * n ≤ m * 2 ^ 149
  below = not_above place inward.not_above

  finite : place < 0x7F800000
  finite = elim (cases_lt place 0x7F800000) [
    | inl l ↦ l
    | inr g ↦ absurd (omega (arith, below, beyond place (omega (arith, infinity_is, rising_mono magnitude magnitude_step 0x7F800000 place g))))
  ]

  -- the whole quotient is a binary32 number
  whole : ℕ
  whole = encoded (m / n * 2 ^ 149)

  whole_is : magnitude whole ≡ m / n * 2 ^ 149
  unfolding whole
  whole_is = (encoded_number (m / n) 149 (m / n * 2 ^ 149) refl (omega (arith, div-le_self m n)) (omega arith)).0

  -- and not above the quotient
  whole_below : magnitude whole * n ≤ m * 2 ^ 149
  whole_below = omega (arith, ap (λ (x : ℕ). x * n) whole_is, div-add-mod' m n)

  reaches : m / n * 2 ^ 149 ≤ magnitude place
  reaches = elim (cases_lt place whole) [
    | inl l ↦ absurd (both_ways (is_le (beside (2 * grid32 whole))) (inward.greatest whole l) (is_le_lem whole whole_below))
    | inr g ↦ omega (arith, whole_is, rising_mono magnitude magnitude_step whole place g)
  ]

  cut_is : magnitude place / 2 ^ 149 ≡ m / n
  cut_is = le_antisymm low high
    where
      M : ℕ
      M = magnitude place / 2 ^ 149

      low : M ≤ m / n
      low = elim (cases_lt (m / n) M) [
        | inl l ↦
            let k : m / n + 1 ≤ M = omega arith in
            let h : (m / n + 1) * n ≤ M * n = mul-le-mul_right n k in
            absurd (omega (arith, h, below, div-add-mod' m n, mod-lt m part, div-add-mod' (magnitude place) (2 ^ 149), ap (λ (x : ℕ). x * n) (div-add-mod' (magnitude place) (2 ^ 149))))
        | inr g ↦ g
      ]

      high : m / n ≤ M
      high = omega (arith, reaches)

  small_place : magnitude place < 2 ^ 24 * 2 ^ 149
  small_place = omega (arith, below, mul-le-mul_left (magnitude place) part)

  -- of the rounded value's pattern
  bits_are : (rounded TowardZero false beside).pattern.bits ≡ place
  unfolding RightRounding place
  bits_are = right_rounding.pattern TowardZero false beside ∙ rw (lt-leb 0x7F800000 place finite)

  pub cut_of : (p : Pattern) → p ≡ (rounded TowardZero false (beside_quotient (m * 2 ^ 149) (n * 2 ^ 149))).pattern → Cut m n p
  unfolding beside
  cut_of p e =
      let b : p.bits ≡ place = ap (λ (x : Pattern). x.bits) e ∙ bits_are in
      let u : unsigned p ≡ place = ap (λ (x : ℕ). x % 2 ^ 31) b ∙ omega (arith, finite) in
      let v : units p ≡ magnitude place = ap magnitude u in
      record { finite = omega (arith, u, finite); bounded = omega (arith, v, small_place); whole = ap (λ (x : ℕ). x / 2 ^ 149) v ∙ cut_is }

-- the closing value of m by n, rounded toward zero
pub closing_cut : (m n A B : ℕ) → 0 < m → m < 2 ^ 24 → 0 < n → n < 2 ^ 24 → A ≡ m * 2 ^ 149 → B ≡ n * 2 ^ 149 → (closing : ℕ) (r : Rounded) → r ≡ rounded TowardZero false (beside_whole closing) → SameRounding (beside_whole closing) (beside_quotient A B) → Cut m n r.pattern
closing_cut m n A B some few part small a b closing r is same =
    cut_of m n some few part small r.pattern (ap (λ (v : Rounded). v.pattern) (rounds_as TowardZero false false refl closing r is (beside_quotient A B) (beside_quotient (m * 2 ^ 149) (n * 2 ^ 149)) same (quotient_value A B (m * 2 ^ 149) (n * 2 ^ 149) a b)))

-- ---- the whole part of a number of s times 2 ^ e units

module _ (s e : ℕ) (full : 0 < e → 2 ^ 23 ≤ s) (bounded : s * 2 ^ e < 2 ^ 24 * 2 ^ 149) where
  pub exponent_low : e ≤ 149
  exponent_low = elim (cases_lt 149 e) [
    | inl l ↦
        let p : 2 ^ 150 ≤ 2 ^ e = pow_mono l in
        let f : 2 ^ 23 ≤ s = full (omega arith) in
        let g : 2 ^ 23 * 2 ^ 150 ≤ s * 2 ^ e = mul-le-mul f p in
        absurd (omega (arith, g))
    | inr g ↦ g
  ]

  pub shifted : s / 2 ^ (149 - e) ≡ s * 2 ^ e / 2 ^ 149
  shifted =
      let t : 149 - e + e ≡ 149 = omega (arith, exponent_low) in
      sym (ap (λ (x : ℕ). s * 2 ^ e / x) (ap (λ (x : ℕ). 2 ^ x) (sym t) ∙ pow-add 2 (149 - e) e) ∙ mul-div-mul_right s (2 ^ (149 - e)) (pow_pos e))

  pub shifted_away : s < 2 ^ 24 → 24 ≤ 149 - e → 0 ≡ s * 2 ^ e / 2 ^ 149
  shifted_away few far = sym (sym shifted ∙ div-eq_of_lt (lt_of_lt_of_le few (pow_mono far)))
