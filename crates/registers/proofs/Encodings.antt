-- The pattern of a magnitude of at most 24 bits, and back.
use Rattle.std.proofs.Common.{◌≡◌, ℕ, ◌+◌, ◌-◌, ◌*◌, ◌^◌, ◌<◌, ◌≤◌, Bool, true, false, ◌⊎◌, sym, refl, ap, ◌∙◌, subst, inl, inr, mul-le-mul_right, mul_assoc, zero-mul, mul-one, div-one, arith, pow_mono, pow-add, shl_lt}
use lib.Ieee.{size}
use lib.Ieee.Digits.{size-lt, size-le}
use Rattle.std.proofs.lemmas.Bool.{cases_lt, cases_eq, le-leb, lt-leb, le-ltb, ne_eqb, eq-eqb, ltb-false}
use Rattle.std.proofs.lemmas.Nat.{shl-shr}
use Rattle.registers.specs.Binary32.{magnitude}
use Rattle.registers.specs.Modes.{with_sign}
use Rattle.registers.specs.Coding.{Meaning, nan, infinite, finite, is_negative, unsigned, is_nan, meaning, encoded, encoding, Binary32Number}
use Rattle.registers.proofs.Nearness.{size_at}
use Rattle.registers.proofs.Fitting.{size_full, size_scale}
use Rattle.registers.proofs.Grids.{magnitude_at, magnitude_low, pattern_view}

-- ---- magnitudes

-- a significand of 24 bits, or any at the exponent 0
pub encoded_at : (k M : ℕ) → M < 2 ^ 24 → (k ≡ 0) ⊎ (2 ^ 23 ≤ M) → encoded (M * 2 ^ k) ≡ k * 2 ^ 23 + M
unfolding encoded
encoded_at k M h (inl z) =
    let a : M * 2 ^ k ≡ M = ap (λ (x : ℕ). M * 2 ^ x) z ∙ mul-one M in
    let b : size M - 24 ≡ 0 = omega (arith, size-le M 24 h) in
    rw (a, b) (omega (arith, div-one M, z))
encoded_at k M h (inr g) =
    let s : size M ≡ 24 = size_at M 24 h (omega arith) in
    let a : size (M * 2 ^ k) - 24 ≡ k = omega (arith, size_scale M k (omega arith)) in
    rw (a, shl-shr M k)

-- each magnitude of at most 24 bits is of that form, and its exponent is no higher
record Formed (v e : ℕ) : Type 0 where
  k : ℕ
  M : ℕ
  is : v ≡ M * 2 ^ k
  few : M < 2 ^ 24
  full : (k ≡ 0) ⊎ (2 ^ 23 ≤ M)
  within : k ≤ e

formed_low : (m e : ℕ) → m * 2 ^ e < 2 ^ 24 → Formed (m * 2 ^ e) e
formed_low m e h = record { k = 0; M = m * 2 ^ e; is = sym (mul-one (m * 2 ^ e)); few = h; full = inl refl; within = omega arith }

formed_high : (m e : ℕ) → 0 < m → m < 2 ^ 24 → 24 ≤ size m + e → Formed (m * 2 ^ e) e
formed_high m e p h g =
    let l : size m ≤ 24 = size-le m 24 h in
    let f : 24 - size m + (size m + e - 24) ≡ e = omega arith in
    let t : size m + (24 - size m) ≡ 24 = omega arith in
    let b : 2 ^ size m * 2 ^ (24 - size m) ≡ 2 ^ 24 = sym (pow-add 2 (size m) (24 - size m)) ∙ ap (λ (x : ℕ). 2 ^ x) t in
    let c : 2 ^ size m * 2 ^ (24 - size m) ≤ 2 * m * 2 ^ (24 - size m) = mul-le-mul_right (2 ^ (24 - size m)) (size_full m p) in
    let d : m * 2 ^ (24 - size m) < 2 ^ (size m + (24 - size m)) = shl_lt (size m) (24 - size m) (size-lt m) in
    record {
      k = size m + e - 24;
      M = m * 2 ^ (24 - size m);
      is = ap (λ (x : ℕ). m * 2 ^ x) (sym f) ∙ ap (λ (x : ℕ). m * x) (pow-add 2 (24 - size m) (size m + e - 24)) ∙ sym (mul_assoc m (2 ^ (24 - size m)) (2 ^ (size m + e - 24)));
      few = rw t at d;
      full = inr (omega (arith, b, c, mul_assoc 2 m (2 ^ (24 - size m))));
      within = omega arith;
    }

formed : (m e : ℕ) → m < 2 ^ 24 → Formed (m * 2 ^ e) e
formed m e h = elim (cases_eq m 0) [
  | inl z ↦
      let a : m * 2 ^ e ≡ 0 = ap (λ (x : ℕ). x * 2 ^ e) z ∙ zero-mul (2 ^ e) in
      formed_low m e (omega arith)
  | inr p ↦ elim (cases_lt (size m + e) 24) [
    | inl l ↦
        let b : size m + e ≤ 23 = omega arith in
        let a : 2 ^ (size m + e) ≤ 2 ^ 23 = pow_mono b in
        formed_low m e (omega (arith, shl_lt (size m) e (size-lt m), a))
    | inr g ↦ formed_high m e (omega arith) h g
  ]
]

decode_encode : (v e : ℕ) → Formed v e → magnitude (encoded v) ≡ v
decode_encode v e n =
    ap (λ (x : ℕ). magnitude (encoded x)) n.is ∙ ap magnitude (encoded_at n.k n.M n.few n.full) ∙ magnitude_at n.k n.M (omega arith) n.full ∙ sym n.is

-- it is below the infinity's pattern
encoded_small : (v e : ℕ) → Formed v e → e ≤ 253 → encoded v < 0x7F800000
encoded_small v e n h = omega (arith, ap encoded n.is ∙ encoded_at n.k n.M n.few n.full, n.few, n.within)

-- a binary32 number's pattern stands for it
pub encoded_number : (m e v : ℕ) → v ≡ m * 2 ^ e → m < 2 ^ 24 → e ≤ 253 → (magnitude (encoded v) ≡ v) × (encoded v < 0x7F800000)
encoded_number m e v is few low =
    let f : Formed v e = subst (λ (x : ℕ). Formed x e) (sym is) (formed m e few) in
    (decode_encode v e f, encoded_small v e f low)

pub encode_decode : (p : ℕ) → encoded (magnitude p) ≡ p
encode_decode p = go v.0 v.1 v.2 v.3 v.4
  where
    v : (k : ℕ) × (M : ℕ) × (p ≡ k * 2 ^ 23 + M) × (M < 2 ^ 24) × ((k ≡ 0) ⊎ (2 ^ 23 ≤ M))
    v = pattern_view p

    go : (k M : ℕ) → p ≡ k * 2 ^ 23 + M → M < 2 ^ 24 → (k ≡ 0) ⊎ (2 ^ 23 ≤ M) → encoded (magnitude p) ≡ p
    go k M e h o = ap (λ (x : ℕ). encoded (magnitude x)) e ∙ ap encoded (magnitude_at k M (omega arith) o) ∙ encoded_at k M h o ∙ sym e

-- ---- signs

pub sign_back : (p : ℕ) → p < 2 ^ 32 → with_sign (is_negative p) (unsigned p) ≡ p
sign_back p h = elim (cases_lt p (2 ^ 31)) [ inl l ↦ rw (lt-leb (2 ^ 31) p l) (omega arith) | inr g ↦ rw (le-leb (2 ^ 31) p g) (omega arith) ]

pub is_negative_with_sign : (s : Bool) (m : ℕ) → m < 2 ^ 31 → is_negative (with_sign s m) ≡ s
is_negative_with_sign true m h = le-leb (2 ^ 31) (2 ^ 31 + m) (omega arith)
is_negative_with_sign false m h = lt-leb (2 ^ 31) m h

pub unsigned_of : (s : Bool) (m : ℕ) → m < 2 ^ 31 → unsigned (with_sign s m) ≡ m
unsigned_of true m h = omega arith
unsigned_of false m h = omega arith

-- ---- patterns

-- what stands for a pattern below the infinity's
pub meaning_finite : (p : ℕ) → unsigned p < 0x7F800000 → meaning p ≡ finite (is_negative p) (magnitude (unsigned p))
meaning_finite p h = rw (le-ltb 0x7F800000 (unsigned p) (omega arith), ne_eqb (unsigned p) 0x7F800000 (λ e. omega arith))

pub pattern_back : (p : ℕ) → p < 2 ^ 32 → is_nan p ≡ false → encoding (meaning p) ≡ p
pattern_back p h n = elim (cases_eq (unsigned p) 0x7F800000) [
  | inl e ↦ rw (n, eq-eqb (unsigned p) 0x7F800000 e) (ap (with_sign (is_negative p)) (sym e) ∙ sign_back p h)
  | inr d ↦ ap encoding (meaning_finite p (omega (arith, ltb-false 0x7F800000 (unsigned p) n))) ∙ ap (with_sign (is_negative p)) (encode_decode (unsigned p)) ∙ sign_back p h
]

pub meaning_of : (s : Bool) (q : ℕ) → q < 0x7F800000 → meaning (with_sign s q) ≡ finite s (magnitude q)
meaning_of s q h =
    let u : unsigned (with_sign s q) ≡ q = unsigned_of s q (omega arith) in
    meaning_finite (with_sign s q) (omega (arith, u)) ∙ ap (λ (b : Bool). finite b (magnitude (unsigned (with_sign s q)))) (is_negative_with_sign s q (omega arith)) ∙ ap (λ (x : ℕ). finite s (magnitude x)) u

pub number_back : (x : Meaning) → Binary32Number x → meaning (encoding x) ≡ x
number_back (nan quiet) b = absurd b
number_back (infinite true) b = refl
number_back (infinite false) b = refl
number_back (finite s v) b =
    let f : Formed (b.0 * 2 ^ b.1) b.1 = formed b.0 b.1 b.3 in
    ap (λ (x : ℕ). meaning (with_sign s (encoded x))) b.2 ∙ meaning_of s (encoded (b.0 * 2 ^ b.1)) (encoded_small (b.0 * 2 ^ b.1) b.1 f b.4)
    ∙ ap (finite s) (decode_encode (b.0 * 2 ^ b.1) b.1 f ∙ sym b.2)

-- ---- as the code has it

pub encoded_zero : encoded 0 ≡ 0
encoded_zero = encoded_at 0 0 (omega arith) (inl refl)

pub zero_meaning : (p : ℕ) → unsigned p ≡ 0 → finite (is_negative p) 0 ≡ meaning p
zero_meaning p e = sym (meaning_finite p (omega arith) ∙ ap (λ (x : ℕ). finite (is_negative p) (magnitude x)) e ∙ ap (finite (is_negative p)) (magnitude_low 0 (omega arith)))
