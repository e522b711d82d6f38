-- A finite pattern decoded: it stands for zero or for a finite number, with its sign and its units.
use Rattle.std.proofs.Common.{◌≡◌, ℕ, ◌*◌, ◌^◌, ◌<◌, ◌≤◌, Bool, false, sym, ap, ◌∙◌, inl, inr, zero-mul, arith}
use Rattle.std.proofs.lemmas.Bool.{cases_eq}
use Rattle.registers.specs.declared.pattern.Pattern.{Pattern}
use Rattle.registers.specs.declared.pattern.Finite.{Finite}
use Rattle.registers.specs.declared.pattern.Datum.{Datum}
use Rattle.registers.specs.declared.pattern.Datum.TheVariants.{Nan, Infinity, Zero}
use Rattle.registers.specs.declared.pattern.Datum.TheVariants.{Finite as finite_case}
use Rattle.registers.specs.Coding.{Meaning, nan, infinite, finite, meaning, denoted, finite_meaning, encoded, Writable}
use Rattle.registers.specs.Binary32.{magnitude}
use Rattle.registers.proofs.Grids.{magnitude_low}
use Rattle.registers.proofs.Encodings.{encode_decode, encoded_zero, meaning_finite}
use Rattle.bench.specs.Kinds.{Stands, is_negative, units, unsigned}

-- what cannot be written as a significand and an exponent in range is zero
pub unwritable : (m e : ℕ) → m < 2 ^ 24 → e ≤ 253 → (Writable m e → ⊥) → m * 2 ^ e ≡ 0
unwritable m e few low never = elim (cases_eq m 0) [
  | inl z ↦ ap (λ (x : ℕ). x * 2 ^ e) z ∙ zero-mul (2 ^ e)
  | inr d ↦ absurd (never (record { some = omega arith; few = few; low = low }))
]

-- the sign and the size of a meaning that has them
sign_of : Meaning → Bool
sign_of (nan q) = false
sign_of (infinite s) = s
sign_of (finite s v) = s

size_of : Meaning → ℕ
size_of (nan q) = 0
size_of (infinite s) = 0
size_of (finite s v) = v

pub same_sign : (s t : Bool) (v w : ℕ) → finite s v ≡ finite t w → s ≡ t
unfolding sign_of
same_sign s t v w e = ap sign_of e

pub same_size : (s t : Bool) (v w : ℕ) → finite s v ≡ finite t w → v ≡ w
unfolding size_of
same_size s t v w e = ap size_of e

module _ (p : Pattern) (h : unsigned p < 0x7F800000) where
  pub finite_meaning_lem : meaning p.bits ≡ finite (is_negative p) (units p)
  unfolding is_negative
  finite_meaning_lem = meaning_finite p.bits h

  pub stands : (x : Finite) → finite_meaning x ≡ meaning p.bits → Stands x p
  stands x e = record { sign = same_sign _ _ _ _ (e ∙ finite_meaning_lem); size = same_size _ _ _ _ (e ∙ finite_meaning_lem) }

  pub is_zero : (s : Bool) → finite s 0 ≡ meaning p.bits → unsigned p ≡ 0
  is_zero s e = sym (encode_decode (unsigned p)) ∙ ap encoded (sym (same_size _ _ _ _ (e ∙ finite_meaning_lem))) ∙ encoded_zero

pub zero_units : (p : Pattern) → unsigned p ≡ 0 → units p ≡ 0
zero_units p e = ap magnitude e ∙ magnitude_low 0 (omega arith)

-- a datum that denotes a finite value is a binary32 number
pub is_number : (x : Datum) (s : Bool) (v : ℕ) → denoted x ≡ finite s v → (m : ℕ) × (e : ℕ) × (v ≡ m * 2 ^ e) × (m < 2 ^ 24) × (e ≤ 253)
is_number (Nan q) s v d = absurd (let z : ◌≡◌ {A = ℕ} 0 1 = cc in omega arith)
is_number (Infinity t) s v d = absurd (let z : ◌≡◌ {A = ℕ} 0 1 = cc in omega arith)
is_number (Zero t) s v d = (0, 0, sym (same_size _ _ _ _ d), omega arith, omega arith)
is_number (finite_case x) s v d = (x.significand, x.exponent, sym (same_size _ _ _ _ d), x.form.1, x.form.2)
