-- A magnitude of binary32 rounds to its own pattern in every mode, with no flag: the search finds it, and it lies on it.
use Rattle.std.proofs.Common.{◌≡◌, ℕ, ◌+◌, ◌*◌, ◌^◌, ◌<◌, ◌≤◌, Bool, true, false, sym, ap, ◌∙◌, arith}
use Prim.Native.Nat.{Ordering}
use lib.Dec.{is_le}
use Rattle.std.proofs.lemmas.Bool.{le-leb, lt-leb}
use Rattle.registers.specs.declared.pattern.Datum.{Datum}
use Rattle.registers.specs.declared.pattern.Pattern.{Pattern}
use Rattle.registers.specs.declared.mode.Mode.{Mode}
use Rattle.registers.specs.Binary32.{Unsigned, magnitude, grid32, seek, rounding, from_low, concluded, is_tiny}
use Rattle.registers.specs.Coding.{denoted, encoded, encoding, finite}
use Rattle.registers.specs.Coding as coding
use Rattle.registers.specs.Modes.{rounded, under_sign, way_of, with_sign}
use Rattle.registers.proofs.Compared.{cmp_eq}
use Rattle.registers.proofs.Encodings.{encoded_number, is_negative_with_sign, unsigned_of}
use Rattle.registers.proofs.Grids.{magnitude_step, rising_mono, seek_finds}
use Rattle.bench.specs.Kinds.{is_negative, units}
use Rattle.bench.specs.Values.{beside_exact, exact_rounded}
use Rattle.bench.proofs.Decoded.{is_number}

-- a pattern that is given as it is
abbrev plainly : ℕ → Unsigned
plainly p = record { pattern = p; inexact = false; overflow = false; underflow = false }

abbrev at : ℕ → Pattern
at n = record { bits = n }

module _ (mode : Mode) (s : Bool) (p : ℕ) (h : p < 0x7F800000) where
  abbrev beside : ℕ → Ordering
  beside = beside_exact (magnitude p * 2 ^ 175)

  not_more : (q : ℕ) → q ≤ p → is_le (beside (2 * grid32 q)) ≡ true
  not_more q l = le-leb (2 * grid32 q) (magnitude p * 2 ^ 175) (omega (arith, rising_mono magnitude magnitude_step q p l))

  more : (q : ℕ) → p < q → is_le (beside (2 * grid32 q)) ≡ false
  more q l =
      let s : p + 1 ≤ q = omega arith in
      lt-leb (2 * grid32 q) (magnitude p * 2 ^ 175) (omega (arith, magnitude_step p, rising_mono magnitude magnitude_step (p + 1) q s))

  found : seek grid32 beside 31 0 ≡ p
  found = seek_finds grid32 beside p not_more more 31 0 (omega arith) (omega arith)

  on : beside (2 * grid32 p) ≡ Ordering.eq
  on = cmp_eq (2 * grid32 p) (magnitude p * 2 ^ 175) (omega arith)

  level : (middle : Ordering) (small : Bool) → concluded (way_of mode s) p Ordering.eq middle small ≡ plainly p
  level middle small = rw (lt-leb 0x7F800000 p h)

  pub itself : rounding (way_of mode s) beside ≡ plainly p
  unfolding rounding
  itself =
      ap (from_low (way_of mode s) beside) found ∙ ap (λ (o : Ordering). concluded (way_of mode s) p o (beside (grid32 p + grid32 (p + 1))) (is_tiny (way_of mode s) beside)) on
      ∙ level (beside (grid32 p + grid32 (p + 1))) (is_tiny (way_of mode s) beside)

-- a datum's pattern is its value rounded in every mode
module _ (x : Datum) (s : Bool) (v : ℕ) (d : denoted x ≡ finite s v) (p : Pattern) (code : p.bits ≡ encoding (denoted x)) where
  coded : (magnitude (encoded v) ≡ v) × (encoded v < 0x7F800000)
  coded = let b = is_number x s v d in encoded_number b.0 b.1 v b.2 b.3 b.4

  bits_are : p.bits ≡ with_sign s (encoded v)
  bits_are = code ∙ ap encoding d

  pub is_rounded : (mode : Mode) → exact_rounded p ≡ rounded mode s (beside_exact (v * 2 ^ 175))
  is_rounded mode =
      ap (λ (n : ℕ). exact_rounded (at n)) bits_are ∙ ap (under_sign s) (sym (itself mode s (encoded v) coded.1))
      ∙ ap (λ (n : ℕ). rounded mode s (beside_exact (n * 2 ^ 175))) coded.0

  pub parts_are : (units p ≡ v) × (is_negative p ≡ s)
  unfolding is_negative
  parts_are =
      let c = coded in (
        ap (λ (n : ℕ). magnitude (coding.unsigned n)) bits_are ∙ ap magnitude (unsigned_of s (encoded v) (omega arith)) ∙ c.0,
        ap coding.is_negative bits_are ∙ is_negative_with_sign s (encoded v) (omega arith),
      )
