-- A count by its magnitudes, and its signs.
use Rattle.std.proofs.Common.{◌≡◌, ℕ, zero, suc, Bool, true, false, not, List, ℤ, pos, negsuc, nat_abs, refl, ap, ◌∙◌, subst, arith, w32, SFits, to_z, of_z}
use mathlib.Core.Bool.{beq}
use Rattle.std.proofs.lemmas.Int.{to_z-of_z}
use Rattle.std.specs.Int.{is_negative}
use Rattle.std.proofs.lemmas.Bool.{le-ltb}
use Rattle.registers.specs.Values.{Value}
use Rattle.bench.specs.declared.count.Counted.{Counted}
use Rattle.bench.specs.Counts.{is_below_zero, with_sign_ℤ}
use Rattle.bench.specs.Worksheets.{CountLines}

-- ---- signs

pub magnitude_of : (s : Bool) (n : ℕ) → nat_abs (with_sign_ℤ s n) ≡ n
magnitude_of true zero = refl
magnitude_of true (suc n) = refl
magnitude_of false n = refl

-- a number is below zero where it is negative
pub negative_is : (a : ℤ) → is_negative a ≡ is_below_zero a
negative_is (pos n) = le-ltb n 0 (omega arith)
negative_is (negsuc n) = refl

-- ---- whole numbers of 32 bits, as they are handed on

pub below_zero : (a : ℤ) (r : Bool) → SFits w32 a → r ≡ is_negative (to_z w32 (of_z w32 a)) → r ≡ is_below_zero a
below_zero a r fits e = e ∙ ap is_negative (to_z-of_z w32 a fits) ∙ negative_is a

pub magnitude_is : (a : ℤ) (m : ℕ) → SFits w32 a → m ≡ nat_abs (to_z w32 (of_z w32 a)) → m ≡ nat_abs a
magnitude_is a m fits e = e ∙ ap nat_abs (to_z-of_z w32 a fits)

pub signed_is : (z : ℤ) (s t : Bool) (m n : ℕ) → SFits w32 z → z ≡ with_sign_ℤ s m → s ≡ t → m ≡ n → to_z w32 (of_z w32 z) ≡ with_sign_ℤ t n
signed_is z s t m n fits e f h = to_z-of_z w32 z fits ∙ e ∙ ap (λ (b : Bool). with_sign_ℤ b m) f ∙ ap (with_sign_ℤ t) h

abbrev both : ℤ → ℤ → Counted
both q r = record { quotient = q; remainder = r }

pub pair_is : (q r : ℤ) (c : Counted) → q ≡ c.quotient → r ≡ c.remainder → both q r ≡ c
pair_is q r c e f = ap (λ (x : ℤ). both x r) e ∙ ap (both c.quotient) f

pub differ : (s t u v : Bool) → s ≡ u → t ≡ v → not (beq s t) ≡ not (beq u v)
differ s t u v e f = cc

-- the lines of a count, by its magnitudes
pub lines_as : (seeds : ℕ → ℕ) (m m' n n' : ℕ) (lines : List Value) (q q' : ℕ) → m ≡ m' → n ≡ n' → q ≡ q' → CountLines seeds m n lines q → CountLines seeds m' n' lines q'
lines_as seeds m m' n n' lines q q' e f h c = subst (λ (x : ℕ). CountLines seeds m' n' lines x) h (subst (λ (x : ℕ). CountLines seeds m' x lines q) f (subst (λ (x : ℕ). CountLines seeds x n lines q) e c))
