-- The closing value of a sheet rounds as the exact value does: the same facts over the units of the patterns that the operands stand for.
use Rattle.std.proofs.Common.{◌≡◌, ℕ, Bool, not, List, None, Option, ap, ◌∙◌, subst}
use mathlib.Core.Bool.{beq}
use Prim.Native.Nat.{Ordering}
use Rattle.registers.specs.declared.mode.Mode.{Mode}
use Rattle.registers.specs.declared.mode.Rounded.{Rounded}
use Rattle.registers.specs.declared.pattern.Finite.{Finite}
use Rattle.registers.specs.declared.pattern.Pattern.{Pattern}
use Rattle.registers.specs.Binary32.{beside_whole}
use Rattle.registers.specs.Modes.{rounded}
use Rattle.registers.specs.Values.{Value}
use Rattle.sheets.specs.Beside.{SameRounding, beside_quotient}
use Rattle.sheets.specs.Operands.{units_of}
use Rattle.sheets.specs.Quotients.{QuotientSheet}
use Rattle.bench.specs.declared.answer.Special.{Special}
use Rattle.bench.specs.Kinds.{Stands, is_negative, signs_differ, units}
use Rattle.bench.specs.Worksheets.{ByTable, Closes}

-- ---- by the table

pub with_lines : (C : Type 0) (table : Option Special) (lines : List Value) → None ≡ table → C → ByTable table lines C
with_lines C table lines is c = subst (λ (t : Option Special). ByTable t lines C) is c

-- ---- the closing value, rounded under a sign

module _ (mode : Mode) (s t : Bool) (st : s ≡ t) (closing : ℕ) (r : Rounded) (is : r ≡ rounded mode s (beside_whole closing)) where
  under : r ≡ rounded mode t (beside_whole closing)
  under = is ∙ ap (λ (u : Bool). rounded mode u (beside_whole closing)) st

  pub rounds_as : (E F : ℕ → Ordering) → SameRounding (beside_whole closing) E → E ≡ F → r ≡ rounded mode t F
  rounds_as E F same e = under ∙ same mode t ∙ ap (rounded mode t) e

  pub closes : (Filled : List Value → ℕ → Type 0) (lines : List Value) → Filled lines closing → Closes Filled mode t lines r.pattern
  closes Filled lines sheet = record { closing = closing; sheet = sheet; result = ap (λ (v : Rounded). v.pattern) under }

-- ---- the units of the operands

pub quotient_value : (A B a b : ℕ) → A ≡ a → B ≡ b → beside_quotient A B ≡ beside_quotient a b
quotient_value A B a b e f = ap (λ (x : ℕ). beside_quotient x B) e ∙ ap (beside_quotient a) f

pub quotient_sheet : (seeds : ℕ → ℕ) (A B a b : ℕ) (lines : List Value) (closing : ℕ) → A ≡ a → B ≡ b → QuotientSheet seeds A B lines closing → QuotientSheet seeds a b lines closing
quotient_sheet seeds A B a b lines closing e f sheet = subst (λ (x : ℕ). QuotientSheet seeds a x lines closing) f (subst (λ (x : ℕ). QuotientSheet seeds x B lines closing) e sheet)

-- ---- the patterns that the operands come from

pub stands_at : (x : Finite) (p q : Pattern) → p ≡ q → Stands x p → Stands x q
stands_at x p q e s = subst (Stands x) e s

module _ (x y : Finite) (a b : Pattern) (sx : Stands x a) (sy : Stands y b) (mode : Mode) where
  signs : not (beq x.negative y.negative) ≡ signs_differ a b
  unfolding signs_differ
  signs = ap (λ (s : Bool). not (beq s y.negative)) sx.sign ∙ ap (λ (s : Bool). not (beq (is_negative a) s)) sy.sign

  pub quotient_alike : rounded mode (not (beq x.negative y.negative)) (beside_quotient (units_of x) (units_of y)) ≡ rounded mode (signs_differ a b) (beside_quotient (units a) (units b))
  quotient_alike =
      ap (λ (s : Bool). rounded mode s (beside_quotient (units_of x) (units_of y))) signs ∙ ap (rounded mode (signs_differ a b)) (quotient_value _ _ _ _ sx.size sy.size)

  pub closes_alike : (seeds : ℕ → ℕ) (lines : List Value) (p : Pattern) → Closes (QuotientSheet seeds (units_of x) (units_of y)) mode (not (beq x.negative y.negative)) lines p → Closes (QuotientSheet seeds (units a) (units b)) mode (signs_differ a b) lines p
  closes_alike seeds lines p c = record {
    closing = c.closing;
    sheet = quotient_sheet _ _ _ _ _ _ _ sx.size sy.size c.sheet;
    result = c.result ∙ ap (λ (s : Bool). (rounded mode s (beside_whole c.closing)).pattern) signs;
  }
