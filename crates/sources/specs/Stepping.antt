-- A step whose exact sum is of a moderate size is not refused: its value, and the relation that it meets.
use Rattle.std.specs.Prelude.{◌≡◌, ℕ, ◌*◌, ◌^◌, Bool, true, false, not, is_ok, Ok, Err, Result, refl}
use Rattle.std.proofs.Common.{arith, ap, inr}
use Rattle.std.specs.Bool.{beq}
use Rattle.std.proofs.lemmas.Bool.{false≢true}
use Rattle.registers.specs.declared.register.Choice.{Choice}
use Rattle.registers.specs.Fused.{fused, fused_size, product_sign}
use Rattle.registers.specs.Lines.{FusedLine}
use Rattle.registers.specs.Range.{bias}
use Rattle.registers.specs.Values.{Value}
use Rattle.registers.proofs.Granted.{step_given}
use Rattle.registers.proofs.Related.{fused_line}
use Rattle.sources.specs.Rounds.{step, then}
use Rattle.sources.specs.Grain.{Moderate}

pub record Stepped (choice : Choice) (r p q : Value) : Type 0 where
  pub v : Value
  pub is : step choice r p q ≡ Ok v
  pub line : FusedLine 30 (2 ^ bias) r.negative r.units (product_sign choice p q) (p.units * q.units) v.negative v.units

given_of : (o : Result Value ℕ) → is_ok o ≡ true → (v : Value) × (o ≡ Ok v)
given_of (Ok v) h = (v, refl)
given_of (Err e) h = absurd (false≢true h)

pub stepped : (choice : Choice) (r p q : Value) → Moderate (fused_size choice r p q) → Stepped choice r p q
unfolding step
stepped choice r p q sized = record { v = g.0; is = g.1; line = fused_line 30 (inr refl) choice r p q g.0 g.1 }
  where
    g : (v : Value) × (fused 30 choice r p q ≡ Ok v)
    g = given_of (fused 30 choice r p q) (step_given 30 (inr refl) choice r p q 100 (omega arith) sized)

-- a product that is added has the sign of its first factor, where the second is not negative
pub keeps : (t : Bool) → not (beq t false) ≡ t
keeps true = refl
keeps false = refl

-- what follows an answer
pub follows : {o : Result Value ℕ} {v : Value} (f : Value → Result Value ℕ) → o ≡ Ok v → then o f ≡ f v
follows f e = ap (λ x. then x f) e
