-- The exact values that the calls round are values as the theorem on rounding asks: positive, and told by comparison. A value of zero is its own rounding.
use Rattle.std.specs.Prelude.{◌≡◌, ℕ, ◌<◌, Bool}
use Rattle.registers.specs.declared.mode.Mode.{Mode}
use Rattle.registers.specs.Modes.{rounded}
use Rattle.registers.specs.Rightly.{Ordered}
use Rattle.sheets.specs.Beside.{beside_quotient, beside_root}
use Rattle.bench.specs.Values.{beside_exact, zero_rounded}

pub record ToldByComparison : Type 0 where
  pub quotient : (a b : ℕ) → 0 < a → 0 < b → Ordered (beside_quotient a b)
  pub root : (a : ℕ) → 0 < a → Ordered (beside_root a)
  pub whole : (n : ℕ) → 0 < n → Ordered (beside_exact n)
  pub nothing : (mode : Mode) (s : Bool) → rounded mode s (beside_exact 0) ≡ zero_rounded s
