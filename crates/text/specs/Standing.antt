-- What it is for a column to write a number, apart from any way of reading it.
use Rattle.std.specs.Prelude.{◌≡◌, ℕ, ◌^◌, ◌<◌, ◌⊎◌, List, ◌∷◌, length, ℤ, pos, Err, decimal, Result, unsigned_abs}
use Rattle.text.specs.declared.refusal.Cause.{Cause}
use Rattle.text.specs.declared.refusal.Cause.TheVariants.{Digits}
use Rattle.text.specs.Columns.{narrowed}
use Rattle.text.specs.Pages.{justified, number_text}

-- the column is the number as it is written, or as it is written with a plus
abbrev pub Writes : List ℕ → ℤ → Type 0
Writes t z = (t ≡ number_text z) ⊎ ((n : ℕ) × (z ≡ pos n) × (t ≡ justified 14 (43 ∷ decimal n)))

-- a column of 14 bytes writes a number
pub record Stands (t : List ℕ) (z : ℤ) : Type 0 where
  pub whole : length t ≡ 14
  pub small : unsigned_abs z < 10 ^ 14
  pub writes : Writes t z

-- a column that writes a number reads as that number, or is out of range; one that writes none has no digits
pub record ReadAs (t : List ℕ) (r : Result ℤ Cause) : Type 0 where
  pub number : (z : ℤ) → Stands t z → r ≡ narrowed z
  pub none : ((z : ℤ) → Stands t z → ⊥) → r ≡ Err Digits
