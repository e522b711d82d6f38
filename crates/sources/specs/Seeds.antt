-- What a seed is: a positive number of at most 30 bits that is close. Values are whole numbers of units, of which 2 ^ bias are one.
use Rattle.std.specs.Prelude.{◌≡◌, ℕ, ◌+◌, ◌-◌, ◌*◌, ◌/◌, ◌^◌, ◌<◌, ◌≤◌, false}
use Rattle.registers.specs.Laws.{Bits}
use Rattle.registers.specs.Range.{bias}
use Rattle.registers.specs.Values.{Value}

-- a number of n units that is not negative
abbrev pub plain : ℕ → Value
plain n = record { negative = false; units = n }

-- B: 24 bits, the first of them set
pub record IsSignificand (b : ℕ) : Type 0 where
  pub least : 2 ^ 23 ≤ b
  pub most : b < 2 ^ 24

-- T: from 2 ^ 23 up to 2 ^ 25, even from 2 ^ 24 on
pub record IsRadicand (t : ℕ) : Type 0 where
  pub least : 2 ^ 23 ≤ t
  pub most : t < 2 ^ 25
  pub even : 2 ^ 24 ≤ t → t ≡ 2 * (t / 2)

-- y units are the reciprocal of b / 2 ^ 23 up to one part in K: K·|y·b' - 1| ≤ 1
pub record ReciprocalSeed (K b y : ℕ) : Type 0 where
  pub bits : Bits 30 y
  pub least : (K - 1) * (2 ^ bias * 2 ^ 23) ≤ K * (y * b)
  pub most : K * (y * b) ≤ (K + 1) * (2 ^ bias * 2 ^ 23)

-- z units are the reciprocal of the root of t / 2 ^ 23 up to one part in K: (K - 1)² ≤ K²·z²·t' ≤ (K + 1)²
pub record RootSeed (K t z : ℕ) : Type 0 where
  pub bits : Bits 30 z
  pub least : (K - 1) * (K - 1) * (2 ^ bias * 2 ^ bias * 2 ^ 23) ≤ K * K * (z * z * t)
  pub most : K * K * (z * z * t) ≤ (K + 1) * (K + 1) * (2 ^ bias * 2 ^ bias * 2 ^ 23)
