-- What the two questions serve: numbers that are short and not zero, and each of these facts has one proof.
use Rattle.std.specs.Prelude.{ℕ, ◌^◌, ◌<◌}
use Rattle.std.proofs.Common.{arith}
use Rattle.std.proofs.Props.{props}
use Rattle.sources.specs.Seeds.{IsRadicand, IsSignificand}

pub significand_one_proof : (n : ℕ) → IsProp (IsSignificand n)
significand_one_proof n = hlevel props

pub radicand_one_proof : (n : ℕ) → IsProp (IsRadicand n)
radicand_one_proof n = hlevel props

pub significand_few : (n : ℕ) → IsSignificand n → (0 < n) × (n < 2 ^ 25)
significand_few n s = (omega (arith, s.least), omega (arith, s.most))

pub radicand_few : (n : ℕ) → IsRadicand n → (0 < n) × (n < 2 ^ 25)
radicand_few n s = (omega (arith, s.least), omega (arith, s.most))
