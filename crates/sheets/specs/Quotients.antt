-- The sheet of a quotient: six lines, one equation for each step, and the closing value over them.
use Rattle.std.specs.Prelude.{◌≡◌, ℕ, ◌*◌, ◌^◌, true, false, List, [], ◌∷◌, Ok}
use Rattle.registers.specs.declared.register.Choice.TheVariants.{Plus, Minus}
use Rattle.registers.specs.Fused.{fused, fused_sign, fused_size}
use Rattle.registers.specs.Lines.{Sum}
use Rattle.registers.specs.Range.{bias}
use Rattle.registers.specs.Values.{Value}
use Rattle.sources.specs.Seeds.{IsSignificand, plain}
use Rattle.sheets.specs.Operands.{Moderate, held, one}

-- The seed for b: with b = B·2 ^ (exponent - 172), B a significand, that for B times 2 ^ (149 - exponent).
pub record IsReciprocalSeedLine (seeds : ℕ → ℕ) (b : ℕ) (y0 : Value) : Type 0 where
  pub significand : ℕ
  pub exponent : ℕ
  pub in_range : IsSignificand significand
  pub is : significand * 2 ^ exponent ≡ b * 2 ^ 23
  pub plus : y0.negative ≡ false
  pub placed : y0.units * 2 ^ exponent ≡ seeds significand * 2 ^ 149

-- the lines of a by b, with the seed from a list of seeds
pub record AreQuotientLines (seeds : ℕ → ℕ) (a b : ℕ) (y0 e0 e1 y1 q1 r1 : Value) : Type 0 where
  pub seed : IsReciprocalSeedLine seeds b y0
  pub e0_is : fused 30 Minus one (held b) y0 ≡ Ok e0
  pub e1_is : fused 30 Plus e0 e0 e0 ≡ Ok e1
  pub y1_is : fused 30 Plus y0 e1 y0 ≡ Ok y1
  pub q1_is : fused 24 Plus (plain 0) (held a) y1 ≡ Ok q1
  pub r1_is : fused 30 Minus (held a) (held b) q1 ≡ Ok r1

-- they are of moderate size, the residual r1 is a - b·q1 with no rounding, and the closing value is above zero
pub record QuotientFacts (a b : ℕ) (y0 e0 e1 y1 q1 r1 : Value) : Type 0 where
  pub moderate : Moderate y0 × Moderate e0 × Moderate e1 × Moderate y1 × Moderate q1 × Moderate r1
  pub r1_exact : Sum false ((held a).units * 2 ^ bias) true ((held b).units * q1.units) r1.negative (r1.units * 2 ^ bias)
  pub plus : fused_sign Plus q1 r1 y1 ≡ false

-- the written lines, and the closing value q1 + r1·y1 in squared units
pub record QuotientSheet (seeds : ℕ → ℕ) (a b : ℕ) (lines : List Value) (closing : ℕ) : Type 0 where
  pub y0 : Value
  pub e0 : Value
  pub e1 : Value
  pub y1 : Value
  pub q1 : Value
  pub r1 : Value
  pub are : lines ≡ y0 ∷ (e0 ∷ (e1 ∷ (y1 ∷ (q1 ∷ (r1 ∷ [])))))
  pub steps : AreQuotientLines seeds a b y0 e0 e1 y1 q1 r1
  pub facts : QuotientFacts a b y0 e0 e1 y1 q1 r1
  pub closes : closing ≡ fused_size Plus q1 r1 y1
