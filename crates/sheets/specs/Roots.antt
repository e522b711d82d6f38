-- The sheet of a root: eleven lines, one equation for each step, and the closing value over them.
use Rattle.std.specs.Prelude.{◌≡◌, ℕ, ◌*◌, ◌^◌, true, false, List, [], ◌∷◌, Ok}
use Rattle.registers.specs.declared.register.Choice.TheVariants.{Plus, Minus}
use Rattle.registers.specs.Fused.{fused, fused_sign, fused_size}
use Rattle.registers.specs.Lines.{Sum}
use Rattle.registers.specs.Range.{bias}
use Rattle.registers.specs.Values.{Value}
use Rattle.sources.specs.Seeds.{IsRadicand, plain}
use Rattle.sheets.specs.Operands.{Moderate, half, held}

-- The seed for a: with a = t·4 ^ h, t from 1 up to 4, h = exponent - 75 and T = t·2 ^ 23, that for T times 2 ^ -h.
pub record IsRootSeedLine (seeds : ℕ → ℕ) (a : ℕ) (y0 : Value) : Type 0 where
  pub radicand : ℕ
  pub exponent : ℕ
  pub in_range : IsRadicand radicand
  pub is : radicand * 2 ^ (2 * exponent) ≡ a * 2 ^ 24
  pub plus : y0.negative ≡ false
  pub placed : y0.units * 2 ^ exponent ≡ seeds radicand * 2 ^ 75

-- h is one half of y, exactly
pub record Halved (y h : Value) : Type 0 where
  pub plus : h.negative ≡ false
  pub twice : 2 * h.units ≡ y.units

-- the lines of a, with the seed from a list of seeds
pub record AreRootLines (seeds : ℕ → ℕ) (a : ℕ) (y0 s0 h0 d0 h1 s1 d1 e1 s2 h2 e2 : Value) : Type 0 where
  pub seed : IsRootSeedLine seeds a y0
  pub s0_is : fused 30 Plus (plain 0) (held a) y0 ≡ Ok s0
  pub h0_is : Halved y0 h0
  pub d0_is : fused 30 Minus half s0 h0 ≡ Ok d0
  pub h1_is : fused 30 Plus h0 d0 h0 ≡ Ok h1
  pub s1_is : fused 30 Plus s0 d0 s0 ≡ Ok s1
  pub d1_is : fused 30 Minus half s1 h1 ≡ Ok d1
  pub e1_is : fused 30 Minus (held a) s1 s1 ≡ Ok e1
  pub s2_is : fused 24 Plus s1 e1 h1 ≡ Ok s2
  pub h2_is : fused 30 Plus h1 d1 h1 ≡ Ok h2
  pub e2_is : fused 30 Minus (held a) s2 s2 ≡ Ok e2

-- they are of moderate size, the residual e2 is a - s2² with no rounding, and the closing value is above zero
pub record RootFacts (a : ℕ) (y0 s0 h0 d0 h1 s1 d1 e1 s2 h2 e2 : Value) : Type 0 where
  pub moderate : Moderate y0 × Moderate s0 × Moderate h0 × Moderate d0 × Moderate h1 × Moderate s1 × Moderate d1 × Moderate e1 × Moderate s2 × Moderate h2 × Moderate e2
  pub e2_exact : Sum false ((held a).units * 2 ^ bias) true (s2.units * s2.units) e2.negative (e2.units * 2 ^ bias)
  pub plus : fused_sign Plus s2 e2 h2 ≡ false

-- the written lines, and the closing value s2 + e2·h2 in squared units
pub record RootSheet (seeds : ℕ → ℕ) (a : ℕ) (lines : List Value) (closing : ℕ) : Type 0 where
  pub y0 : Value
  pub s0 : Value
  pub h0 : Value
  pub d0 : Value
  pub h1 : Value
  pub s1 : Value
  pub d1 : Value
  pub e1 : Value
  pub s2 : Value
  pub h2 : Value
  pub e2 : Value
  pub are : lines ≡ y0 ∷ (s0 ∷ (h0 ∷ (d0 ∷ (h1 ∷ (s1 ∷ (d1 ∷ (e1 ∷ (s2 ∷ (h2 ∷ (e2 ∷ []))))))))))
  pub steps : AreRootLines seeds a y0 s0 h0 d0 h1 s1 d1 e1 s2 h2 e2
  pub facts : RootFacts a y0 s0 h0 d0 h1 s1 d1 e1 s2 h2 e2
  pub closes : closing ≡ fused_size Plus s2 e2 h2
