-- The lines of a refinement: each is one fused step of width 30.
use Rattle.std.specs.Prelude.{◌≡◌, Ok}
use Rattle.registers.specs.declared.register.Choice.TheVariants.{Plus, Minus}
use Rattle.registers.specs.Fused.{fused}
use Rattle.registers.specs.Values.{Value, number_value, value}
use Rattle.worksheet.specs.declared.refine.Constants.{Constants}
use Rattle.worksheet.specs.declared.refine.Lines.{Lines}

-- e = 1 - b·y, and then y + e·y
pub record Round (one b y e next : Value) : Type 0 where
  pub rest : fused 30 Minus one b y ≡ Ok e
  pub better : fused 30 Plus y e y ≡ Ok next

-- the start on the line, two rounds, and what is left of 1 at the end
pub record Refined (c : Constants) (b : Value) (lines : Lines) : Type 0 where
  pub begin : fused 30 Minus (number_value c.line) (number_value c.slope) b ≡ Ok (value lines.start)
  pub first : Round (number_value c.one) b (value lines.start) (value lines.rest_0) (value lines.«once»)
  pub second : Round (number_value c.one) b (value lines.«once») (value lines.rest_1) (value lines.twice)
  pub end : fused 30 Minus (number_value c.one) b (value lines.twice) ≡ Ok (value lines.rest_2)
