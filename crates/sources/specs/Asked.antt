-- The bits of an operand are those that its question is asked for.
use Rattle.sources.specs.declared.operand.Operand.{Operand}
use Rattle.sources.specs.declared.operand.Reciprocal.{Reciprocal}
use Rattle.sources.specs.declared.operand.Root.{Root}
use Rattle.sources.specs.contracts.operand.ReciprocalQuestion.TheImpl as reciprocal
use Rattle.sources.specs.contracts.operand.RootQuestion.TheImpl as root
use Rattle.sources.specs.Seeds.{IsRadicand, IsSignificand}

-- an operand of the question for a reciprocal
abbrev pub Significand : Type 0
Significand = Operand Reciprocal reciprocal.ghosts

-- an operand of the question for a root
abbrev pub Radicand : Type 0
Radicand = Operand Root root.ghosts

pub is_significand : (b : Significand) → IsSignificand b.bits
is_significand b = b.range

pub is_radicand : (t : Radicand) → IsRadicand t.bits
is_radicand t = t.range
