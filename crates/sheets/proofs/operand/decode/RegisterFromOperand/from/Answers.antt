use Rattle.std.proofs.Common.{ℕ, ◌+◌, ◌-◌, ◌*◌, ◌^◌, ap, ◌∙◌}
use Rattle.registers.specs.Range.{lowest}
use Rattle.sources.specs.Seeds.{plain}
use Rattle.sheets.proofs.Decoding.{widened}
use Rattle.sheets.proofs.operand.decode.RegisterFromOperand.from.Goals as goal

pub returns : goal.returns
returns c =
    let x = c.args.x in
    c.number.ensures ∙ ap (λ (b : ℕ). plain (b * 64 * 2 ^ (x.exponent + (lowest - 149)))) c.bits.ensures ∙ ap plain (widened x.significand.bits x.exponent)
