use Rattle.std.proofs.Common.{◌-◌, ap, ◌∙◌, arith}
use Rattle.registers.specs.Range.{bias, bias_is, lowest}
use Rattle.sources.specs.Seeds.{plain}
use Rattle.sheets.proofs.Placing.{power as power_of}
use Rattle.sheets.proofs.steps.power.Goals as goal

pub returns : goal.returns
returns c = c.number.ensures ∙ ap plain (power_of (lowest - c.args.down) (bias - c.args.down) (omega (arith, bias_is)))
