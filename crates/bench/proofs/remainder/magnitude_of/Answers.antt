use Rattle.std.proofs.Common.{sym}
use Rattle.bench.proofs.Decoded.{zero_units}
use Rattle.bench.proofs.remainder.magnitude_of.Goals as goal

pub returns-in_default : goal.returns-in_default
returns-in_default c = sym (zero_units c.args.p.pattern c.in_default.ensures)
