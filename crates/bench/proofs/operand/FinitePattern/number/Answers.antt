use Rattle.bench.proofs.Decoded.{is_zero, stands}
use Rattle.bench.proofs.operand.FinitePattern.number.Goals as goal

pub returns-in-Finite : goal.returns-in-Finite
returns-in-Finite c = stands c.args.self.pattern c.args.self.finite c.in-Finite.x c.in-Finite.ensures.value

pub returns-in-Zero : goal.returns-in-Zero
returns-in-Zero c = is_zero c.args.self.pattern c.args.self.finite _ c.in-Zero.ensures.value
