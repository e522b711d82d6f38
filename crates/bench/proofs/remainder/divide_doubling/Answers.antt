use Rattle.std.proofs.Common.{arith}
use Rattle.bench.proofs.Dividing.{turn_above, turn_below}
use Rattle.bench.proofs.remainder.divide_doubling.Goals as goal
use Rattle.bench.proofs.remainder.divide_doubling.Goals.{then-odd, else-odd}

pub loop-turn-preserved : goal.loop-turn-preserved
loop-turn-preserved c = elim c.if-odd.branch [
  | then-odd w ↦ turn_above c.args.n c.loop-turn.turn c.args.m c.loop-turn.rest c.if-odd.rest c.requires.0 c.loop-turn.invariant.1 (omega (arith, w.if-odd.true)) w.rest-is
  | else-odd w ↦ turn_below c.args.n c.loop-turn.turn c.args.m c.loop-turn.rest c.if-odd.rest c.requires.0 c.loop-turn.invariant.1 (omega (arith, w.if-odd.false)) w.rest-is
]
