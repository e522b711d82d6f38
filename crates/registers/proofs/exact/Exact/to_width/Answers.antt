use Rattle.std.proofs.Common.{arith}
use Rattle.registers.proofs.Fitting.{width_exact_at, width_cut_at}
use Rattle.registers.proofs.exact.Exact.to_width.Goals as goal

-- what is short enough already
pub invariant_of-result : goal.invariant_of-result
invariant_of-result c =
    let x = c.args.self in
    record { sizes = ((width_exact_at c.args.width c.length-long.result x.whole x.exponent x.more c.length-long.ensures.counts c.requires.1 c.if-long-width.true x.sizes.1).1, omega arith) }

pub returns-then-long-width-clause-rounds : goal.returns-then-long-width-clause-rounds
returns-then-long-width-clause-rounds c =
    let x = c.args.self in
    (width_exact_at c.args.width c.length-long.result x.whole x.exponent x.more c.length-long.ensures.counts c.requires.1 c.if-long-width.true x.sizes.1).0

-- what is cut and rounded
pub invariant_of-result-2 : goal.invariant_of-result-2
invariant_of-result-2 c =
    let x = c.args.self in
    record { sizes = ((width_cut_at c.args.width c.length-long.result x.whole x.exponent c.split.result.kept c.nearest.result x.more c.split.result.side c.requires.1 c.length-long.ensures.counts c.if-long-width.false c.split.ensures.splits c.split.ensures.kept c.nearest.ensures).1, omega arith) }

pub returns-clause-rounds : goal.returns-clause-rounds
returns-clause-rounds c =
    let x = c.args.self in
    (width_cut_at c.args.width c.length-long.result x.whole x.exponent c.split.result.kept c.nearest.result x.more c.split.result.side c.requires.1 c.length-long.ensures.counts c.if-long-width.false c.split.ensures.splits c.split.ensures.kept c.nearest.ensures).0
