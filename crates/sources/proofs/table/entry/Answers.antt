use Rattle.std.proofs.Common.{ap, arith, ◌∙◌}
use Rattle.sources.specs.Tabulated.{held}
use Rattle.sources.proofs.table.entry.Goals as goal

pub returns-clause-value : goal.returns-clause-value
returns-clause-value g c = held g.Q.Tabulated.entry c.table.result.now c.from.result c.table.ensures (omega arith) ∙ ap g.Q.Tabulated.entry c.from.ensures

pub returns-clause-bound : goal.returns-clause-bound
returns-clause-bound g c =
    let e = held g.Q.Tabulated.entry c.table.result.now c.from.result c.table.ensures (omega arith) in
    let b = g.met.Q.Tabulated.long c.from.result (omega arith) in
    (omega (arith, e, b), omega (arith, e, b))
