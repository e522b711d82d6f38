use Rattle.std.proofs.Common.{◌^◌, ◌<◌, arith}
use lib.Count.{leading_length}
use Rattle.registers.proofs.Nearness.{size_at}
use Rattle.registers.proofs.cut.length.Goals as goal

pub returns-clause-counts : goal.returns-clause-counts
returns-clause-counts c =
    let f : c.args.n < 2 ^ 128 = omega arith in
    let t = leading_length 128 c.args.n f in
    omega (arith, t.1, size_at c.args.n t.0 t.2 t.3)
