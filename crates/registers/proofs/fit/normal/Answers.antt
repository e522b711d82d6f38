use Rattle.std.proofs.Common.{◌*◌, ◌%◌, ◌^◌, arith}
use Rattle.registers.proofs.Fitting.{normal_all, size_few}
use Rattle.registers.proofs.fit.normal.Goals as goal

pub overflow_shr-result : goal.overflow_shr-result
overflow_shr-result c = omega (arith, size_few c.args.n c.requires.1.1)

pub overflow_cast-result-2 : goal.overflow_cast-result-2
overflow_cast-result-2 c = omega (arith, (normal_all c.args.n c.args.long (c.args.n * 1073741824 % 2 ^ 128) c.requires.0 c.requires.1.0 c.requires.1.1 (omega arith)).2)

pub returns : goal.returns
returns c =
    let p = normal_all c.args.n c.args.long _ c.requires.0 c.requires.1.0 c.requires.1.1 (omega arith) in
    record { same = p.0; low = p.1; high = p.2 }
