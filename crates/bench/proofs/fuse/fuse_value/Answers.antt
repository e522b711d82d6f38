use Rattle.std.proofs.lemmas.Result.{err_from_is_err_and}
use Rattle.bench.proofs.Verdicts.{by_row, fuse_operands}
use Rattle.bench.proofs.fuse.fuse_value.Goals as goal

pub returns-in_err-fuse_table : goal.returns-in_err-fuse_table
returns-in_err-fuse_table c =
    let p = err_from_is_err_and c.from_residual.result c.from_residual.ensures.1 in
    rw (p.1, p.2) (by_row _ _ _ _ c.in_err-fuse_table.ensures)

pub new-requires : goal.new-requires
new-requires c = (fuse_operands c.args.p c.args.q c.args.r _ _ c.in_ok-fuse_table.ensures).0

pub new-requires-2 : goal.new-requires-2
new-requires-2 c = (fuse_operands c.args.p c.args.q c.args.r _ _ c.in_ok-fuse_table.ensures).1

pub new-requires-3 : goal.new-requires-3
new-requires-3 c = (fuse_operands c.args.p c.args.q c.args.r _ _ c.in_ok-fuse_table.ensures).2
