use Rattle.std.proofs.Common.{◌<◌, subst, sym}
use Rattle.registers.specs.declared.pattern.Pattern.{Pattern}
use Rattle.bench.specs.Kinds.{unsigned}
use Rattle.bench.proofs.Verdicts.{root_operand}
use Rattle.bench.proofs.desk.Desk.root_value.Goals as goal

pub new-requires : goal.new-requires
new-requires g c = (root_operand c.args.a _ _ c.in_ok-root_table.ensures).0

pub nonzero-requires : goal.nonzero-requires
nonzero-requires g c = subst (λ (p : Pattern). 0 < unsigned p) (sym c.new.ensures) (root_operand c.args.a _ _ c.in_ok-root_table.ensures).1
