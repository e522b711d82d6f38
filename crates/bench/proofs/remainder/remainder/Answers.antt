use Rattle.std.proofs.Common.{◌<◌, subst, sym}
use Rattle.registers.specs.declared.pattern.Pattern.{Pattern}
use Rattle.bench.specs.Kinds.{unsigned}
use Rattle.bench.proofs.Verdicts.{remainder_operands}
use Rattle.bench.proofs.remainder.remainder.Goals as goal

pub new-requires : goal.new-requires
new-requires c = (remainder_operands c.args.x c.args.y _ _ c.in_ok-remainder_table.ensures).0

pub new-requires-2 : goal.new-requires-2
new-requires-2 c = (remainder_operands c.args.x c.args.y _ _ c.in_ok-remainder_table.ensures).1

pub remainder_exact-requires : goal.remainder_exact-requires
remainder_exact-requires c =
    subst (λ (p : Pattern). 0 < unsigned p) (sym c.new-2.ensures) (remainder_operands c.args.x c.args.y _ _ c.in_ok-remainder_table.ensures).2
