use Rattle.std.proofs.Common.{◌<◌, ◌∙◌, subst, sym}
use Rattle.registers.specs.declared.pattern.Pattern.{Pattern}
use Rattle.bench.specs.Kinds.{unsigned}
use Rattle.bench.proofs.Closes.{closes_alike, quotient_alike, stands_at, with_lines}
use Rattle.bench.proofs.Verdicts.{by_value, divide_operands, undecided}
use Rattle.bench.proofs.desk.Desk.quotient.Goals as goal

pub new-requires : goal.new-requires
new-requires g c = (divide_operands c.args.a c.args.b _ _ c.in_ok-divide_table.ensures).0

pub nonzero-requires : goal.nonzero-requires
nonzero-requires g c = subst (λ (p : Pattern). 0 < unsigned p) (sym c.new.ensures) (divide_operands c.args.a c.args.b _ _ c.in_ok-divide_table.ensures).2

pub new-requires-2 : goal.new-requires-2
new-requires-2 g c = (divide_operands c.args.a c.args.b _ _ c.in_ok-divide_table.ensures).1

pub nonzero-requires-2 : goal.nonzero-requires-2
nonzero-requires-2 g c = subst (λ (p : Pattern). 0 < unsigned p) (sym c.new-2.ensures) (divide_operands c.args.a c.args.b _ _ c.in_ok-divide_table.ensures).3

pub returns-clause-value : goal.returns-clause-value
returns-clause-value g c =
    by_value _ _ _ (undecided _ _ _ c.in_ok-divide_table.ensures)
    (c.divide_exact.ensures.value ∙ quotient_alike _ _ _ _ (stands_at _ _ _ c.new.ensures c.nonzero.ensures) (stands_at _ _ _ c.new-2.ensures c.nonzero-2.ensures) c.args.mode)

pub returns-clause-sheet : goal.returns-clause-sheet
returns-clause-sheet g c =
    with_lines _ _ _ (undecided _ _ _ c.in_ok-divide_table.ensures)
    (closes_alike _ _ _ _ (stands_at _ _ _ c.new.ensures c.nonzero.ensures) (stands_at _ _ _ c.new-2.ensures c.nonzero-2.ensures) c.args.mode _ _ _ c.divide_exact.ensures.sheet)
