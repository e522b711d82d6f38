use Rattle.std.proofs.Common.{◌≡◌, ◌*◌, ◌/◌, ◌<◌, ◌^◌, sym, ◌∙◌, subst}
use Rattle.registers.specs.declared.pattern.Pattern.{Pattern}
use Rattle.bench.specs.Kinds.{units}
use Rattle.bench.proofs.Cutting.{closing_cut}
use Rattle.bench.proofs.desk.Desk.whole_quotient.Goals as goal

pub new-requires : goal.new-requires
new-requires g c =
    (closing_cut c.args.m.value c.args.n.value _ _ c.args.m.form.0 c.args.m.form.1 c.args.n.form.0 c.args.n.form.1 c.number.ensures c.number-2.ensures _ c.toward_zero.result c.toward_zero.ensures c.fill_quotient-closing.ensures.same_rounding).finite

pub cut-requires : goal.cut-requires
cut-requires g c =
    subst (λ (p : Pattern). units p < 2 ^ 24 * 2 ^ 149) (sym c.new.ensures)
    (closing_cut c.args.m.value c.args.n.value _ _ c.args.m.form.0 c.args.m.form.1 c.args.n.form.0 c.args.n.form.1 c.number.ensures c.number-2.ensures _ c.toward_zero.result c.toward_zero.ensures c.fill_quotient-closing.ensures.same_rounding).bounded

pub returns-clause-value : goal.returns-clause-value
returns-clause-value g c =
    let p = closing_cut c.args.m.value c.args.n.value _ _ c.args.m.form.0 c.args.m.form.1 c.args.n.form.0 c.args.n.form.1 c.number.ensures c.number-2.ensures _ c.toward_zero.result c.toward_zero.ensures c.fill_quotient-closing.ensures.same_rounding in
    subst (λ (q : Pattern). c.cut.result ≡ units q / 2 ^ 149) c.new.ensures c.cut.ensures ∙ p.whole
