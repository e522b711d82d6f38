use Rattle.std.proofs.Common.{refl, ◌∙◌, arith}
use Rattle.registers.proofs.Adding.{far_held}
use Rattle.registers.proofs.sum.ordered.Goals as goal

pub returns-clause-sign : goal.returns-clause-sign
returns-clause-sign c =
    let h = c.args.high in
    let l = c.args.low in
    let r = c.folded.result in
    c.folded.ensures.sign
    ∙ (far_held h.negative l.negative h.whole h.exponent l.whole l.exponent r.whole r.exponent (omega arith) (omega arith) c.if-apart-lt-NEAR.false c.folded.ensures.exponent _ refl (omega arith) c.folded.ensures.whole).1
