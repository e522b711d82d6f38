use Rattle.std.proofs.Common.{Bool, ap, ◌∙◌}
use Rattle.registers.specs.Values.{value}
use Rattle.bench.specs.Kinds.{is_negative}
use Rattle.bench.specs.Values.{exact_rounded, zero_rounded, zero_sign}
use Rattle.bench.proofs.Fusing.{fuse_some, fuse_none}
use Rattle.bench.proofs.fuse.fuse_exact.Goals as goal

pub returns-in-Some : goal.returns-in-Some
returns-in-Some c =
    let p = c.register-2.ensures in
    let q = c.register-3.ensures in
    let r = c.register.ensures in
    fuse_some c.args.p.pattern c.args.q.pattern c.args.r.pattern (value c.register-2.result) (value c.register-3.result) (value c.register.result)
    (record { size = p.size; sign = p.sign }) (record { size = q.size; sign = q.sign }) (record { size = r.size; sign = r.sign })
    c.args.mode c.in-Some.value c.in-Some.ensures.answer

pub returns-in-None : goal.returns-in-None
returns-in-None c =
    let p = c.register-2.ensures in
    let q = c.register-3.ensures in
    let r = c.register.ensures in
    c.exact_rounding.ensures ∙ ap exact_rounded c.zero.ensures
    ∙ ap zero_rounded (c.zero_sign.ensures ∙ ap (λ (s : Bool). zero_sign c.args.mode s c.signs_differ-product.result) c.is_negative.ensures ∙ ap (zero_sign c.args.mode (is_negative c.args.r.pattern)) c.signs_differ-product.ensures)
    ∙ fuse_none c.args.p.pattern c.args.q.pattern c.args.r.pattern (value c.register-2.result) (value c.register-3.result) (value c.register.result)
    (record { size = p.size; sign = p.sign }) (record { size = q.size; sign = q.sign }) (record { size = r.size; sign = r.sign })
    c.args.mode c.in-None.ensures.answer
