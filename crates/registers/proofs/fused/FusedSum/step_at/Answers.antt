use Rattle.std.proofs.Common.{ℕ, ◌*◌, ◌^◌, Bool, ap, ◌∙◌}
use Rattle.registers.specs.Fused.{fused_sign, kept}
use Rattle.registers.specs.Values.{value}
use Rattle.registers.proofs.fused.FusedSum.step_at.Goals as goal

pub returns-clause-answer : goal.returns-clause-answer
returns-clause-answer c =
    let f = c.args.self in
    let x = c.to_width.result in
    c.to_register.ensures
    ∙ ap (λ (b : Bool). kept b (x.whole * 2 ^ x.exponent)) (c.to_width.ensures.sign ∙ c.exact.ensures.sign)
    ∙ ap (λ (n : ℕ). kept (fused_sign f.choice (value f.r) (value f.p) (value f.q)) n) (c.to_width.ensures.rounds _ c.exact.ensures.held)
