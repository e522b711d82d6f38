use Rattle.std.proofs.Common.{◌≡◌, Err, None, sym, ap, ◌∙◌, arith}
use Rattle.std.proofs.lemmas.Int.{ints}
use Rattle.std.proofs.lemmas.Result.{err_from_is_err_and}
use Rattle.std.specs.Option.{ok_or}
use Rattle.registers.specs.declared.register.Refusal.TheVariants.{Exponent}
use Rattle.registers.specs.Fused.{number}
use Rattle.registers.specs.Values.{value}
use Rattle.sources.specs.Rounds.{half}
use Rattle.sources.specs.Placing.{built_as, half_zero, half_built, half_refused, not_built}
use Rattle.sources.proofs.refine.half.Goals as goal

pub returns-in_default : goal.returns-in_default
returns-in_default c = half_zero c.args.z c.in_default.is

pub returns : goal.returns
returns c = half_built c.in-Nonzero.x _ _ _ c.is_negative.ensures (omega (arith, ints, c.exponent.ensures)) c.significand.ensures c.in_ok-h.h (built_as c.new-halved.result c.in_ok-h.h _ _ _ c.in_ok-h.ensures.ok_part c.new-halved.ensures) ∙ ap (λ z. half (value z)) (sym c.in-Nonzero.is)

pub returns-in_err-h : goal.returns-in_err-h
returns-in_err-h c =
    let none : c.new-halved.result ≡ None = c.in_err-h.ensures.ok_part in
    let same : c.in_err-h.field-0.0 ≡ Exponent = (let is = c.in_err-h.ensures.value ∙ ap (λ o. ok_or o Exponent) none in cc) in
    let refused = half_refused c.in-Nonzero.x _ _ _ c.is_negative.ensures (omega (arith, ints, c.exponent.ensures)) c.significand.ensures (not_built c.new-halved.result _ _ _ none c.new-halved.ensures) in
    let p = err_from_is_err_and c.from_residual.result c.from_residual.ensures.1 in
    rw (p.1, p.2) (ap (λ e. Err (number e)) same ∙ refused ∙ ap (λ z. half (value z)) (sym c.in-Nonzero.is))
