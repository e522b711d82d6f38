use Rattle.std.proofs.Common.{ℕ, ◌-◌, ◌/◌, ◌^◌, ap, ◌∙◌, arith}
use Rattle.bench.proofs.Cutting.{exponent_low, shifted, shifted_away}
use Rattle.bench.proofs.count.whole_part.Goals as goal

pub overflow_sub-shift : goal.overflow_sub-shift
overflow_sub-shift c = omega (arith, c.exponent-shift.ensures, exponent_low c.args.x.significand c.args.x.exponent c.args.x.form.3 c.requires)

pub returns-then-shift-lt24 : goal.returns-then-shift-lt24
returns-then-shift-lt24 c =
    ap (λ (s : ℕ). s / 2 ^ (149 - c.exponent-shift.result)) c.significand.ensures ∙ ap (λ (e : ℕ). c.args.x.significand / 2 ^ (149 - e)) c.exponent-shift.ensures
    ∙ shifted c.args.x.significand c.args.x.exponent c.args.x.form.3 c.requires

pub returns-else-shift-lt24 : goal.returns-else-shift-lt24
returns-else-shift-lt24 c =
    shifted_away c.args.x.significand c.args.x.exponent c.args.x.form.3 c.requires c.args.x.form.1 (omega (arith, c.if-shift-lt24.false, c.exponent-shift.ensures))
