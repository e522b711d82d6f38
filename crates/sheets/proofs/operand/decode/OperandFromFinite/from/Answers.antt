use Rattle.std.proofs.Common.{ap, arith}
use Rattle.sheets.proofs.Decoding.{exponent_least, exponent_most, first_bits}
use Rattle.sheets.proofs.operand.decode.OperandFromFinite.from.Goals as goal

pub overflow_sub-result : goal.overflow_sub-result
overflow_sub-result c =
    let x = c.args.x in
    let n = c.from-n.result in
    omega (arith, c.stored.ensures, exponent_least n.significand n.exponent x.significand x.exponent n.bounds.1 n.bounds.2 x.form.0 x.form.1 x.form.2 (ap (λ v. v.units) c.from-n.ensures))

pub invariant_of-result : goal.invariant_of-result
invariant_of-result c =
    let x = c.args.x in
    let n = c.from-n.result in
    record { range = omega (arith, c.stored.ensures, exponent_most n.significand n.exponent x.significand x.exponent n.bounds.1 n.bounds.2 x.form.0 x.form.1 x.form.2 (ap (λ v. v.units) c.from-n.ensures)) }

pub returns : goal.returns
returns c =
    let x = c.args.x in
    let n = c.from-n.result in
    rw (c.first_bits.ensures, c.stored.ensures) (first_bits n.significand n.exponent x.significand x.exponent n.bounds.1 n.bounds.2 x.form.0 x.form.1 x.form.2 (ap (λ v. v.units) c.from-n.ensures))
