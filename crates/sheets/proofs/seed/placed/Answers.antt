use Rattle.std.proofs.Common.{◌+◌, ◌*◌, ◌^◌, ◌≤◌, ap, ◌∙◌, arith}
use Rattle.registers.specs.Range.{bias_is}
use Rattle.sheets.proofs.Placing.{exponent_above, exponent_below, moved}
use Rattle.sheets.proofs.seed.placed.Goals as goal

pub overflow_sub-stored : goal.overflow_sub-stored
overflow_sub-stored c =
    let y = c.args.y in
    omega (arith, bias_is, c.stored.ensures, c.requires.1.1.1, exponent_above y.significand y.exponent y.bounds.1 y.bounds.2 c.requires.0 c.requires.1.0)

pub number-requires : goal.number-requires
number-requires c =
    let y = c.args.y in (
      omega (arith, bias_is, c.stored.ensures, c.requires.1.1.0, exponent_below y.significand y.exponent y.bounds.1 y.bounds.2 c.requires.0 c.requires.1.0),
      (omega (arith, c.significand.ensures, y.bounds.1), omega (arith, c.significand.ensures, y.bounds.2)),
    )

pub returns : goal.returns
returns c =
    let y = c.args.y in
    let h : c.args.down ≤ y.exponent + c.args.up = omega (arith, bias_is, c.requires.1.1.1, exponent_above y.significand y.exponent y.bounds.1 y.bounds.2 c.requires.0 c.requires.1.0) in
    record {
      plus = ap (λ v. v.negative) c.number.ensures;
      exact = ap (λ v. v.units * 2 ^ c.args.down) c.number.ensures ∙ rw (c.significand.ensures, c.stored.ensures) (moved y.significand y.exponent c.args.up c.args.down h);
    }
