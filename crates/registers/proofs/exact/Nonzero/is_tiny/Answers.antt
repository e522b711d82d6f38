use Rattle.std.proofs.Common.{◌-◌, ◌*◌, arith, pow_pos}
use Rattle.registers.specs.Range.{bias_is, unit}
use Rattle.registers.proofs.Placing.{tiny_not, tiny_yes, tiny_edge, top_full, top_below}
use Rattle.registers.proofs.exact.Nonzero.is_tiny.Goals as goal

pub returns-then-self-gt-SMALL_TOP : goal.returns-then-self-gt-SMALL_TOP
returns-then-self-gt-SMALL_TOP c =
    λ n h. tiny_not c.args.way n c.args.self.top c.if-self-gt-SMALL_TOP.true (top_full c.args.self n h)

pub returns-then-part-lt-LAST : goal.returns-then-part-lt-LAST
returns-then-part-lt-LAST c =
    λ n h. tiny_yes c.args.way n c.over-part.result.kept (2 * unit - 150) c.over-part.result.side (c.over-part.ensures.splits n h) (omega (arith, bias_is)) (omega (arith, top_full c.args.self n h, pow_pos c.args.self.top)) c.args.self.top c.if-self-gt-SMALL_TOP.false
    (top_below c.args.self n h) c.if-part-lt-LAST.true

pub returns : goal.returns
returns c =
    λ n h. tiny_edge c.args.way n c.over-part.result.kept (2 * unit - 150) c.over-part.result.side (c.over-part.ensures.splits n h) (omega (arith, bias_is)) (omega (arith, top_full c.args.self n h, pow_pos c.args.self.top)) c.args.self.top c.if-self-gt-SMALL_TOP.false
    (top_below c.args.self n h) (omega (arith, c.over-part.ensures.few, c.if-part-lt-LAST.false)) c.goes_up.result c.goes_up.ensures
