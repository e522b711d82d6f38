use Rattle.std.proofs.Common.{◌≡◌, ◌-◌, ◌*◌, ◌≤◌, ◌⊎◌, ap, ◌∙◌, inl, inr, arith}
use Rattle.std.proofs.lemmas.Bool.{cases_lt}
use Rattle.registers.specs.declared.mode.Way.{Way}
use Rattle.registers.specs.Binary32.{beside_whole, rounding}
use Rattle.registers.specs.Modes.{under_sign}
use Rattle.registers.specs.Range.{unit}
use Rattle.registers.proofs.Placing.{pattern_over, placed, top_full}
use Rattle.registers.proofs.exact.Nonzero.to_pattern.Goals as goal

pub returns-then-self-gt-GREATEST_TOP : goal.returns-then-self-gt-GREATEST_TOP
returns-then-self-gt-GREATEST_TOP c =
    let x = c.args.self.exact in
    λ n h. c.conclude.ensures
    ∙ ap (under_sign x.negative) (pattern_over c.way_of-way.result n (c.args.self.top) c.if-self-gt-GREATEST_TOP.true (top_full c.args.self n h))
    ∙ ap (λ (w : Way). under_sign x.negative (rounding w (beside_whole n))) c.way_of-way.ensures

pub returns : goal.returns
returns c =
    let x = c.args.self.exact in
    let o : (c.max-grain.result ≡ 2 * unit - 149) ⊎ ((2 * unit - 125 ≤ c.args.self.top) × (c.max-grain.result ≡ c.args.self.top - 24)) =
    elim (cases_lt (c.args.self.top) (2 * unit - 125)) [ inl l ↦ inl (omega arith) | inr g ↦ inr (g, omega arith) ] in
    λ n h. c.conclude-2.ensures
    ∙ ap (under_sign x.negative) (placed c.way_of-way.result n c.over-part.result.kept c.max-grain.result (c.args.self.top) c.over-part.result.side c.is_tiny.result
    (c.over-part.ensures.splits n h) c.over-part.ensures.few
    (top_full c.args.self n h)
    c.if-self-gt-GREATEST_TOP.false o (c.is_tiny.ensures n h))
    ∙ ap (λ (w : Way). under_sign x.negative (rounding w (beside_whole n))) c.way_of-way.ensures
