use Rattle.std.proofs.Common.{◌∙◌, arith}
use Rattle.bench.proofs.Dividing.{over_at, under_at, up_when, down_when}
use Rattle.bench.proofs.remainder.Left.nearest.Goals as goal
use Rattle.bench.proofs.remainder.Left.nearest.Goals.{then-turned, else-turned}

pub returns-clause-size : goal.returns-clause-size
returns-clause-size c = λ x r d. elim c.if-turned.branch [
  | then-turned w ↦
      let s = c.args.self in
      let o = up_when s.divisor s.rest s.odd c.goes_up-turned.result c.goes_up-turned.ensures w.if-turned.true in
      let q = over_at x s.divisor s.rest s.odd (omega (arith, s.short.0)) r d o in
      (w.significand-is ∙ q.0, w.if-turned.true ∙ q.1)
  | else-turned w ↦
      let s = c.args.self in
      let o = down_when s.divisor s.rest s.odd c.goes_up-turned.result c.goes_up-turned.ensures w.if-turned.false in
      let q = under_at x s.divisor s.rest s.odd (omega (arith, s.short.0)) r d o in
      (w.significand-is ∙ q.0, w.if-turned.false ∙ q.1)
]
