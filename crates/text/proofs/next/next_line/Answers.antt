-- The first line and the lines of what follows are the lines of the text.
use Rattle.std.proofs.Common.{◌≡◌, Some, sym, ap, ◌∙◌, arith}
use Rattle.std.proofs.lemmas.Grind.{common_steps}
use Rattle.text.specs.Lines.{lines_from, next_of}
use Rattle.text.proofs.Falling.{lines_next}
use Rattle.text.proofs.next.next_line.Goals as goal

pub returns-clause-lines : goal.returns-clause-lines
returns-clause-lines c =
    let e : Some (c.split_at.result.0.now, c.split_at.result.1.now) ≡ next_of c.args.text.now = grind (arith, common_steps) in
    lines_next c.args.text.now ∙ sym (ap lines_from e)
