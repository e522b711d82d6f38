-- The bytes that are counted are those before the first byte 10.
use Rattle.std.proofs.Common.{ℕ, not, sym, ◌∙◌, rules, tests}
use Rattle.std.proofs.lemmas.Iterator.{YieldsList-from_slice}
use Rattle.std.proofs.lemmas.Iterator.Consumers.{count_from_yields_List}
use Rattle.std.proofs.lemmas.Iterator.Search.{YieldsList-from_take_while}
use Rattle.std.proofs.lemmas.List.Folds.{length-prefix_len}
use Rattle.text.specs.Lines.{end}
use Rattle.text.proofs.Falling.{until_end_passed}
use Rattle.text.proofs.next.until_end.Goals as goal

pub returns-clause-value : goal.returns-clause-value
returns-clause-value c =
    let text = c.args.text.now in
    let passed = λ (b : ℕ). not (end b) in
    count_from_yields_List _ c.count.result c.count.ensures.ran
    (YieldsList-from_take_while _ passed (YieldsList-from_slice text cc) c.take_while.ensures.closure c.take_while.ensures.done (λ x b q k. search (rules, tests)))
    ∙ length-prefix_len passed text
    ∙ sym (until_end_passed text)
