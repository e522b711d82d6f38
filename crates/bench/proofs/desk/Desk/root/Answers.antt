use Rattle.std.proofs.Common.{ap, ◌∙◌}
use Rattle.bench.specs.declared.answer.Answer.{Answer}
use Rattle.bench.specs.Calls.{root_answer}
use Rattle.bench.proofs.Raising.{raises_as}
use Rattle.bench.proofs.Verdicts.{answered_is}
use Rattle.bench.proofs.desk.Desk.root.Goals as goal

pub returns-clause-answer : goal.returns-clause-answer
unfolding root_answer
returns-clause-answer g c = c.give.ensures.pattern ∙ ap (λ (a : Answer). a.pattern) (answered_is _ _ _ _ _ c.is_subnormal.ensures c.root_value-value.ensures.value)

pub returns-clause-after : goal.returns-clause-after
unfolding root_answer
returns-clause-after g c =
    raises_as _ _ _ _ _ (ap (λ (a : Answer). a.flags) (answered_is _ _ _ _ _ c.is_subnormal.ensures c.root_value-value.ensures.value))
    c.root_value-value.ensures.kept.flags c.root_value-value.ensures.kept.origin c.give.ensures.after
