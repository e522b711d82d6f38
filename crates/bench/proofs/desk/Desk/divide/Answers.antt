use Rattle.std.proofs.Common.{ap, ◌∙◌}
use Rattle.bench.specs.declared.answer.Answer.{Answer}
use Rattle.bench.specs.Calls.{divide_answer}
use Rattle.bench.proofs.Raising.{raises_as}
use Rattle.bench.proofs.Verdicts.{answered_is, any_two}
use Rattle.bench.proofs.desk.Desk.divide.Goals as goal

pub returns-clause-answer : goal.returns-clause-answer
unfolding divide_answer
returns-clause-answer g c =
    c.give.ensures.pattern ∙ ap (λ (a : Answer). a.pattern) (answered_is _ _ _ _ _ (any_two _ _ _ _ c.is_subnormal.ensures c.is_subnormal-2.ensures) c.quotient-value.ensures.value)

pub returns-clause-after : goal.returns-clause-after
unfolding divide_answer
returns-clause-after g c =
    raises_as _ _ _ _ _ (ap (λ (a : Answer). a.flags) (answered_is _ _ _ _ _ (any_two _ _ _ _ c.is_subnormal.ensures c.is_subnormal-2.ensures) c.quotient-value.ensures.value))
    c.quotient-value.ensures.kept.flags c.quotient-value.ensures.kept.origin c.give.ensures.after
