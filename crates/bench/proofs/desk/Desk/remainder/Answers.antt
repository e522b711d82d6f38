use Rattle.std.proofs.Common.{ap, refl, ◌∙◌}
use Rattle.bench.specs.declared.answer.Answer.{Answer}
use Rattle.bench.specs.Calls.{remainder_answer}
use Rattle.bench.proofs.Raising.{raises_as}
use Rattle.bench.proofs.Verdicts.{answered_is, any_two}
use Rattle.bench.proofs.desk.Desk.remainder.Goals as goal

pub returns-clause-answer : goal.returns-clause-answer
unfolding remainder_answer
returns-clause-answer g c = λ mode.
    c.give.ensures.pattern ∙ ap (λ (a : Answer). a.pattern) (answered_is _ _ _ _ _ (any_two _ _ _ _ c.is_subnormal.ensures c.is_subnormal-2.ensures) (c.remainder.ensures.value mode))

pub returns-clause-after : goal.returns-clause-after
unfolding remainder_answer
returns-clause-after g c = λ mode.
    raises_as _ _ _ _ _ (ap (λ (a : Answer). a.flags) (answered_is _ _ _ _ _ (any_two _ _ _ _ c.is_subnormal.ensures c.is_subnormal-2.ensures) (c.remainder.ensures.value mode))) refl refl c.give.ensures.after
