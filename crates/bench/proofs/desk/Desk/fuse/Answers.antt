use Rattle.std.proofs.Common.{ap, refl, ◌∙◌}
use Rattle.bench.specs.declared.answer.Answer.{Answer}
use Rattle.bench.specs.Calls.{fuse_answer}
use Rattle.bench.proofs.Raising.{raises_as}
use Rattle.bench.proofs.Verdicts.{answered_is, any_three}
use Rattle.bench.proofs.desk.Desk.fuse.Goals as goal

pub returns-clause-answer : goal.returns-clause-answer
unfolding fuse_answer
returns-clause-answer g c =
    c.give.ensures.pattern
    ∙ ap (λ (a : Answer). a.pattern) (answered_is _ _ _ _ _ (any_three _ _ _ _ _ _ c.is_subnormal.ensures c.is_subnormal-2.ensures c.is_subnormal-3.ensures) c.fuse_value.ensures)

pub returns-clause-after : goal.returns-clause-after
unfolding fuse_answer
returns-clause-after g c =
    raises_as _ _ _ _ _ (ap (λ (a : Answer). a.flags) (answered_is _ _ _ _ _ (any_three _ _ _ _ _ _ c.is_subnormal.ensures c.is_subnormal-2.ensures c.is_subnormal-3.ensures) c.fuse_value.ensures)) refl refl c.give.ensures.after
