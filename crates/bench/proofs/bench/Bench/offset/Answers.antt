use Rattle.std.proofs.Common.{◌∙◌}
use Rattle.registers.specs.declared.mode.Mode.TheVariants.{NearestEven}
use Rattle.bench.proofs.bench.Bench.offset.Goals as goal

pub returns-clause-after : goal.returns-clause-after
returns-clause-after g c =
    let r = c.remainder.ensures.after NearestEven in
    record { flags = r.flags; mode = c.drop-guard.ensures ∙ c.new-guard.ensures.old; origin = r.origin }
