use Rattle.std.proofs.Common.{refl}
use Rattle.bench.specs.Benches.{standing_mode}
use Rattle.bench.proofs.bench.Bench.remainder.Goals as goal

pub returns-clause-after : goal.returns-clause-after
returns-clause-after g c =
    let r = c.remainder.ensures.after (standing_mode c.args.self.now) in
    record { flags = r.flags; mode = refl; origin = r.origin }
