use Rattle.std.proofs.Common.{ap, ◌∙◌}
use Rattle.registers.specs.declared.mode.Rounded.{Rounded}
use Rattle.bench.specs.Kinds.{is_negative, units}
use Rattle.bench.proofs.Exactness.{is_rounded, parts_are}
use Rattle.bench.proofs.remainder.round_datum.Goals as goal

pub returns : goal.returns
returns c =
    let e = c.exact_rounding.ensures in
    record {
      rounds = λ mode s v d. e ∙ is_rounded c.args.x s v d c.encode.result c.encode.ensures.value mode;
      parts = λ s v d. let p = parts_are c.args.x s v d c.encode.result c.encode.ensures.value in (ap (λ (r : Rounded). units r.pattern) e ∙ p.0, ap (λ (r : Rounded). is_negative r.pattern) e ∙ p.1);
    }
