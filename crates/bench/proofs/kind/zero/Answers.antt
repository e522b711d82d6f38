use Rattle.std.proofs.Common.{ℕ, ap, ◌∙◌}
use Rattle.registers.specs.declared.pattern.Pattern.{Pattern}
use Rattle.registers.specs.Modes.{with_sign}
use Rattle.registers.proofs.Encodings.{encoded_zero}
use Rattle.bench.proofs.kind.zero.Goals as goal

abbrev at : ℕ → Pattern
at n = record { bits = n }

pub returns : goal.returns
returns c = ap at (c.encode.ensures.value ∙ ap (with_sign c.args.negative) encoded_zero)
