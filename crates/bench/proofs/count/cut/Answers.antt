use Rattle.std.proofs.Common.{◌≡◌, ℕ, ◌/◌, ◌^◌, Some, None, Option, sym, ap, ◌∙◌}
use Rattle.std.specs.Option.{MatchOption}
use Rattle.registers.specs.declared.pattern.Finite.{Finite}
use Rattle.registers.specs.declared.pattern.Pattern.{Pattern}
use Rattle.sheets.specs.Operands.{units_of}
use Rattle.bench.specs.Kinds.{Stands, units, unsigned}
use Rattle.bench.proofs.Decoded.{zero_units}
use Rattle.bench.proofs.count.cut.Goals as goal

-- the whole part of a number where there is one, and else nothing
either : (p : Pattern) (o : Option Finite) (r : ℕ) → MatchOption o (unsigned p ≡ 0) (λ x. Stands x p) → MatchOption o (r ≡ 0) (λ x. r ≡ units_of x / 2 ^ 149) → r ≡ units p / 2 ^ 149
either p (Some x) r stands is = is ∙ ap (λ (n : ℕ). n / 2 ^ 149) stands.size
either p None r zero is = is ∙ sym (ap (λ (n : ℕ). n / 2 ^ 149) (zero_units p zero))

pub returns : goal.returns
returns c = either c.args.p.pattern _ _ c.number.ensures c.map_or.ensures
