use Rattle.std.proofs.Common.{◌≡◌, ℕ, ◌-◌, ◌*◌, ◌^◌, ◌<◌, Some, None, Option, sym, ap, ◌∙◌, zero-mul, arith}
use Rattle.std.specs.Option.{MatchOption}
use Rattle.registers.specs.declared.pattern.Finite.{Finite}
use Rattle.registers.specs.declared.pattern.Pattern.{Pattern}
use Rattle.registers.specs.declared.register.Register.{Register}
use Rattle.registers.specs.declared.register.Register.TheVariants.{Zero}
use Rattle.registers.specs.Range.{bias}
use Rattle.registers.specs.Values.{Value, finite_value, value}
use Rattle.bench.specs.Kinds.{Stands, is_negative, units, unsigned}
use Rattle.bench.proofs.Decoded.{zero_units}
use Rattle.bench.proofs.operand.FinitePattern.register.Goals as goal

-- a number's register number where there is one, and else zero
either : (p : Pattern) (o : Option Finite) (r : Register) → MatchOption o (unsigned p ≡ 0) (λ x. Stands x p) → MatchOption o (r ≡ Zero) (λ x. value r ≡ finite_value x) → ((value r).units ≡ units p * 2 ^ (bias - 149)) × (0 < units p → (value r).negative ≡ is_negative p)
either p (Some x) r stands is = (ap (λ (v : Value). v.units) is ∙ ap (λ (n : ℕ). n * 2 ^ (bias - 149)) stands.size, λ some. ap (λ (v : Value). v.negative) is ∙ stands.sign)
either p None r zero is =
    let z : units p ≡ 0 = zero_units p zero in
    (ap (λ (x : Register). (value x).units) is ∙ sym (ap (λ (n : ℕ). n * 2 ^ (bias - 149)) z ∙ zero-mul (2 ^ (bias - 149))), λ some. absurd (omega (arith, z)))

pub returns-clause-size : goal.returns-clause-size
returns-clause-size c = (either c.args.self.pattern _ _ c.number.ensures c.map_or.ensures).0

pub returns-clause-sign : goal.returns-clause-sign
returns-clause-sign c = (either c.args.self.pattern _ _ c.number.ensures c.map_or.ensures).1
