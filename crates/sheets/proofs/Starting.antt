-- What the code has of an operand before the first step of a sheet.
use Rattle.std.proofs.Common.{◌≡◌, ℕ, ◌*◌, ◌^◌, refl, ap, ◌∙◌}
use Rattle.registers.specs.declared.register.Number.{Number}
use Rattle.registers.specs.Laws.{Bits}
use Rattle.registers.specs.Values.{Value, number_value}
use Rattle.sources.specs.Seeds.{plain}
use Rattle.sheets.specs.declared.operand.Operand.{Operand}
use Rattle.sheets.specs.Operands.{held, held_at}
use Rattle.sheets.proofs.Placing.{Decoded, held_is}

abbrev pub decoded : (n : ℕ) (o : Operand) → o.significand.bits * 2 ^ o.exponent ≡ n * 2 ^ 23 → Decoded n
decoded n o e = record { significand = o.significand.bits; exponent = o.exponent; range = o.significand.range; few = o.range; is = e }

pub held_of : (n : ℕ) (o : Operand) (v : Value) → o.significand.bits * 2 ^ o.exponent ≡ n * 2 ^ 23 → v ≡ held_at o.significand.bits o.exponent → v ≡ held n
held_of n o v e f = f ∙ ap plain (held_is n o.significand.bits o.exponent e)

-- a register number has 30 bits
pub number_bits : (n : Number) → Bits 30 (number_value n).units
number_bits n = record { part = n.significand; exp = n.exponent; fits = n.bounds.2; is = refl }
