-- The fused step: r + p·q or r - p·q, formed exactly and rounded once.
use Rattle.std.specs.Prelude.{ℕ, ◌+◌, ◌*◌, ◌/◌, ◌^◌, Bool, false, cond, not, ◌&&◌, ◌||◌, Ok, Err, Result, ◌==◌, nat_le}
use Rattle.std.specs.Bool.{beq}
use Rattle.std.specs.Float.Ieee.{size}
use Rattle.registers.specs.declared.register.Register.{Register}
use Rattle.registers.specs.declared.register.Refusal.{Refusal}
use Rattle.registers.specs.declared.register.Refusal.TheVariants.{Width, Exponent}
use Rattle.registers.specs.declared.register.Choice.{Choice}
use Rattle.registers.specs.declared.register.Choice.TheVariants.{Plus, Minus}
use Rattle.registers.specs.Nearest.{nearest}
use Rattle.registers.specs.Range.{bias, span}
use Rattle.registers.specs.Sums.{sum_size, sum_sign}
use Rattle.registers.specs.Values.{Value, value}

-- the numbers of the refusals
abbrev pub number : Refusal → ℕ
number Width = 5
number Exponent = 7

-- a step's answer as a value or the number of a refusal
abbrev pub answered : Result Register Refusal → Result Value ℕ
answered (Ok z) = Ok (value z)
answered (Err e) = Err (number e)

-- the sign that the product p·q has in the sum
abbrev pub product_sign : Choice → Value → Value → Bool
product_sign Plus p q = not (beq p.negative q.negative)
product_sign Minus p q = beq p.negative q.negative

-- the magnitude and the sign of the exact value, in squared units
abbrev pub fused_size : Choice → Value → Value → Value → ℕ
fused_size choice r p q = sum_size r.negative (r.units * 2 ^ bias) (product_sign choice p q) (p.units * q.units)

abbrev pub fused_sign : Choice → Value → Value → Value → Bool
fused_sign choice r p q = sum_sign r.negative (r.units * 2 ^ bias) (product_sign choice p q) (p.units * q.units)

-- whether a magnitude of v squared units has an exponent in range: its top bit is worth 2 ^ (size v - 1 - 2 * bias), so that its exponent, stored, is size v - 30 - bias
abbrev pub in_range : ℕ → Bool
in_range v = nat_le (30 + bias) (size v) && nat_le (size v) (30 + span + bias)

-- a rounded magnitude of v squared units as a register number
abbrev pub kept : Bool → ℕ → Result Value ℕ
kept s v = cond (v == 0) (Ok (record { negative = false; units = 0 })) (cond (in_range v) (Ok (record { negative = s; units = v / 2 ^ bias })) (Err (number Exponent)))

-- the step at any width
abbrev pub fused_at : ℕ → Choice → Value → Value → Value → Result Value ℕ
fused_at width choice r p q = kept (fused_sign choice r p q) (nearest width (fused_size choice r p q))

-- the step: a width other than 24 or 30 is refused first
abbrev pub fused : ℕ → Choice → Value → Value → Value → Result Value ℕ
fused width choice r p q = cond (width == 24 || width == 30) (fused_at width choice r p q) (Err (number Width))
