-- The closing value of a sheet: the exact sum over three of its lines.
use Rattle.std.specs.Prelude.{ℕ}
use Rattle.registers.specs.declared.register.Choice.TheVariants.{Plus}
use Rattle.registers.specs.Fused.{fused_size}
use Rattle.registers.specs.Values.{value}
use Rattle.sheets.specs.declared.closing.Closing.{Closing}

-- its magnitude, in squared units
abbrev pub closing_size : Closing → ℕ
closing_size c = fused_size Plus (value c.sum.r) (value c.sum.p) (value c.sum.q)
