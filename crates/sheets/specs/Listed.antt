-- The lines of a quotient and of a root as lists, and the closing values over them.
use Rattle.std.specs.Prelude.{ℕ, List, [], ◌∷◌}
use Rattle.registers.specs.declared.register.Choice.TheVariants.{Plus}
use Rattle.registers.specs.Fused.{fused_size}
use Rattle.registers.specs.Values.{Value, value}
use Rattle.sheets.specs.declared.quotient.lines.QuotientLines.{QuotientLines}
use Rattle.sheets.specs.declared.root.lines.RootLines.{RootLines}

abbrev pub quotient_values : QuotientLines → List Value
quotient_values l = value l.y0 ∷ (value l.e0 ∷ (value l.e1 ∷ (value l.y1 ∷ (value l.q1 ∷ (value l.r1 ∷ [])))))

-- q1 + r1·y1
abbrev pub quotient_closing : QuotientLines → ℕ
quotient_closing l = fused_size Plus (value l.q1) (value l.r1) (value l.y1)

abbrev pub root_values : RootLines → List Value
root_values l = value l.y0 ∷ (value l.s0 ∷ (value l.h0 ∷ (value l.d0 ∷ (value l.h1 ∷ (value l.s1 ∷ (value l.d1 ∷ (value l.e1 ∷ (value l.s2 ∷ (value l.h2 ∷ (value l.e2 ∷ []))))))))))

-- s2 + e2·h2
abbrev pub root_closing : RootLines → ℕ
root_closing l = fused_size Plus (value l.s2) (value l.e2) (value l.h2)
