use Rattle.std.proofs.Common.{◌≡◌, ℕ, ◌*◌, ◌^◌, ◌<◌, ◌≤◌, Bool, Some, None, Option, sym, ap, ◌∙◌}
use Rattle.std.specs.Option.{MatchOption}
use Rattle.registers.specs.declared.pattern.Finite.{Finite}
use Rattle.registers.specs.declared.pattern.Datum.{Datum}
use Rattle.registers.specs.declared.pattern.Datum.TheVariants.{Zero}
use Rattle.registers.specs.declared.pattern.Datum.TheVariants.{Finite as finite_case}
use Rattle.registers.specs.Coding.{Writable, denoted, finite, finite_meaning}
use Rattle.bench.proofs.Decoded.{unwritable}
use Rattle.bench.proofs.scaled.Scaled.datum.Goals as goal

-- a finite number where there is one, and else a zero
either : (m e : ℕ) → m < 2 ^ 24 → e ≤ 253 → (s : Bool) (o : Option Finite) (r : Datum) → MatchOption o (Writable m e → ⊥) (λ x. finite_meaning x ≡ finite s (m * 2 ^ e)) → MatchOption o (r ≡ Zero s) (λ x. r ≡ finite_case x) → denoted r ≡ finite s (m * 2 ^ e)
either m e few low s (Some x) r made is = ap denoted is ∙ made
either m e few low s None r made is = ap denoted is ∙ ap (finite s) (sym (unwritable m e few low made))

pub returns : goal.returns
returns c = either _ _ c.args.self.form.0 c.args.self.form.1 c.args.negative _ _ c.new.ensures c.map_or.ensures
