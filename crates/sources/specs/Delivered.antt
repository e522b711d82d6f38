-- The delivered sources by their words, and their seeds.
use Rattle.std.specs.Prelude.{◌≡◌, ℕ, List, Result, MatchResult, codes}
use Rattle.sources.specs.declared.delivered.Delivered.{Delivered}
use Rattle.sources.specs.declared.delivered.Delivered.TheVariants.{Table, Line}
use Rattle.sources.specs.declared.delivered.UnknownSource.{UnknownSource}
use Rattle.sources.specs.Entries.{table_reciprocal, table_root}
use Rattle.sources.specs.Rounds.{line_reciprocal, line_root}
use Rattle.sources.specs.Seeds.{IsRadicand, IsSignificand, ReciprocalSeed, RootSeed}
use Rattle.sources.specs.Tabulated as tabulated
use Rattle.sources.specs.ReciprocalSteps as lined
use Rattle.sources.specs.RootSteps as lined_roots

-- the word of a source
abbrev pub word_of : Delivered → List ℕ
word_of Table = codes "table"
word_of Line = codes "line"

-- what reading a word gives: the source that has it, or an error where none has
abbrev pub ReadsSource : List ℕ → Result Delivered UnknownSource → Type 0
ReadsSource word r = MatchResult r (λ s. word ≡ word_of s) (λ _. (s : Delivered) → word ≡ word_of s → ⊥)

-- the seeds of a source, in units
abbrev pub delivered_reciprocal : Delivered → ℕ → ℕ
delivered_reciprocal Table b = table_reciprocal b
delivered_reciprocal Line b = line_reciprocal b

abbrev pub delivered_root : Delivered → ℕ → ℕ
delivered_root Table t = table_root t
delivered_root Line t = line_root t

-- they are close
pub delivered_reciprocals_close : (s : Delivered) (b : ℕ) → IsSignificand b → ReciprocalSeed 400 b (delivered_reciprocal s b)
delivered_reciprocals_close Table b h = tabulated.reciprocals_are_close b h
delivered_reciprocals_close Line b h = lined.reciprocals_are_close b h

pub delivered_roots_close : (s : Delivered) (t : ℕ) → IsRadicand t → RootSeed 400 t (delivered_root s t)
delivered_roots_close Table t h = tabulated.roots_are_close t h
delivered_roots_close Line t h = lined_roots.roots_are_close t h
