-- Worked values, computed from the definitions.
use Rattle.std.specs.Prelude.{◌≡◌, ℕ, ◌-◌, ◌^◌, Bool, true, false, List, [], ◌∷◌, map, ℤ, pos, negsuc, Ok, Result}
use Rattle.registers.specs.declared.pattern.Pattern.{Pattern}
use Rattle.registers.specs.declared.mode.Mode.TheVariants.{NearestEven, Down, Up, TowardZero}
use Rattle.registers.specs.Values.{Value}
use Rattle.sources.specs.Entries.{reciprocal_entry, table_reciprocal}
use Rattle.sources.specs.Fractions.{fraction}
use Rattle.sources.specs.Seeds.{plain}
use Rattle.sheets.specs.Operands.{one}
use Rattle.sheets.specs.Quotients.{QuotientSheet}
use Rattle.bench.specs.declared.answer.Answer.{Answer}
use Rattle.bench.specs.declared.count.Counted.{Counted}
use Rattle.bench.specs.declared.refusal.Refusal.{Refusal}
use Rattle.bench.specs.Calls.{fuse_answer, divide_answer, root_answer, remainder_answer}
use Rattle.bench.specs.Counts.{count_answer}

-- what a worked value is of
pub data Shown : Type 0 where
  call : Answer → Shown
  count : Result Counted Refusal → Shown
  entry : ℕ → Shown

-- the pattern with these bits
abbrev at : ℕ → Pattern
at n = record { bits = n }

-- a pattern with these flags of underflow, inexact and denormal, and no other
abbrev raising : Bool → Bool → Bool → ℕ → Shown
raising u x d p = call (record { pattern = at p; flags = record { invalid = false; zero_divide = false; overflow = false; underflow = u; inexact = x; denormal = d } })

abbrev exact : ℕ → Shown
exact = raising false false false

abbrev inexact : ℕ → Shown
inexact = raising false true false

abbrev counts : ℤ → ℤ → Shown
counts q r = count (Ok (record { quotient = q; remainder = r }))

-- calls beside their answers, and entries of the table of reciprocals beside their values
abbrev pub worked : List (Shown × Shown)
worked =
    (call (divide_answer NearestEven (at 0x3F800000) (at 0x40400000)), inexact 0x3EAAAAAB)
    ∷ (call (divide_answer Down (at 0x3F800000) (at 0x40400000)), inexact 0x3EAAAAAA)
    ∷ (call (divide_answer Up (at 0x3F800000) (at 0x40400000)), inexact 0x3EAAAAAB)
    ∷ (call (divide_answer TowardZero (at 0x3F800000) (at 0x40400000)), inexact 0x3EAAAAAA)
    ∷ (call (divide_answer NearestEven (at 0x3F800000) (at 0x3F800000)), exact 0x3F800000)
    ∷ (call (root_answer NearestEven (at 0x40100000)), exact 0x3FC00000)
    ∷ (call (root_answer NearestEven (at 0x3F800001)), inexact 0x3F800000)
    ∷ (call (root_answer Up (at 0x3F800001)), inexact 0x3F800001)
    ∷ (call (root_answer NearestEven (at 0x407FFFFF)), inexact 0x3FFFFFFF)
    ∷ (call (root_answer Up (at 0x407FFFFF)), inexact 0x40000000)
    ∷ (call (divide_answer NearestEven (at 0x00000001) (at 0x40000000)), raising true true true 0x00000000)
    ∷ (call (divide_answer NearestEven (at 0x00FFFFFF) (at 0x40000000)), raising true true false 0x00800000)
    ∷ (call (fuse_answer NearestEven (at 0x3F800001) (at 0x3F800001) (at 0xBF800002)), exact 0x28800000)
    ∷ (call (remainder_answer NearestEven (at 0x40A00000) (at 0x40400000)), exact 0xBF800000)
    ∷ (count (count_answer (negsuc 999) (pos 333)), counts (negsuc 2) (negsuc 0))
    ∷ (entry (reciprocal_entry 0), entry 2044)
    ∷ (entry (reciprocal_entry 128), entry 1364)
    ∷ (entry (reciprocal_entry 255), entry 1025)
    ∷ []

-- the sheet of 1 by 1 over the table source: 511/512, 1/512, 513/2 ^ 18, 1 - 2 ^ -27, 1 and 0
abbrev pub one_over_one : List Value
one_over_one = plain (fraction 511 9) ∷ (plain (fraction 1 9) ∷ (plain (fraction 513 18) ∷ (plain (fraction (2 ^ 27 - 1) 27) ∷ (one ∷ (plain 0 ∷ [])))))

pub record WorkedValues : Type 0 where
  pub shown : map (λ (w : Shown × Shown). w.0) worked ≡ map (λ (w : Shown × Shown). w.1) worked
  pub lines : (lines : List Value) (closing : ℕ) → QuotientSheet table_reciprocal (2 ^ 149) (2 ^ 149) lines closing → lines ≡ one_over_one
