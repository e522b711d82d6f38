-- The rounds that refine a seed and the seeds of the line source, by fused steps of 30 bits.
use Rattle.std.specs.Prelude.{◌≡◌, ℕ, ◌/◌, ◌^◌, ◌<◌, ◌≤◌, false, cond, Ok, Err, Result, ◌==◌, nat_lt}
use Rattle.registers.specs.declared.register.Choice.{Choice}
use Rattle.registers.specs.declared.register.Choice.TheVariants.{Plus, Minus}
use Rattle.registers.specs.Fused.{fused}
use Rattle.registers.specs.Values.{Value}
use Rattle.sources.specs.Fractions.{fraction}
use Rattle.sources.specs.Seeds.{plain, IsSignificand, IsRadicand, ReciprocalSeed, RootSeed}

-- r + p·q or r - p·q, rounded to 30 bits
unfoldable pub step : Choice → Value → Value → Value → Result Value ℕ
step choice r p q = fused 30 choice r p q

-- what follows a step that is not refused; a refusal is the answer of all
abbrev pub then : Result Value ℕ → (Value → Result Value ℕ) → Result Value ℕ
then (Ok v) f = f v
then (Err e) f = Err e

-- half of a number, exactly; one of the least exponent has none in range
unfoldable pub half : Value → Result Value ℕ
half v = cond (v.units == 0) (Ok v) (cond (nat_lt v.units (2 ^ 30)) (Err 7) (Ok (record { negative = v.negative; units = v.units / 2 })))

-- e = 1 - b·y, then y + e·y
abbrev pub reciprocal_round : Value → Value → Result Value ℕ
reciprocal_round b y = then (step Minus (plain (fraction 1 0)) b y) (λ e. step Plus y e y)

-- s = t·z, d = 1/2 - s·(z/2), then z + d·z
abbrev pub root_round : Value → Value → Result Value ℕ
root_round t z = then (step Plus (plain 0) t z) (λ s. then (half z) (λ h. then (step Minus (plain (fraction 1 1)) s h) (λ d. step Plus z d z)))

-- from height/256 - (slope/256)·n, two rounds
abbrev pub line_from : ℕ → ℕ → (Value → Value → Result Value ℕ) → ℕ → Result Value ℕ
line_from height slope round n =
    let x = plain (fraction n 23) in
    then (step Minus (plain (fraction height 8)) (plain (fraction slope 8)) x) (λ y. then (round x y) (round x))

-- from 361/256 - (120/256)·b
abbrev pub reciprocal_line : ℕ → Result Value ℕ
reciprocal_line b = line_from 361 120 reciprocal_round b

-- from 273/256 - (39/256)·t
abbrev pub root_line : ℕ → Result Value ℕ
root_line t = line_from 273 39 root_round t

-- the units of an answer; a refusal has none
abbrev pub units_of : Result Value ℕ → ℕ
units_of (Ok v) = v.units
units_of (Err e) = 0

-- an answer that is a number above zero
abbrev pub Positive : Result Value ℕ → Type 0
Positive (Ok v) = (v.negative ≡ false) × (0 < v.units)
Positive (Err e) = ⊥

-- the seeds of the line source, in units
unfoldable pub line_reciprocal : ℕ → ℕ
line_reciprocal b = units_of (reciprocal_line b)

unfoldable pub line_root : ℕ → ℕ
line_root t = units_of (root_line t)

-- One round from any seed within one part in K, K at least 29, is not refused and gives a seed within one part in 400; seed K n y says that y is within one part in K for the operand n.
abbrev pub RoundRefines : (ℕ → Type 0) → (ℕ → ℕ → ℕ → Type 0) → (Value → Value → Result Value ℕ) → Type 0
RoundRefines Serves Seed round = (K n y : ℕ) → Serves n → 29 ≤ K → Seed K n y
    → (y' : ℕ) × (round (plain (fraction n 23)) (plain y) ≡ Ok (plain y')) × Seed 400 n y'

abbrev pub ReciprocalRoundRefines : Type 0
ReciprocalRoundRefines = RoundRefines IsSignificand ReciprocalSeed reciprocal_round

abbrev pub RootRoundRefines : Type 0
RootRoundRefines = RoundRefines IsRadicand RootSeed root_round
