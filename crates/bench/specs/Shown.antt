-- How flags and refusals are printed.
use Rattle.std.specs.Prelude.{ℕ, Bool, cond, List, ◌++◌, codes}
use Rattle.std.specs.Fmt.{decimal}
use Rattle.bench.specs.declared.flags.Flags.{Flags}
use Rattle.bench.specs.declared.refusal.Refusal.{Refusal}
use Rattle.bench.specs.Refused.{number}

-- a flag's letter, and a dash where the flag is down
abbrev pub letter : Bool → List ℕ → List ℕ
letter up name = cond up name (codes "-")

abbrev pub letters : Flags → List ℕ
letters f = letter f.invalid (codes "I") ++ letter f.zero_divide (codes "Z") ++ letter f.overflow (codes "O") ++ letter f.underflow (codes "U") ++ letter f.inexact (codes "X") ++ letter f.denormal (codes "D")

-- R and the refusal's number
abbrev pub numbered : Refusal → List ℕ
numbered e = codes "R" ++ decimal (number e)
