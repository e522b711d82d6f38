-- What the inner form of an exact value stands for.
use Rattle.std.specs.Prelude.{◌≡◌, ℕ, ◌+◌, ◌*◌, ◌^◌, ◌<◌, Bool, nat_lt}
use Rattle.registers.specs.declared.exact.Term.{Term}
use Rattle.registers.specs.declared.exact.Exact.{Exact}

-- n is `whole` units of 2 ^ exponent and a rest below one unit, which is there just where `more` says so
pub record Held (whole exponent : ℕ) (more : Bool) (n : ℕ) : Type 0 where
  pub rest : ℕ
  pub parts : n ≡ whole * 2 ^ exponent + rest
  pub small : rest < 2 ^ exponent
  pub told : more ≡ nat_lt 0 rest

-- x holds the magnitude n
abbrev pub Holds : Exact → ℕ → Type 0
Holds x n = Held x.whole x.exponent x.more n

-- the magnitude of a term
abbrev pub size_of : Term → ℕ
size_of t = t.whole * 2 ^ t.exponent
