-- Reading a number digit by digit.
use Rattle.std.specs.Prelude.{ℕ, Bool, ◌&&◌, List, [], ◌∷◌, Some, None, Option, nat_le}

abbrev pub between : ℕ → ℕ → ℕ → Bool
between a b c = nat_le a c && nat_le c b

-- what follows where there is a number
abbrev pub next : Option ℕ → (ℕ → Option ℕ) → Option ℕ
next None f = None
next (Some d) f = f d

-- the digits that are left, after those that made n; `more` says what one digit makes of n
unfoldable pub read_on : (ℕ → ℕ → Option ℕ) → ℕ → List ℕ → Option ℕ
read_on more n [] = Some n
read_on more n (c ∷ cs) = next (more n c) (λ m. read_on more m cs)
