-- A fused step as a relation between whole numbers of units, for the analysis of chains of steps. One is W units, so that a product is in units of W * W.
use Rattle.std.specs.Prelude.{◌≡◌, ℕ, zero, ◌+◌, ◌*◌, Bool, false, cond}
use Rattle.registers.specs.Laws.{Rounds}

-- what a number of a sign (true: below zero) and a magnitude adds, and what it takes away
abbrev pub adds : Bool → ℕ → ℕ
adds s n = cond s zero n

abbrev pub takes : Bool → ℕ → ℕ
takes s n = cond s n zero

-- n, of sign s, is x and y, of theirs, added
abbrev pub Sum : Bool → ℕ → Bool → ℕ → Bool → ℕ → Type 0
Sum a x b y s n = adds a x + adds b y + takes s n ≡ takes a x + takes b y + adds s n

-- the exact sum, before it is rounded; zero has no sign
pub record ExactSum (a : Bool) (x : ℕ) (b : Bool) (y : ℕ) (s : Bool) (n : ℕ) : Type 0 where
  pub sum : Sum a x b y s n
  pub plain : n ≡ zero → s ≡ false

-- v, of sign s, is r, of sign a, and the product t, of sign b, added and rounded to k bits
pub record FusedLine (k W : ℕ) (a : Bool) (r : ℕ) (b : Bool) (t : ℕ) (s : Bool) (v : ℕ) : Type 0 where
  pub n : ℕ
  pub sum : Sum a (r * W) b t s n
  pub round : Rounds k n (v * W)
  pub plain : v ≡ zero → s ≡ false
