-- The range of register numbers, said once: their exponents run from -lowest to highest.
use Rattle.std.specs.Prelude.{◌≡◌, ℕ, ◌+◌, refl}

abbrev pub lowest : ℕ
lowest = 65534

abbrev pub highest : ℕ
highest = 65535

-- An exponent is stored with `lowest` added, so it is stored as a number from 0 to `span`.
abbrev pub span : ℕ
span = lowest + highest

-- A unit is 2 ^ -unit, the worth of the last bit of a significand at the least exponent: every register number is a whole number of units, and every product of two a whole number of squared units.
abbrev pub unit : ℕ
unit = lowest + 29

-- The same number under a name that stays shut, so that no tactic writes 2 ^ bias out.
unfoldable pub bias : ℕ
bias = unit

pub bias_is : bias ≡ unit
unfolding bias
bias_is = refl
