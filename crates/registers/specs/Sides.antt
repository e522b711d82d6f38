-- Where a number lies between two multiples of a power of two.
use Rattle.std.specs.Prelude.{◌≡◌, ℕ, ◌+◌, ◌*◌, ◌^◌, ◌<◌, Bool, true, false}
use Prim.Native.Nat.{Ordering}
use Rattle.registers.specs.declared.cut.Side.{Side}
use Rattle.registers.specs.declared.cut.Side.TheVariants.{On, Under, Half, Over}

-- a rest r of m: none, less than half, half, or more than half
abbrev pub Sided : Side → ℕ → ℕ → Type 0
Sided On r m = r ≡ 0
Sided Under r m = (0 < r) × (2 * r < m)
Sided Half r m = (0 < r) × (2 * r ≡ m)
Sided Over r m = (0 < r) × (m < 2 * r)

-- n is `kept` multiples of 2 ^ g and a rest that lies on the side told
pub record Splits (kept : ℕ) (side : Side) (g n : ℕ) : Type 0 where
  pub rest : ℕ
  pub parts : n ≡ kept * 2 ^ g + rest
  pub small : rest < 2 ^ g
  pub told : Sided side rest (2 ^ g)

-- a part that is there or not, as a number
abbrev pub one : Bool → ℕ
one true = 1
one false = 0

-- where the lower multiple, and the middle to the next one, lie beside the number
abbrev pub lower_of : Side → Ordering
lower_of On = Ordering.eq
lower_of Under = Ordering.lt
lower_of Half = Ordering.lt
lower_of Over = Ordering.lt

abbrev pub middle_of : Side → Ordering
middle_of On = Ordering.gt
middle_of Under = Ordering.gt
middle_of Half = Ordering.eq
middle_of Over = Ordering.lt
