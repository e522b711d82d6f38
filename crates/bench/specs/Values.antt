-- The exact values of the calls on finite operands.
use Rattle.std.specs.Prelude.{◌≡◌, ℕ, ◌*◌, ◌^◌, Bool, true, false, None, cond, not, ◌==◌}
use Prim.Native.Nat.{compare, Ordering}
use Rattle.std.specs.Bool.{beq}
use Rattle.registers.specs.declared.pattern.Pattern.{Pattern}
use Rattle.registers.specs.declared.mode.Mode.{Mode}
use Rattle.registers.specs.declared.mode.Mode.TheVariants.{NearestEven, Down, Up, TowardZero}
use Rattle.registers.specs.declared.mode.Rounded.{Rounded}
use Rattle.registers.specs.Sums.{sum_size, sum_sign}
use Rattle.bench.specs.Kinds.{is_negative, signs_differ, units}
use Rattle.bench.specs.Remainders as rest
use Rattle.bench.specs.Tables.{remainder_table, zero_of}

-- a value of n units of 2 ^ -324, known by comparison
abbrev pub beside_exact : ℕ → ℕ → Ordering
beside_exact n m = compare m n

-- the magnitude of p·q + r in units of 2 ^ -298
unfoldable pub fuse_size : Pattern → Pattern → Pattern → ℕ
fuse_size p q r = sum_size (is_negative r) (units r * 2 ^ 149) (signs_differ p q) (units p * units q)

abbrev pub is_down : Mode → Bool
is_down NearestEven = false
is_down Down = true
is_down Up = false
is_down TowardZero = false

-- the sign of a sum of zero: that of both terms, or where they differ plus, and in mode down minus
abbrev pub zero_sign : Mode → Bool → Bool → Bool
zero_sign mode s t = cond (beq s t) s (is_down mode)

-- a pattern as a rounded value that is exact
abbrev pub exact_rounded : Pattern → Rounded
exact_rounded p = record { pattern = p; inexact = false; overflow = false; underflow = false }

-- a zero as a rounded value
abbrev pub zero_rounded : Bool → Rounded
zero_rounded s = exact_rounded (zero_of s)

-- the sign of p·q + r
unfoldable pub fuse_sign : Mode → Pattern → Pattern → Pattern → Bool
fuse_sign mode p q r =
    cond (fuse_size p q r == 0)
    (zero_sign mode (is_negative r) (signs_differ p q))
    (sum_sign (is_negative r) (units r * 2 ^ 149) (signs_differ p q) (units p * units q))

-- the magnitude and the sign of x - n·y, n the whole number nearest to x / y; a remainder of zero has the sign of x
abbrev pub remainder_units : Pattern → Pattern → ℕ
remainder_units x y = rest.remainder_size (units x) (units y)

abbrev pub remainder_sign : Pattern → Pattern → Bool
remainder_sign x y = cond (rest.remainder_turned (units x) (units y)) (not (is_negative x)) (is_negative x)

-- where no row of the table decides, p is the remainder of x by y exactly
abbrev pub ExactRemainder : Pattern → Pattern → Pattern → Type 0
ExactRemainder x y p = None ≡ remainder_table x y → (units p ≡ remainder_units x y) × (is_negative p ≡ remainder_sign x y)
