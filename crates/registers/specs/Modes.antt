-- Rounding in a mode, with a sign.
use Rattle.std.specs.Prelude.{ℕ, ◌+◌, ◌^◌, Bool, cond, Some, None, Option, ◌==◌}
use Prim.Native.Nat.{Ordering}
use Rattle.registers.specs.declared.register.Choice.{Choice}
use Rattle.registers.specs.declared.mode.Mode.{Mode}
use Rattle.registers.specs.declared.mode.Mode.TheVariants.{NearestEven, Down, Up, TowardZero}
use Rattle.registers.specs.declared.mode.Way.{Way}
use Rattle.registers.specs.declared.mode.Way.TheVariants.{Nearest, Inward, Outward}
use Rattle.registers.specs.declared.mode.Rounded.{Rounded}
use Rattle.registers.specs.Binary32.{Unsigned, rounding, beside_whole}
use Rattle.registers.specs.Fused.{fused_size, fused_sign}
use Rattle.registers.specs.Values.{Value}

-- the numbers of the modes
abbrev pub mode_number : Mode → ℕ
mode_number NearestEven = 0
mode_number Down = 1
mode_number Up = 2
mode_number TowardZero = 3

-- the mode of a number
abbrev pub mode_of : ℕ → Option Mode
mode_of n = cond (n == 0) (Some NearestEven) (cond (n == 1) (Some Down) (cond (n == 2) (Some Up) (cond (n == 3) (Some TowardZero) None)))

-- how a magnitude is rounded in a mode under a sign
abbrev pub way_of : Mode → Bool → Way
way_of NearestEven s = Nearest
way_of Down s = cond s Outward Inward
way_of Up s = cond s Inward Outward
way_of TowardZero s = Inward

-- the pattern of a sign and of a magnitude's pattern
abbrev pub with_sign : Bool → ℕ → ℕ
with_sign s m = cond s (2 ^ 31 + m) m

abbrev pub under_sign : Bool → Unsigned → Rounded
under_sign s u = record { pattern = record { bits = with_sign s u.pattern }; inexact = u.inexact; overflow = u.overflow; underflow = u.underflow }

-- a value other than zero, of sign s and a magnitude that `beside` tells, rounded once in a mode
abbrev pub rounded : Mode → Bool → (ℕ → Ordering) → Rounded
rounded mode s beside = under_sign s (rounding (way_of mode s) beside)

-- the magnitude of the exact value of a fused step rounded once to binary32 under a sign; a value of zero is none to round
abbrev pub magnitude_rounded : Mode → Bool → Choice → Value → Value → Value → Option Rounded
magnitude_rounded mode s choice r p q = cond (fused_size choice r p q == 0) None (Some (rounded mode s (beside_whole (fused_size choice r p q))))

-- the same under the value's own sign
abbrev pub fused_rounded : Mode → Choice → Value → Value → Value → Option Rounded
fused_rounded mode choice r p q = magnitude_rounded mode (fused_sign choice r p q) choice r p q
