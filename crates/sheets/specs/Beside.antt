-- The exact quotient and the exact root, known by comparison: `m` units of 2 ^ -324 are less than the value (lt), the value (eq) or more (gt). Operands are counted in units of 2 ^ -149.
use Rattle.std.specs.Prelude.{◌≡◌, ℕ, ◌*◌, ◌^◌, Bool}
use Prim.Native.Nat.{compare, Ordering}
use Rattle.registers.specs.declared.mode.Mode.{Mode}
use Rattle.registers.specs.Binary32.{Short}
use Rattle.registers.specs.Modes.{rounded}

-- m beside a / b: m·b beside a
abbrev pub beside_quotient : ℕ → ℕ → ℕ → Ordering
beside_quotient a b m = compare (m * b) (a * 2 ^ 324)

-- m beside the root of a: m² beside a
abbrev pub beside_root : ℕ → ℕ → Ordering
beside_root a m = compare (m * m) (a * 2 ^ 499)

-- two values lie on the same side of every number of at most 25 significant bits
abbrev pub SameSide : (ℕ → Ordering) → (ℕ → Ordering) → Type 0
SameSide b c = (m : ℕ) → Short m → b m ≡ c m

-- two values round to the same pattern with the same flags, in every mode and with either sign
abbrev pub SameRounding : (ℕ → Ordering) → (ℕ → Ordering) → Type 0
SameRounding b c = (mode : Mode) (s : Bool) → rounded mode s b ≡ rounded mode s c
