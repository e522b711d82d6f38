-- Sums that cannot fall below zero, with their sign.
use Rattle.std.specs.Prelude.{◌≡◌, ℕ, zero, ◌+◌, ◌*◌, ◌<◌, Bool, true, false, ◌≢◌, refl}
use Rattle.std.proofs.Common.{arith, inl, inr}
use Rattle.registers.proofs.Near.{Near30}
use Rattle.registers.proofs.Spacing.{order}
use Rattle.registers.proofs.Signs.{Line, upright, upright_sign}

-- v, above zero, is n rounded
pub record Plain (n W : ℕ) (s : Bool) (v : ℕ) : Type 0 where
  pub sign : s ≡ false
  pub near : Near30 n (v * W)

pub plus : (W r t : ℕ) (s : Bool) (v : ℕ) → zero < W → Line 30 W false r false t s v → Plain (r * W + t) W s v
plus W r t s v one f = record { sign = upright_sign 30 W r t s v one f; near = (upright 30 W r t s v f).near }

pub minus : (W r t : ℕ) (s : Bool) (v : ℕ) → t < r * W → Line 30 W false r true t s v → (n : ℕ) × (n + t ≡ r * W) × Plain n W s v
minus W r t false v h f = (f.n, omega (arith, f.sum), record { sign = refl; near = f.line.near })
minus W r t true v h f = absurd (omega (arith, f.sum, h))

pub positive : (n : ℕ) → (n ≢ zero) → zero < n
positive n f = elim (order n zero) [ inl h ↦ absurd (f (omega (arith, h))) | inr h ↦ h ]
