-- A line by what is needed of its rounding, and lines whose two terms are not below zero.
use Rattle.std.proofs.Common.{◌≡◌, ℕ, zero, ◌+◌, ◌*◌, ◌<◌, ◌≤◌, Bool, true, false, refl, subst, arith, pow_pos}
use native.Mathlib.Nat.{eq_of_mul-eq-mul_right}
use Rattle.registers.proofs.Spacing.{Rounded}
use Rattle.registers.specs.Lines.{Sum, FusedLine}
use Rattle.registers.proofs.Related.{rounded_of}

-- a fused step, by what is needed of its rounding
pub record Line (k W : ℕ) (a : Bool) (r : ℕ) (b : Bool) (t : ℕ) (s : Bool) (v : ℕ) : Type 0 where
  pub n : ℕ
  pub sum : Sum a (r * W) b t s n
  pub line : Rounded k n (v * W)
  pub plain : v ≡ zero → s ≡ false

pub line_of : (k : ℕ) {W r t v : ℕ} {a b s : Bool} → 1 ≤ k → FusedLine k W a r b t s v → Line k W a r b t s v
line_of k {W} {r} {t} {v} h f = record { n = f.n; sum = f.sum; line = rounded_of k f.n (v * W) f.round h; plain = f.plain }

pub true≢false : true ≡ false → ⊥
true≢false e = let z : ◌≡◌ {A = ℕ} 0 1 = cc in omega arith

-- nothing rounds to nothing
pub nought : (k W n v : ℕ) → zero < W → Rounded k n (v * W) → n ≡ zero → v ≡ zero
nought k W n v one r e = eq_of_mul-eq-mul_right W one v zero (omega (arith, e, r.closest zero (record { part = zero; exp = zero; fits = pow_pos k; is = refl })))

-- a sum of what is not below nought
pub upright : (k W r t : ℕ) (s : Bool) (v : ℕ) → Line k W false r false t s v → Rounded k (r * W + t) (v * W)
upright k W r t s v f = subst (λ x. Rounded k x (v * W)) (go s f.n f.sum) f.line
  where
    go : (s : Bool) (n : ℕ) → Sum false (r * W) false t s n → n ≡ r * W + t
    go true n h = omega arith
    go false n h = omega arith

pub upright_sign : (k W r t : ℕ) (s : Bool) (v : ℕ) → zero < W → Line k W false r false t s v → s ≡ false
upright_sign k W r t false v one f = refl
upright_sign k W r t true v one f = absurd (true≢false (f.plain (nought k W f.n v one f.line (omega (arith, f.sum)))))
