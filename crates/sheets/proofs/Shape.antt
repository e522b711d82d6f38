-- A magnitude as a significand of 24 bits and a power of two. One is W, a power of two itself; A units are counted in W².
use Rattle.std.proofs.Common.{◌≡◌, ℕ, zero, ◌*◌, ◌^◌, ◌<◌, ◌≤◌, mul-pos, arith, pow_pos}

pub record Shape (W A : ℕ) : Type 0 where
  pub w : ℕ
  pub significand : ℕ
  pub exponent : ℕ
  pub whole : W ≡ 2 ^ w
  pub is : A * W ≡ significand * 2 ^ exponent
  pub least : 2 ^ 23 ≤ significand
  pub most : significand < 2 ^ 24

-- both are above zero
pub one_some : {W A : ℕ} → Shape W A → zero < W
one_some o = omega (arith, o.whole, pow_pos o.w)

pub some : {W A : ℕ} → Shape W A → zero < A * W
some o = omega (arith, o.is, mul-pos {m = o.significand} (omega (arith, o.least)) (pow_pos o.exponent))
