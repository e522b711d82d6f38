-- The laws of rounding to nearest: what a reader may rely on without computing `nearest`.
use Rattle.std.specs.Prelude.{◌≡◌, ℕ, zero, ◌+◌, ◌-◌, ◌*◌, ◌/◌, ◌^◌, ◌<◌, ◌≤◌, ◌⊎◌}
use Rattle.registers.specs.Nearest.{nearest}

-- how far apart a and b are: one of the two differences is zero
abbrev pub apart : ℕ → ℕ → ℕ
apart a b = (a - b) + (b - a)

-- n has at most k significant bits
pub record Bits (k n : ℕ) : Type 0 where
  pub part : ℕ
  pub exp : ℕ
  pub fits : part < 2 ^ k
  pub is : n ≡ part * 2 ^ exp

-- v is n rounded to k significant bits: 2 ^ exp is the worth of the last bit that is kept, v is a multiple of it, at most half of it away from n, and an even one where it is just half
pub record Rounds (k n v : ℕ) : Type 0 where
  pub part : ℕ
  pub exp : ℕ
  pub is : v ≡ part * 2 ^ exp
  pub roof : n < 2 ^ k * 2 ^ exp
  pub tight : (exp ≡ zero) ⊎ (2 ^ k * 2 ^ exp ≤ 2 * n)
  pub half : 2 * apart v n ≤ 2 ^ exp
  pub tie : 2 * apart v n ≡ 2 ^ exp → part ≡ 2 * (part / 2)

pub record NearestLaws : Type 0 where
  -- the rounding is one
  pub rounds : (k n : ℕ) → Rounds k n (nearest k n)
  -- one value rounds to one
  pub unique : (k n v w : ℕ) → Rounds k n v → Rounds k n w → v ≡ w
  -- what fits is unchanged
  pub unchanged : (k n : ℕ) → Bits k n → nearest k n ≡ n
  -- powers of two pass through
  pub scales : (k n j : ℕ) → nearest k (n * 2 ^ j) ≡ nearest k n * 2 ^ j
  -- the error is at most one part in 2 ^ k
  pub not_low : (k n : ℕ) → (2 ^ k - 1) * n ≤ 2 ^ k * nearest k n
  pub not_high : (k n : ℕ) → 2 ^ k * nearest k n ≤ (2 ^ k + 1) * n
  -- it has at most k bits, and nothing of at most k bits is nearer
  pub short : (k n : ℕ) → 1 ≤ k → Bits k (nearest k n)
  pub closest : (k n m : ℕ) → 1 ≤ k → Bits k m → apart (nearest k n) n ≤ apart m n
