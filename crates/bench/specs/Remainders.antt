-- The remainder of whole numbers by the nearest quotient.
use Rattle.std.specs.Prelude.{◌≡◌, ℕ, ◌+◌, ◌*◌, ◌/◌, ◌%◌, ◌<◌, ◌≤◌, Bool, ◌≢◌, nat_lt}
use Rattle.registers.specs.Laws.{apart}
use Rattle.registers.specs.Nearest.{upward}

-- the whole number nearest to x / y, a tie going to the even one
abbrev pub nearest_quotient : ℕ → ℕ → ℕ
nearest_quotient x y = x / y + upward (x / y) (x % y) y

-- the magnitude of x - n·y, n the nearest quotient
unfoldable pub remainder_size : ℕ → ℕ → ℕ
remainder_size x y = apart x (nearest_quotient x y * y)

-- whether its sign is turned from that of x: n·y is more than x
unfoldable pub remainder_turned : ℕ → ℕ → Bool
remainder_turned x y = nat_lt x (nearest_quotient x y * y)

-- n is nearest to x / y: no whole number is nearer, and where another is as near, n is even
pub record NearestCount (x y n : ℕ) : Type 0 where
  pub closest : (k : ℕ) → apart x (n * y) ≤ apart x (k * y)
  pub even_at_tie : (k : ℕ) → (k ≢ n) → apart x (k * y) ≡ apart x (n * y) → n % 2 ≡ 0

-- That is the nearest quotient, and no other number.
pub record IsNearestQuotient : Type 0 where
  pub nearest : (x y : ℕ) → 0 < y → NearestCount x y (nearest_quotient x y)
  pub only : (x y n : ℕ) → 0 < y → NearestCount x y n → n ≡ nearest_quotient x y
