-- Rounding a whole number to nearest, with ties to even.
use Rattle.std.specs.Prelude.{ℕ, ◌+◌, ◌-◌, ◌*◌, ◌/◌, ◌%◌, ◌^◌, cond, ◌==◌, nat_lt}
use Rattle.std.specs.Float.Ieee.{size}

-- 1 where a quotient q with the remainder r of m goes up to the nearest whole number, a tie to the even one; else 0
abbrev pub upward : ℕ → ℕ → ℕ → ℕ
upward q r m = cond (nat_lt m (2 * r)) 1 (cond (2 * r == m) (q % 2) 0)

-- the multiple of 2 ^ k nearest to n, a tie going to the even multiple
unfoldable pub multiple : ℕ → ℕ → ℕ
multiple k n = (n / 2 ^ k + upward (n / 2 ^ k) (n % 2 ^ k) (2 ^ k)) * 2 ^ k

-- n rounded to `width` significant bits: `size n` is how many binary digits n has, so this many places are rounded away
unfoldable pub nearest : ℕ → ℕ → ℕ
nearest width n = multiple (size n - width) n
