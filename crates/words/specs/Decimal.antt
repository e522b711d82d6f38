-- Whole numbers in base ten that fit 32 bits.
use Rattle.std.specs.Prelude.{ℕ, ◌+◌, ◌-◌, ◌*◌, ◌^◌, cond, List, length, take, drop, ℤ, pos, neg_ℤ, Some, None, Option, ◌==◌, nat_le, nat_lt, slice_index}
use Rattle.words.specs.Reading.{between, next, read_on}

abbrev pub ten_digit : ℕ → Option ℕ
ten_digit c = cond (between 48 57 c) (Some (c - 48)) None

-- a number below 2 ^ 32, or none
abbrev pub fitting : ℕ → Option ℕ
fitting n = cond (nat_lt n (2 ^ 32)) (Some n) None

-- one digit more after those that made n
abbrev pub ten_more : ℕ → ℕ → Option ℕ
ten_more n c = next (ten_digit c) (λ d. fitting (n * 10 + d))

-- at least one digit
abbrev pub whole_of : List ℕ → Option ℕ
whole_of cs = cond (length cs == 0) None (read_on ten_more 0 cs)

-- a number of either sign that fits signed 32 bits, from its magnitude
abbrev pub positive_of : Option ℕ → Option ℤ
positive_of None = None
positive_of (Some n) = cond (nat_lt n (2 ^ 31)) (Some (pos n)) None

abbrev pub negative_of : Option ℕ → Option ℤ
negative_of None = None
negative_of (Some n) = cond (nat_le n (2 ^ 31)) (Some (neg_ℤ (pos n))) None

-- all bytes but the first
abbrev pub rest : List ℕ → List ℕ
rest cs = take (length cs - 1) (drop 1 cs)

-- digits after an optional minus
abbrev pub signed_of : List ℕ → Option ℤ
signed_of cs = cond (slice_index cs 0 == 45) (negative_of (whole_of (rest cs))) (positive_of (whole_of cs))
