-- The sum of two signed numbers, each a sign and a magnitude. A sum of zero is not negative unless both are.
use Rattle.std.specs.Prelude.{ℕ, ◌+◌, ◌-◌, Bool, cond, ◌&&◌, nat_lt}
use Rattle.std.specs.Bool.{beq}

abbrev pub sum_size : Bool → ℕ → Bool → ℕ → ℕ
sum_size s a t b = cond (beq s t) (a + b) (cond (nat_lt a b) (b - a) (a - b))

abbrev pub sum_sign : Bool → ℕ → Bool → ℕ → Bool
sum_sign s a t b = cond (beq s t) s (cond (nat_lt a b) t (s && nat_lt b a))
