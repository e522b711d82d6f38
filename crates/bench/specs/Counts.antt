-- Whole numbers counted: the quotient cut toward zero, and the remainder, which has the dividend's sign.
use Rattle.std.specs.Prelude.{ℕ, ◌/◌, ◌%◌, Bool, true, false, cond, not, ◌||◌, ℤ, pos, negsuc, neg_ℤ, Some, None, Option, Result, ◌==◌, nat_lt, unsigned_abs}
use Rattle.std.specs.Bool.{beq}
use Rattle.bench.specs.declared.count.Counted.{Counted}
use Rattle.bench.specs.declared.refusal.Refusal.{Refusal}
use Rattle.bench.specs.declared.refusal.Refusal.TheVariants.{ZeroDivisor, Beyond}
use Rattle.bench.specs.Unless.{unless}

-- the greatest magnitude of an operand
abbrev pub greatest : ℕ
greatest = 16777215

abbrev pub is_below_zero : ℤ → Bool
is_below_zero (pos n) = false
is_below_zero (negsuc n) = true

-- the whole number of a sign and a magnitude
abbrev pub with_sign_ℤ : Bool → ℕ → ℤ
with_sign_ℤ s n = cond s (neg_ℤ (pos n)) (pos n)

abbrev pub counted : ℤ → ℤ → Counted
counted a b = record { quotient = with_sign_ℤ (not (beq (is_below_zero a) (is_below_zero b))) (unsigned_abs a / unsigned_abs b); remainder = with_sign_ℤ (is_below_zero a) (unsigned_abs a % unsigned_abs b) }

-- what refuses a count of these magnitudes: an operand out of range first, then a divisor of zero
abbrev pub count_refusal : ℕ → ℕ → Option Refusal
count_refusal m n = cond (nat_lt greatest m || nat_lt greatest n) (Some Beyond) (cond (n == 0) (Some ZeroDivisor) None)

unfoldable pub count_answer : ℤ → ℤ → Result Counted Refusal
count_answer a b = unless (count_refusal (unsigned_abs a) (unsigned_abs b)) (counted a b)
