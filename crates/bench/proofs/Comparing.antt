-- The exact values of the calls are told by comparison: what is below a number not above the value is below the value.
use Rattle.std.proofs.Common.{ℕ, ◌*◌, ◌^◌, ◌<◌, ◌≤◌, sym, subst, lt_of_lt_of_le, lt_of_le_of_lt, mul-le-mul_left, mul-lt-mul_of_pos_right, mul-pos, zero-mul, arith, pow_pos}
use Rattle.std.proofs.lemmas.Bool.{leb-true}
use Rattle.registers.specs.Rightly.{Ordered}
use Rattle.registers.proofs.Compared.{cmp_lt}
use Rattle.sheets.specs.Beside.{beside_quotient}
use Rattle.bench.specs.Told.{ToldByComparison}
use Rattle.bench.proofs.Fusing.{nothing}

pub quotient_ordered : (a b : ℕ) → 0 < a → 0 < b → Ordered (beside_quotient a b)
quotient_ordered a b some part = record {
  positive = cmp_lt (0 * b) (a * 2 ^ 324) (subst (λ (x : ℕ). x < a * 2 ^ 324) (sym (zero-mul b)) (mul-pos some (pow_pos 324)));
  down = λ m n l e. cmp_lt (m * b) (a * 2 ^ 324) (lt_of_lt_of_le (mul-lt-mul_of_pos_right l part) (leb-true (n * b) (a * 2 ^ 324) e));
}

square_rises : (m n : ℕ) → m < n → m * m < n * n
square_rises m n l =
    let k : m ≤ n = omega arith in
    let p : 0 < n = omega arith in
    lt_of_le_of_lt (mul-le-mul_left m k) (mul-lt-mul_of_pos_right l p)

pub told : ToldByComparison
told = record {
  quotient = quotient_ordered;
  root = λ a some. record {
    positive = cmp_lt (0 * 0) (a * 2 ^ 499) (mul-pos some (pow_pos 499));
    down = λ m n l e. cmp_lt (m * m) (a * 2 ^ 499) (lt_of_lt_of_le (square_rises m n l) (leb-true (n * n) (a * 2 ^ 499) e));
  };
  whole = λ n some. record {
    positive = cmp_lt 0 n some;
    down = λ m k l e. cmp_lt m n (lt_of_lt_of_le l (leb-true k n e));
  };
  nothing = nothing;
}
