-- Digits of a base up to sixteen, and numbers that fit 32 bits made of them.
use Rattle.std.specs.Prelude.{ℕ, ◌+◌, ◌*◌, cond, Some, None, Option, nat_lt}
use Rattle.words.specs.Decimal.{fitting}
use Rattle.words.specs.Hexadecimal.{digit_of}
use Rattle.words.specs.Reading.{next}

-- the value of a digit below the base
abbrev pub digit_in : ℕ → ℕ → Option ℕ
digit_in base c = next (digit_of c) (λ d. cond (nat_lt d base) (Some d) None)

-- one digit more after those that made n
abbrev pub more_in : ℕ → ℕ → ℕ → Option ℕ
more_in base n c = next (digit_in base c) (λ d. fitting (n * base + d))
