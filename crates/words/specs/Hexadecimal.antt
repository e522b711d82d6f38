-- Patterns written as eight hexadecimal digits.
use Rattle.std.specs.Prelude.{ℕ, ◌+◌, ◌-◌, ◌*◌, cond, List, length, Some, None, Option, ◌==◌}
use Rattle.registers.specs.declared.pattern.Pattern.{Pattern}
use Rattle.words.specs.Reading.{between, next, read_on}

-- the value of a digit: 0 to 9, A to F, a to f
abbrev pub digit_of : ℕ → Option ℕ
digit_of c = cond (between 48 57 c) (Some (c - 48)) (cond (between 65 70 c) (Some (c - 65 + 10)) (cond (between 97 102 c) (Some (c - 97 + 10)) None))

-- one digit more after those that made n
abbrev pub hex_more : ℕ → ℕ → Option ℕ
hex_more n c = next (digit_of c) (λ d. Some (n * 16 + d))

-- eight digits
abbrev pub hex_of : List ℕ → Option ℕ
hex_of cs = cond (length cs == 8) (read_on hex_more 0 cs) None

abbrev pub bits_of : Option Pattern → Option ℕ
bits_of None = None
bits_of (Some p) = Some p.bits
