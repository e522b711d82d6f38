-- What special operands make of each call: a table, in which the first row whose test holds decides. Where no row does, the exact value is rounded.
use Rattle.std.specs.Prelude.{Bool, true, false, cond, not, ◌&&◌, ◌||◌, Some, None, Ok, Err, Option, Result}
use Rattle.std.specs.Bool.{beq}
use Rattle.registers.specs.declared.pattern.Pattern.{Pattern}
use Rattle.registers.specs.declared.mode.Rounded.{Rounded}
use Rattle.registers.specs.Modes.{with_sign}
use Rattle.bench.specs.declared.answer.Answer.{Answer}
use Rattle.bench.specs.declared.answer.Special.{Special}
use Rattle.bench.specs.declared.answer.Special.TheVariants.{Invalid, Quiet, Given, ByZero}
use Rattle.bench.specs.Kinds.{is_negative, is_nan, is_signalling, is_infinite, is_zero, signs_differ}
use Rattle.bench.specs.Raised.{only_denormal}

-- a row: its test, what it gives, and the rows below it
abbrev pub row : Bool → Special → Option Special → Option Special
row test gives below = cond test (Some gives) below

abbrev pub infinity_of : Bool → Pattern
infinity_of s = record { bits = with_sign s 0x7F800000 }

abbrev pub zero_of : Bool → Pattern
zero_of s = record { bits = with_sign s 0 }

-- p·q + r
abbrev pub fuse_table : Pattern → Pattern → Pattern → Option Special
fuse_table p q r =
    row (is_signalling p || is_signalling q || is_signalling r) Invalid (
    row (is_infinite p && is_zero q) Invalid (
    row (is_zero p && is_infinite q) Invalid (
    row (is_nan p || is_nan q || is_nan r) Quiet (
    row ((is_infinite p || is_infinite q) && is_infinite r && not (beq (signs_differ p q) (is_negative r))) Invalid (
    row (is_infinite p || is_infinite q) (Given (infinity_of (signs_differ p q))) (
    row (is_infinite r) (Given r) None))))))

-- a by b
abbrev pub divide_table : Pattern → Pattern → Option Special
divide_table a b =
    row (is_signalling a || is_signalling b) Invalid (
    row (is_nan a || is_nan b) Quiet (
    row (is_infinite a && is_infinite b) Invalid (
    row (is_zero a && is_zero b) Invalid (
    row (is_infinite a) (Given (infinity_of (signs_differ a b))) (
    row (is_infinite b || is_zero a) (Given (zero_of (signs_differ a b))) (
    row (is_zero b) (ByZero (infinity_of (signs_differ a b))) None))))))

-- the root of a
abbrev pub root_table : Pattern → Option Special
root_table a =
    row (is_signalling a) Invalid (
    row (is_nan a) Quiet (
    row (is_zero a) (Given a) (
    row (is_negative a) Invalid (
    row (is_infinite a) (Given a) None))))

-- the remainder of x by y
abbrev pub remainder_table : Pattern → Pattern → Option Special
remainder_table x y =
    row (is_signalling x || is_signalling y) Invalid (
    row (is_nan x || is_nan y) Quiet (
    row (is_infinite x || is_zero y) Invalid (
    row (is_infinite y) (Given x) None)))

-- every NaN that is given out
abbrev pub nan : Pattern
nan = record { bits = 0x7FC00000 }

-- The answer where a row decides. A result that is no NaN raises denormal where an operand is subnormal.
abbrev pub special_answer : Bool → Special → Answer
special_answer subnormal Invalid = record { pattern = nan; flags = record { invalid = true; zero_divide = false; overflow = false; underflow = false; inexact = false; denormal = false } }
special_answer subnormal Quiet = record { pattern = nan; flags = only_denormal false }
special_answer subnormal (Given p) = record { pattern = p; flags = only_denormal subnormal }
special_answer subnormal (ByZero p) = record { pattern = p; flags = record { invalid = false; zero_divide = true; overflow = false; underflow = false; inexact = false; denormal = subnormal } }

-- The answer where none does: the exact value, rounded.
abbrev pub rounded_answer : Bool → Rounded → Answer
rounded_answer subnormal v = record { pattern = v.pattern; flags = record { invalid = false; zero_divide = false; overflow = v.overflow; underflow = v.underflow; inexact = v.inexact; denormal = subnormal } }

abbrev pub settled : Bool → Option Special → Rounded → Answer
settled subnormal (Some special) v = special_answer subnormal special
settled subnormal None v = rounded_answer subnormal v

-- the same of a value, or of the row that decides in its place
abbrev pub answered : Bool → Result Rounded Special → Answer
answered subnormal (Ok v) = rounded_answer subnormal v
answered subnormal (Err special) = special_answer subnormal special

-- the pattern of the answer, which does not turn on whether an operand is subnormal
abbrev pub answer_pattern : Result Rounded Special → Pattern
answer_pattern r = (answered false r).pattern
