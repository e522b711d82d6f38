-- What fuse, divide, root and remainder answer, with the flags that they raise: from the mode and the patterns alone.
use Rattle.std.specs.Prelude.{◌*◌, ◌^◌, false, ◌||◌}
use Rattle.registers.specs.declared.pattern.Pattern.{Pattern}
use Rattle.registers.specs.declared.mode.Mode.{Mode}
use Rattle.registers.specs.Modes.{rounded}
use Rattle.sheets.specs.Beside.{beside_quotient, beside_root}
use Rattle.bench.specs.declared.answer.Answer.{Answer}
use Rattle.bench.specs.Kinds.{is_subnormal, signs_differ, units}
use Rattle.bench.specs.Tables.{settled, fuse_table, divide_table, root_table, remainder_table}
use Rattle.bench.specs.Values.{beside_exact, fuse_size, fuse_sign, remainder_units, remainder_sign}

-- p·q + r
unfoldable pub fuse_answer : Mode → Pattern → Pattern → Pattern → Answer
fuse_answer mode p q r = settled (is_subnormal p || is_subnormal q || is_subnormal r) (fuse_table p q r) (rounded mode (fuse_sign mode p q r) (beside_exact (fuse_size p q r * 2 ^ 26)))

-- a by b
unfoldable pub divide_answer : Mode → Pattern → Pattern → Answer
divide_answer mode a b = settled (is_subnormal a || is_subnormal b) (divide_table a b) (rounded mode (signs_differ a b) (beside_quotient (units a) (units b)))

-- the root of a
unfoldable pub root_answer : Mode → Pattern → Answer
root_answer mode a = settled (is_subnormal a) (root_table a) (rounded mode false (beside_root (units a)))

-- the remainder of x by y
unfoldable pub remainder_answer : Mode → Pattern → Pattern → Answer
remainder_answer mode x y = settled (is_subnormal x || is_subnormal y) (remainder_table x y) (rounded mode (remainder_sign x y) (beside_exact (remainder_units x y * 2 ^ 175)))
