use Rattle.std.proofs.Common.{refl}
use lib.Ieee.{size}
use Rattle.registers.specs.Binary32.{magnitude, grid_wide, seek, place_on, is_tiny, rounding}
use Rattle.sources.specs.Entries.{reciprocal_entry}
use Rattle.bench.specs.Counts.{count_answer}
use Rattle.bench.specs.Remainders.{remainder_size, remainder_turned}
use Rattle.bench.specs.Kinds.{is_negative, is_nan, is_signalling, is_infinite, is_zero, is_subnormal, signs_differ}
use Rattle.bench.specs.Values.{fuse_size, fuse_sign}
use Rattle.bench.specs.Calls.{fuse_answer, divide_answer, root_answer, remainder_answer}
use Rattle.bench.proofs.UnitQuotient.{one_by_one}
use Rattle.bench.proofs.examples.worked_values.Goals as goal

pub returns : goal.returns
unfolding size magnitude grid_wide seek place_on is_tiny rounding remainder_size remainder_turned is_negative is_nan is_signalling is_infinite is_zero is_subnormal signs_differ fuse_size fuse_sign fuse_answer divide_answer root_answer remainder_answer count_answer reciprocal_entry
returns c = record { shown = refl; lines = one_by_one }
