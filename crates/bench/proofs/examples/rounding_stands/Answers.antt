use Rattle.registers.proofs.Standing.{right_rounding}
use Rattle.bench.proofs.Comparing.{told}
use Rattle.bench.proofs.examples.rounding_stands.Goals as goal

pub returns : goal.returns
returns c = record { told = told; right = right_rounding }
