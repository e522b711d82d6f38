use Rattle.std.proofs.Common.{◌≡◌, ◌*◌, ◌/◌, ◌%◌, ◌^◌, ◌<◌}
use Rattle.registers.specs.Binary32.{is_odd}
use Rattle.bench.proofs.remainder.divide_doubling.Given as goal

abbrev pub invariant-loop-turn : goal.invariant-loop-turn
invariant-loop-turn l = (l.rest < l.m) × (l.rest ≡ l.n * 2 ^ l.turn % l.m) × (l.odd ≡ is_odd (l.n * 2 ^ l.turn / l.m))
