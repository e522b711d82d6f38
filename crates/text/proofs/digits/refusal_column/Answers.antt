-- A letter and at most three digits have room.
use Rattle.std.proofs.Common.{Some, arith}
use Rattle.text.proofs.Filling.{room_for}
use Rattle.text.proofs.digits.refusal_column.Goals as goal

pub justified-requires : goal.justified-requires
justified-requires c = room_for (Some 82) 3 c.from.result 0 (omega arith) (omega arith) (omega arith) (omega arith)
