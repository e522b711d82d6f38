-- A sign and at most 13 digits have room. A signed argument is passed by its bits.
use Rattle.std.proofs.Common.{nat_abs, ap, arith, w64}
use Rattle.std.proofs.lemmas.Int.{to_z-of_z}
use Rattle.text.proofs.Filling.{room_for}
use Rattle.text.proofs.digits.number_column.Goals as goal

pub justified-requires : goal.justified-requires
justified-requires c =
    let z = ap nat_abs (to_z-of_z w64 c.args.n c.ranges.n) in
    room_for c.sign_of.result 13 c.unsigned_abs.result 0 (omega arith) (omega arith) (omega arith) (omega arith)
