-- A sign, at most 9 digits and the decimals have room. A signed argument is passed by its bits.
use Rattle.std.proofs.Common.{◌/◌, length, nat_abs, ap, arith, w64}
use Rattle.std.proofs.lemmas.Int.{to_z-of_z}
use Rattle.text.proofs.Filling.{room_for}
use Rattle.text.proofs.digits.measure_column.Goals as goal

pub justified-requires : goal.justified-requires
justified-requires c =
    let z = ap nat_abs (to_z-of_z w64 c.args.n c.ranges.n) in
    room_for c.sign_of.result 9 (c.unsigned_abs-m.result / 1000) (length c.decimals.result) (omega arith) (omega arith) (omega arith) (omega arith)
