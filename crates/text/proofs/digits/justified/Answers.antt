-- The tail, then the digits before it, then what leads them: each write leaves the blanks before it.
use Rattle.std.proofs.Common.{decimal, arith}
use Rattle.text.proofs.Filling.{filled}
use Rattle.text.proofs.digits.justified.Goals as goal

pub returns-in-Some : goal.returns-in-Some
returns-in-Some c =
    let w = c.write_digits-start in
    (filled w.new.buf c.args.tail.now c.copy_from_slice.new.self (decimal c.args.n) w.result c.args.lead c.copy_from_slice.ensures.after c.requires (omega arith) w.ensures.start w.ensures.before w.ensures.written).1 c.in-Some.byte c.in-Some.is

pub returns-in_default : goal.returns-in_default
returns-in_default c =
    let w = c.write_digits-start in
    (filled w.new.buf c.args.tail.now c.copy_from_slice.new.self (decimal c.args.n) w.result c.args.lead c.copy_from_slice.ensures.after c.requires (omega arith) w.ensures.start w.ensures.before w.ensures.written).0 c.in_default.is
