-- Fourteen digits have room in 64 bits, with a sign too.
use Rattle.std.proofs.Common.{get_or, sym, ap, ◌∙◌, arith, w64, Some}
use Rattle.std.proofs.lemmas.Int.{ints, to_z_pos}
use Rattle.text.specs.Columns.{unsigned}
use Rattle.text.proofs.Reading.{room, below, small_digit, all_read}
use Rattle.text.proofs.column.whole.Goals as goal

pub overflow_mul-n : goal.overflow_mul-n
overflow_mul-n c = record { fits = omega (arith, room c.loop-byte.n c.loop-byte.byte-index c.loop-byte.invariant.below (omega arith)) }

pub overflow_add-n : goal.overflow_add-n
overflow_add-n c =
    let d = small_digit (get_or c.args.digits.now c.loop-byte.byte-index 0) c.in_ok-n.field-0 (sym c.digit.ensures ∙ c.in_ok-n.was) in
    record { fits = omega (arith, room c.loop-byte.n c.loop-byte.byte-index c.loop-byte.invariant.below (omega arith)) }

pub overflow_cast-result : goal.overflow_cast-result
overflow_cast-result c = let b = below c.loop-byte.n c.loop-byte.byte-index c.loop-byte.invariant.below (omega arith) in grind (arith, ints)

pub returns : goal.returns
returns c =
    let b = below c.loop-byte.n c.loop-byte.byte-index c.loop-byte.invariant.below (omega arith) in
    let i = c.loop-byte.invariant in
    ap Some (to_z_pos w64 c.loop-byte.n b)
    ∙ ap unsigned (all_read c.args.digits.now c.loop-byte.byte-index c.loop-byte.n (omega arith) i.needed i.left i.read)
