use Rattle.std.proofs.Common.{arith}
use Rattle.std.proofs.lemmas.Int.{ints}
use Rattle.sources.specs.Placing.{Moved, buildable, built, built_as, fraction_is, moved}
use Rattle.sources.proofs.exact.fraction.Goals as goal

pub overflow_sub-shift : goal.overflow_sub-shift
overflow_sub-shift c = (moved c.args.a c.requires.0 c.requires.1.0).least

pub unwrap-requires : goal.unwrap-requires
unwrap-requires c =
    let m : Moved c.args.a = moved c.args.a c.requires.0 c.requires.1.0 in
    built c.new.result _ _ _ (buildable c.args.a c.requires.0 c.requires.1.0 c.args.k c.requires.1.1 _ _ (omega (arith, ints)) (omega arith)) c.new.ensures

pub returns : goal.returns
returns c =
    let m : Moved c.args.a = moved c.args.a c.requires.0 c.requires.1.0 in
    fraction_is c.args.a c.requires.0 c.requires.1.0 c.args.k c.requires.1.1 _ _ (omega (arith, ints)) (omega arith) c.unwrap.result (built_as c.new.result c.unwrap.result _ _ _ c.unwrap.ensures c.new.ensures)
