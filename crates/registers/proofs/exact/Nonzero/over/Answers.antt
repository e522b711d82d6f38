use Rattle.std.proofs.Common.{◌≡◌, ℕ, ◌+◌, ◌-◌, ◌*◌, ◌%◌, ◌^◌, ◌<◌, ◌≤◌, sym, subst, mod-eq_of_lt, arith}
use lib.Ieee.{size}
use Rattle.registers.specs.Sides.{Splits}
use Rattle.registers.specs.declared.cut.Side.TheVariants.{On}
use Rattle.registers.proofs.Placing.{place_on_lem, place_under, place_raised}
use Rattle.registers.proofs.exact.Nonzero.over.Goals as goal

pub returns-then-grain-x-clause-splits : goal.returns-then-grain-x-clause-splits
returns-then-grain-x-clause-splits c =
    let x = c.args.self.exact in
    let room : x.exponent + size x.whole ≤ c.args.grain + 24 = omega (arith, c.args.self.topped) in
    let f : x.whole * 2 ^ (x.exponent - c.args.grain) < 2 ^ 24 = place_raised x.whole x.exponent c.args.grain room c.if-grain-x.true in
    let e : x.whole * 2 ^ (x.exponent - c.args.grain) % 2 ^ 128 ≡ x.whole * 2 ^ (x.exponent - c.args.grain) = mod-eq_of_lt (omega arith) in
    λ n h. subst (λ (y : ℕ). Splits y On c.args.grain n) (sym e) (place_on_lem x.whole x.exponent n x.more h c.args.grain c.if-grain-x.true room x.sizes.1)

pub returns-clause-splits : goal.returns-clause-splits
returns-clause-splits c =
    let x = c.args.self.exact in
    λ n h. place_under x.whole x.exponent n x.more h c.args.grain c.if-shift-lt128.false x.sizes.0 c.args.self.some
