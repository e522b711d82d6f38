use Rattle.std.proofs.Common.{ℕ, ◌-◌, ap, ◌∙◌}
use lib.Bits.{bit_and}
use Rattle.std.proofs.lemmas.Nat.{and_mask}
use Rattle.registers.proofs.Holding.{split_side}
use Rattle.registers.proofs.exact.Exact.split.Goals as goal

pub returns-clause-splits : goal.returns-clause-splits
returns-clause-splits c =
    let x = c.args.self in
    split_side x.whole x.more c.power-half.result (bit_and x.whole (c.power.result - 1)) c.args.shift c.side_of.result c.requires.0 c.power-half.ensures (ap (λ (k : ℕ). bit_and x.whole (k - 1)) c.power.ensures ∙ and_mask x.whole c.args.shift) c.side_of.ensures x.exponent
