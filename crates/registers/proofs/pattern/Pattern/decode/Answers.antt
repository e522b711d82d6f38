use Rattle.std.proofs.Common.{◌^◌, ◌<◌, sym, ap, ◌∙◌, arith}
use Rattle.registers.specs.Coding.{encoding, unsigned}
use Rattle.registers.proofs.Encodings.{meaning_finite, pattern_back, zero_meaning}
use Rattle.registers.proofs.pattern.Pattern.decode.Goals as goal

pub returns-then-magnitude-eq0-clause-back : goal.returns-then-magnitude-eq0-clause-back
returns-then-magnitude-eq0-clause-back c =
    let p = c.args.self.bits in
    let h : p < 2 ^ 32 = omega arith in
    λ n. ap encoding (zero_meaning p c.if-magnitude-eq0.true) ∙ pattern_back p h n

pub returns-clause-back : goal.returns-clause-back
returns-clause-back c =
    let p = c.args.self.bits in
    let h : p < 2 ^ 32 = omega arith in
    let l : unsigned p < 0x7F800000 = omega arith in
    λ n. ap encoding (c.finite_of.ensures ∙ sym (meaning_finite p l)) ∙ pattern_back p h n
