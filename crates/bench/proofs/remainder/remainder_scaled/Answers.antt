use Rattle.std.proofs.Common.{◌≡◌, ℕ, ◌+◌, ◌-◌, ◌*◌, ◌/◌, ◌%◌, ◌^◌, sym, refl, ap, ◌∙◌, mul_assoc, mul-one, arith}
use Rattle.registers.specs.Binary32.{is_odd}
use Rattle.registers.proofs.Adding.{raise_parts}
use Rattle.bench.specs.Remainders.{remainder_size, remainder_turned}
use Rattle.bench.proofs.Dividing.{far_below, in_unit, power_more}
use Rattle.bench.proofs.remainder.remainder_scaled.Goals as goal

pub returns-then-x-exponent : goal.returns-then-x-exponent
returns-then-x-exponent c =
    let x = c.args.x in
    let y = c.args.y in
    let p = far_below x.significand x.exponent y.significand y.exponent x.form.0 (y.form.3 (omega (arith, c.exponent-exponent.ensures, c.if-x-exponent.true))) (omega (arith, c.exponent-exponent.ensures, c.if-x-exponent.true)) in
    record { size = p.0; turned = p.1 }

pub returns-then-x-exponent-2 : goal.returns-then-x-exponent-2
returns-then-x-exponent-2 c =
    let x = c.args.x in
    let y = c.args.y in
    let d = c.divide_doubling in
    let n = c.nearest in
    let e : y.exponent ≡ x.exponent + 1 = omega (arith, c.exponent-exponent.ensures, c.if-x-exponent.false, c.if-x-exponent-2.true) in
    let D : d.result.divisor ≡ 2 * y.significand = d.ensures.divisor ∙ ap (λ (m : ℕ). 2 * m) c.significand-m.ensures in
    let s = n.ensures.size (x.significand * 1) (d.ensures.rest ∙ ap (λ (m : ℕ). x.significand * 1 % m) (sym d.ensures.divisor)) (d.ensures.odd ∙ ap (λ (m : ℕ). is_odd (x.significand * 1 / m)) (sym d.ensures.divisor)) in
    let Y : y.significand * 2 ^ y.exponent ≡ 2 * y.significand * 2 ^ x.exponent = ap (λ (z : ℕ). y.significand * 2 ^ z) e ∙ power_more y.significand x.exponent ∙ sym (mul_assoc 2 y.significand (2 ^ x.exponent)) in
    let X : x.significand * 2 ^ x.exponent ≡ x.significand * 1 * 2 ^ x.exponent = ap (λ (z : ℕ). z * 2 ^ x.exponent) (sym (mul-one x.significand)) in
    let p = in_unit (x.significand * 1) (2 * y.significand) x.exponent (x.significand * 2 ^ x.exponent) (y.significand * 2 ^ y.exponent) n.result.size.significand n.result.turned (omega (arith, y.form.0)) X Y
    (s.0 ∙ ap (remainder_size (x.significand * 1)) D) (s.1 ∙ ap (remainder_turned (x.significand * 1)) D) in
    record { size = ap (λ (z : ℕ). n.result.size.significand * 2 ^ z) n.ensures.exponent ∙ p.0; turned = p.1 }

pub returns : goal.returns
returns c =
    let x = c.args.x in
    let y = c.args.y in
    let d = c.divide_doubling-2 in
    let n = c.nearest-2 in
    let E = c.exponent-exponent.ensures in
    let t : ℕ = x.exponent - c.exponent-exponent.result in
    let D : d.result.divisor ≡ y.significand = d.ensures.divisor ∙ c.significand-m.ensures in
    let s = n.ensures.size (x.significand * 2 ^ t) (d.ensures.rest ∙ ap (λ (m : ℕ). x.significand * 2 ^ t % m) (sym d.ensures.divisor)) (d.ensures.odd ∙ ap (λ (m : ℕ). is_odd (x.significand * 2 ^ t / m)) (sym d.ensures.divisor)) in
    let X : x.significand * 2 ^ x.exponent ≡ x.significand * 2 ^ t * 2 ^ y.exponent = raise_parts x.significand t y.exponent x.exponent (omega (arith, E, c.if-x-exponent-2.false)) in
    let p = in_unit (x.significand * 2 ^ t) y.significand y.exponent (x.significand * 2 ^ x.exponent) (y.significand * 2 ^ y.exponent) n.result.size.significand n.result.turned y.form.0 X refl
    (s.0 ∙ ap (remainder_size (x.significand * 2 ^ t)) D) (s.1 ∙ ap (remainder_turned (x.significand * 2 ^ t)) D) in
    record { size = ap (λ (z : ℕ). n.result.size.significand * 2 ^ z) (n.ensures.exponent ∙ E) ∙ p.0; turned = p.1 }
