use Rattle.std.proofs.Common.{◌≡◌, ℕ, nat_abs, refl, ap, ◌∙◌, w64, arith}
use Rattle.std.proofs.lemmas.Int.{to_z-of_z}
use Rattle.std.specs.Int.{is_negative}
use Rattle.bench.specs.Distances.{whole_pattern}
use Rattle.bench.proofs.Counting.{negative_is}
use Rattle.bench.proofs.whole.whole_pattern.Goals as goal

pub returns : goal.returns
unfolding whole_pattern
returns c =
    let z = to_z-of_z w64 c.args.n c.ranges.n in
    let u : c.unsigned_abs.result ≡ nat_abs c.args.n = c.unsigned_abs.ensures.value ∙ ap nat_abs z in
    let m : c.in_ok-magnitude.magnitude.value ≡ nat_abs c.args.n = c.in_ok-magnitude.ensures.1 ∙ u in
    let s = c.is_negative.ensures ∙ ap is_negative z ∙ negative_is c.args.n in
    (omega (arith, u, c.in_ok-magnitude.ensures.0), ap (λ (b : ℕ). record { bits = b }) (c.pattern.ensures ∙ rw (s, m) refl))
