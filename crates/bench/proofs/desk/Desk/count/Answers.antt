use Rattle.std.proofs.Common.{◌≡◌, ℕ, ◌/◌, ◌%◌, None, Option, nat_abs, Ok, sym, ap, ◌∙◌, rules, w32, SFits}
use Rattle.std.proofs.lemmas.Result.{err_from_is_err_and}
use Rattle.bench.specs.declared.refusal.Refusal.{Refusal}
use Rattle.bench.specs.Counts.{count_answer, count_refusal, counted}
use Rattle.bench.specs.Unless.{unless}
use Rattle.bench.proofs.Counting.{below_zero, differ, lines_as, magnitude_is, magnitude_of, pair_is, signed_is}
use Rattle.bench.proofs.desk.Desk.count.Goals as goal

pub returns-in_err-m-clause-answer : goal.returns-in_err-m-clause-answer
unfolding count_answer
returns-in_err-m-clause-answer g c =
    let m = magnitude_is c.args.a _ c.ranges.a c.unsigned_abs.ensures.value in
    let n = magnitude_is c.args.b _ c.ranges.b c.unsigned_abs-2.ensures.value in
    let p = err_from_is_err_and c.from_residual.result c.from_residual.ensures.1 in
    rw (p.1, p.2)
    (ap (λ (o : Option Refusal). unless o (counted c.args.a c.args.b)) (c.in_err-m.ensures ∙ ap (λ (x : ℕ). count_refusal x c.unsigned_abs-2.result) m ∙ ap (count_refusal (nat_abs c.args.a)) n))

pub returns : goal.returns
unfolding count_answer
returns g c =
    let a = c.args.a in
    let b = c.args.b in
    let p = c.in_ok-m.ensures in
    let x = magnitude_is a _ c.ranges.a c.unsigned_abs.ensures.value in
    let y = magnitude_is b _ c.ranges.b c.unsigned_abs-2.ensures.value in
    let m = p.1 ∙ x in
    let n = p.2 ∙ y in
    let admitted : None ≡ count_refusal (nat_abs a) (nat_abs b) = p.0 ∙ ap (λ (i : ℕ). count_refusal i c.unsigned_abs-2.result) x ∙ ap (count_refusal (nat_abs a)) y in
    let q : c.count_magnitudes-whole.result ≡ nat_abs a / nat_abs b = c.count_magnitudes-whole.ensures.value ∙ ap (λ (i : ℕ). i / c.in_ok-m.n.value) m ∙ ap (λ (i : ℕ). nat_abs a / i) n in
    let r : c.rest_of-rest.result ≡ nat_abs a % nat_abs b = c.rest_of-rest.ensures ∙ ap (λ (i : ℕ). i % c.in_ok-m.n.value) m ∙ ap (λ (i : ℕ). nat_abs a % i) n in
    let s = below_zero a _ c.ranges.a c.is_negative.ensures in
    let t = below_zero b _ c.ranges.b c.is_negative-2.ensures in
    let u = below_zero a _ c.ranges.a c.is_negative-3.ensures in
    let fit : SFits w32 c.signed.result = search rules in
    let fit_rest : SFits w32 c.signed-2.result = search rules in
    let Q = signed_is c.signed.result _ _ _ _ fit c.signed.ensures (differ _ _ _ _ s t) (c.new.ensures ∙ q) in
    let R = signed_is c.signed-2.result _ _ _ _ fit_rest c.signed-2.ensures u (c.new-2.ensures ∙ r) in
    record {
      answer = ap Ok (pair_is _ _ (counted a b) Q R) ∙ ap (λ (o : Option Refusal). unless o (counted a b)) admitted;
      after = c.count_magnitudes-whole.ensures.kept;
      sheet = lines_as _ _ _ _ _ _ _ _ m n (q ∙ sym (ap nat_abs Q ∙ magnitude_of _ _)) c.count_magnitudes-whole.ensures.sheet;
      kept = tt;
    }
