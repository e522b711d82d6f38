-- The first round stops at the leftmost column without digits, the second at the leftmost with a number out of range.
use Rattle.std.proofs.Common.{◌≡◌, ◌+◌, ◌*◌, get_or, pos, None, Err, sym, ap, ◌∙◌, arith, rules, w64, to_z, of_z}
use Rattle.text.specs.Judging.{narrow_at, wides_of}
use Rattle.text.proofs.Rounds.{all_numbers, count_wide, digits_err, narrow_err, no_digits, out_of_range, read_wide}
use Rattle.text.proofs.line.numbers.Goals as goal

pub returns-in_err-wides : goal.returns-in_err-wides
returns-in_err-wides g c =
    let k = c.loop-k.k in
    let cs = c.args.columns.now in
    let e = digits_err (1 + 14 * k) c.wide.result c.in_err-wides.field-0.0 (sym c.digits_at.ensures ∙ c.in_err-wides.was) in
    let none = read_wide cs k _ (omega arith) ∙ sym c.wide.ensures ∙ e.0 in
    let all = no_digits (wides_of cs) c.loop-k.wides k (omega (arith, count_wide cs)) c.loop-k.invariant.passed none in
    let r : c.from_residual.result ≡ Err c.in_err-wides.field-0.0 = search rules in
    r ∙ ap Err e.1 ∙ sym all

pub returns-in_err-numbers : goal.returns-in_err-numbers
returns-in_err-numbers g c =
    let k = c.loop-k-2.k in
    let cs = c.args.columns.now in
    let n = get_or c.loop-k.wides k (pos 0) in
    let w : to_z w64 (of_z w64 n) ≡ n = search rules in
    let e = narrow_err (1 + 14 * k) n c.in_err-numbers.field-0.0 (sym (c.narrow_at.ensures ∙ ap (narrow_at (1 + 14 * k)) w) ∙ c.in_err-numbers.was) in
    let all = out_of_range (wides_of cs) c.loop-k.wides (λ j l. c.loop-k.invariant.passed j (omega (arith, count_wide cs))) c.loop-k-2.numbers k
    (omega (arith, count_wide cs)) c.loop-k-2.invariant.passed e.0 in
    let r : c.from_residual-in_err-numbers.result ≡ Err c.in_err-numbers.field-0.0 = search rules in
    r ∙ ap Err e.1 ∙ sym all

pub returns : goal.returns
returns g c =
    let cs = c.args.columns.now in
    all_numbers (wides_of cs) c.loop-k.wides (λ j l. c.loop-k.invariant.passed j (omega (arith, count_wide cs))) c.loop-k-2.numbers
    (omega (arith, count_wide cs)) (λ j l. c.loop-k-2.invariant.passed j (omega (arith, count_wide cs)))

pub loop-k-preserved : goal.loop-k-preserved
loop-k-preserved g c =
    let cs = c.args.columns.now in
    let read : get_or (wides_of cs) c.loop-k.k None ≡ c.wide.result = read_wide cs c.loop-k.k _ (omega arith) ∙ sym c.wide.ensures in
    search (rules, read)
