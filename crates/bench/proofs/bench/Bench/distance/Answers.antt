use Rattle.std.proofs.Common.{◌≡◌, ℕ, ◌<◌, ◌≤◌, Bool, true, false, cond, ◌||◌, nat_lt, nat_abs, Some, None, Ok, Err, Option, ok_or, refl, sym, ap, ◌∙◌, subst, arith, ℤ, w64, SFits, to_z, of_z}
use Rattle.std.proofs.lemmas.Bool.Decides.{nat_tests}
use Rattle.std.proofs.lemmas.Int.{to_z-of_z}
use Rattle.std.proofs.lemmas.Result.{err_from_is_err_and}
use Rattle.std.specs.Option.{MatchOption}
use Rattle.registers.specs.declared.pattern.Pattern.{Pattern}
use Rattle.bench.specs.declared.flags.Flags.{Flags}
use Rattle.bench.specs.declared.refusal.Refusal.{Refusal}
use Rattle.bench.specs.declared.refusal.Refusal.TheVariants.{Beyond}
use Rattle.bench.specs.Counts.{greatest}
use Rattle.bench.specs.Distances.{too_far, whole_pattern}
use Rattle.bench.specs.Raised.{joined_flags, no_flags}
use Rattle.bench.proofs.Raising.{joined_none}
use Rattle.bench.proofs.bench.Bench.distance.Goals as goal

-- a pattern that is not there is refused, and one that is there is given
refused : (o : Option Pattern) (P : Type 0) (Q : Pattern → Type 0) (e : Refusal) → MatchOption o P Q → Err e ≡ ok_or o Beyond → (e ≡ Beyond) × P
refused (Some p) P Q e m is = absurd (let z : ◌≡◌ {A = ℕ} 0 1 = cc in omega arith)
refused None P Q e m is = (cc, m)

given : (o : Option Pattern) (P : Type 0) (Q : Pattern → Type 0) (p : Pattern) → MatchOption o P Q → Ok p ≡ ok_or o Beyond → Q p
given (Some q) P Q p m is = let e : q ≡ p = cc in subst Q e m
given None P Q p m is = absurd (let z : ◌≡◌ {A = ℕ} 0 1 = cc in omega arith)

-- a difference as it is handed on
abbrev passed : ℤ → ℤ
passed d = to_z w64 (of_z w64 d)

left_refused : (dx dy : ℤ) → SFits w64 dx → (o : Option Pattern) (Q : Pattern → Type 0) (e : Refusal) → MatchOption o (greatest < nat_abs (passed dx)) Q → Err e ≡ ok_or o Beyond → (e ≡ Beyond) × (too_far dx dy ≡ true)
unfolding too_far
left_refused dx dy fits o Q e m is =
    let r = refused o _ Q e m is in
    let far : greatest < nat_abs dx = rw (to_z-of_z w64 dx fits) at r.1 in
    (r.0, grind (arith, nat_tests))

right_refused : (dx dy : ℤ) → SFits w64 dy → (o : Option Pattern) (Q : Pattern → Type 0) (e : Refusal) → MatchOption o (greatest < nat_abs (passed dy)) Q → Err e ≡ ok_or o Beyond → (e ≡ Beyond) × (too_far dx dy ≡ true)
unfolding too_far
right_refused dx dy fits o Q e m is =
    let r = refused o _ Q e m is in
    let far : greatest < nat_abs dy = rw (to_z-of_z w64 dy fits) at r.1 in
    (r.0, grind (arith, nat_tests))

measured : (d : ℤ) → SFits w64 d → (o : Option Pattern) (P : Type 0) (p : Pattern) → MatchOption o P (λ q. (nat_abs (passed d) ≤ greatest) × (q ≡ whole_pattern (passed d))) → Ok p ≡ ok_or o Beyond → (nat_abs d ≤ greatest) × (p ≡ whole_pattern d)
measured d fits o P p m is = rw (to_z-of_z w64 d fits) at (given o P _ p m is)

-- too far: nothing is raised
nothing_raised : (t : Bool) (f g : Flags) → t ≡ true → f ≡ joined_flags f (cond t no_flags g)
nothing_raised t f g e = sym (joined_none f) ∙ ap (λ (b : Bool). joined_flags f (cond b no_flags g)) (sym e)

near : (a b : ℕ) → a ≤ greatest → b ≤ greatest → (nat_lt greatest a || nat_lt greatest b) ≡ false
near a b h k = grind (arith, nat_tests)

pub returns-in_err-x-clause-answer : goal.returns-in_err-x-clause-answer
returns-in_err-x-clause-answer g c =
    let p = err_from_is_err_and c.from_residual.result c.from_residual.ensures.1 in
    let r = left_refused c.args.dx c.args.dy c.ranges.dx _ _ _ c.whole_pattern.ensures c.in_err-x.ensures.value in
    rw (p.1, p.2, r.0, r.1) refl

pub returns-in_err-x-clause-after : goal.returns-in_err-x-clause-after
returns-in_err-x-clause-after g c =
    let r = left_refused c.args.dx c.args.dy c.ranges.dx _ _ _ c.whole_pattern.ensures c.in_err-x.ensures.value in
    record { flags = nothing_raised _ _ _ r.1; mode = c.drop-guard.ensures ∙ c.new-guard.ensures.old; origin = refl }

pub returns-in_err-y-clause-answer : goal.returns-in_err-y-clause-answer
returns-in_err-y-clause-answer g c =
    let p = err_from_is_err_and c.from_residual-in_err-y.result c.from_residual-in_err-y.ensures.1 in
    let r = right_refused c.args.dx c.args.dy c.ranges.dy _ _ _ c.whole_pattern-2.ensures c.in_err-y.ensures.value in
    rw (p.1, p.2, r.0, r.1) refl

pub returns-in_err-y-clause-after : goal.returns-in_err-y-clause-after
returns-in_err-y-clause-after g c =
    let r = right_refused c.args.dx c.args.dy c.ranges.dy _ _ _ c.whole_pattern-2.ensures c.in_err-y.ensures.value in
    record { flags = nothing_raised _ _ _ r.1; mode = c.drop-guard-in_err-y.ensures ∙ c.new-guard.ensures.old; origin = refl }

pub returns : goal.returns
unfolding too_far
returns g c =
    let x = measured c.args.dx c.ranges.dx _ _ _ c.whole_pattern.ensures c.in_ok-x.ensures.value in
    let y = measured c.args.dy c.ranges.dy _ _ _ c.whole_pattern-2.ensures c.in_ok-y.ensures.value in
    let t : too_far c.args.dx c.args.dy ≡ false = near (nat_abs c.args.dx) (nat_abs c.args.dy) x.0 y.0 in
    let m = c.new-guard.ensures.mode in
    let e = c.length.ensures in
    let after = rw (m, x.1, y.1) at e.after in
    record {
      answer = rw t (ap Ok (rw (m, x.1, y.1) at e.answer));
      after = record { flags = rw t after.flags; mode = c.drop-guard-2.ensures ∙ c.new-guard.ensures.old; origin = after.origin };
      sheet = rw (m, x.1, y.1) at e.sheet;
      kept = tt;
    }
