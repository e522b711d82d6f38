-- How an answer follows from its table, and what it says of the operands that no row decides.
use Rattle.std.proofs.Common.{◌≡◌, ℕ, ◌<◌, ◌≤◌, Bool, true, false, not, ◌&&◌, ◌||◌, Some, None, Ok, Err, Option, Result, refl, ap, ◌∙◌, arith}
use mathlib.Core.Bool.{beq}
use Rattle.std.proofs.lemmas.Bool.{ltb-false, eqb-false, or_parts}
use Rattle.registers.specs.declared.mode.Rounded.{Rounded}
use Rattle.registers.specs.declared.pattern.Pattern.{Pattern}
use Rattle.bench.specs.declared.answer.Special.{Special}
use Rattle.bench.specs.declared.answer.Special.TheVariants.{Invalid, Quiet, Given, ByZero}
use Rattle.bench.specs.Kinds.{is_negative, is_nan, is_signalling, is_infinite, is_zero, signs_differ, unsigned}
use Rattle.bench.specs.Tables.{row, infinity_of, zero_of, answered, settled, fuse_table, divide_table, root_table, remainder_table}
use Rattle.bench.specs.Unless.{unless}

-- ---- answers

-- what stands in the place of a value does so whatever the value
pub by_row : {E T U : Type 0} (table : Option E) (e : E) (v : T) (w : U) → Err e ≡ unless table v → Err e ≡ unless table w
by_row (Some f) e v w is = cc
by_row None e v w is = cc

-- nothing stands in its place
pub undecided : {E T : Type 0} (table : Option E) (v w : T) → Ok v ≡ unless table w → None ≡ table
undecided (Some e) v w is = cc
undecided None v w is = refl

pub by_value : {E T : Type 0} (table : Option E) (v w : T) → None ≡ table → v ≡ w → Ok v ≡ unless table w
by_value table v w is value = ap Ok value ∙ ap (λ t. unless t w) is

pub answered_is : (d e : Bool) (table : Option Special) (v : Rounded) (r : Result Rounded Special) → d ≡ e → r ≡ unless table v → answered d r ≡ settled e table v
answered_is d e table v r same is = ap (λ (b : Bool). answered b r) same ∙ ap (answered e) is ∙ go table
  where
    go : (t : Option Special) → answered e (unless t v) ≡ settled e t v
    go (Some special) = refl
    go None = refl

-- a test of any of the operands
pub any_two : (a b a' b' : Bool) → a ≡ a' → b ≡ b' → (a || b) ≡ (a' || b')
any_two a b a' b' e f = cc

pub any_three : (a b c a' b' c' : Bool) → a ≡ a' → b ≡ b' → c ≡ c' → (a || b || c) ≡ (a' || b' || c')
any_three a b c a' b' c' e f g = cc

-- ---- operands

-- a row that does not decide
row_off : (t : Bool) (gives : Special) (below : Option Special) → None ≡ row t gives below → (t ≡ false) × (None ≡ below)
row_off true gives below e = absurd (let z : ◌≡◌ {A = ℕ} 0 1 = cc in omega arith)
row_off false gives below e = (refl, e)

finite : (p : Pattern) → is_nan p ≡ false → is_infinite p ≡ false → unsigned p < 0x7F800000
unfolding is_nan is_infinite
finite p n i =
    let a : unsigned p ≤ 0x7F800000 = ltb-false 0x7F800000 (unsigned p) n in
    let b : unsigned p ≡ 0x7F800000 → ⊥ = eqb-false (unsigned p) 0x7F800000 i in
    omega (arith, a, b)

nonzero : (p : Pattern) → is_zero p ≡ false → 0 < unsigned p
unfolding is_zero
nonzero p z = let b : unsigned p ≡ 0 → ⊥ = eqb-false (unsigned p) 0 z in omega (arith, b)

pub remainder_operands : (x y : Pattern) {T : Type 0} (v w : T) → Ok v ≡ unless (remainder_table x y) w → (unsigned x < 0x7F800000) × (unsigned y < 0x7F800000) × (0 < unsigned y)
remainder_operands x y v w is =
    let a = row_off (is_signalling x || is_signalling y) Invalid _ (undecided _ v w is) in
    let b = row_off (is_nan x || is_nan y) Quiet _ a.1 in
    let c = row_off (is_infinite x || is_zero y) Invalid _ b.1 in
    let d = row_off (is_infinite y) (Given x) _ c.1 in
    let n = or_parts (is_nan x) (is_nan y) b.0 in
    let i = or_parts (is_infinite x) (is_zero y) c.0 in
    (finite x n.0 i.0, finite y n.1 d.0, nonzero y i.1)

pub divide_operands : (a b : Pattern) {T : Type 0} (v w : T) → Ok v ≡ unless (divide_table a b) w → (unsigned a < 0x7F800000) × (unsigned b < 0x7F800000) × (0 < unsigned a) × (0 < unsigned b)
divide_operands a b v w is =
    let r1 = row_off (is_signalling a || is_signalling b) Invalid _ (undecided _ v w is) in
    let r2 = row_off (is_nan a || is_nan b) Quiet _ r1.1 in
    let r3 = row_off (is_infinite a && is_infinite b) Invalid _ r2.1 in
    let r4 = row_off (is_zero a && is_zero b) Invalid _ r3.1 in
    let r5 = row_off (is_infinite a) (Given (infinity_of (signs_differ a b))) _ r4.1 in
    let r6 = row_off (is_infinite b || is_zero a) (Given (zero_of (signs_differ a b))) _ r5.1 in
    let r7 = row_off (is_zero b) (ByZero (infinity_of (signs_differ a b))) _ r6.1 in
    let n = or_parts (is_nan a) (is_nan b) r2.0 in
    let i = or_parts (is_infinite b) (is_zero a) r6.0 in
    (finite a n.0 r5.0, finite b n.1 i.0, nonzero a i.1, nonzero b r7.0)

pub root_operand : (a : Pattern) {T : Type 0} (v w : T) → Ok v ≡ unless (root_table a) w → (unsigned a < 0x7F800000) × (0 < unsigned a) × (is_negative a ≡ false)
root_operand a v w is =
    let r1 = row_off (is_signalling a) Invalid _ (undecided _ v w is) in
    let r2 = row_off (is_nan a) Quiet _ r1.1 in
    let r3 = row_off (is_zero a) (Given a) _ r2.1 in
    let r4 = row_off (is_negative a) Invalid _ r3.1 in
    let r5 = row_off (is_infinite a) (Given a) _ r4.1 in
    (finite a r2.0 r5.0, nonzero a r3.0, r4.0)

pub fuse_operands : (p q r : Pattern) {T : Type 0} (v w : T) → Ok v ≡ unless (fuse_table p q r) w → (unsigned p < 0x7F800000) × (unsigned q < 0x7F800000) × (unsigned r < 0x7F800000)
fuse_operands p q r v w is =
    let r1 = row_off (is_signalling p || is_signalling q || is_signalling r) Invalid _ (undecided _ v w is) in
    let r2 = row_off (is_infinite p && is_zero q) Invalid _ r1.1 in
    let r3 = row_off (is_zero p && is_infinite q) Invalid _ r2.1 in
    let r4 = row_off (is_nan p || is_nan q || is_nan r) Quiet _ r3.1 in
    let r5 = row_off ((is_infinite p || is_infinite q) && is_infinite r && not (beq (signs_differ p q) (is_negative r))) Invalid _ r4.1 in
    let r6 = row_off (is_infinite p || is_infinite q) (Given (infinity_of (signs_differ p q))) _ r5.1 in
    let r7 = row_off (is_infinite r) (Given r) _ r6.1 in
    let i = or_parts (is_infinite p) (is_infinite q) r6.0 in
    let n = or_parts (is_nan p || is_nan q) (is_nan r) r4.0 in
    let m = or_parts (is_nan p) (is_nan q) n.0 in
    (finite p m.0 i.0, finite q m.1 i.1, finite r n.1 r7.0)
