-- The sheet of 1 by 1 over the table source: its operand has one significand and one exponent, and then each line is computed.
use Rattle.std.proofs.Common.{◌≡◌, ℕ, ◌-◌, ◌*◌, ◌^◌, ◌<◌, ◌≤◌, Bool, List, [], ◌∷◌, Ok, Result, sym, refl, ap, ◌∙◌, inl, inr, mul-le-mul, le_antisymm, mul-le-mul_left, arith, pow_pos, pow_mono}
use native.Mathlib.Nat.{eq_of_mul-eq-mul_right}
use lib.Ieee.{size}
use Rattle.std.proofs.lemmas.Bool.{cases_lt}
use Rattle.registers.specs.declared.register.Choice.TheVariants.{Plus, Minus}
use Rattle.registers.specs.Fused.{fused}
use Rattle.registers.specs.Nearest.{multiple, nearest}
use Rattle.registers.specs.Range.{bias}
use Rattle.registers.specs.Values.{Value}
use Rattle.registers.proofs.Granted.{carry_is}
use Rattle.sources.specs.Entries.{reciprocal_entry, table_reciprocal}
use Rattle.sources.specs.Fractions.{fraction}
use Rattle.sources.specs.Seeds.{plain}
use Rattle.sheets.specs.Operands.{held, one}
use Rattle.sheets.specs.Quotients.{QuotientSheet, IsReciprocalSeedLine}
use Rattle.bench.specs.Worked.{one_over_one}

-- ---- the lines, computed

e0_is : fused 30 Minus one (held (2 ^ 149)) (plain (fraction 511 9)) ≡ Ok (plain (fraction 1 9))
unfolding bias size nearest multiple
e0_is = refl

e1_is : fused 30 Plus (plain (fraction 1 9)) (plain (fraction 1 9)) (plain (fraction 1 9)) ≡ Ok (plain (fraction 513 18))
unfolding bias size nearest multiple
e1_is = refl

y1_is : fused 30 Plus (plain (fraction 511 9)) (plain (fraction 513 18)) (plain (fraction 511 9)) ≡ Ok (plain (fraction (2 ^ 27 - 1) 27))
unfolding bias size nearest multiple
y1_is = refl

q1_is : fused 24 Plus (plain 0) (held (2 ^ 149)) (plain (fraction (2 ^ 27 - 1) 27)) ≡ Ok one
unfolding bias size nearest multiple
q1_is = refl

r1_is : fused 30 Minus (held (2 ^ 149)) (held (2 ^ 149)) one ≡ Ok (plain 0)
unfolding bias size nearest multiple
r1_is = refl

seed_is : table_reciprocal (2 ^ 23) ≡ fraction 511 9
unfolding bias reciprocal_entry
seed_is = refl

-- ---- the operand 1

operand_is : (s e : ℕ) → 2 ^ 23 ≤ s → s < 2 ^ 24 → s * 2 ^ e ≡ 2 ^ 149 * 2 ^ 23 → (s ≡ 2 ^ 23) × (e ≡ 149)
operand_is s e least most is = (omega (arith, ap (λ (x : ℕ). s * 2 ^ x) exact, is), exact)
  where
    not_more : e ≤ 149
    not_more = elim (cases_lt 149 e) [
      | inl l ↦
          let p : 2 ^ 150 ≤ 2 ^ e = pow_mono l in
          let h : 2 ^ 23 * 2 ^ 150 ≤ s * 2 ^ e = mul-le-mul least p in
          absurd (omega (arith, h, is))
      | inr g ↦ g
    ]

    not_less : 149 ≤ e
    not_less = elim (cases_lt e 149) [
      | inl l ↦
          let k : e ≤ 148 = omega arith in
          let p : 2 ^ e ≤ 2 ^ 148 = pow_mono k in
          let h : s * 2 ^ e ≤ s * 2 ^ 148 = mul-le-mul_left s p in
          absurd (omega (arith, h, is))
      | inr g ↦ g
    ]

    exact : e ≡ 149
    exact = le_antisymm not_more not_less

seed_line : (y : Value) → IsReciprocalSeedLine table_reciprocal (2 ^ 149) y → y ≡ plain (fraction 511 9)
seed_line y seed =
    let o = operand_is seed.significand seed.exponent seed.in_range.least seed.in_range.most seed.is in
    let p : y.units * 2 ^ 149 ≡ table_reciprocal (2 ^ 23) * 2 ^ 149 = sym (ap (λ (e : ℕ). y.units * 2 ^ e) o.1) ∙ seed.placed ∙ ap (λ (s : ℕ). table_reciprocal s * 2 ^ 149) o.0 in
    let u : y.units ≡ fraction 511 9 = eq_of_mul-eq-mul_right (2 ^ 149) (pow_pos 149) y.units (table_reciprocal (2 ^ 23)) p ∙ seed_is in
    ap (λ (s : Bool). signed s y.units) seed.plus ∙ ap plain u
  where
    signed : Bool → ℕ → Value
    signed s n = record { negative = s; units = n }

-- ---- the sheet

given : (x : Result Value ℕ) (v w : Value) → x ≡ Ok v → x ≡ Ok w → v ≡ w
given x v w e f = cc

pub one_by_one : (lines : List Value) (closing : ℕ) → QuotientSheet table_reciprocal (2 ^ 149) (2 ^ 149) lines closing → lines ≡ one_over_one
one_by_one lines closing q =
    let s = q.steps in
    let y0 = seed_line q.y0 s.seed in
    let e0 = given _ _ _ (carry_is 30 Minus {r = one} {p = held (2 ^ 149)} refl refl y0 s.e0_is) e0_is in
    let e1 = given _ _ _ (carry_is 30 Plus e0 e0 e0 s.e1_is) e1_is in
    let y1 = given _ _ _ (carry_is 30 Plus y0 e1 y0 s.y1_is) y1_is in
    let q1 = given _ _ _ (carry_is 24 Plus {r = plain 0} {p = held (2 ^ 149)} refl refl y1 s.q1_is) q1_is in
    let r1 = given _ _ _ (carry_is 30 Minus {r = held (2 ^ 149)} {p = held (2 ^ 149)} refl refl q1 s.r1_is) r1_is in
    q.are ∙ six y0 e0 e1 y1 q1 r1
  where
    six : {a a' b b' c c' d d' e e' f f' : Value} → a ≡ a' → b ≡ b' → c ≡ c' → d ≡ d' → e ≡ e' → f ≡ f' → a ∷ (b ∷ (c ∷ (d ∷ (e ∷ (f ∷ []))))) ≡ a' ∷ (b' ∷ (c' ∷ (d' ∷ (e' ∷ (f' ∷ [])))))
    six p q r s t u = cc
