-- From what the code has at each call to the operand, the seed and the lines of a root.
-- The outline is that of QuotientWorked, and no lemma stands for both: each step has an equation of its own.
use Rattle.std.proofs.Common.{◌≡◌, ℕ, zero, ◌+◌, ◌*◌, ◌/◌, ◌^◌, ◌<◌, ◌≤◌, true, false, [], ◌∷◌, is_ok, Ok, refl, ap, ◌∙◌, arith, pow_pos}
use Rattle.registers.specs.declared.register.Choice.TheVariants.{Plus, Minus}
use Rattle.registers.specs.declared.register.Number.{Number}
use Rattle.registers.specs.Binary32.{beside_whole}
use Rattle.registers.specs.Fused.{fused, fused_size}
use Rattle.registers.specs.Range.{bias}
use Rattle.registers.specs.Values.{Value, number_value}
use Rattle.registers.proofs.Granted.{carry_given, carry_is}
use Rattle.sources.specs.Seeds.{IsRadicand, RootSeed, plain}
use Rattle.sheets.specs.declared.operand.Operand.{Operand}
use Rattle.sheets.specs.Beside.{SameSide, beside_root}
use Rattle.sheets.specs.Operands.{half, held, held_at, radicand_of}
use Rattle.sheets.specs.Roots.{Halved, IsRootSeedLine, RootSheet}
use Rattle.sheets.proofs.Placing.{least, most, radicand_is, root_close}
use Rattle.sheets.proofs.RootChain as Chain
use Rattle.sheets.proofs.Sizes.{inverse_range}
use Rattle.sheets.proofs.Starting.{decoded, held_of, number_bits}

-- the code with the seed y0 brought to the operand
pub record Seeded (seeds : ℕ → ℕ) (a : ℕ) (p : Operand) (y0 : Value) : Type 0 where
  pub is : p.significand.bits * 2 ^ p.exponent ≡ a * 2 ^ 23
  pub seed : IsRootSeedLine seeds a y0
  pub close_least : 159201 * (2 ^ bias * 2 ^ bias * 2 ^ bias) ≤ 160000 * ((held a).units * y0.units * y0.units)
  pub close_most : 160000 * ((held a).units * y0.units * y0.units) ≤ 160801 * (2 ^ bias * 2 ^ bias * 2 ^ bias)

pub seeded : (seeds : ℕ → ℕ) (a : ℕ) (p : Operand) (t : ℕ) (s y0 : Value)
    → p.significand.bits * 2 ^ p.exponent ≡ a * 2 ^ 23 → t ≡ radicand_of p.significand.bits p.exponent
    → IsRadicand t → s ≡ plain (seeds t) → RootSeed 400 t (seeds t)
    → y0.negative ≡ false → y0.units * 2 ^ ((p.exponent + 1) / 2) ≡ s.units * 2 ^ 75
    → Seeded seeds a p y0
seeded seeds a p t s y0 ea et range es close plus placed = record {
  is = ea;
  seed = record { radicand = t; exponent = (p.exponent + 1) / 2; in_range = range; is = fours; plus = plus; placed = here };
  close_least = near.0;
  close_most = near.1;
}
  where
    here : y0.units * 2 ^ ((p.exponent + 1) / 2) ≡ seeds t * 2 ^ 75
    here = placed ∙ ap (λ v. v.units * 2 ^ 75) es

    fours : t * 2 ^ (2 * ((p.exponent + 1) / 2)) ≡ a * 2 ^ 24
    fours = ap (λ b. b * 2 ^ (2 * ((p.exponent + 1) / 2))) et ∙ radicand_is p.significand.bits p.exponent ∙ omega (arith, ea)

    near : (159201 * (2 ^ bias * 2 ^ bias * 2 ^ bias) ≤ 160000 * ((held a).units * y0.units * y0.units)) × (160000 * ((held a).units * y0.units * y0.units) ≤ 160801 * (2 ^ bias * 2 ^ bias * 2 ^ bias))
    near = root_close a t ((p.exponent + 1) / 2) (seeds t) y0.units close fours here

-- so the seed can be halved
pub seed_moderate : (seeds : ℕ → ℕ) (a : ℕ) (p : Operand) (y0 : Value) → Seeded seeds a p y0 → (2 ^ bias ≤ y0.units * 2 ^ 150) × (y0.units ≤ 2 ^ bias * 2 ^ 150)
seed_moderate seeds a p y0 g =
    let r = inverse_range (2 ^ bias) (pow_pos bias) (held a).units y0.units (least a (decoded a p g.is)) (most a (decoded a p g.is)) (omega (arith, g.close_least)) (omega (arith, g.close_most)) in
    (omega (arith, r.0), omega (arith, r.1))

-- the code before its first step: the operand and one half as registers x and o, the seed y0 and its half h0
pub record Begun (seeds : ℕ → ℕ) (a : ℕ) (x o y0 h0 : Value) : Type 0 where
  pub x_is : x ≡ held a
  pub o_is : o ≡ half
  pub seed : IsRootSeedLine seeds a y0
  pub start : Chain.Start a y0 h0

pub begun : (seeds : ℕ → ℕ) (a : ℕ) (p : Operand) (x o y0 : Value) (h : Number) → Seeded seeds a p y0
    → x ≡ held_at p.significand.bits p.exponent → o ≡ half → Halved y0 (number_value h) → Begun seeds a x o y0 (number_value h)
begun seeds a p x o y0 h g ex eo halved = record {
  x_is = held_of a p x g.is ex;
  o_is = eo;
  seed = g.seed;
  start = record { operand = decoded a p g.is; y0_plus = g.seed.plus; halved = halved; h0_bits = number_bits h; close_least = g.close_least; close_most = g.close_most };
}

-- all of this at once, from the law of the source
pub started : (seeds : ℕ → ℕ) (a : ℕ) (p : Operand) (t : ℕ) (v x o y0 : Value) (h : Number) → ((n : ℕ) → IsRadicand n → RootSeed 400 n (seeds n))
    → p.significand.bits * 2 ^ p.exponent ≡ a * 2 ^ 23 → x ≡ held_at p.significand.bits p.exponent → o ≡ half
    → IsRadicand t → t ≡ radicand_of p.significand.bits p.exponent → v ≡ plain (seeds t)
    → y0.negative ≡ false → y0.units * 2 ^ ((p.exponent + 1) / 2) ≡ v.units * 2 ^ 75 → Halved y0 (number_value h)
    → Begun seeds a x o y0 (number_value h)
started seeds a p t v x o y0 h close ea ex eo range et ev plus placed halved = begun seeds a p x o y0 h (seeded seeds a p t v y0 ea et range ev (close t range) plus placed) ex eo halved

-- each step is given, and its equation is that of the sheet
module _ (seeds : ℕ → ℕ) (a : ℕ) (x o y0 h0 : Value) (g : Begun seeds a x o y0 h0) where
  pub need_s0 : is_ok (fused 30 Plus (plain 0) x y0) ≡ true
  need_s0 = carry_given 30 Plus {r = plain 0} {p = x} {q = y0} refl g.x_is refl (Chain.s0_given a y0 h0 g.start)

  module _ (s0 : Value) (i0 : fused 30 Plus (plain 0) x y0 ≡ Ok s0) where
    s0_is : fused 30 Plus (plain 0) (held a) y0 ≡ Ok s0
    s0_is = carry_is 30 Plus {r = plain 0} {p = x} {q = y0} refl g.x_is refl i0

    pub need_d0 : is_ok (fused 30 Minus o s0 h0) ≡ true
    need_d0 = carry_given 30 Minus {r = o} {p = s0} {q = h0} g.o_is refl refl (Chain.d0_given a y0 h0 g.start s0 s0_is)

    module _ (d0 : Value) (i1 : fused 30 Minus o s0 h0 ≡ Ok d0) where
      d0_is : fused 30 Minus half s0 h0 ≡ Ok d0
      d0_is = carry_is 30 Minus {r = o} {p = s0} {q = h0} g.o_is refl refl i1

      pub need_h1 : is_ok (fused 30 Plus h0 d0 h0) ≡ true
      need_h1 = Chain.h1_given a y0 h0 g.start s0 s0_is d0 d0_is

      pub need_s1 : is_ok (fused 30 Plus s0 d0 s0) ≡ true
      need_s1 = Chain.s1_given a y0 h0 g.start s0 s0_is d0 d0_is

      module _ (h1 : Value) (i2 : fused 30 Plus h0 d0 h0 ≡ Ok h1) (s1 : Value) (i3 : fused 30 Plus s0 d0 s0 ≡ Ok s1) where
        pub need_d1 : is_ok (fused 30 Minus o s1 h1) ≡ true
        need_d1 = carry_given 30 Minus {r = o} {p = s1} {q = h1} g.o_is refl refl (Chain.d1_given a y0 h0 g.start s0 s0_is d0 d0_is h1 i2 s1 i3)

        pub need_e1 : is_ok (fused 30 Minus x s1 s1) ≡ true
        need_e1 = carry_given 30 Minus {r = x} {p = s1} {q = s1} g.x_is refl refl (Chain.e1_given a y0 h0 g.start s0 s0_is d0 d0_is h1 i2 s1 i3)

        module _ (d1 : Value) (i4 : fused 30 Minus o s1 h1 ≡ Ok d1) (e1 : Value) (i5 : fused 30 Minus x s1 s1 ≡ Ok e1) where
          d1_is : fused 30 Minus half s1 h1 ≡ Ok d1
          d1_is = carry_is 30 Minus {r = o} {p = s1} {q = h1} g.o_is refl refl i4

          e1_is : fused 30 Minus (held a) s1 s1 ≡ Ok e1
          e1_is = carry_is 30 Minus {r = x} {p = s1} {q = s1} g.x_is refl refl i5

          pub need_s2 : is_ok (fused 24 Plus s1 e1 h1) ≡ true
          need_s2 = Chain.s2_given a y0 h0 g.start s0 s0_is d0 d0_is h1 i2 s1 i3 d1 d1_is e1 e1_is

          pub need_h2 : is_ok (fused 30 Plus h1 d1 h1) ≡ true
          need_h2 = Chain.h2_given a y0 h0 g.start s0 s0_is d0 d0_is h1 i2 s1 i3 d1 d1_is e1 e1_is

          module _ (s2 : Value) (i6 : fused 24 Plus s1 e1 h1 ≡ Ok s2) (h2 : Value) (i7 : fused 30 Plus h1 d1 h1 ≡ Ok h2) where
            pub need_e2 : is_ok (fused 30 Minus x s2 s2) ≡ true
            need_e2 = carry_given 30 Minus {r = x} {p = s2} {q = s2} g.x_is refl refl (Chain.e2_given a y0 h0 g.start s0 s0_is d0 d0_is h1 i2 s1 i3 d1 d1_is e1 e1_is s2 i6 h2 i7)

            module _ (e2 : Value) (i8 : fused 30 Minus x s2 s2 ≡ Ok e2) where
              e2_is : fused 30 Minus (held a) s2 s2 ≡ Ok e2
              e2_is = carry_is 30 Minus {r = x} {p = s2} {q = s2} g.x_is refl refl i8

              pub worked : RootSheet seeds a (y0 ∷ (s0 ∷ (h0 ∷ (d0 ∷ (h1 ∷ (s1 ∷ (d1 ∷ (e1 ∷ (s2 ∷ (h2 ∷ (e2 ∷ []))))))))))) (fused_size Plus s2 e2 h2)
              worked = record {
                y0 = y0;
                s0 = s0;
                h0 = h0;
                d0 = d0;
                h1 = h1;
                s1 = s1;
                d1 = d1;
                e1 = e1;
                s2 = s2;
                h2 = h2;
                e2 = e2;
                are = refl;
                steps = record { seed = g.seed; s0_is = s0_is; h0_is = g.start.halved; d0_is = d0_is; h1_is = i2; s1_is = i3; d1_is = d1_is; e1_is = e1_is; s2_is = i6; h2_is = i7; e2_is = e2_is };
                facts = Chain.facts a y0 h0 g.start s0 s0_is d0 d0_is h1 i2 s1 i3 d1 d1_is e1 e1_is s2 i6 h2 i7 e2 e2_is;
                closes = refl;
              }

              pub some : zero < fused_size Plus s2 e2 h2
              some = Chain.closing_some a y0 h0 g.start s0 s0_is d0 d0_is h1 i2 s1 i3 d1 d1_is e1 e1_is s2 i6 h2 i7 e2 e2_is

              pub same_side : SameSide (beside_whole (fused_size Plus s2 e2 h2)) (beside_root a)
              same_side = Chain.same_side a y0 h0 g.start s0 s0_is d0 d0_is h1 i2 s1 i3 d1 d1_is e1 e1_is s2 i6 h2 i7 e2 e2_is
