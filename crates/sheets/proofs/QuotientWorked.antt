-- From what the code has at each call to the operands, the seed and the lines of a quotient.
use Rattle.std.proofs.Common.{◌≡◌, ℕ, zero, ◌-◌, ◌*◌, ◌^◌, ◌<◌, ◌≤◌, true, false, [], ◌∷◌, is_ok, Ok, refl, ap, ◌∙◌, arith}
use Rattle.registers.specs.declared.register.Choice.TheVariants.{Plus, Minus}
use Rattle.registers.specs.declared.register.Number.{Number}
use Rattle.registers.specs.Binary32.{beside_whole}
use Rattle.registers.specs.Fused.{fused, fused_size}
use Rattle.registers.specs.Range.{bias}
use Rattle.registers.specs.Values.{Value, number_value}
use Rattle.registers.proofs.Granted.{carry_given, carry_is}
use Rattle.sources.specs.Seeds.{IsSignificand, ReciprocalSeed, plain}
use Rattle.sheets.specs.declared.operand.Operand.{Operand}
use Rattle.sheets.specs.Beside.{SameSide, beside_quotient}
use Rattle.sheets.specs.Operands.{held, held_at, one}
use Rattle.sheets.specs.Quotients.{QuotientSheet, IsReciprocalSeedLine}
use Rattle.sheets.proofs.Placing.{reciprocal_close}
use Rattle.sheets.proofs.QuotientChain as Chain
use Rattle.sheets.proofs.Starting.{decoded, held_of, number_bits}

-- the code before its first step: the operands and one as registers x, d and o, and the seed y0
pub record Begun (seeds : ℕ → ℕ) (a b : ℕ) (x d o y0 : Value) : Type 0 where
  pub x_is : x ≡ held a
  pub d_is : d ≡ held b
  pub o_is : o ≡ one
  pub seed : IsReciprocalSeedLine seeds b y0
  pub start : Chain.Start a b y0

pub begun : (seeds : ℕ → ℕ) (a b : ℕ) (p q : Operand) (x d o : Value) (s y : Number)
    → p.significand.bits * 2 ^ p.exponent ≡ a * 2 ^ 23 → q.significand.bits * 2 ^ q.exponent ≡ b * 2 ^ 23
    → x ≡ held_at p.significand.bits p.exponent → d ≡ held_at q.significand.bits q.exponent → o ≡ plain (2 ^ (bias - 0))
    → number_value s ≡ plain (seeds q.significand.bits) → ((n : ℕ) → IsSignificand n → ReciprocalSeed 400 n (seeds n))
    → (number_value y).negative ≡ false → (number_value y).units * 2 ^ q.exponent ≡ (number_value s).units * 2 ^ 149
    → Begun seeds a b x d o (number_value y)
begun seeds a b p q x d o s y ea eb ex ed eo es close plus placed = record {
  x_is = held_of a p x ea ex;
  d_is = held_of b q d eb ed;
  o_is = eo ∙ ap (λ (n : ℕ). plain (2 ^ n)) full;
  seed = record { significand = q.significand.bits; exponent = q.exponent; in_range = q.significand.range; is = eb; plus = plus; placed = here };
  start = record {
    dividend = decoded a p ea;
    divisor = decoded b q eb;
    y0_plus = plus;
    y0_bits = number_bits y;
    close_least = near.0;
    close_most = near.1;
  };
}
  where
    full : bias - 0 ≡ bias
    full = omega arith

    here : (number_value y).units * 2 ^ q.exponent ≡ seeds q.significand.bits * 2 ^ 149
    here = placed ∙ ap (λ v. v.units * 2 ^ 149) es

    near : (399 * (2 ^ bias * 2 ^ bias) ≤ 400 * ((held b).units * (number_value y).units)) × (400 * ((held b).units * (number_value y).units) ≤ 401 * (2 ^ bias * 2 ^ bias))
    near = reciprocal_close b (decoded b q eb) (seeds q.significand.bits) (number_value y).units (close q.significand.bits q.significand.range) here

-- each step is given, and its equation is that of the sheet
module _ (seeds : ℕ → ℕ) (a b : ℕ) (x d o y0 : Value) (g : Begun seeds a b x d o y0) where
  pub need_e0 : is_ok (fused 30 Minus o d y0) ≡ true
  need_e0 = carry_given 30 Minus {r = o} {p = d} {q = y0} g.o_is g.d_is refl (Chain.e0_given a b y0 g.start)

  module _ (e0 : Value) (h0 : fused 30 Minus o d y0 ≡ Ok e0) where
    e0_is : fused 30 Minus one (held b) y0 ≡ Ok e0
    e0_is = carry_is 30 Minus {r = o} {p = d} {q = y0} g.o_is g.d_is refl h0

    pub need_e1 : is_ok (fused 30 Plus e0 e0 e0) ≡ true
    need_e1 = Chain.e1_given a b y0 g.start e0 e0_is

    module _ (e1 : Value) (h1 : fused 30 Plus e0 e0 e0 ≡ Ok e1) where
      pub need_y1 : is_ok (fused 30 Plus y0 e1 y0) ≡ true
      need_y1 = Chain.y1_given a b y0 g.start e0 e0_is e1 h1

      module _ (y1 : Value) (h2 : fused 30 Plus y0 e1 y0 ≡ Ok y1) where
        pub need_q1 : is_ok (fused 24 Plus (plain 0) x y1) ≡ true
        need_q1 = carry_given 24 Plus {r = plain 0} {p = x} {q = y1} refl g.x_is refl (Chain.q1_given a b y0 g.start e0 e0_is e1 h1 y1 h2)

        module _ (q1 : Value) (h3 : fused 24 Plus (plain 0) x y1 ≡ Ok q1) where
          q1_is : fused 24 Plus (plain 0) (held a) y1 ≡ Ok q1
          q1_is = carry_is 24 Plus {r = plain 0} {p = x} {q = y1} refl g.x_is refl h3

          pub need_r1 : is_ok (fused 30 Minus x d q1) ≡ true
          need_r1 = carry_given 30 Minus {r = x} {p = d} {q = q1} g.x_is g.d_is refl (Chain.r1_given a b y0 g.start e0 e0_is e1 h1 y1 h2 q1 q1_is)

          module _ (r1 : Value) (h4 : fused 30 Minus x d q1 ≡ Ok r1) where
            r1_is : fused 30 Minus (held a) (held b) q1 ≡ Ok r1
            r1_is = carry_is 30 Minus {r = x} {p = d} {q = q1} g.x_is g.d_is refl h4

            pub worked : QuotientSheet seeds a b (y0 ∷ (e0 ∷ (e1 ∷ (y1 ∷ (q1 ∷ (r1 ∷ [])))))) (fused_size Plus q1 r1 y1)
            worked = record {
              y0 = y0;
              e0 = e0;
              e1 = e1;
              y1 = y1;
              q1 = q1;
              r1 = r1;
              are = refl;
              steps = record { seed = g.seed; e0_is = e0_is; e1_is = h1; y1_is = h2; q1_is = q1_is; r1_is = r1_is };
              facts = Chain.facts a b y0 g.start e0 e0_is e1 h1 y1 h2 q1 q1_is r1 r1_is;
              closes = refl;
            }

            pub some : zero < fused_size Plus q1 r1 y1
            some = Chain.closing_some a b y0 g.start e0 e0_is e1 h1 y1 h2 q1 q1_is r1 r1_is

            pub same_side : SameSide (beside_whole (fused_size Plus q1 r1 y1)) (beside_quotient a b)
            same_side = Chain.same_side a b y0 g.start e0 e0_is e1 h1 y1 h2 q1 q1_is r1 r1_is
