-- The steps of the reciprocal: none is refused, each round is as close as the analysis says, and so is the line's seed.
use Rattle.std.specs.Prelude.{◌≡◌, ℕ, zero, ◌-◌, ◌*◌, ◌^◌, ◌<◌, ◌≤◌, Bool, true, false, not, Ok, Result, refl}
use Rattle.std.proofs.Common.{mul-le-mul_right, mul-le-mul_left, le_of_mul-le-mul_right, arith, sym, ◌∙◌, pow_pos}
use Rattle.std.proofs.Math.Path.{ap, subst}
use Rattle.std.specs.Bool.{beq}
use Rattle.registers.specs.declared.register.Choice.TheVariants.{Plus, Minus}
use Rattle.registers.specs.Sums.{sum_size}
use Rattle.registers.specs.Range.{bias, bias_is}
use Rattle.registers.specs.Laws.{Bits}
use Rattle.registers.specs.Lines.{Sum, FusedLine}
use Rattle.registers.specs.Values.{Value}
use Rattle.registers.proofs.Near.{Near}
use Rattle.registers.proofs.Related.{rounded_of}
use Rattle.sources.specs.Convergence.{Inverse, ReciprocalRound}
use Rattle.sources.specs.Fractions.{fraction}
use Rattle.sources.specs.Rounds.{step, then, reciprocal_round, reciprocal_line, line_reciprocal, units_of, Positive, ReciprocalRoundRefines}
use Rattle.sources.specs.Seeds.{plain, IsSignificand, ReciprocalSeed}
use Rattle.sources.specs.ReciprocalConvergence as convergence
use Rattle.sources.specs.Grain.{Moderate, moderate_apart, moderate_next, bits_of, coarse_of, Coarse, coarse_product, coarse_power, parts}
use Rattle.sources.specs.Operands.{one_is, ratio, operand_coarse, operand_least, operand_most, inverse_of, reciprocal_seed}
use Rattle.sources.specs.Stepping.{Stepped, stepped, keeps, follows}

-- ---- one round, from a seed within 1/16

module _ (B : ℕ)
    (lo : 2 ^ bias ≤ B)
    (hi : B ≤ 2 * 2 ^ bias)
    (coarse : Coarse (bias - 23) B)
  where
    one : zero < 2 ^ bias
    one = pow_pos bias

    pub y_least : (Y : ℕ) → Near 16 (2 ^ bias * 2 ^ bias) (B * Y) → 15 * 2 ^ bias ≤ 32 * Y
    y_least Y h = le_of_mul-le-mul_right {k = 2 ^ bias} (omega (arith, h.1, mul-le-mul_right Y hi)) one

    y_most : (Y : ℕ) → Near 16 (2 ^ bias * 2 ^ bias) (B * Y) → 16 * Y ≤ 17 * 2 ^ bias
    y_most Y h = le_of_mul-le-mul_right {k = 2 ^ bias} (omega (arith, h.0, mul-le-mul_right Y lo)) one

    pub record Next (Y : ℕ) : Type 0 where
      pub Y' : ℕ
      pub is : reciprocal_round (plain B) (plain Y) ≡ Ok (plain Y')
      pub round : ReciprocalRound (2 ^ bias) B Y false Y'
      pub bits : Near 16 (2 ^ bias * 2 ^ bias) (B * Y') → Bits 30 Y'

    pub next : (Y : ℕ) → Near 16 (2 ^ bias * 2 ^ bias) (B * Y) → Bits 30 Y → Next Y
    next Y near bits = record { Y' = g.v.units; is = is; round = subst (λ s. ReciprocalRound (2 ^ bias) B Y s g.v.units) sign round; bits = λ h. bits_of g.line (omega (arith, y_least g.v.units h)) }
      where
        product : Coarse parts (B * Y)
        product = coarse_product (bias - 23) (bias - 40) parts B Y (omega (arith, bias_is)) coarse (coarse_of Y bits (omega (arith, y_least Y near)))

        whole : Coarse parts (fraction 1 0 * 2 ^ bias)
        whole = subst (λ w. Coarse parts (w * 2 ^ bias)) (sym one_is) (coarse_product bias bias parts (2 ^ bias) (2 ^ bias) (omega (arith, bias_is)) (coarse_power bias) (coarse_power bias))

        -- e
        f : Stepped Minus (plain (fraction 1 0)) (plain B) (plain Y)
        f = stepped Minus (plain (fraction 1 0)) (plain B) (plain Y) (moderate_apart (fraction 1 0 * 2 ^ bias) (B * Y) whole product (omega (arith, ap (λ w. w * 2 ^ bias) one_is)) (omega (arith, near.0)))

        rest : FusedLine 30 (2 ^ bias) false (2 ^ bias) true (B * Y) f.v.negative f.v.units
        rest = subst (λ w. FusedLine 30 (2 ^ bias) false w true (B * Y) f.v.negative f.v.units) one_is f.line

        n_small : (t : Bool) (n : ℕ) → Sum false (2 ^ bias * 2 ^ bias) true (B * Y) t n → 16 * n ≤ 2 ^ bias * 2 ^ bias
        n_small true n h = omega (arith, near.0, h)
        n_small false n h = omega (arith, near.1, h)

        e_small : 2 * f.v.units ≤ 2 ^ bias
        e_small = le_of_mul-le-mul_right {k = 2 ^ bias} (omega (arith, n_small f.v.negative rest.n rest.sum, (rounded_of 30 rest.n (f.v.units * 2 ^ bias) rest.round (omega arith)).near.0)) one

        -- y + e·y
        sized : Moderate (sum_size false (Y * 2 ^ bias) (not (beq f.v.negative false)) (f.v.units * Y))
        sized = moderate_next (Y * 2 ^ bias) (f.v.units * Y) (not (beq f.v.negative false)) (omega (arith, mul-le-mul_right (2 ^ bias) (y_least Y near))) (omega (arith, mul-le-mul_right (2 ^ bias) (y_most Y near))) (omega (arith, mul-le-mul_right Y e_small))

        g : Stepped Plus (plain Y) f.v (plain Y)
        g = stepped Plus (plain Y) f.v (plain Y) sized

        round : ReciprocalRound (2 ^ bias) B Y g.v.negative g.v.units
        round = record { sign = f.v.negative; e = f.v.units; rest = rest; next = subst (λ t. FusedLine 30 (2 ^ bias) false Y t (f.v.units * Y) g.v.negative g.v.units) (keeps f.v.negative) g.line }

        sign : g.v.negative ≡ false
        sign = (convergence.round 16 (2 ^ bias) B Y one (omega arith) near g.v.negative g.v.units round).sign

        is : reciprocal_round (plain B) (plain Y) ≡ Ok (plain g.v.units)
        is = follows (λ e. step Plus (plain Y) e (plain Y)) f.is ∙ g.is ∙ ap (λ s. Ok (record { negative = s; units = g.v.units })) sign

-- ---- the line

module _ (b : ℕ) (sig : IsSignificand b) where
  lo : 2 ^ bias ≤ fraction b 23
  lo = operand_least b sig.least

  hi : fraction b 23 ≤ 2 * 2 ^ bias
  hi = operand_most 2 b sig.most

  -- the start
  start : Stepped Minus (plain (fraction 361 8)) (plain (fraction 120 8)) (plain (fraction b 23))
  start = stepped Minus (plain (fraction 361 8)) (plain (fraction 120 8)) (plain (fraction b 23)) (moderate_next (fraction 361 8 * 2 ^ bias) (fraction 120 8 * fraction b 23) true (omega (arith, ap (λ x. x * 2 ^ bias) (ratio 361))) (omega (arith, ap (λ x. x * 2 ^ bias) (ratio 361))) (omega (arith, ap (λ x. x * 2 ^ bias) (ratio 361), ap (λ x. x * fraction b 23) (ratio 120), mul-le-mul_left (2 ^ bias) hi)))

  start_close : (start.v.negative ≡ false) × Near 16 (2 ^ bias * 2 ^ bias) (fraction b 23 * start.v.units)
  start_close = convergence.started (2 ^ bias) (fraction b 23) (fraction 361 8) (fraction 120 8) (pow_pos bias) lo hi (ratio 361) (ratio 120) start.v.negative start.v.units start.line

  -- one round
  once : Next (fraction b 23) lo hi (operand_coarse b) start.v.units
  once = next (fraction b 23) lo hi (operand_coarse b) start.v.units start_close.1 (bits_of start.line (omega (arith, y_least (fraction b 23) lo hi (operand_coarse b) start.v.units start_close.1)))

  once_close : Near 255 (2 ^ bias * 2 ^ bias) (fraction b 23 * once.Y')
  once_close = (convergence.first (2 ^ bias) (fraction b 23) (fraction 361 8) (fraction 120 8) (pow_pos bias) lo hi (ratio 361) (ratio 120) false start.v.units once.Y' start_close.1 once.round).1

  once_near : Near 16 (2 ^ bias * 2 ^ bias) (fraction b 23 * once.Y')
  once_near = (omega (arith, once_close), omega (arith, once_close))

  -- and another
  twice : Next (fraction b 23) lo hi (operand_coarse b) once.Y'
  twice = next (fraction b 23) lo hi (operand_coarse b) once.Y' once_near (once.bits once_near)

  twice_close : Near 400 (2 ^ bias * 2 ^ bias) (fraction b 23 * twice.Y')
  twice_close = (convergence.second (2 ^ bias) (fraction b 23) (fraction 361 8) (fraction 120 8) (pow_pos bias) lo hi (ratio 361) (ratio 120) false once.Y' twice.Y' once_close twice.round).1

  line_is : reciprocal_line b ≡ Ok (plain twice.Y')
  line_is = follows (λ y. then (reciprocal_round (plain (fraction b 23)) y) (reciprocal_round (plain (fraction b 23)))) (start.is ∙ ap (λ s. Ok (record { negative = s; units = start.v.units })) start_close.0)
      ∙ follows (reciprocal_round (plain (fraction b 23))) once.is ∙ twice.is

  close : ReciprocalSeed 400 b twice.Y'
  close = reciprocal_seed 400 b twice.Y' (twice.bits (omega (arith, twice_close), omega (arith, twice_close))) (record { most = omega (arith, twice_close); least = omega (arith, twice_close) })

  pub reciprocals_are_close : ReciprocalSeed 400 b (line_reciprocal b)
  unfolding line_reciprocal
  reciprocals_are_close = subst (λ o. ReciprocalSeed 400 b (units_of o)) (sym line_is) close

  pub reciprocal_positive : Positive (reciprocal_line b)
  reciprocal_positive = subst Positive (sym line_is) (refl, convergence.some_y 16 (2 ^ bias) (fraction b 23) twice.Y' (pow_pos bias) (omega arith) (omega (arith, twice_close), omega (arith, twice_close)))

  pub reciprocal_units : (o : Result Value ℕ) → o ≡ reciprocal_line b → units_of o ≡ line_reciprocal b
  unfolding line_reciprocal
  reciprocal_units o e = ap units_of e

  -- one round from any claim from 29 up
  refined : (K y : ℕ) → 29 ≤ K → ReciprocalSeed K b y → (y' : ℕ) × (reciprocal_round (plain (fraction b 23)) (plain y) ≡ Ok (plain y')) × ReciprocalSeed 400 b y'
  refined K y big s = (n.Y', n.is, reciprocal_seed 400 b n.Y' (n.bits (omega (arith, best.most), omega (arith, best.least))) best)
    where
      near : Near 16 (2 ^ bias * 2 ^ bias) (fraction b 23 * y)
      near = convergence.weaker K 16 (2 ^ bias * 2 ^ bias) (fraction b 23 * y) (omega arith) (omega arith) (convergence.near_of K (2 ^ bias) (fraction b 23) y big (inverse_of K b y s))

      n : Next (fraction b 23) lo hi (operand_coarse b) y
      n = next (fraction b 23) lo hi (operand_coarse b) y near s.bits

      best : Inverse 400 (2 ^ bias) (fraction b 23) n.Y'
      best = (convergence.reciprocal_betters K (2 ^ bias) (fraction b 23) y (pow_pos bias) big (inverse_of K b y s) false n.Y' n.round).1

pub reciprocal_refines : ReciprocalRoundRefines
reciprocal_refines K b y sig big s = refined b sig K y big s

-- a seed lies between 1/4 and 2
pub reciprocal_size : (b y : ℕ) → IsSignificand b → ReciprocalSeed 400 b y → (2 ^ bias ≤ 4 * y) × (y ≤ 2 * 2 ^ bias)
reciprocal_size b y sig s = (omega (arith, s.least, mul-le-mul_left y sig.most), omega (arith, s.most, mul-le-mul_left y sig.least))
