-- The steps of the root: none is refused, each round is as close as the analysis says, and so is the line's seed.
use Rattle.std.specs.Prelude.{◌≡◌, ℕ, zero, ◌+◌, ◌-◌, ◌*◌, ◌/◌, ◌^◌, ◌<◌, ◌≤◌, Bool, true, false, not, Ok, Result, refl}
use Rattle.std.proofs.Common.{mul-le-mul, mul-le-mul_right, mul-le-mul_left, mul-pos, le_of_mul-le-mul_right, zero-mul, arith, sym, ◌∙◌, inl, inr, pow_pos, pow-add}
use Rattle.std.proofs.Math.Path.{ap, subst}
use Rattle.std.specs.Bool.{beq}
use Rattle.std.proofs.lemmas.Bool.{cases_lt}
use Rattle.registers.specs.declared.register.Choice.TheVariants.{Plus, Minus}
use Rattle.registers.specs.Sums.{sum_size}
use Rattle.registers.specs.Range.{bias, bias_is}
use Rattle.registers.specs.Laws.{Bits}
use Rattle.registers.specs.Lines.{Sum, FusedLine}
use Rattle.registers.specs.Values.{Value}
use Rattle.registers.proofs.Near.{Near30}
use Rattle.registers.proofs.Related.{rounded_of}
use Rattle.registers.proofs.Signs.{line_of, upright, upright_sign}
use Rattle.sources.specs.Convergence.{InverseRoot, RootRound}
use Rattle.sources.specs.Fractions.{fraction}
use Rattle.sources.specs.Rounds.{step, then, half, root_round, root_line, line_root, units_of, Positive, RootRoundRefines}
use Rattle.sources.specs.Seeds.{plain, IsRadicand, RootSeed}
use Rattle.sources.specs.RootConvergence.{Within}
use Rattle.sources.specs.RootConvergence as convergence
use Rattle.sources.specs.Grain.{Moderate, moderate_apart, moderate_next, large, bits_of, coarse_of, Coarse, coarse_product, coarse_power, parts}
use Rattle.sources.specs.Operands.{half_is, halves, ratio, operand_coarse, operand_least, operand_most, inverse_root_of, root_seed}
use Rattle.sources.specs.Placing.{half_some}
use Rattle.sources.specs.Stepping.{Stepped, stepped, keeps, follows}

-- ---- sizes by squares, from a seed within 9/50

below : (W T Z : ℕ) → zero < W → T ≤ 4 * W → Within 50 9 (W * W * W) (T * Z * Z) → W ≤ 4 * Z
below W T Z one hi h = elim (cases_lt (4 * Z) W) [
  | inl l ↦ absurd (omega (arith, h.1, mul-pos (mul-pos one one) one, mul-le-mul_right (Z * Z) hi, mul-le-mul_left W (mul-le-mul (weak l) (weak l))))
  | inr g ↦ g
]
  where
    weak : 4 * Z < W → 4 * Z ≤ W
    weak l = omega arith

above : (W T Z : ℕ) → zero < W → W ≤ T → Within 50 9 (W * W * W) (T * Z * Z) → Z ≤ 2 * W
above W T Z one lo h = elim (cases_lt (2 * W) Z) [
  | inl l ↦ absurd (omega (arith, h.0, mul-pos (mul-pos one one) one, mul-le-mul lo (mul-le-mul (weak l) (weak l))))
  | inr g ↦ g
]
  where
    weak : 2 * W < Z → 2 * W ≤ Z
    weak l = omega arith

-- t·z is not below a half
product_least : (W T Z : ℕ) → zero < W → W ≤ T → Within 50 9 (W * W * W) (T * Z * Z) → W * W ≤ 2 * (T * Z)
product_least W T Z one lo h = elim (cases_lt (2 * (T * Z)) (W * W)) [
  | inl l ↦ absurd (omega (arith, mul-pos (mul-pos one one) (mul-pos one one), mul-le-mul_left T h.1, mul-le-mul_right (W * W * W) lo, mul-le-mul (weak l) (weak l)))
  | inr g ↦ g
]
  where
    weak : 2 * (T * Z) < W * W → 2 * (T * Z) ≤ W * W
    weak l = omega arith

-- ---- one round

module _ (T : ℕ)
    (lo : 2 ^ bias ≤ T)
    (hi : T ≤ 4 * 2 ^ bias)
    (coarse : Coarse (bias - 23) T)
  where
    one : zero < 2 ^ bias
    one = pow_pos bias

    pub record Next (Z : ℕ) : Type 0 where
      pub Z' : ℕ
      pub is : root_round (plain T) (plain Z) ≡ Ok (plain Z')
      pub round : RootRound (2 ^ bias) (2 ^ (bias - 1)) T Z false Z'
      pub bits : Within 50 9 (2 ^ bias * 2 ^ bias * 2 ^ bias) (T * Z' * Z') → Bits 30 Z'

    pub next : (Z : ℕ) → Within 50 9 (2 ^ bias * 2 ^ bias * 2 ^ bias) (T * Z * Z) → Bits 30 Z → Next Z
    next Z near bits = record { Z' = g.v.units; is = is; round = subst (λ s. RootRound (2 ^ bias) (2 ^ (bias - 1)) T Z s g.v.units) sign round; bits = λ h. bits_of g.line (below (2 ^ bias) T g.v.units one hi h) }
      where
        z_least : 2 ^ bias ≤ 4 * Z
        z_least = below (2 ^ bias) T Z one hi near

        z_most : Z ≤ 2 * 2 ^ bias
        z_most = above (2 ^ bias) T Z one lo near

        fine : Coarse (bias - 40) Z
        fine = coarse_of Z bits z_least

        tz_least : 2 ^ bias * 2 ^ bias ≤ 2 * (T * Z)
        tz_least = product_least (2 ^ bias) T Z one lo near

        tz_most : T * Z ≤ 8 * (2 ^ bias * 2 ^ bias)
        tz_most = omega (arith, mul-le-mul hi z_most)

        -- s
        f : Stepped Plus (plain 0) (plain T) (plain Z)
        f = stepped Plus (plain 0) (plain T) (plain Z) (inr (omega (arith, tz_least, zero-mul (2 ^ bias)), omega (arith, tz_most, zero-mul (2 ^ bias))))

        s_plain : f.v ≡ plain f.v.units
        s_plain = ap (λ s. record { negative = s; units = f.v.units }) (upright_sign 30 (2 ^ bias) zero (T * Z) f.v.negative f.v.units one (line_of 30 (omega arith) f.line))

        s_near : Near30 (T * Z) (f.v.units * 2 ^ bias)
        s_near = subst (λ n. Near30 n (f.v.units * 2 ^ bias)) (omega (arith, zero-mul (2 ^ bias))) (upright 30 (2 ^ bias) zero (T * Z) f.v.negative f.v.units (line_of 30 (omega arith) f.line)).near

        s_least : 2 ^ bias ≤ 4 * f.v.units
        s_least = le_of_mul-le-mul_right {k = 2 ^ bias} (omega (arith, s_near.1, tz_least)) one

        s_most : f.v.units ≤ 9 * 2 ^ bias
        s_most = le_of_mul-le-mul_right {k = 2 ^ bias} (omega (arith, s_near.0, tz_most)) one

        s_coarse : Coarse (bias - 40) f.v.units
        s_coarse = coarse_of f.v.units (bits_of f.line s_least) s_least

        -- z / 2
        power : 2 ^ (bias - 40) ≡ 2 * 2 ^ (bias - 41)
        power = ap (λ x. 2 ^ x) e ∙ pow-add 2 1 (bias - 41)
          where
            e : bias - 40 ≡ 1 + (bias - 41)
            e = omega (arith, bias_is)

        h_is : Z / 2 ≡ fine.0 * 2 ^ (bias - 41)
        h_is = omega (arith, fine.1, ap (λ x. fine.0 * x) power)

        h_whole : Z ≡ 2 * (Z / 2)
        h_whole = omega (arith, fine.1, ap (λ x. fine.0 * x) power)

        h_plain : half (plain Z) ≡ Ok (plain (Z / 2))
        h_plain = half_some false Z (omega (arith, z_least, large))

        -- d
        product : Coarse parts (f.v.units * (Z / 2))
        product = coarse_product (bias - 40) (bias - 41) parts f.v.units (Z / 2) (omega (arith, bias_is)) s_coarse (fine.0, h_is)

        whole : Coarse parts (fraction 1 1 * 2 ^ bias)
        whole = subst (λ w. Coarse parts (w * 2 ^ bias)) (sym half_is) (coarse_product (bias - 1) bias parts (2 ^ (bias - 1)) (2 ^ bias) (omega (arith, bias_is)) (coarse_power (bias - 1)) (coarse_power bias))

        ww : 2 ^ bias * 2 ^ bias ≡ 2 * (2 ^ (bias - 1) * 2 ^ bias)
        ww = omega (arith, ap (λ x. x * 2 ^ bias) halves)

        sz : f.v.units * Z ≡ 2 * (f.v.units * (Z / 2))
        sz = omega (arith, ap (λ x. f.v.units * x) h_whole)

        k : Stepped Minus (plain (fraction 1 1)) (plain f.v.units) (plain (Z / 2))
        k = stepped Minus (plain (fraction 1 1)) (plain f.v.units) (plain (Z / 2)) (moderate_apart (fraction 1 1 * 2 ^ bias) (f.v.units * (Z / 2)) whole product (omega (arith, ww, ap (λ w. w * 2 ^ bias) half_is)) (omega (arith, sz, mul-le-mul s_most z_most)))

        rest : FusedLine 30 (2 ^ bias) false (2 ^ (bias - 1)) true (f.v.units * (Z / 2)) k.v.negative k.v.units
        rest = subst (λ w. FusedLine 30 (2 ^ bias) false w true (f.v.units * (Z / 2)) k.v.negative k.v.units) half_is k.line

        sz_most : 100 * (f.v.units * Z) ≤ 119 * (2 ^ bias * 2 ^ bias)
        sz_most = le_of_mul-le-mul_right {k = 2 ^ bias} (omega (arith, near.0, mul-le-mul_right Z s_near.0)) one

        n_small : (t : Bool) (n : ℕ) → Sum false (2 ^ (bias - 1) * 2 ^ bias) true (f.v.units * (Z / 2)) t n → 2 * n ≤ 2 ^ bias * 2 ^ bias
        n_small true n h = omega (arith, h, ww, sz, sz_most)
        n_small false n h = omega (arith, h, ww)

        d_small : 4 * k.v.units ≤ 3 * 2 ^ bias
        d_small = le_of_mul-le-mul_right {k = 2 ^ bias} (omega (arith, n_small k.v.negative rest.n rest.sum, (rounded_of 30 rest.n (k.v.units * 2 ^ bias) rest.round (omega arith)).near.0)) one

        -- z + d·z
        sized : Moderate (sum_size false (Z * 2 ^ bias) (not (beq k.v.negative false)) (k.v.units * Z))
        sized = moderate_next (Z * 2 ^ bias) (k.v.units * Z) (not (beq k.v.negative false)) (omega (arith, mul-le-mul_right (2 ^ bias) z_least)) (omega (arith, mul-le-mul_right (2 ^ bias) z_most)) (omega (arith, mul-le-mul_right Z d_small))

        g : Stepped Plus (plain Z) k.v (plain Z)
        g = stepped Plus (plain Z) k.v (plain Z) sized

        round : RootRound (2 ^ bias) (2 ^ (bias - 1)) T Z g.v.negative g.v.units
        round = record {
          h = Z / 2;
          halved = h_whole;
          sign_s = f.v.negative;
          product = f.v.units;
          line_s = f.line;
          sign = k.v.negative;
          d = k.v.units;
          rest = rest;
          next = subst (λ t. FusedLine 30 (2 ^ bias) false Z t (k.v.units * Z) g.v.negative g.v.units) (keeps k.v.negative) g.line;
        }

        sign : g.v.negative ≡ false
        sign = (convergence.round 50 9 (2 ^ bias) (2 ^ (bias - 1)) T Z one halves (omega (arith, near.0), omega (arith, near.1)) near g.v.negative g.v.units round).sign

        is : root_round (plain T) (plain Z) ≡ Ok (plain g.v.units)
        is = follows (λ s. then (half (plain Z)) (λ h. then (step Minus (plain (fraction 1 1)) s h) (λ d. step Plus (plain Z) d (plain Z)))) (f.is ∙ ap Ok s_plain)
            ∙ follows (λ h. then (step Minus (plain (fraction 1 1)) (plain f.v.units) h) (λ d. step Plus (plain Z) d (plain Z))) h_plain
            ∙ follows (λ d. step Plus (plain Z) d (plain Z)) k.is ∙ g.is ∙ ap (λ s. Ok (record { negative = s; units = g.v.units })) sign

-- ---- the line

module _ (t : ℕ) (rad : IsRadicand t) where
  lo : 2 ^ bias ≤ fraction t 23
  lo = operand_least t rad.least

  hi : fraction t 23 ≤ 4 * 2 ^ bias
  hi = operand_most 4 t rad.most

  -- the start
  start : Stepped Minus (plain (fraction 273 8)) (plain (fraction 39 8)) (plain (fraction t 23))
  start = stepped Minus (plain (fraction 273 8)) (plain (fraction 39 8)) (plain (fraction t 23)) (moderate_next (fraction 273 8 * 2 ^ bias) (fraction 39 8 * fraction t 23) true (omega (arith, ap (λ x. x * 2 ^ bias) (ratio 273))) (omega (arith, ap (λ x. x * 2 ^ bias) (ratio 273))) (omega (arith, ap (λ x. x * 2 ^ bias) (ratio 273), ap (λ x. x * fraction t 23) (ratio 39), mul-le-mul_left (2 ^ bias) hi)))

  start_close : (start.v.negative ≡ false) × Within 50 9 (2 ^ bias * 2 ^ bias * 2 ^ bias) (fraction t 23 * start.v.units * start.v.units)
  start_close = convergence.started (2 ^ bias) (fraction t 23) (fraction 273 8) (fraction 39 8) (pow_pos bias) lo hi (ratio 273) (ratio 39) start.v.negative start.v.units start.line

  -- one round
  once : Next (fraction t 23) lo hi (operand_coarse t) start.v.units
  once = next (fraction t 23) lo hi (operand_coarse t) start.v.units start_close.1 (bits_of start.line (below (2 ^ bias) (fraction t 23) start.v.units (pow_pos bias) hi start_close.1))

  once_close : Within 38 1 (2 ^ bias * 2 ^ bias * 2 ^ bias) (fraction t 23 * once.Z' * once.Z')
  once_close = (convergence.first (2 ^ bias) (fraction t 23) (fraction 273 8) (fraction 39 8) (pow_pos bias) lo hi (ratio 273) (ratio 39) (2 ^ (bias - 1)) halves false start.v.units once.Z' start_close.1 once.round).1

  once_near : Within 50 9 (2 ^ bias * 2 ^ bias * 2 ^ bias) (fraction t 23 * once.Z' * once.Z')
  once_near = (omega (arith, once_close), omega (arith, once_close))

  -- and another
  twice : Next (fraction t 23) lo hi (operand_coarse t) once.Z'
  twice = next (fraction t 23) lo hi (operand_coarse t) once.Z' once_near (once.bits once_near)

  twice_close : Within 1000 1 (2 ^ bias * 2 ^ bias * 2 ^ bias) (fraction t 23 * twice.Z' * twice.Z')
  twice_close = (convergence.second (2 ^ bias) (fraction t 23) (fraction 273 8) (fraction 39 8) (pow_pos bias) lo hi (ratio 273) (ratio 39) (2 ^ (bias - 1)) halves false once.Z' twice.Z' once_close twice.round).1

  twice_near : Within 50 9 (2 ^ bias * 2 ^ bias * 2 ^ bias) (fraction t 23 * twice.Z' * twice.Z')
  twice_near = (omega (arith, twice_close), omega (arith, twice_close))

  line_is : root_line t ≡ Ok (plain twice.Z')
  line_is = follows (λ z. then (root_round (plain (fraction t 23)) z) (root_round (plain (fraction t 23)))) (start.is ∙ ap (λ s. Ok (record { negative = s; units = start.v.units })) start_close.0)
      ∙ follows (root_round (plain (fraction t 23))) once.is ∙ twice.is

  close : RootSeed 400 t twice.Z'
  close = root_seed 400 t twice.Z' (twice.bits twice_near) (record { most = omega (arith, twice_close); least = omega (arith, twice_close) })

  pub roots_are_close : RootSeed 400 t (line_root t)
  unfolding line_root
  roots_are_close = subst (λ o. RootSeed 400 t (units_of o)) (sym line_is) close

  pub root_positive : Positive (root_line t)
  root_positive = subst Positive (sym line_is) (refl, omega (arith, below (2 ^ bias) (fraction t 23) twice.Z' (pow_pos bias) hi twice_near, pow_pos bias))

  pub root_units : (o : Result Value ℕ) → o ≡ root_line t → units_of o ≡ line_root t
  unfolding line_root
  root_units o e = ap units_of e

  -- one round from any claim from 29 up
  refined : (K z : ℕ) → 29 ≤ K → RootSeed K t z → (z' : ℕ) × (root_round (plain (fraction t 23)) (plain z) ≡ Ok (plain z')) × RootSeed 400 t z'
  refined K z big s = (n.Z', n.is, root_seed 400 t n.Z' (n.bits (omega (arith, best.most), omega (arith, best.least))) best)
    where
      w : Within 14 1 (2 ^ bias * 2 ^ bias * 2 ^ bias) (fraction t 23 * z * z)
      w = convergence.within_of K (2 ^ bias) (fraction t 23) z big (inverse_root_of K t z s)

      n : Next (fraction t 23) lo hi (operand_coarse t) z
      n = next (fraction t 23) lo hi (operand_coarse t) z (omega (arith, w.0), omega (arith, w.1)) s.bits

      best : InverseRoot 400 (2 ^ bias) (fraction t 23) n.Z'
      best = (convergence.root_betters K (2 ^ bias) (2 ^ (bias - 1)) (fraction t 23) z (pow_pos bias) halves big (inverse_root_of K t z s) false n.Z' n.round).1

pub root_refines : RootRoundRefines
root_refines K t z rad big s = refined t rad K z big s

-- a seed lies between 1/4 and 2
pub root_size : (t z : ℕ) → IsRadicand t → RootSeed 400 t z → (2 ^ bias ≤ 4 * z) × (z ≤ 2 * 2 ^ bias)
root_size t z rad s = (below (2 ^ bias) (fraction t 23) z (pow_pos bias) (hi t rad) near, above (2 ^ bias) (fraction t 23) z (pow_pos bias) (lo t rad) near)
  where
    w : Within 14 1 (2 ^ bias * 2 ^ bias * 2 ^ bias) (fraction t 23 * z * z)
    w = convergence.within_of 400 (2 ^ bias) (fraction t 23) z (omega arith) (inverse_root_of 400 t z s)

    near : Within 50 9 (2 ^ bias * 2 ^ bias * 2 ^ bias) (fraction t 23 * z * z)
    near = (omega (arith, w.0), omega (arith, w.1))
