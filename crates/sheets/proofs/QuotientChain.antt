-- The steps of a quotient's sheet one after the other: none is refused, every line is of moderate size, and the closing value lies to every number of at most 25 bits as the exact quotient does.
-- Each section takes the next line with its equation.
use Rattle.std.proofs.Common.{◌≡◌, ℕ, zero, ◌+◌, ◌-◌, ◌*◌, ◌^◌, ◌<◌, ◌≤◌, Bool, true, false, is_ok, Ok, refl, ap, ◌∙◌, subst, inl, inr, mul-le-mul_right, mul-le-mul_left, mul-pos, mul-zero, zero-mul, arith, pow_pos, pow-add}
use Rattle.registers.specs.declared.register.Choice.TheVariants.{Plus, Minus}
use Rattle.registers.specs.Binary32.{beside_whole}
use Rattle.registers.specs.Fused.{fused, fused_sign, fused_size}
use Rattle.registers.specs.Laws.{Bits}
use Rattle.registers.specs.Lines.{Sum}
use Rattle.registers.specs.Range.{bias, bias_is}
use Rattle.registers.specs.Values.{Value}
use Rattle.registers.proofs.Granted.{Sized}
use Rattle.registers.proofs.Near.{Near}
use Rattle.registers.proofs.Signs.{Line, upright, upright_sign}
use Rattle.registers.proofs.Spacing.{Rounded, order}
use Rattle.sources.specs.Seeds.{plain}
use Rattle.sheets.specs.Beside.{SameSide, beside_quotient}
use Rattle.sheets.specs.Operands.{held, one}
use Rattle.sheets.specs.Quotients.{QuotientFacts}
use Rattle.sheets.proofs.Inverse.{Close, e0_small, e1_small, grown_plus, inverse}
use Rattle.sheets.proofs.Placing.{Decoded, placed_units, shape, least, most, units_bits}
use Rattle.sheets.proofs.QuotientEnd as End
use Rattle.sheets.proofs.QuotientError.{hi_bq}
use Rattle.sheets.proofs.Scales.{quotient_beside}
use Rattle.sheets.proofs.Side.{Side}
use Rattle.sheets.proofs.Sizes.{power_bits, shifted_bits, more_bits, residual_size, square_size, grown_size, product_size, reciprocal_range, wider}
use Rattle.sheets.proofs.Stepped.{narrow, wide, moderate, with_plus, of_plus, with_itself, both_plus, exact_sum, line_at, given_at}

-- the operands a and b, and the seed y0, which is close
pub record Start (a b : ℕ) (y0 : Value) : Type 0 where
  pub dividend : Decoded a
  pub divisor : Decoded b
  pub y0_plus : y0.negative ≡ false
  pub y0_bits : Bits 30 y0.units
  pub close_least : 399 * (2 ^ bias * 2 ^ bias) ≤ 400 * ((held b).units * y0.units)
  pub close_most : 400 * ((held b).units * y0.units) ≤ 401 * (2 ^ bias * 2 ^ bias)

pos : zero < 2 ^ bias
pos = pow_pos bias

module _ (a b : ℕ) (y0 : Value) (o : Start a b y0) where
  some_y0 : zero < y0.units
  some_y0 = elim (order y0.units zero) [ inl h ↦ absurd (omega (arith, o.close_least, mul-pos pos pos, mul-le-mul_left (held b).units h)) | inr h ↦ h ]

  close : Close (2 ^ bias) (held b).units y0.units
  close = record { one = pos; some = some_y0; least = o.close_least; most = o.close_most }

  one_bits : Bits 54 (2 ^ bias * 2 ^ bias * (2 ^ bias * 2 ^ bias))
  one_bits = subst (Bits 54) (pow-add 2 (bias + bias) (bias + bias) ∙ ap (λ t. t * t) (pow-add 2 bias bias)) (power_bits 54 (bias + bias + (bias + bias)) (omega arith))

  e0_size : (s : Bool) (n : ℕ) → Sum false (2 ^ bias * 2 ^ bias) true ((held b).units * y0.units) s n → Sized (2 ^ bias) 54 n
  e0_size = residual_size (2 ^ bias) pos 24 30 0 (2 ^ bias * 2 ^ bias) (held b).units y0.units one_bits (shifted_bits 24 bias (units_bits b o.divisor)) (shifted_bits 30 bias o.y0_bits) (omega (arith, o.close_most)) (omega arith) (omega arith)

  pub e0_given : is_ok (fused 30 Minus one (held b) y0) ≡ true
  e0_given = given_at 30 wide Minus one (held b) y0 false true refl (both_plus false y0.negative refl o.y0_plus) 54 (omega arith) e0_size

  y0_range : (2 ^ bias ≤ y0.units * 2 ^ 150) × (y0.units ≤ 2 ^ bias * 2 ^ 150)
  y0_range = reciprocal_range (2 ^ bias) pos (held b).units y0.units (least b o.divisor) (most b o.divisor) (omega (arith, o.close_least)) (omega (arith, o.close_most))

  module _ (e0 : Value) (e0_is : fused 30 Minus one (held b) y0 ≡ Ok e0) where
    l0 : Line 30 (2 ^ bias) false (2 ^ bias) true ((held b).units * y0.units) e0.negative e0.units
    l0 = line_at 30 wide Minus one (held b) y0 e0 false true refl (both_plus false y0.negative refl o.y0_plus) e0_is

    small_0 : 399 * e0.units ≤ 2 ^ bias
    small_0 = e0_small close l0

    e1_size : (s : Bool) (n : ℕ) → Sum e0.negative (e0.units * 2 ^ bias) false (e0.units * e0.units) s n → Sized (2 ^ bias) 56 n
    e1_size s n e = square_size (2 ^ bias) pos l0.n e0.units e0.negative s n (e0_size _ _ l0.sum) l0.line.near small_0 e

    pub e1_given : is_ok (fused 30 Plus e0 e0 e0) ≡ true
    e1_given = given_at 30 wide Plus e0 e0 e0 e0.negative false refl (with_itself e0.negative) 56 (omega arith) e1_size

    module _ (e1 : Value) (e1_is : fused 30 Plus e0 e0 e0 ≡ Ok e1) where
      l1 : Line 30 (2 ^ bias) e0.negative e0.units false (e0.units * e0.units) e1.negative e1.units
      l1 = line_at 30 wide Plus e0 e0 e0 e1 e0.negative false refl (with_itself e0.negative) e1_is

      small_1 : 2 * e1.units ≤ 2 ^ bias
      small_1 = e1_small close l0 l1

      y1_size : (s : Bool) (n : ℕ) → Sum false (y0.units * 2 ^ bias) e1.negative (e1.units * y0.units) s n → Sized (2 ^ bias) 151 n
      y1_size = grown_size (2 ^ bias) pos 150 y0.units e1.units small_1 y0_range.0 y0_range.1 e1.negative

      pub y1_given : is_ok (fused 30 Plus y0 e1 y0) ≡ true
      y1_given = given_at 30 wide Plus y0 e1 y0 false e1.negative o.y0_plus (with_plus e1.negative y0.negative o.y0_plus) 151 (omega arith) y1_size

      module _ (y1 : Value) (y1_is : fused 30 Plus y0 e1 y0 ≡ Ok y1) where
        l2 : Line 30 (2 ^ bias) false y0.units e1.negative (e1.units * y0.units) y1.negative y1.units
        l2 = line_at 30 wide Plus y0 e1 y0 y1 false e1.negative o.y0_plus (with_plus e1.negative y0.negative o.y0_plus) y1_is

        plus_y1 : y1.negative ≡ false
        plus_y1 = grown_plus e1.units pos some_y0 small_1 l2

        inv : Near 50000000 (2 ^ bias * 2 ^ bias) ((held b).units * y1.units)
        inv = inverse close l0 l1 l2

        y1_range : (2 ^ bias ≤ y1.units * 2 ^ 150) × (y1.units ≤ 2 ^ bias * 2 ^ 150)
        y1_range = reciprocal_range (2 ^ bias) pos (held b).units y1.units (least b o.divisor) (most b o.divisor) (omega (arith, inv.1)) (omega (arith, inv.0))

        q1_size : (s : Bool) (n : ℕ) → Sum false (zero * 2 ^ bias) false ((held a).units * y1.units) s n → Sized (2 ^ bias) 299 n
        q1_size = product_size (2 ^ bias) pos 149 150 (held a).units y1.units (least a o.dividend) (omega (arith, most a o.dividend)) y1_range.0 y1_range.1

        pub q1_given : is_ok (fused 24 Plus (plain 0) (held a) y1) ≡ true
        q1_given = given_at 24 narrow Plus (plain 0) (held a) y1 false false refl (of_plus y1.negative plus_y1) 299 (omega arith) q1_size

        module _ (q1 : Value) (q1_is : fused 24 Plus (plain 0) (held a) y1 ≡ Ok q1) where
          l3 : Line 24 (2 ^ bias) false zero false ((held a).units * y1.units) q1.negative q1.units
          l3 = line_at 24 narrow Plus (plain 0) (held a) y1 q1 false false refl (of_plus y1.negative plus_y1) q1_is

          plus_q1 : q1.negative ≡ false
          plus_q1 = upright_sign 24 (2 ^ bias) zero ((held a).units * y1.units) q1.negative q1.units pos l3

          line_q1 : Rounded 24 ((held a).units * y1.units) (q1.units * 2 ^ bias)
          line_q1 = subst (λ x. Rounded 24 x (q1.units * 2 ^ bias)) (omega arith) (upright 24 (2 ^ bias) zero ((held a).units * y1.units) q1.negative q1.units l3)

          some_a : zero < (held a).units * 2 ^ bias
          some_a = omega (arith, least a o.dividend, mul-pos pos pos, mul-le-mul_right (2 ^ bias) (least a o.dividend))

          bq_most : (held b).units * q1.units ≤ 2 * ((held a).units * 2 ^ bias)
          bq_most = omega (arith, hi_bq (2 ^ bias) (held a).units (held b).units y1.units q1.units ((held a).units * 2 ^ bias) pos some_a inv line_q1.near (omega arith))

          a_bits : Bits 48 ((held a).units * 2 ^ bias * (2 ^ bias * 2 ^ bias))
          a_bits = more_bits 24 48 (omega arith) (subst (Bits 24) (ap (λ t. (held a).units * 2 ^ bias * t) (pow-add 2 bias bias)) (shifted_bits 24 (bias + bias) (shifted_bits 24 bias (units_bits a o.dividend))))

          r1_size : (s : Bool) (n : ℕ) → Sum false ((held a).units * 2 ^ bias) true ((held b).units * q1.units) s n → Sized (2 ^ bias) 197 n
          r1_size = residual_size (2 ^ bias) pos 24 24 149 ((held a).units * 2 ^ bias) (held b).units q1.units a_bits (shifted_bits 24 bias (units_bits b o.divisor)) line_q1.bits bq_most (omega (arith, mul-le-mul_right (2 ^ bias) (least a o.dividend))) (omega (arith, mul-le-mul_right (2 ^ bias) (most a o.dividend)))

          pub r1_given : is_ok (fused 30 Minus (held a) (held b) q1) ≡ true
          r1_given = given_at 30 wide Minus (held a) (held b) q1 false true refl (both_plus false q1.negative refl plus_q1) 197 (omega arith) r1_size

          module _ (r1 : Value) (r1_is : fused 30 Minus (held a) (held b) q1 ≡ Ok r1) where
            l4 : Line 30 (2 ^ bias) false (held a).units true ((held b).units * q1.units) r1.negative r1.units
            l4 = line_at 30 wide Minus (held a) (held b) q1 r1 false true refl (both_plus false q1.negative refl plus_q1) r1_is

            fraction : End.Fraction (2 ^ bias) (held a).units (held b).units
            fraction = record { dividend = shape a o.dividend; significand = o.divisor.significand; exponent = o.divisor.exponent + (bias - 172); is = placed_units b o.divisor; least = o.divisor.range.least; most = o.divisor.range.most; room = omega (arith, bias_is, o.divisor.few) }

            sum : Sum false (q1.units * 2 ^ bias) r1.negative (r1.units * y1.units) (fused_sign Plus q1 r1 y1) (fused_size Plus q1 r1 y1)
            sum = exact_sum Plus q1 r1 y1 false r1.negative plus_q1 (with_plus r1.negative y1.negative plus_y1)

            pub facts : QuotientFacts a b y0 e0 e1 y1 q1 r1
            facts = record {
              moderate = (
                wider (2 ^ bias) pos 150 300 (omega arith) y0.units (inr y0_range),
                moderate 30 54 (omega arith) (omega arith) l0.n e0 l0.line.near (e0_size _ _ l0.sum),
                moderate 30 56 (omega arith) (omega arith) l1.n e1 l1.line.near (e1_size _ _ l1.sum),
                moderate 30 151 (omega arith) (omega arith) l2.n y1 l2.line.near (y1_size _ _ l2.sum),
                moderate 24 299 (omega arith) (omega arith) l3.n q1 l3.line.near (q1_size _ _ l3.sum),
                moderate 30 197 (omega arith) (omega arith) l4.n r1 l4.line.near (r1_size _ _ l4.sum),
              );
              r1_exact = End.r1_exact y1.units q1.units fraction inv line_q1 l4;
              plus = End.closing_plus y1.units q1.units fraction inv line_q1 l4 _ _ sum;
            }

            side : (G : ℕ) → Bits 25 G → Side ((held a).units * 2 ^ bias) ((held b).units * G) (fused_size Plus q1 r1 y1) (G * 2 ^ bias)
            side = End.closing_side y1.units q1.units fraction inv line_q1 l4 _ _ sum

            -- the closing value is above zero
            pub closing_some : zero < fused_size Plus q1 r1 y1
            closing_some = omega (arith, zero-mul (2 ^ bias), (side zero (record { part = zero; exp = zero; fits = omega arith; is = refl })).above (omega (arith, mul-zero (held b).units, some_a)))

            -- and lies where the exact quotient does
            pub same_side : SameSide (beside_whole (fused_size Plus q1 r1 y1)) (beside_quotient a b)
            same_side = quotient_beside a b (fused_size Plus q1 r1 y1) side
