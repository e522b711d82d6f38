-- The steps of a root's sheet one after the other: none is refused, every line is of moderate size, and the closing value lies to every number of at most 25 bits as the exact root does.
-- Each section takes the next lines with their equations.
use Rattle.std.proofs.Common.{◌≡◌, ℕ, zero, ◌+◌, ◌-◌, ◌*◌, ◌^◌, ◌<◌, ◌≤◌, Bool, true, false, is_ok, Ok, sym, refl, ap, ◌∙◌, subst, inr, mul-le-mul_right, mul-pos, zero-mul, arith, pow_pos, pow-add}
use Rattle.registers.specs.declared.register.Choice.TheVariants.{Plus, Minus}
use Rattle.registers.specs.Binary32.{beside_whole}
use Rattle.registers.specs.Fused.{fused, fused_sign, fused_size}
use Rattle.registers.specs.Laws.{Bits}
use Rattle.registers.specs.Lines.{Sum}
use Rattle.registers.specs.Range.{bias, bias_is, unit}
use Rattle.registers.specs.Values.{Value}
use Rattle.registers.proofs.Granted.{Sized}
use Rattle.registers.proofs.Near.{Near}
use Rattle.registers.proofs.Signs.{Line, upright_sign}
use Rattle.sources.specs.Seeds.{plain}
use Rattle.sheets.specs.Beside.{SameSide, beside_root}
use Rattle.sheets.specs.Operands.{half, held}
use Rattle.sheets.specs.Roots.{Halved, RootFacts}
use Rattle.sheets.proofs.Inverse.{grown_plus}
use Rattle.sheets.proofs.Placing.{Decoded, least, most, units_bits, shape}
use Rattle.sheets.proofs.Powers.{power_parts}
use Rattle.sheets.proofs.RootEnd as End
use Rattle.sheets.proofs.RootPair as Pair
use Rattle.sheets.proofs.Scales.{root_beside}
use Rattle.sheets.proofs.Side.{Side}
use Rattle.sheets.proofs.Sizes.{power_bits, shifted_bits, more_bits, residual_size, grown_size, product_size, root_range, sum_range, inverse_range, wider}
use Rattle.sheets.proofs.Stepped.{narrow, wide, moderate, with_plus, of_plus, both_plus, exact_sum, line_at, given_at}

-- the operand a, and the seed y0, which is close, with its half h0
pub record Start (a : ℕ) (y0 h0 : Value) : Type 0 where
  pub operand : Decoded a
  pub y0_plus : y0.negative ≡ false
  pub halved : Halved y0 h0
  pub h0_bits : Bits 30 h0.units
  pub close_least : 159201 * (2 ^ bias * 2 ^ bias * 2 ^ bias) ≤ 160000 * ((held a).units * y0.units * y0.units)
  pub close_most : 160000 * ((held a).units * y0.units * y0.units) ≤ 160801 * (2 ^ bias * 2 ^ bias * 2 ^ bias)

pos : zero < 2 ^ bias
pos = pow_pos bias

halves : 2 ^ bias ≡ 2 * 2 ^ (bias - 1)
halves = power_parts bias 1 (bias - 1) (split bias_is)
  where
    split : bias ≡ unit → bias ≡ 1 + (bias - 1)
    split e = omega arith

half_bits : Bits 60 (2 ^ (bias - 1) * 2 ^ bias * (2 ^ bias * 2 ^ bias))
half_bits = subst (Bits 60) (pow-add 2 (bias - 1 + bias) (bias + bias) ∙ by (pow-add 2 (bias - 1) bias) (pow-add 2 bias bias)) (power_bits 60 (bias - 1 + bias + (bias + bias)) (omega arith))
  where
    by : {x y u v : ℕ} → x ≡ u → y ≡ v → x * y ≡ u * v
    by {x} {y} {u} {v} e f = ap (λ t. t * y) e ∙ ap (λ t. u * t) f

-- what 1/2 leaves over s·h, where that is near
half_size : (s h : ℕ) → Bits 30 (s * 2 ^ bias) → Bits 30 (h * 2 ^ bias) → 100 * (2 * (s * h)) ≤ 101 * (2 ^ bias * 2 ^ bias) → (t : Bool) (n : ℕ) → Sum false (2 ^ (bias - 1) * 2 ^ bias) true (s * h) t n → Sized (2 ^ bias) 61 n
half_size s h sb hb near = residual_size (2 ^ bias) pos 30 30 1 (2 ^ (bias - 1) * 2 ^ bias) s h half_bits sb hb (omega (arith, near, square)) (omega (arith, square)) (omega (arith, square))
  where
    square : 2 ^ bias * 2 ^ bias ≡ 2 * (2 ^ (bias - 1) * 2 ^ bias)
    square = omega (arith, ap (λ t. t * 2 ^ bias) halves)

module _ (a : ℕ) (y0 h0 : Value) (o : Start a y0 h0) where
  lo : 159201 * (2 ^ bias * 2 ^ bias * 2 ^ bias) ≤ 160000 * ((held a).units * (2 * h0.units) * (2 * h0.units))
  lo = subst (λ y. 159201 * (2 ^ bias * 2 ^ bias * 2 ^ bias) ≤ 160000 * ((held a).units * y * y)) (sym o.halved.twice) o.close_least

  hi : 160000 * ((held a).units * (2 * h0.units) * (2 * h0.units)) ≤ 160801 * (2 ^ bias * 2 ^ bias * 2 ^ bias)
  hi = subst (λ y. 160000 * ((held a).units * y * y) ≤ 160801 * (2 ^ bias * 2 ^ bias * 2 ^ bias)) (sym o.halved.twice) o.close_most

  close : Pair.Close (2 ^ bias) (2 ^ (bias - 1)) (held a).units h0.units
  close = record { one = pos; halves = halves; least = lo; most = hi }

  a_bits : (k : ℕ) → 24 ≤ k → Bits k ((held a).units * 2 ^ bias * (2 ^ bias * 2 ^ bias))
  a_bits k h = more_bits 24 k h (subst (Bits 24) (ap (λ t. (held a).units * 2 ^ bias * t) (pow-add 2 bias bias)) (shifted_bits 24 (bias + bias) (shifted_bits 24 bias (units_bits a o.operand))))

  -- what a leaves over s², where that is near
  rest_size : (k s : ℕ) → 24 ≤ k + k → Bits k (s * 2 ^ bias) → s * s ≤ 2 * ((held a).units * 2 ^ bias) → (t : Bool) (n : ℕ) → Sum false ((held a).units * 2 ^ bias) true (s * s) t n → Sized (2 ^ bias) (149 + (k + k)) n
  rest_size k s few bits near = residual_size (2 ^ bias) pos k k 149 ((held a).units * 2 ^ bias) s s (a_bits (k + k) few) bits bits near (omega (arith, mul-le-mul_right (2 ^ bias) (least a o.operand))) (omega (arith, mul-le-mul_right (2 ^ bias) (most a o.operand)))

  h0_range : (2 ^ bias ≤ h0.units * 2 ^ 75) × (h0.units ≤ 2 ^ bias * 2 ^ 75)
  h0_range = inverse_range (2 ^ bias) pos (held a).units h0.units (least a o.operand) (most a o.operand) (omega (arith, lo)) (omega (arith, hi))

  y0_range : (2 ^ bias ≤ y0.units * 2 ^ 75) × (y0.units ≤ 2 ^ bias * 2 ^ 75)
  y0_range = inverse_range (2 ^ bias) pos (held a).units y0.units (least a o.operand) (most a o.operand) (omega (arith, o.close_least)) (omega (arith, o.close_most))

  s0_size : (s : Bool) (n : ℕ) → Sum false (zero * 2 ^ bias) false ((held a).units * y0.units) s n → Sized (2 ^ bias) 224 n
  s0_size = product_size (2 ^ bias) pos 149 75 (held a).units y0.units (least a o.operand) (omega (arith, most a o.operand)) y0_range.0 y0_range.1

  pub s0_given : is_ok (fused 30 Plus (plain 0) (held a) y0) ≡ true
  s0_given = given_at 30 wide Plus (plain 0) (held a) y0 false false refl (of_plus y0.negative o.y0_plus) 224 (omega arith) s0_size

  module _ (s0 : Value) (s0_is : fused 30 Plus (plain 0) (held a) y0 ≡ Ok s0) where
    l_s0 : Line 30 (2 ^ bias) false zero false ((held a).units * y0.units) s0.negative s0.units
    l_s0 = line_at 30 wide Plus (plain 0) (held a) y0 s0 false false refl (of_plus y0.negative o.y0_plus) s0_is

    m_s0 : Line 30 (2 ^ bias) false zero false ((held a).units * (2 * h0.units)) s0.negative s0.units
    m_s0 = subst (λ y. Line 30 (2 ^ bias) false zero false ((held a).units * y) s0.negative s0.units) (sym o.halved.twice) l_s0

    plus_s0 : s0.negative ≡ false
    plus_s0 = upright_sign 30 (2 ^ bias) zero ((held a).units * y0.units) s0.negative s0.units pos l_s0

    d0_size : (t : Bool) (n : ℕ) → Sum false (2 ^ (bias - 1) * 2 ^ bias) true (s0.units * h0.units) t n → Sized (2 ^ bias) 61 n
    d0_size = half_size s0.units h0.units l_s0.line.bits (shifted_bits 30 bias o.h0_bits) (Pair.p0_most close m_s0)

    pub d0_given : is_ok (fused 30 Minus half s0 h0) ≡ true
    d0_given = given_at 30 wide Minus half s0 h0 false true refl (both_plus s0.negative h0.negative plus_s0 o.halved.plus) 61 (omega arith) d0_size

    s0_range : (2 ^ bias ≤ s0.units * 2 ^ 75) × (s0.units ≤ 2 ^ bias * 2 ^ 75)
    s0_range =
        let q = Pair.s0_square close m_s0 in
        root_range (2 ^ bias) pos (held a).units s0.units (least a o.operand) (most a o.operand) (omega (arith, q.0)) (omega (arith, q.1))

    module _ (d0 : Value) (d0_is : fused 30 Minus half s0 h0 ≡ Ok d0) where
      l_d0 : Line 30 (2 ^ bias) false (2 ^ (bias - 1)) true (s0.units * h0.units) d0.negative d0.units
      l_d0 = line_at 30 wide Minus half s0 h0 d0 false true refl (both_plus s0.negative h0.negative plus_s0 o.halved.plus) d0_is

      small_0 : 2 * d0.units ≤ 2 ^ bias
      small_0 = Pair.d0_small close m_s0 l_d0

      h1_size : (t : Bool) (n : ℕ) → Sum false (h0.units * 2 ^ bias) d0.negative (d0.units * h0.units) t n → Sized (2 ^ bias) 76 n
      h1_size = grown_size (2 ^ bias) pos 75 h0.units d0.units small_0 h0_range.0 h0_range.1 d0.negative

      pub h1_given : is_ok (fused 30 Plus h0 d0 h0) ≡ true
      h1_given = given_at 30 wide Plus h0 d0 h0 false d0.negative o.halved.plus (with_plus d0.negative h0.negative o.halved.plus) 76 (omega arith) h1_size

      s1_size : (t : Bool) (n : ℕ) → Sum false (s0.units * 2 ^ bias) d0.negative (d0.units * s0.units) t n → Sized (2 ^ bias) 76 n
      s1_size = grown_size (2 ^ bias) pos 75 s0.units d0.units small_0 s0_range.0 s0_range.1 d0.negative

      pub s1_given : is_ok (fused 30 Plus s0 d0 s0) ≡ true
      s1_given = given_at 30 wide Plus s0 d0 s0 false d0.negative plus_s0 (with_plus d0.negative s0.negative plus_s0) 76 (omega arith) s1_size

      module _ (h1 : Value) (h1_is : fused 30 Plus h0 d0 h0 ≡ Ok h1) (s1 : Value) (s1_is : fused 30 Plus s0 d0 s0 ≡ Ok s1) where
        l_h1 : Line 30 (2 ^ bias) false h0.units d0.negative (d0.units * h0.units) h1.negative h1.units
        l_h1 = line_at 30 wide Plus h0 d0 h0 h1 false d0.negative o.halved.plus (with_plus d0.negative h0.negative o.halved.plus) h1_is

        l_s1 : Line 30 (2 ^ bias) false s0.units d0.negative (d0.units * s0.units) s1.negative s1.units
        l_s1 = line_at 30 wide Plus s0 d0 s0 s1 false d0.negative plus_s0 (with_plus d0.negative s0.negative plus_s0) s1_is

        plus_h1 : h1.negative ≡ false
        plus_h1 = grown_plus d0.units pos (Pair.some_h0 close) small_0 l_h1

        plus_s1 : s1.negative ≡ false
        plus_s1 = grown_plus d0.units pos (Pair.some_s0 close m_s0) small_0 l_s1

        pair : Pair.Paired (2 ^ bias) (held a).units h1.units s1.units
        pair = Pair.paired close m_s0 l_d0 l_h1 l_s1

        d1_size : (t : Bool) (n : ℕ) → Sum false (2 ^ (bias - 1) * 2 ^ bias) true (s1.units * h1.units) t n → Sized (2 ^ bias) 61 n
        d1_size = half_size s1.units h1.units l_s1.line.bits l_h1.line.bits (Pair.p1_most pair)

        pub d1_given : is_ok (fused 30 Minus half s1 h1) ≡ true
        d1_given = given_at 30 wide Minus half s1 h1 false true refl (both_plus s1.negative h1.negative plus_s1 plus_h1) 61 (omega arith) d1_size

        e1_size : (t : Bool) (n : ℕ) → Sum false ((held a).units * 2 ^ bias) true (s1.units * s1.units) t n → Sized (2 ^ bias) 209 n
        e1_size = rest_size 30 s1.units (omega arith) l_s1.line.bits (omega (arith, Pair.s1_square pair))

        pub e1_given : is_ok (fused 30 Minus (held a) s1 s1) ≡ true
        e1_given = given_at 30 wide Minus (held a) s1 s1 false true refl (both_plus s1.negative s1.negative plus_s1 plus_s1) 209 (omega arith) e1_size

        h1_range : (2 ^ bias ≤ h1.units * 2 ^ 75) × (h1.units ≤ 2 ^ bias * 2 ^ 75)
        h1_range = inverse_range (2 ^ bias) pos (held a).units h1.units (least a o.operand) (most a o.operand) (omega (arith, pair.least)) (omega (arith, pair.most))

        module _ (d1 : Value) (d1_is : fused 30 Minus half s1 h1 ≡ Ok d1) (e1 : Value) (e1_is : fused 30 Minus (held a) s1 s1 ≡ Ok e1) where
          l_d1 : Line 30 (2 ^ bias) false (2 ^ (bias - 1)) true (s1.units * h1.units) d1.negative d1.units
          l_d1 = line_at 30 wide Minus half s1 h1 d1 false true refl (both_plus s1.negative h1.negative plus_s1 plus_h1) d1_is

          l_e1 : Line 30 (2 ^ bias) false (held a).units true (s1.units * s1.units) e1.negative e1.units
          l_e1 = line_at 30 wide Minus (held a) s1 s1 e1 false true refl (both_plus s1.negative s1.negative plus_s1 plus_s1) e1_is

          small_1 : 2 * d1.units ≤ 2 ^ bias
          small_1 = Pair.d1_small pair halves l_d1

          s2_size : (t : Bool) (n : ℕ) → Sum false (s1.units * 2 ^ bias) e1.negative (e1.units * h1.units) t n → Sized (2 ^ bias) 75 n
          s2_size t n e =
              let q = Pair.sum_square pair l_e1 t n e in
              inr (sum_range (2 ^ bias) pos (held a).units n (least a o.operand) (most a o.operand) (omega (arith, q.1)) (omega (arith, q.0)))

          pub s2_given : is_ok (fused 24 Plus s1 e1 h1) ≡ true
          s2_given = given_at 24 narrow Plus s1 e1 h1 false e1.negative plus_s1 (with_plus e1.negative h1.negative plus_h1) 75 (omega arith) s2_size

          h2_size : (t : Bool) (n : ℕ) → Sum false (h1.units * 2 ^ bias) d1.negative (d1.units * h1.units) t n → Sized (2 ^ bias) 76 n
          h2_size = grown_size (2 ^ bias) pos 75 h1.units d1.units small_1 h1_range.0 h1_range.1 d1.negative

          pub h2_given : is_ok (fused 30 Plus h1 d1 h1) ≡ true
          h2_given = given_at 30 wide Plus h1 d1 h1 false d1.negative plus_h1 (with_plus d1.negative h1.negative plus_h1) 76 (omega arith) h2_size

          module _ (s2 : Value) (s2_is : fused 24 Plus s1 e1 h1 ≡ Ok s2) (h2 : Value) (h2_is : fused 30 Plus h1 d1 h1 ≡ Ok h2) where
            l_s2 : Line 24 (2 ^ bias) false s1.units e1.negative (e1.units * h1.units) s2.negative s2.units
            l_s2 = line_at 24 narrow Plus s1 e1 h1 s2 false e1.negative plus_s1 (with_plus e1.negative h1.negative plus_h1) s2_is

            l_h2 : Line 30 (2 ^ bias) false h1.units d1.negative (d1.units * h1.units) h2.negative h2.units
            l_h2 = line_at 30 wide Plus h1 d1 h1 h2 false d1.negative plus_h1 (with_plus d1.negative h1.negative plus_h1) h2_is

            plus_s2 : s2.negative ≡ false
            plus_s2 = Pair.sum_above pair l_e1 s2.negative l_s2.n l_s2.sum

            plus_h2 : h2.negative ≡ false
            plus_h2 = grown_plus d1.units pos pair.some_h small_1 l_h2

            square : Near (2 ^ 30) ((held a).units * 2 ^ bias * (2 ^ bias * 2 ^ bias)) (l_s2.n * l_s2.n)
            square = Pair.sum_square pair l_e1 s2.negative l_s2.n l_s2.sum

            room : 26 ≤ o.operand.exponent + (bias - 172) + bias
            room = omega (arith, bias_is)

            e2_size : (t : Bool) (n : ℕ) → Sum false ((held a).units * 2 ^ bias) true (s2.units * s2.units) t n → Sized (2 ^ bias) 197 n
            e2_size = rest_size 24 s2.units (omega arith) l_s2.line.bits (omega (arith, End.ss_most l_s2.n s2.units (shape a o.operand) room square l_s2.line))

            pub e2_given : is_ok (fused 30 Minus (held a) s2 s2) ≡ true
            e2_given = given_at 30 wide Minus (held a) s2 s2 false true refl (both_plus s2.negative s2.negative plus_s2 plus_s2) 197 (omega arith) e2_size

            module _ (e2 : Value) (e2_is : fused 30 Minus (held a) s2 s2 ≡ Ok e2) where
              l_e2 : Line 30 (2 ^ bias) false (held a).units true (s2.units * s2.units) e2.negative e2.units
              l_e2 = line_at 30 wide Minus (held a) s2 s2 e2 false true refl (both_plus s2.negative s2.negative plus_s2 plus_s2) e2_is

              h2_near : Near (2 ^ 27) (2 ^ bias * 2 ^ bias * 2 ^ bias) (4 * ((held a).units * (h2.units * h2.units)))
              h2_near = Pair.h2_near pair halves l_d1 l_h2

              sum : Sum false (s2.units * 2 ^ bias) e2.negative (e2.units * h2.units) (fused_sign Plus s2 e2 h2) (fused_size Plus s2 e2 h2)
              sum = exact_sum Plus s2 e2 h2 false e2.negative plus_s2 (with_plus e2.negative h2.negative plus_h2)

              pub facts : RootFacts a y0 s0 h0 d0 h1 s1 d1 e1 s2 h2 e2
              facts = record {
                moderate = (
                  wider (2 ^ bias) pos 75 300 (omega arith) y0.units (inr y0_range),
                  moderate 30 224 (omega arith) (omega arith) l_s0.n s0 l_s0.line.near (s0_size _ _ l_s0.sum),
                  wider (2 ^ bias) pos 75 300 (omega arith) h0.units (inr h0_range),
                  moderate 30 61 (omega arith) (omega arith) l_d0.n d0 l_d0.line.near (d0_size _ _ l_d0.sum),
                  moderate 30 76 (omega arith) (omega arith) l_h1.n h1 l_h1.line.near (h1_size _ _ l_h1.sum),
                  moderate 30 76 (omega arith) (omega arith) l_s1.n s1 l_s1.line.near (s1_size _ _ l_s1.sum),
                  moderate 30 61 (omega arith) (omega arith) l_d1.n d1 l_d1.line.near (d1_size _ _ l_d1.sum),
                  moderate 30 209 (omega arith) (omega arith) l_e1.n e1 l_e1.line.near (e1_size _ _ l_e1.sum),
                  moderate 24 75 (omega arith) (omega arith) l_s2.n s2 l_s2.line.near (s2_size _ _ l_s2.sum),
                  moderate 30 76 (omega arith) (omega arith) l_h2.n h2 l_h2.line.near (h2_size _ _ l_h2.sum),
                  moderate 30 197 (omega arith) (omega arith) l_e2.n e2 l_e2.line.near (e2_size _ _ l_e2.sum),
                );
                e2_exact = End.e2_exact l_s2.n s2.units (shape a o.operand) room square l_s2.line l_e2;
                plus = End.closing_plus l_s2.n s2.units (shape a o.operand) room square l_s2.line l_e2 h2.units h2_near _ _ sum;
              }

              side : (G : ℕ) → Bits 25 G → Side ((held a).units * 2 ^ bias) (G * G) (fused_size Plus s2 e2 h2) (G * 2 ^ bias)
              side = End.closing_side l_s2.n s2.units (shape a o.operand) room square l_s2.line l_e2 h2.units h2_near _ _ sum

              -- the closing value is above zero
              pub closing_some : zero < fused_size Plus s2 e2 h2
              closing_some = omega (arith, zero-mul (2 ^ bias), (side zero (record { part = zero; exp = zero; fits = omega arith; is = refl })).above (omega (arith, mul-pos pair.some_a pos)))

              -- and lies where the exact root does
              pub same_side : SameSide (beside_whole (fused_size Plus s2 e2 h2)) (beside_root a)
              same_side = root_beside a (fused_size Plus s2 e2 h2) side
