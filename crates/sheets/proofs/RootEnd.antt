-- The end of a root's lines: the residual e2 is exact, and the closing value s2 + e2·h2 is above zero and lies to every number of at most 25 bits as the root of a does.
-- One is W; a is A units; C is the sum that s2 is the rounding of.
use Rattle.std.proofs.Common.{◌≡◌, ℕ, zero, ◌-◌, ◌*◌, ◌^◌, ◌<◌, ◌≤◌, Bool, true, false, ap, subst, inl, inr, mul-le-mul_right, mul-le-mul, lt_of_mul-lt-mul_right, mul-le-mul_left, mul-pos, le_of_mul-le-mul_right, arith}
use Rattle.registers.specs.Laws.{Bits}
use Rattle.registers.specs.Lines.{Sum}
use Rattle.registers.proofs.Near.{Near}
use Rattle.registers.proofs.Spacing.{Rounded, order}
use Rattle.registers.proofs.Signs.{Line}
use Rattle.sheets.proofs.Shape.{Shape, one_some, some}
use Rattle.sheets.proofs.Side.{Side}
use Rattle.sheets.proofs.Correction.{left_over, sum_plus, correction, rest_exact}
use Rattle.sheets.proofs.RootPair.{some_of}
use Rattle.sheets.proofs.RootSide.{root_side}
use Rattle.sheets.proofs.RootRest.{left_bits, over_bits}

-- of two numbers the less has the less square
sq_lt : (x y : ℕ) → x * x < y * y → x < y
sq_lt x y h = elim (order y x) [ inl k ↦ absurd (omega (arith, mul-le-mul k k)) | inr k ↦ k ]

module _ {W A : ℕ} (C S : ℕ)
    (o : Shape W A)
    (room : 26 ≤ o.exponent)
    (square : Near (2 ^ 30) (A * W * (W * W)) (C * C))
    (r : Rounded 24 C (S * W))
  where
    one : zero < W
    one = one_some o

    some_aw : zero < A * W
    some_aw = some o

    lo_s : (2 ^ 24 - 1) * C ≤ 2 ^ 24 * (S * W)
    lo_s = omega (arith, r.near.1)

    -- s2² is a, up to one part in a thousand
    pub ss_most : 1000 * (S * S) ≤ 1001 * (A * W)
    ss_most = le_of_mul-le-mul_right {k = W * W} (omega (arith, mul-le-mul r.near.0 r.near.0, square.0)) (mul-pos one one)

    ss_least : 999 * (A * W) ≤ 1000 * (S * S)
    ss_least = le_of_mul-le-mul_right {k = W * W} (omega (arith, mul-le-mul lo_s lo_s, square.1, square.0)) (mul-pos one one)

    some_s : zero < S * W
    some_s = mul-pos (some_of S (λ h. omega (arith, ss_least, some_aw, ap (λ x. x * S) h))) one

    module _ {s : Bool} {E : ℕ} (line : Line 30 W false A true (S * S) s E) where
      pub e2_exact : Sum false (A * W) true (S * S) s (E * W)
      e2_exact = rest_exact line
          (left_bits o.w W A C S o.whole square r o.significand o.exponent o.is o.least o.most room)
          (over_bits o.w W A C S o.whole square r o.significand o.exponent o.is o.least o.most room)

      module _ (H : ℕ) (near : Near (2 ^ 27) (W * W * W) (4 * (A * (H * H)))) where
        faint : s ≡ true → E * H < S * W
        faint e = sq_lt (E * H) (S * W) (lt_of_mul-lt-mul_right 4000000 (omega (arith, mul-le-mul_right (W * W) ss_least, mul-pos some_aw (mul-pos one one), mul-le-mul_right (H * H) (mul-le-mul small small), mul-le-mul_left A near.0)))
          where
            small : 900 * E ≤ A
            small = le_of_mul-le-mul_right {k = W} (omega (arith, ss_most, left_over (A * W) (S * S) (E * W) s e e2_exact)) one

        module _ (t : Bool) (N : ℕ) (sum : Sum false (S * W) s (E * H) t N) where
          pub closing_plus : t ≡ false
          closing_plus = sum_plus (S * W) (E * H) s t N some_s faint sum

          pub closing_side : (G : ℕ) → Bits 25 G → Side (A * W) (G * G) N (G * W)
          closing_side = root_side o.w W A H C S E N o.whole near square r
              (correction W (A * W) (S * S) S H s E (E * W) N e2_exact (subst (λ z. Sum false (S * W) s (E * H) z N) closing_plus sum)) o.significand o.exponent o.is o.least o.most room
