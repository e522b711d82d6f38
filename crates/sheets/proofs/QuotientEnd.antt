-- The end of a quotient's lines: the residual r1 is exact, and the closing value q1 + r1·y1 is above zero and lies to every number of at most 25 bits as a / b does.
-- One is W; a is A units and b is B.
use Rattle.std.proofs.Common.{◌≡◌, ℕ, zero, ◌+◌, ◌*◌, ◌^◌, ◌<◌, ◌≤◌, Bool, true, false, subst, inl, inr, mul-le-mul_right, mul-le-mul_left, mul-pos, le_of_mul-le-mul_right, arith}
use Rattle.registers.specs.Laws.{Bits}
use Rattle.registers.specs.Lines.{Sum}
use Rattle.registers.proofs.Near.{Near}
use Rattle.registers.proofs.Spacing.{Rounded, order}
use Rattle.registers.proofs.Signs.{Line}
use Rattle.sheets.proofs.Shape.{Shape, one_some, some}
use Rattle.sheets.proofs.Side.{Side}
use Rattle.sheets.proofs.Correction.{left_over, sum_plus, correction, rest_exact}
use Rattle.sheets.proofs.QuotientError.{hi_bq}
use Rattle.sheets.proofs.QuotientSide.{quotient_side}
use Rattle.sheets.proofs.QuotientRest.{left_bits, over_bits}

-- a and b, with b as a significand and a power of two too
pub record Fraction (W A B : ℕ) : Type 0 where
  pub dividend : Shape W A
  pub significand : ℕ
  pub exponent : ℕ
  pub is : B ≡ significand * 2 ^ exponent
  pub least : 2 ^ 23 ≤ significand
  pub most : significand < 2 ^ 24
  pub room : exponent + 25 ≤ dividend.exponent

module _ {W A B : ℕ} (Y Q : ℕ)
    (f : Fraction W A B)
    (inv : Near 50000000 (W * W) (B * Y))
    (rq : Rounded 24 (A * Y) (Q * W))
    {s : Bool} {R : ℕ} (line : Line 30 W false A true (B * Q) s R)
  where
    pub r1_exact : Sum false (A * W) true (B * Q) s (R * W)
    r1_exact = rest_exact line
        (left_bits f.dividend.w W A B Y Q f.dividend.significand f.dividend.exponent f.significand f.exponent f.dividend.whole f.dividend.is f.dividend.least f.dividend.most f.is f.least f.most f.room inv rq)
        (over_bits f.dividend.w W A B Y Q f.dividend.significand f.dividend.exponent f.significand f.exponent f.dividend.whole f.dividend.is f.dividend.least f.dividend.most f.is f.least f.most f.room inv rq)

    one : zero < W
    one = one_some f.dividend

    some_aw : zero < A * W
    some_aw = some f.dividend

    some_a : zero < A
    some_a = elim (order A zero) [ inl h ↦ absurd (omega (arith, some_aw, mul-le-mul_right W h)) | inr h ↦ h ]

    some_y : zero < Y
    some_y = elim (order Y zero) [ inl h ↦ absurd (omega (arith, inv.1, mul-pos one one, mul-le-mul_left B h)) | inr h ↦ h ]

    some_q : zero < Q * W
    some_q = omega (arith, rq.near.1, mul-pos some_a some_y)

    -- r1 is little beside a where it is below zero, and so r1·y1 beside q1
    faint : s ≡ true → R * Y < Q * W
    faint e = omega (arith, some_q, rq.near.1, mul-le-mul_right Y small)
      where
        small : 1000 * R ≤ A
        small = le_of_mul-le-mul_right {k = W} (omega (arith, left_over (A * W) (B * Q) (R * W) s e r1_exact, hi_bq W A B Y Q (A * W) one some_aw inv rq.near (omega arith))) one

    module _ (t : Bool) (N : ℕ) (sum : Sum false (Q * W) s (R * Y) t N) where
      pub closing_plus : t ≡ false
      closing_plus = sum_plus (Q * W) (R * Y) s t N some_q faint sum

      pub closing_side : (G : ℕ) → Bits 25 G → Side (A * W) (B * G) N (G * W)
      closing_side = quotient_side f.dividend.w W A B Y Q R N f.dividend.significand f.dividend.exponent f.significand f.exponent f.dividend.whole f.dividend.is f.dividend.least f.dividend.most f.is f.least f.most f.room inv rq
          (correction W (A * W) (B * Q) Q Y s R (R * W) N r1_exact (subst (λ z. Sum false (Q * W) s (R * Y) z N) closing_plus sum))
