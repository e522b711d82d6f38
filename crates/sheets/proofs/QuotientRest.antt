-- What a leaves over b·q1 has at most 30 bits, so that the residual r1 is exact.
use Rattle.std.proofs.Common.{◌≡◌, ℕ, zero, suc, ◌+◌, ◌*◌, ◌^◌, ◌<◌, ◌≤◌, sym, ap, ◌∙◌, inl, inr, mul-le-mul_right, lt_of_mul-lt-mul_right, mul-pos, arith, pow_pos, pow_mono, pow-add}
use native.Mathlib.Nat.{lt_of_mul-lt-mul_left, eq_of_mul-eq-mul_right, pow-succ'}
use Rattle.registers.proofs.Near.{Near}
use Rattle.registers.specs.Laws.{Bits}
use Rattle.registers.proofs.Spacing.{Rounded, order, raise}
use Rattle.sheets.proofs.Correction.{few_bits}
use Rattle.sheets.proofs.QuotientError.{hi_bq, lo_bq}
use Rattle.sheets.proofs.QuotientSide.{choose}

module _ (w W A B Y Q A' α B' β : ℕ)
    (whole : W ≡ 2 ^ w)
    (ha : A * W ≡ A' * 2 ^ α)
    (la : 2 ^ 23 ≤ A')
    (ta : A' < 2 ^ 24)
    (hb : B ≡ B' * 2 ^ β)
    (lb : 2 ^ 23 ≤ B')
    (tb : B' < 2 ^ 24)
    (room : β + 25 ≤ α)
    (inv : Near 50000000 (W * W) (B * Y))
    (rq : Rounded 24 (A * Y) (Q * W))
  where
    one : zero < W
    one = omega (arith, whole, pow_pos w)

    module _ (s a : ℕ) (lo : 2 ^ 24 * B' ≤ a) (hi : a < 2 ^ 25 * B') (is : A * W ≡ a * (2 ^ β * 2 ^ s)) where
      some : zero < 2 ^ β * 2 ^ s
      some = mul-pos (pow_pos β) (pow_pos s)

      size : A * W ≤ 2 ^ 49 * (2 ^ β * 2 ^ s)
      size = omega (arith, mul-le-mul_right {m = a} {n = 2 ^ 49} (2 ^ β * 2 ^ s) (omega arith))

      bq_hi : 2 ^ 24 * 50000000 * (B * Q) ≤ (2 ^ 24 + 1) * 50000001 * (A * W)
      bq_hi = hi_bq W A B Y Q (2 ^ β * 2 ^ s) one some inv rq.near size

      bq_lo : 2 ^ 24 * 50000000 * (A * W) ≤ 2 ^ 24 * 50000000 * (B * Q) + (2 ^ 24 + 50000001) * (A * W)
      bq_lo = lo_bq W A B Y Q (2 ^ β * 2 ^ s) one some inv rq.near size

      q_lo : 2 ^ 23 * 2 ^ s < Q
      q_lo = lt_of_mul-lt-mul_left B (omega (arith, bq_lo, is, mul-le-mul_right (2 ^ β * 2 ^ s) lo, ap (λ x. x * 2 ^ s) hb, mul-le-mul_right {m = 1} {n = B'} (2 ^ β * 2 ^ s) (omega arith), some))

      q_place : (q : ℕ) × (Q ≡ q * 2 ^ s)
      q_place = elim (order (s + w) rq.bits.exp) [ inl h ↦ wide (raise (s + w) rq.bits.exp h) | inr h ↦ absurd (fine (pow_mono h)) ]
        where
          sw : 2 ^ (s + w) ≡ 2 ^ s * W
          sw = pow-add 2 s w ∙ ap (λ x. 2 ^ s * x) (sym whole)

          wide : (t : ℕ) × (2 ^ rq.bits.exp ≡ 2 ^ t * 2 ^ (s + w)) → (q : ℕ) × (Q ≡ q * 2 ^ s)
          wide t = (rq.bits.part * 2 ^ t.0, eq_of_mul-eq-mul_right W one Q (rq.bits.part * 2 ^ t.0 * 2 ^ s) (omega (arith, rq.bits.is, ap (λ x. rq.bits.part * x) t.1, ap (λ x. rq.bits.part * (2 ^ t.0 * x)) sw)))

          fine : 2 ^ suc rq.bits.exp ≤ 2 ^ (s + w) → ⊥
          fine h = omega (arith, one, pow_pos rq.bits.exp, h, pow-succ' 2 rq.bits.exp, sw, mul-le-mul_right W q_lo, rq.bits.is, mul-le-mul_right (2 ^ rq.bits.exp) rq.bits.fits)

      bq_is : (q : ℕ) → Q ≡ q * 2 ^ s → B * Q ≡ B' * q * (2 ^ β * 2 ^ s)
      bq_is q e = omega (arith, ap (λ x. x * Q) hb, ap (λ x. B' * 2 ^ β * x) e)

      -- x and y multiples of the unit, not far apart
      close_by : (x y : ℕ) → x * (2 ^ β * 2 ^ s) < y * (2 ^ β * 2 ^ s) + 50000000 * (2 ^ β * 2 ^ s) → x < y + 2 ^ 30
      close_by x y h = omega (arith, lt_of_mul-lt-mul_right (2 ^ β * 2 ^ s) {m = x} {n = y + 50000000} (omega (arith, h)))

      few_left : (n : ℕ) → n + B * Q ≡ A * W → Bits 30 n
      few_left n e = few_bits β s a (B' * q_place.0) n (omega (arith, is, bq_is q_place.0 q_place.1)) (close_by a (B' * q_place.0) (omega (arith, is, bq_is q_place.0 q_place.1, bq_lo, size, some)))

      few_over : (n : ℕ) → n + A * W ≡ B * Q → Bits 30 n
      few_over n e = few_bits β s (B' * q_place.0) a n (omega (arith, is, bq_is q_place.0 q_place.1)) (close_by (B' * q_place.0) a (omega (arith, is, bq_is q_place.0 q_place.1, bq_hi, size, some)))

    pub left_bits : (n : ℕ) → n + B * Q ≡ A * W → Bits 30 n
    left_bits = let c = choose (A * W) A' α B' β ha la ta lb tb room in few_left c.0 c.1 c.2 c.3 c.4

    pub over_bits : (n : ℕ) → n + A * W ≡ B * Q → Bits 30 n
    over_bits = let c = choose (A * W) A' α B' β ha la ta lb tb room in few_over c.0 c.1 c.2 c.3 c.4
