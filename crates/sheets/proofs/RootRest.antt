-- What a leaves over s2² has at most 30 bits, so that the residual e2 is exact.
use Rattle.std.proofs.Common.{◌≡◌, ℕ, zero, ◌+◌, ◌*◌, ◌^◌, ◌<◌, ◌≤◌, ap, mul-pos, arith, pow_pos}
use native.Mathlib.Nat.{eq_of_mul-eq-mul_right}
use Rattle.registers.proofs.Near.{Near}
use Rattle.registers.specs.Laws.{Bits}
use Rattle.registers.proofs.Spacing.{Rounded}
use Rattle.sheets.proofs.Correction.{few_bits}
use Rattle.sheets.proofs.RootNear.{NearRoot, near_place, choose_root}

module _ (w W A C S : ℕ)
    (whole : W ≡ 2 ^ w)
    (sq : Near (2 ^ 30) (A * W * (W * W)) (C * C))
    (r : Rounded 24 C (S * W))
  where
    one : zero < W
    one = omega (arith, whole, pow_pos w)

    module _ (s a k : ℕ) (is : A * W ≡ a * (2 ^ s * 2 ^ s)) (four : a ≡ 4 * k) (lo : 2 ^ 48 ≤ a) (hi : a < 2 ^ 50) where
      near_at : NearRoot a (2 ^ s * W) (S * W)
      near_at = near_place w W A C S s a whole is lo hi sq r

      some : zero < 2 ^ s * 2 ^ s
      some = mul-pos (pow_pos s) (pow_pos s)

      ss : S * S ≡ near_at.root * near_at.root * (2 ^ s * 2 ^ s)
      ss = omega (arith, ap (λ x. x * x) s_is)
        where
          s_is : S ≡ near_at.root * 2 ^ s
          s_is = eq_of_mul-eq-mul_right W one S (near_at.root * 2 ^ s) (omega (arith, near_at.is))

      few_left : (n : ℕ) → n + S * S ≡ A * W → Bits 30 n
      few_left n e = few_bits s s a (near_at.root * near_at.root) n (omega (arith, is, ss)) (omega (arith, near_at.not_over, near_at.most))

      few_over : (n : ℕ) → n + A * W ≡ S * S → Bits 30 n
      few_over n e = few_bits s s (near_at.root * near_at.root) a n (omega (arith, is, ss)) (omega (arith, near_at.not_under, near_at.most))

    module _ (A' α : ℕ) (ha : A * W ≡ A' * 2 ^ α) (la : 2 ^ 23 ≤ A') (ta : A' < 2 ^ 24) (room : 26 ≤ α) where
      pub left_bits : (n : ℕ) → n + S * S ≡ A * W → Bits 30 n
      left_bits = let c = choose_root (A * W) A' α ha la ta room in few_left c.0 c.1 c.2 c.3 c.4 c.5 c.6

      pub over_bits : (n : ℕ) → n + A * W ≡ S * S → Bits 30 n
      over_bits = let c = choose_root (A * W) A' α ha la ta room in few_over c.0 c.1 c.2 c.3 c.4 c.5 c.6
