-- The closing value of a quotient lies to every number of at most 25 bits as a / b does: by its places from the first one of its binade up, and below that since both lie above.
use Rattle.std.proofs.Common.{◌≡◌, ℕ, zero, suc, ◌+◌, ◌-◌, ◌*◌, ◌/◌, ◌^◌, ◌<◌, ◌≤◌, sym, refl, ap, ◌∙◌, subst, inl, inr, mul-le-mul_right, mul-lt-mul_of_pos_right, mul-pos, arith, pow_pos, pow-add}
use native.Mathlib.Nat.{mul-lt-mul_of_pos_left, pow-succ'}
use Rattle.registers.proofs.Near.{Near}
use Rattle.registers.specs.Laws.{Bits}
use Rattle.registers.proofs.Spacing.{Rounded, order}
use Rattle.sheets.proofs.Side.{Side, on_place}
use Rattle.sheets.proofs.Correction.{Correction}
use Rattle.sheets.proofs.Powers.{power_parts}
use Rattle.sheets.proofs.QuotientPlaces.{hit, at_below, at_above, nothing, even_part}

-- the place of the quotient's 25th bit
pub choose : (X A' α B' β : ℕ) → X ≡ A' * 2 ^ α → 2 ^ 23 ≤ A' → A' < 2 ^ 24 → 2 ^ 23 ≤ B' → B' < 2 ^ 24 → β + 25 ≤ α
    → (s : ℕ) × (a : ℕ) × (2 ^ 24 * B' ≤ a) × (a < 2 ^ 25 * B') × (X ≡ a * (2 ^ β * 2 ^ s))
choose X A' α B' β ha la ta lb tb room = elim (order B' A') [ inl h ↦ (α - (β + 24), A' * 2 ^ 24, omega (arith, h), omega arith, split 24 (omega arith)) | inr h ↦ (α - (β + 25), A' * 2 ^ 25, omega arith, omega (arith, h), split 25 (omega arith)) ]
  where
    split : (k : ℕ) → β + k ≤ α → X ≡ A' * 2 ^ k * (2 ^ β * 2 ^ (α - (β + k)))
    split k h = omega (arith, ha, ap (λ x. A' * x) (power_parts α (β + k) (α - (β + k)) sum), ap (λ x. A' * (x * 2 ^ (α - (β + k)))) (pow-add 2 β k))
      where
        sum : α ≡ β + k + (α - (β + k))
        sum = omega arith

-- one is W = 2^w; a is A' 2^α over W², b is B' 2^β over W
module _ (w W A B Y Q R N A' α B' β : ℕ)
    (whole : W ≡ 2 ^ w)
    (ha : A * W ≡ A' * 2 ^ α)
    (la : 2 ^ 23 ≤ A')
    (ta : A' < 2 ^ 24)
    (hb : B ≡ B' * 2 ^ β)
    (lb : 2 ^ 23 ≤ B')
    (tb : B' < 2 ^ 24)
    (room : β + 25 ≤ α)
    (inv : Near 50000000 (W * W) (B * Y))
    (rq : Rounded 24 (A * Y) (Q * W))
    (last : Correction W (A * W) (B * Q) Q Y R (R * W) N)
  where
    one : zero < W
    one = omega (arith, whole, pow_pos w)

    -- a quotient that is a number of 25 bits is met
    slim : (G : ℕ) → Bits 25 G → A * W ≡ B * G → Bits 24 (G * W)
    slim G b e = elim (order (2 ^ 24) b.part) [ inl h ↦ two h | inr h ↦ record { part = b.part; exp = b.exp + w; fits = h; is = plain } ]
      where
        plain : G * W ≡ b.part * 2 ^ (b.exp + w)
        plain = omega (arith, ap (λ x. x * W) b.is, ap (λ x. b.part * 2 ^ b.exp * x) whole, ap (λ x. b.part * x) (pow-add 2 b.exp w))

        next : 2 ^ (suc b.exp + w) ≡ 2 * 2 ^ (b.exp + w)
        next = pow-add 2 (suc b.exp) w ∙ omega (arith, ap (λ x. x * 2 ^ w) (pow-succ' 2 b.exp), pow-add 2 b.exp w)

        two : 2 ^ 24 ≤ b.part → Bits 24 (G * W)
        two h = record { part = b.part / 2; exp = suc b.exp + w; fits = omega (arith, b.fits); is = omega (arith, plain, ap (λ x. b.part / 2 * x) next, ap (λ x. x * 2 ^ (b.exp + w)) even) }
          where
            even : b.part ≡ 2 * (b.part / 2)
            even = even_part A' α B' β b.part b.exp ta lb tb (omega (arith, ha, e, ap (λ x. x * G) hb, ap (λ x. B' * 2 ^ β * x) b.is)) h

    met : (G : ℕ) → Bits 25 G → A * W ≡ B * G → N ≡ G * W
    met G b e = let q = hit W A B Y Q G one inv e rq (slim G b e) in nothing W A B Y Q R N one last (omega (arith, e, ap (λ x. B * x) q)) ∙ ap (λ x. x * W) q

    -- s is the exponent of the quotient's 25th bit
    module _ (s a : ℕ) (lo : 2 ^ 24 * B' ≤ a) (hi : a < 2 ^ 25 * B') (is : A * W ≡ a * (2 ^ β * 2 ^ s)) where
      below_at : (g : ℕ) → A * W < B * (g * 2 ^ s) → N < g * 2 ^ s * W
      below_at = at_below W A B Y Q R N B' (2 ^ β) (2 ^ s) a one (pow_pos β) (pow_pos s) hb is tb hi inv rq.near last

      above_at : (g : ℕ) → B * (g * 2 ^ s) < A * W → g * 2 ^ s * W < N
      above_at = at_above W A B Y Q R N B' (2 ^ β) (2 ^ s) a one (pow_pos β) (pow_pos s) hb is tb hi inv rq.near last

      -- where the quotient's binade begins
      foot : B * (2 ^ 24 * 2 ^ s) ≤ A * W
      foot = omega (arith, is, mul-le-mul_right (2 ^ β * 2 ^ s) lo, ap (λ x. x * 2 ^ s) hb)

      at_foot : 2 ^ 24 * 2 ^ s * W ≤ N
      at_foot = elim (order (A * W) (B * (2 ^ 24 * 2 ^ s))) [
        | inl h ↦ omega (arith, met (2 ^ 24 * 2 ^ s) (record { part = 2 ^ 24; exp = s; fits = omega arith; is = refl }) (omega (arith, h, foot)))
        | inr h ↦ omega (arith, above_at (2 ^ 24) h)
      ]

      coarse : (G : ℕ) → Bits 25 G → (g : ℕ) → G ≡ g * 2 ^ s → Side (A * W) (B * G) N (G * W)
      coarse G b g e = record { below = λ h. subst (λ x. N < x * W) (sym e) (below_at g (subst (λ x. A * W < B * x) e h)); above = λ h. subst (λ x. x * W < N) (sym e) (above_at g (subst (λ x. B * x < A * W) e h)); equal = met G b }

      fine : (G : ℕ) → G < 2 ^ 24 * 2 ^ s → Side (A * W) (B * G) N (G * W)
      fine G h = record { below = λ k. absurd (omega (arith, k, more)); above = λ k. omega (arith, at_foot, mul-lt-mul_of_pos_right h one); equal = λ k. absurd (omega (arith, k, more)) }
        where
          more : B * G < A * W
          more = omega (arith, foot, mul-lt-mul_of_pos_left {k = B} h (omega (arith, hb, mul-pos {m = B'} (omega arith) (pow_pos β))))

      side_at : (G : ℕ) → Bits 25 G → Side (A * W) (B * G) N (G * W)
      side_at G b = elim (on_place s G b) [ inl g ↦ coarse G b g.0 g.1 | inr h ↦ fine G h ]

    pub quotient_side : (G : ℕ) → Bits 25 G → Side (A * W) (B * G) N (G * W)
    quotient_side = let c = choose (A * W) A' α B' β ha la ta lb tb room in side_at c.0 c.1 c.2 c.3 c.4
