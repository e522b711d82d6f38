-- The closing value of a root lies to every number of at most 25 bits as the root of a does: by its places, from the first one of its binade up.
-- The outline is that of QuotientSide, and no lemma stands for both: there a side is of B·G, linear in G, here of G·G, from other places and with other bounds.
use Rattle.std.proofs.Common.{◌≡◌, ℕ, zero, ◌+◌, ◌*◌, ◌^◌, ◌<◌, ◌≤◌, sym, refl, ap, ◌∙◌, subst, inl, inr, mul-le-mul_right, mul-le-mul, mul-lt-mul_of_pos_right, mul-pos, le_of_mul-le-mul_right, arith, pow_pos}
use native.Mathlib.Nat.{le_dest, eq_of_mul-eq-mul_right}
use Rattle.registers.proofs.Near.{Near}
use Rattle.registers.specs.Laws.{Bits}
use Rattle.registers.proofs.Spacing.{Rounded, order}
use Rattle.sheets.proofs.Side.{Side, scaled, on_place}
use Rattle.sheets.proofs.Correction.{Correction}
use Rattle.sheets.proofs.RootGrid.{at_over, at_under}
use Rattle.sheets.proofs.RootNear.{NearRoot, near_place, choose_root}

module _ (w W A H C S E N : ℕ)
    (whole : W ≡ 2 ^ w)
    (inv : Near (2 ^ 27) (W * W * W) (4 * (A * (H * H))))
    (sq : Near (2 ^ 30) (A * W * (W * W)) (C * C))
    (r : Rounded 24 C (S * W))
    (last : Correction W (A * W) (S * S) S H E (E * W) N)
  where
    one : zero < W
    one = omega (arith, whole, pow_pos w)

    -- P is the place of the root's 25th bit
    module _ (s P a k : ℕ) (place : P ≡ 2 ^ s) (is : A * W ≡ a * (P * P)) (four : a ≡ 4 * k) (lo : 2 ^ 48 ≤ a) (hi : a < 2 ^ 50) where
      some : zero < P
      some = omega (arith, place, pow_pos s)

      nr : NearRoot a (P * W) (S * W)
      nr = subst (λ p. NearRoot a (p * W) (S * W)) (sym place) (near_place w W A C S s a whole (subst (λ p. A * W ≡ a * (p * p)) place is) lo hi sq r)

      inv' : Near (2 ^ 27) (W * W * (W * W)) (4 * (a * (P * H * (P * H))))
      inv' = (omega (arith, e, mul-le-mul_right W inv.0), omega (arith, e, mul-le-mul_right W inv.1))
        where
          e : A * W * (H * H) ≡ a * (P * P) * (H * H)
          e = ap (λ x. x * (H * H)) is

      module _ (σ q : ℕ) (σ-is : S * W ≡ σ * (P * W)) (even : σ ≡ 2 * q) (σ-lo : 2 ^ 24 ≤ σ) (σ-hi : σ ≤ 2 ^ 25)
          (no : 4 * a ≤ 4 * (σ * σ) + 9 * σ) (nu : 4 * (σ * σ) ≤ 4 * a + 9 * σ) where
        s_is : S ≡ σ * P
        s_is = eq_of_mul-eq-mul_right W one S (σ * P) (omega (arith, σ-is))

        ss : S * S ≡ σ * σ * (P * P)
        ss = omega (arith, ap (λ x. x * x) s_is)

        over : (g : ℕ) → E * W + S * S ≡ A * W → N ≡ S * W + E * H → Side (A * W) (g * P * (g * P)) N (g * P * W)
        over g l₀ l₁ = go (le_dest (le_of_mul-le-mul_right {m = σ * σ} {n = a} {k = P * P} (omega (arith, ss, is)) (mul-pos some some)))
          where
            go : (e : ℕ) × (σ * σ + e ≡ a) → Side (A * W) (g * P * (g * P)) N (g * P * W)
            go e = scaled a (g * g) (σ * (W * W) + e.0 * (P * H)) (g * (W * W)) _ _ _ _ (P * P) W P
                (at_over (W * W) (P * H) a (mul-pos one one) inv' σ q k e.0 (omega (arith, σ-lo)) σ-hi even four (omega (arith, e.1)) (σ * (W * W) + e.0 * (P * H)) (omega (arith, e.1)) refl g)
                (mul-pos some some) one some is (omega arith) (omega (arith, l₁, ap (λ x. x * W) l₁, ap (λ x. x * (W * W)) s_is, ap (λ x. x * H) ew)) (omega arith)
              where
                ew : E * W ≡ e.0 * (P * P)
                ew = omega (arith, l₀, ss, is, ap (λ x. x * (P * P)) e.1)

        under : (g : ℕ) → E * W + A * W ≡ S * S → N + E * H ≡ S * W → Side (A * W) (g * P * (g * P)) N (g * P * W)
        under g l₀ l₁ = go (le_dest (le_of_mul-le-mul_right {m = a} {n = σ * σ} {k = P * P} (omega (arith, ss, is)) (mul-pos some some)))
          where
            go : (e : ℕ) × (a + e ≡ σ * σ) → Side (A * W) (g * P * (g * P)) N (g * P * W)
            go e = go₂ (le_dest (le_of_mul-le-mul_right {m = e.0 * (P * H)} {n = σ * (W * W)} {k = P} (omega (arith, ap (λ x. x * W) l₁, ap (λ x. x * (W * W)) s_is, ap (λ x. x * H) ew)) some))
              where
                ew : E * W ≡ e.0 * (P * P)
                ew = omega (arith, l₀, ss, is, ap (λ x. x * (P * P)) e.1)

                go₂ : (c : ℕ) × (e.0 * (P * H) + c ≡ σ * (W * W)) → Side (A * W) (g * P * (g * P)) N (g * P * W)
                go₂ c = scaled a (g * g) c.0 (g * (W * W)) _ _ _ _ (P * P) W P
                    (at_under (W * W) (P * H) a (mul-pos one one) inv' σ q k e.0 (omega (arith, σ-lo)) σ-hi even four (omega (arith, e.1)) c.0 (omega (arith, e.1)) (omega (arith, c.1)) g)
                    (mul-pos some some) one some is (omega arith) (omega (arith, ap (λ x. x * P) c.1, ap (λ x. x * W) l₁, ap (λ x. x * (W * W)) s_is, ap (λ x. x * H) ew)) (omega arith)

      at_place : (g : ℕ) → Side (A * W) (g * P * (g * P)) N (g * P * W)
      at_place g = elim last [ inl l ↦ over nr.root nr.half nr.is nr.even nr.least nr.most nr.not_over nr.not_under g l.0 l.1 | inr l ↦ under nr.root nr.half nr.is nr.even nr.least nr.most nr.not_over nr.not_under g l.0 l.1 ]

      -- where the root's binade begins
      at_foot : 2 ^ 24 * P * W ≤ N
      at_foot = elim (order (A * W) (2 ^ 24 * P * (2 ^ 24 * P))) [ inl h ↦ omega (arith, (at_place (2 ^ 24)).equal (omega (arith, h, foot))) | inr h ↦ omega (arith, (at_place (2 ^ 24)).above h) ]
        where
          foot : 2 ^ 24 * P * (2 ^ 24 * P) ≤ A * W
          foot = omega (arith, is, mul-le-mul_right (P * P) lo)

      fine : (G : ℕ) → G < 2 ^ 24 * P → Side (A * W) (G * G) N (G * W)
      fine G h = record { below = λ k₁. absurd (omega (arith, k₁, more)); above = λ _. omega (arith, at_foot, mul-lt-mul_of_pos_right h one); equal = λ k₁. absurd (omega (arith, k₁, more)) }
        where
          more : G * G < A * W
          more = omega (arith, is, mul-le-mul_right (P * P) lo, mul-le-mul h h)

      side_at : (G : ℕ) → Bits 25 G → Side (A * W) (G * G) N (G * W)
      side_at G b = elim (on_place s G b) [
        | inl g ↦ subst (λ x. Side (A * W) (x * x) N (x * W)) (ap (λ p. g.0 * p) place ∙ sym g.1) (at_place g.0)
        | inr h ↦ fine G (subst (λ p. G < 2 ^ 24 * p) (sym place) h)
      ]

    -- at every place
    pub root_side : (A' α : ℕ) → A * W ≡ A' * 2 ^ α → 2 ^ 23 ≤ A' → A' < 2 ^ 24 → 26 ≤ α
        → (G : ℕ) → Bits 25 G → Side (A * W) (G * G) N (G * W)
    root_side A' α ha la ta room = let c = choose_root (A * W) A' α ha la ta room in side_at c.0 (2 ^ c.0) c.1 c.2 refl c.3 c.4 c.5 c.6
