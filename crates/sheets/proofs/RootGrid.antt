-- The closing value of a root beside whole numbers, counted at the place of the root's 25th bit: e2·h2 is compared with one place and with two, by squares.
-- An error bound alone would not tell: that the residual is a multiple of four leaves the room that is needed.
use Rattle.std.proofs.Common.{◌≡◌, ℕ, zero, ◌+◌, ◌-◌, ◌*◌, ◌^◌, ◌<◌, ◌≤◌, sym, ap, subst, inl, inr, mul-le-mul_right, mul-le-mul, mul-le-mul_left, mul-pos, le_of_mul-le-mul_right, arith}
use Rattle.registers.proofs.Near.{Near}
use Rattle.registers.proofs.Spacing.{order}
use Rattle.sheets.proofs.Side.{Side}

fours : (e k q : ℕ) → e + 4 * q ≡ 4 * k → e ≡ 4 * (k - q)
fours e k q h = omega arith

fours' : (e k q : ℕ) → e + 4 * k ≡ 4 * q → e ≡ 4 * (q - k)
fours' e k q h = omega arith

up_four : (e f p : ℕ) → e ≡ 4 * f → 4 * p + 1 < e → 4 * p + 4 ≤ e
up_four e f p h k = omega (arith, step)
  where
    step : p < f
    step = omega arith

down_four : (e f p : ℕ) → e ≡ 4 * f → e + 1 < 4 * p → e + 4 ≤ 4 * p
down_four e f p h k = omega (arith, step)
  where
    step : f < p
    step = omega arith

-- V is one, H half the inverse of the root of a
module _ (V H a : ℕ) (one : zero < V) (inv : Near (2 ^ 27) (V * V) (4 * (a * (H * H)))) where
  some_h : zero < H
  some_h = elim (order H zero) [ inl h ↦ absurd (omega (arith, mul-le-mul_left (a * H) h, mul-pos one one)) | inr h ↦ h ]

  -- e h below j, and above one
  short : (e j : ℕ) → e * e * (2 ^ 27 + 1) < 2 ^ 27 * (4 * (a * (j * j))) → e * H < j * V
  short e j h = elim (order (j * V) (e * H)) [ inl k ↦ absurd (no (le_of_mul-le-mul_right {k = V * V} (omega (arith, mul-le-mul_left (4 * a) (mul-le-mul k k), mul-le-mul_left (e * e) inv.0)) (mul-pos one one))) | inr k ↦ k ]
    where
      no : 2 ^ 27 * (4 * (a * (j * j))) ≤ e * e * (2 ^ 27 + 1) → ⊥
      no k = omega arith

  long : (e : ℕ) → 2 ^ 27 * (4 * a) < e * e * (2 ^ 27 - 1) → V < e * H
  long e h = elim (order (e * H) V) [ inl k ↦ absurd (no (le_of_mul-le-mul_right {k = V * V} (omega (arith, mul-le-mul_left (4 * a) (mul-le-mul k k), mul-le-mul_left (e * e) inv.1)) (mul-pos one one))) | inr k ↦ k ]
    where
      no : e * e * (2 ^ 27 - 1) ≤ 2 ^ 27 * (4 * a) → ⊥
      no k = omega arith

  module _ (S p k e : ℕ)
      (lo : 2 ^ 20 ≤ S)
      (hi : S ≤ 2 ^ 25)
      (even : S ≡ 2 * p)
      (four : a ≡ 4 * k)
      (close : 4 * e ≤ 9 * S)
    where
      s² : S * S ≡ 4 * (p * p)
      s² = omega (arith, ap (λ x. x * x) even)

      ss_hi : S * S ≤ 2 ^ 25 * S
      ss_hi = mul-le-mul_right S hi

      ss_lo : 2 ^ 20 * S ≤ S * S
      ss_lo = mul-le-mul_right S lo

      es : 4 * (e * S) ≤ 9 * (S * S)
      es = omega (arith, mul-le-mul_right S close)

      ee : 16 * (e * e) ≤ 81 * (S * S)
      ee = omega (arith, mul-le-mul_right e close, es)

      module _ (c : ℕ) (rest : e + S * S ≡ a) (num : c ≡ S * V + e * H) where
        over_two : c < (S + 2) * V
        over_two = omega (arith, short e 2 (omega (arith, ee, ss_lo)))

        over_one_below : a < (S + 1) * (S + 1) → c < (S + 1) * V
        over_one_below h = omega (arith, short e 1 (omega (arith, mul-le-mul_left e e≤, mul-le-mul_left S e≤, mul-le-mul_left e hi, ss_lo)))
          where
            e≤ : e ≤ 2 * S
            e≤ = omega arith

        over_one_above : (S + 1) * (S + 1) < a → (S + 1) * V < c
        over_one_above h = omega (arith, long e (omega (arith, mul-le-mul_left e e≥, mul-le-mul_left S e≥, ee, ss_hi)))
          where
            e≥ : 2 * S + 4 ≤ e
            e≥ = omega (arith, even, up_four e (k - p * p) p (fours e k (p * p) (omega (arith, s²))) (omega (arith, even)))

        over_one_equal : a ≡ (S + 1) * (S + 1) → ⊥
        over_one_equal h = omega (arith, s², even)

        pub at_over : (g : ℕ) → Side a (g * g) c (g * V)
        at_over g = elim (order S g) [ inl h ↦ elim (order g S) [ inl h₁ ↦ here (omega (arith, h, h₁)) | inr h₁ ↦ elim (order (S + 2) g) [ inl h₂ ↦ high h₂ | inr h₂ ↦ one_up (omega (arith, h₁, h₂)) ] ] | inr h ↦ low h ]
          where
            low : g < S → Side a (g * g) c (g * V)
            low h = record { below = λ k₁. absurd (omega (arith, k₁, mul-le-mul h h)); above = λ _. omega (arith, mul-le-mul_right V h); equal = λ k₁. absurd (omega (arith, k₁, mul-le-mul h h)) }

            here : g ≡ S → Side a (g * g) c (g * V)
            here h = subst (λ x. Side a (x * x) c (x * V)) (sym h) (record { below = λ k₁. absurd (omega (arith, k₁)); above = λ k₁. omega (arith, mul-pos {m = e} (omega (arith, k₁)) some_h); equal = λ k₁. omega (arith, ap (λ x. x * H) (none k₁)) })
              where
                none : a ≡ S * S → e ≡ zero
                none k₁ = omega arith

            high : S + 2 ≤ g → Side a (g * g) c (g * V)
            high h = record { below = λ _. omega (arith, over_two, mul-le-mul_right V h); above = λ k₁. absurd (omega (arith, k₁, mul-le-mul h h)); equal = λ k₁. absurd (omega (arith, k₁, mul-le-mul h h)) }

            one_up : g ≡ S + 1 → Side a (g * g) c (g * V)
            one_up h = subst (λ x. Side a (x * x) c (x * V)) (sym h) (record { below = over_one_below; above = over_one_above; equal = λ k₁. absurd (over_one_equal k₁) })

      module _ (c : ℕ) (rest : e + a ≡ S * S) (num : c + e * H ≡ S * V) where
        under_two : (g : ℕ) → g + 2 ≤ S → g * V < c
        under_two g h = omega (arith, short e 2 (omega (arith, ee, ss_lo)), mul-le-mul_right V h)

        module _ (g : ℕ) (next : g + 1 ≡ S) where
          nn : S * S ≡ g * g + 2 * g + 1
          nn = omega (arith, ap (λ x. x * x) next)

          nv : S * V ≡ g * V + V
          nv = omega (arith, ap (λ x. x * V) next)

          mult : e ≡ 4 * (p * p - k)
          mult = fours' e k (p * p) (omega (arith, s²))

          under_one_above : g * g < a → g * V < c
          under_one_above h = omega (arith, nv, short e 1 (omega (arith, mul-le-mul_left e e≤, mul-le-mul_left S e≤, ee, ss_hi)))
            where
              e≤ : e + 4 ≤ 2 * S
              e≤ = omega (arith, even, nn, down_four e (p * p - k) p mult (omega (arith, even, nn)))

          under_one_below : a < g * g → c < g * V
          under_one_below h = omega (arith, nv, long e (omega (arith, e≥, mul-le-mul_left e e≥, mul-le-mul_left S e≥, mul-le-mul_left {m = e} {n = 2 ^ 28} e (omega arith))))
            where
              e≥ : 2 * S ≤ e
              e≥ = omega (arith, nn)

          under_one_equal : a ≡ g * g → ⊥
          under_one_equal h = omega (arith, nn, mult, even)

          under_one : Side a (g * g) c (g * V)
          under_one = record { below = under_one_below; above = under_one_above; equal = λ h. absurd (under_one_equal h) }

        pub at_under : (g : ℕ) → Side a (g * g) c (g * V)
        at_under g = elim (order S g) [ inl h ↦ elim (order g S) [ inl h₁ ↦ here (omega (arith, h, h₁)) | inr h₁ ↦ high h₁ ] | inr h ↦ elim (order (g + 2) S) [ inl h₂ ↦ low h₂ | inr h₂ ↦ under_one g (omega (arith, h, h₂)) ] ]
          where
            low : g + 2 ≤ S → Side a (g * g) c (g * V)
            low h = record { below = λ k₁. absurd (omega (arith, k₁, more)); above = λ _. under_two g h; equal = λ k₁. absurd (omega (arith, k₁, more)) }
              where
                more : g * g < a
                more = elim (order (g + 3) S) [ inl m ↦ omega (arith, mul-le-mul_right S m, mul-le-mul_right g m) | inr m ↦ omega (arith, m, mul-le-mul_right S h, mul-le-mul_right g h) ]

            here : g ≡ S → Side a (g * g) c (g * V)
            here h = subst (λ x. Side a (x * x) c (x * V)) (sym h) (record { below = λ k₁. omega (arith, mul-pos {m = e} (omega (arith, k₁)) some_h); above = λ k₁. absurd (omega (arith, k₁)); equal = λ k₁. omega (arith, ap (λ x. x * H) (none k₁)) })
              where
                none : a ≡ S * S → e ≡ zero
                none k₁ = omega arith

            high : S < g → Side a (g * g) c (g * V)
            high h = record { below = λ _. omega (arith, mul-le-mul_right V h); above = λ k₁. absurd (omega (arith, k₁, mul-le-mul h h)); equal = λ k₁. absurd (omega (arith, k₁, mul-le-mul h h)) }
