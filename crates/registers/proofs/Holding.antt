-- A held number over a power: what is kept, and on which side of the middle the rest lies.
use Rattle.std.proofs.Common.{◌≡◌, ℕ, zero, suc, ◌+◌, ◌-◌, ◌*◌, ◌/◌, ◌%◌, ◌^◌, ◌<◌, ◌≤◌, Bool, true, false, ◌⊎◌, sym, refl, ap, ◌∙◌, subst, inl, inr, add_assoc, mul-le-mul_right, mod-lt, mul_assoc, suc-mul, add-mul, mul-pos, zero-mul, arith, pow_pos, pow-add}
use native.Mathlib.Nat.{two-pow-succ}
use lib.Pow.{split}
use Rattle.std.proofs.lemmas.Bool.{ltb-true, ltb-false}
use Rattle.registers.specs.declared.cut.Side.{Side}
use Rattle.registers.specs.declared.cut.Side.TheVariants.{On, Under, Half, Over}
use Rattle.registers.specs.Held.{Held}
use Rattle.registers.specs.Sides.{Sided, Splits, one}

module _ (whole t e n : ℕ) (more : Bool) (h : Held whole e more n) where
  -- the number over 2 ^ (suc t + e)
  cut_parts : n ≡ whole / 2 ^ suc t * 2 ^ (suc t + e) + (whole % 2 ^ suc t * 2 ^ e + h.rest)
  cut_parts =
      h.parts
      ∙ ap (λ (x : ℕ). x * 2 ^ e + h.rest) (sym (split whole (suc t)))
      ∙ ap (λ (x : ℕ). x + h.rest) (add-mul (whole / 2 ^ suc t * 2 ^ suc t) (whole % 2 ^ suc t) (2 ^ e) ∙ ap (λ (x : ℕ). x + whole % 2 ^ suc t * 2 ^ e) (mul_assoc (whole / 2 ^ suc t) (2 ^ suc t) (2 ^ e) ∙ ap (λ (x : ℕ). whole / 2 ^ suc t * x) (sym (pow-add 2 (suc t) e))))
      ∙ add_assoc (whole / 2 ^ suc t * 2 ^ (suc t + e)) (whole % 2 ^ suc t * 2 ^ e) h.rest

  -- half a step of the cut
  unit : 2 ^ (suc t + e) ≡ 2 * (2 ^ t * 2 ^ e)
  unit = pow-add 2 (suc t) e ∙ ap (λ (x : ℕ). x * 2 ^ e) (two-pow-succ t) ∙ rw (add-mul (2 ^ t) (2 ^ t) (2 ^ e)) (omega arith)

  rest_below : (r x : ℕ) → r < x → r * 2 ^ e + h.rest < x * 2 ^ e
  rest_below r x l = omega (arith, h.small, rw suc-mul at (mul-le-mul_right (2 ^ e) l))

  cut_small : whole % 2 ^ suc t * 2 ^ e + h.rest < 2 ^ (suc t + e)
  cut_small = rw (pow-add 2 (suc t) e) (rest_below (whole % 2 ^ suc t) (2 ^ suc t) (mod-lt whole (pow_pos (suc t))))

  side_over : (2 ^ t < whole % 2 ^ suc t) ⊎ ((2 ^ t ≤ whole % 2 ^ suc t) × (more ≡ true)) → Splits (whole / 2 ^ suc t) Over (suc t + e) n
  side_over o = record { rest = whole % 2 ^ suc t * 2 ^ e + h.rest; parts = cut_parts; small = cut_small; told = (omega (arith, beyond, pow_pos (suc t + e)), beyond) }
    where
      beyond : 2 ^ (suc t + e) < 2 * (whole % 2 ^ suc t * 2 ^ e + h.rest)
      beyond = elim o [
        | inl l ↦ omega (arith, unit, pow_pos e, rw suc-mul at (mul-le-mul_right (2 ^ e) l))
        | inr b ↦ omega (arith, unit, mul-le-mul_right (2 ^ e) b.0, ltb-true 0 h.rest (sym h.told ∙ b.1))
      ]

  side_half : whole % 2 ^ suc t ≡ 2 ^ t → more ≡ false → Splits (whole / 2 ^ suc t) Half (suc t + e) n
  side_half l b =
      let q : 2 * (whole % 2 ^ suc t * 2 ^ e + h.rest) ≡ 2 ^ (suc t + e) = omega (arith, unit, ap (λ (x : ℕ). x * 2 ^ e) l, ltb-false 0 h.rest (sym h.told ∙ b)) in
      record { rest = whole % 2 ^ suc t * 2 ^ e + h.rest; parts = cut_parts; small = cut_small; told = (omega (arith, q, pow_pos (suc t + e)), q) }

  side_on : whole % 2 ^ suc t ≡ 0 → more ≡ false → Splits (whole / 2 ^ suc t) On (suc t + e) n
  side_on l b =
      record { rest = whole % 2 ^ suc t * 2 ^ e + h.rest; parts = cut_parts; small = cut_small; told = omega (arith, ap (λ (x : ℕ). x * 2 ^ e) l, zero-mul (2 ^ e), ltb-false 0 h.rest (sym h.told ∙ b)) }

  side_under : whole % 2 ^ suc t < 2 ^ t → (0 < whole % 2 ^ suc t) ⊎ (more ≡ true) → Splits (whole / 2 ^ suc t) Under (suc t + e) n
  side_under l o =
      record { rest = whole % 2 ^ suc t * 2 ^ e + h.rest; parts = cut_parts; small = cut_small; told = (some, omega (arith, unit, rest_below (whole % 2 ^ suc t) (2 ^ t) l)) }
    where
      some : 0 < whole % 2 ^ suc t * 2 ^ e + h.rest
      some = elim o [ inl p ↦ omega (arith, mul-pos p (pow_pos e)) | inr b ↦ omega (arith, ltb-true 0 h.rest (sym h.told ∙ b)) ]

  -- the side told by twice the rest and one for a part more
  abbrev rest_is : ℕ
  rest_is = whole % 2 ^ suc t

  over_by : (b : Bool) → more ≡ b → 4 * 2 ^ t < 2 * (2 * rest_is + one b) → (2 ^ t < rest_is) ⊎ ((2 ^ t ≤ rest_is) × (more ≡ true))
  over_by true e l = inr (omega arith, e)
  over_by false e l = inl (omega arith)

  half_by : (b : Bool) → more ≡ b → 2 * (2 * rest_is + one b) ≡ 4 * 2 ^ t → (rest_is ≡ 2 ^ t) × (more ≡ false)
  half_by true e l = absurd (omega arith)
  half_by false e l = (omega arith, e)

  on_by : (b : Bool) → more ≡ b → 2 * rest_is + one b ≡ 0 → (rest_is ≡ 0) × (more ≡ false)
  on_by true e l = absurd (omega arith)
  on_by false e l = (omega arith, e)

  under_by : (b : Bool) → more ≡ b → 0 < 2 * rest_is + one b → 2 * (2 * rest_is + one b) < 4 * 2 ^ t → (rest_is < 2 ^ t) × ((0 < rest_is) ⊎ (more ≡ true))
  under_by true e p l = (omega arith, inr e)
  under_by false e p l = (omega arith, inl (omega arith))

  by_side : (side : Side) → Sided side (2 * rest_is + one more) (4 * 2 ^ t) → Splits (whole / 2 ^ suc t) side (suc t + e) n
  by_side On g = let p = on_by more refl g in side_on p.0 p.1
  by_side Under g = let p = under_by more refl g.0 g.1 in side_under p.0 p.1
  by_side Half g = let p = half_by more refl g.1 in side_half p.0 p.1
  by_side Over g = side_over (over_by more refl g.1)

-- the same, as the code has it: `half` and `rest` by their values
pub split_side : (whole : ℕ) (more : Bool) (half rest s : ℕ) (side : Side) → 0 < s → half ≡ 2 ^ (s - 1) → rest ≡ whole % 2 ^ s → Sided side (2 * rest + one more) (4 * half) → (e n : ℕ) → Held whole e more n → Splits (whole / 2 ^ s) side (s + e) n
split_side whole more half rest zero side p hh rr g e n h = absurd (omega arith)
split_side whole more half rest (suc t) side p hh rr g e n h =
    let d : suc t - 1 ≡ t = omega arith in
    let x : half ≡ 2 ^ t = hh ∙ ap (λ (x : ℕ). 2 ^ x) d in
    let f : Sided side (2 * (whole % 2 ^ suc t) + one more) (4 * half) = subst (λ (y : ℕ). Sided side (2 * y + one more) (4 * half)) rr g in
    by_side whole t e n more h side (subst (λ (y : ℕ). Sided side (2 * (whole % 2 ^ suc t) + one more) (4 * y)) x f)
