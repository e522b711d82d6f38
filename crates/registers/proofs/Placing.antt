-- A held number among the patterns of binary32.
use Rattle.std.proofs.Common.{◌≡◌, ℕ, suc, ◌+◌, ◌-◌, ◌*◌, ◌/◌, ◌^◌, ◌<◌, ◌≤◌, Bool, true, false, cond, not, ◌&&◌, T, ltb, leb, ◌⊎◌, sym, refl, ap, ◌∙◌, subst, inl, inr, le_trans, lt_of_lt_of_le, mul-le-mul_right, mul_assoc, suc-mul, add-mul, add_comm, lt_of_mul-lt-mul_right, mul-le-mul_left, mul-pos, one-mul, zero-add, zero-mul, mul_left_comm, arith, pow_pos, pow_mono, pow-add, shl_lt, shr_lt}
use Prim.Native.Nat.{compare, Ordering}
use native.Mathlib.Nat.{two-pow-succ}
use lib.Dec.{is_le}
use lib.Ieee.{size}
use lib.Ieee.Digits.{size-lt, size-le}
use Rattle.std.proofs.lemmas.Bool.{ltb-false, le-leb, lt-ltb, le-ltb, cases_Bool}
use Rattle.registers.specs.declared.mode.Way.{Way}
use Rattle.registers.specs.declared.cut.Side.{Side}
use Rattle.registers.specs.declared.cut.Side.TheVariants.{On, Under, Half, Over}
use Rattle.registers.specs.declared.exact.Nonzero.{Nonzero}
use Rattle.registers.specs.Held.{Held, Holds}
use Rattle.registers.specs.Sides.{Sided, Splits, lower_of, middle_of}
use Rattle.registers.specs.Range.{bias, bias_is, unit}
use Rattle.registers.specs.Binary32.{magnitude, grid32, grid_wide, seek, place_on, rounding, from_low, goes_up, chosen, is_tiny, concluded, beyond, beside_whole, is_odd}
use Rattle.registers.specs.Rightly.{Ordered}
use Rattle.registers.proofs.Compared.{cmp_lt, cmp_eq, cmp_gt}
use Rattle.registers.proofs.Orders.{whole_ordered}
use Rattle.registers.proofs.Rightness.{le_down, not_le_up, not_le_gt}
use Rattle.registers.proofs.Fitting.{size_full}
use Rattle.registers.proofs.Grids.{magnitude_at, magnitude_step, grid_wide_rises, rising_mono, seek_finds, seek_reaches, seek_below}

-- where the lower neighbour L and the middle lie beside n
orders_lower : (side : Side) (L r half a n : ℕ) → n ≡ L + r → Sided side r (2 * half) → a ≡ L → compare a n ≡ lower_of side
orders_lower On L r half a n e t d = cmp_eq a n (omega (arith, t))
orders_lower Under L r half a n e t d = cmp_lt a n (omega (arith, t.0))
orders_lower Half L r half a n e t d = cmp_lt a n (omega (arith, t.0))
orders_lower Over L r half a n e t d = cmp_lt a n (omega (arith, t.0))

orders_middle : (side : Side) (L r half b n : ℕ) → 0 < half → n ≡ L + r → Sided side r (2 * half) → b ≡ L + half → compare b n ≡ middle_of side
orders_middle On L r half b n p e t d = cmp_gt b n (omega (arith, t))
orders_middle Under L r half b n p e t d = cmp_gt b n (omega (arith, t.1))
orders_middle Half L r half b n p e t d = cmp_eq b n (omega (arith, t.1))
orders_middle Over L r half b n p e t d = cmp_lt b n (omega (arith, t.1))

-- ---- a held number between powers

module _ (whole e n : ℕ) (more : Bool) (h : Held whole e more n) where
  held_below : n < 2 ^ (e + size whole)
  held_below =
      let a : 2 ^ (e + size whole) ≡ 2 ^ size whole * 2 ^ e = ap (λ (x : ℕ). 2 ^ x) (add_comm e (size whole)) ∙ pow-add 2 (size whole) e in
      omega (arith, a, h.parts, h.small, rw suc-mul at (mul-le-mul_right (2 ^ e) (size-lt whole)))

  held_full : 0 < whole → 2 ^ (e + size whole) ≤ 2 * n
  held_full p =
      let a : 2 ^ (e + size whole) ≡ 2 ^ size whole * 2 ^ e = ap (λ (x : ℕ). 2 ^ x) (add_comm e (size whole)) ∙ pow-add 2 (size whole) e in
      let c : 2 ^ size whole * 2 ^ e ≤ 2 * whole * 2 ^ e = mul-le-mul_right (2 ^ e) (size_full whole p) in
      omega (arith, a, c, h.parts, mul_assoc 2 whole (2 ^ e))

  -- the three cases of the place
  pub place_on_lem : (g : ℕ) → g ≤ e → e + size whole ≤ g + 24 → (T more → 2 ^ 32 ≤ whole) → Splits (whole * 2 ^ (e - g)) On g n
  place_on_lem g l few big = go more refl
    where
      d : (e - g) + g ≡ e
      d = omega arith

      up : whole * 2 ^ e ≡ whole * 2 ^ (e - g) * 2 ^ g
      up = ap (λ (x : ℕ). whole * 2 ^ x) (sym d) ∙ ap (λ (x : ℕ). whole * x) (pow-add 2 (e - g) g) ∙ sym (mul_assoc whole (2 ^ (e - g)) (2 ^ g))

      go : (b : Bool) → more ≡ b → Splits (whole * 2 ^ (e - g)) On g n
      go true t =
          let m : 2 ^ 32 ≤ whole = big (subst T (sym t) tt) in
          let k : size whole ≤ 24 = omega arith in
          let s : whole < 2 ^ 24 = lt_of_lt_of_le (size-lt whole) (pow_mono k) in
          absurd (omega arith)
      go false t =
          let z : h.rest ≡ 0 = omega (arith, ltb-false 0 h.rest (sym h.told ∙ t)) in
          record { rest = 0; parts = omega (arith, h.parts, up, z); small = pow_pos g; told = refl }

  pub place_under : (g : ℕ) → 128 ≤ g - e → whole < 2 ^ 124 → 0 < whole → Splits 0 Under g n
  place_under g l few some =
      let k : size whole ≤ 124 = size-le whole 124 few in
      let b : suc (e + size whole) ≤ g = omega arith in
      let m : 2 ^ suc (e + size whole) ≤ 2 ^ g = pow_mono b in
      let t : 2 * n < 2 ^ g = omega (arith, held_below, m, two-pow-succ (e + size whole)) in
      record { rest = n; parts = sym (ap (λ (x : ℕ). x + n) (zero-mul (2 ^ g)) ∙ zero-add n); small = omega arith; told = (omega (arith, held_full some, pow_pos (e + size whole)), t) }

-- a value other than zero beside the power that its `top` names
pub top_full : (x : Nonzero) (n : ℕ) → Holds x.exact n → 2 ^ x.top ≤ 2 * n
top_full x n h = subst (λ (t : ℕ). 2 ^ t ≤ 2 * n) (sym x.topped) (held_full x.exact.whole x.exact.exponent n x.exact.more h x.some)

pub top_below : (x : Nonzero) (n : ℕ) → Holds x.exact n → n < 2 ^ x.top
top_below x n h = subst (λ (t : ℕ). n < 2 ^ t) (sym x.topped) (held_below x.exact.whole x.exact.exponent n x.exact.more h)

pub place_few : (whole e g : ℕ) → e + size whole ≤ g + 24 → e < g → whole / 2 ^ (g - e) < 2 ^ 24
place_few whole e g l m =
    let k : size whole ≤ 24 + (g - e) = omega arith in
    shr_lt 24 (g - e) (lt_of_lt_of_le (size-lt whole) (pow_mono k))

pub place_raised : (whole e g : ℕ) → e + size whole ≤ g + 24 → g ≤ e → whole * 2 ^ (e - g) < 2 ^ 24
place_raised whole e g l m =
    let k : size whole + (e - g) ≤ 24 = omega arith in
    let a : whole * 2 ^ (e - g) < 2 ^ (size whole + (e - g)) = shl_lt (size whole) (e - g) (size-lt whole) in
    lt_of_lt_of_le a (pow_mono k)

-- ---- units

-- a unit of 2 ^ -151 is 2 ^ 173 units of 2 ^ -324
unit_of : (w x : ℕ) → w ≡ x * 2 ^ 173 → w * 2 ^ (2 * bias - 324) ≡ x * 2 ^ (2 * bias - 151)
unit_of w x e =
    let d : 2 * bias - 151 ≡ 173 + (2 * bias - 324) = omega (arith, bias_is) in
    ap (λ (y : ℕ). y * 2 ^ (2 * bias - 324)) e ∙ mul_assoc x (2 ^ 173) (2 ^ (2 * bias - 324)) ∙ ap (λ (y : ℕ). x * y) (sym (pow-add 2 173 (2 * bias - 324)) ∙ ap (λ (y : ℕ). 2 ^ y) (sym d))

-- ---- smallness, by the two numbers of 24 bits below and at 2 ^ -126

abbrev small : Way → ℕ → Bool
small way n = not (is_le (compare (33554432 * 2 ^ (2 * bias - 151)) n)) && not (goes_up way (compare (33554430 * 2 ^ (2 * bias - 151)) n) (compare (33554431 * 2 ^ (2 * bias - 151)) n) true)

module _ (way : Way) (n : ℕ) where
  -- 2 ^ 25 units
  edge_is : 2 ^ (25 + (2 * bias - 151)) ≡ 33554432 * 2 ^ (2 * bias - 151)
  edge_is = pow-add 2 25 (2 * bias - 151)

  small_not : (t : ℕ) → 2 * unit - 126 < t → 2 ^ t ≤ 2 * n → false ≡ small way n
  small_not t l f =
      let k : suc (25 + (2 * bias - 151)) ≤ t = omega (arith, bias_is) in
      let a : 2 ^ suc (25 + (2 * bias - 151)) ≤ 2 ^ t = pow_mono k in
      let le : 33554432 * 2 ^ (2 * bias - 151) ≤ n = omega (arith, a, two-pow-succ (25 + (2 * bias - 151)), edge_is, f) in
      sym (ap (λ (x : Bool). not x && not (goes_up way (compare (33554430 * 2 ^ (2 * bias - 151)) n) (compare (33554431 * 2 ^ (2 * bias - 151)) n) true)) (le-leb (33554432 * 2 ^ (2 * bias - 151)) n le))

  below_edge : (t : ℕ) → t ≤ 2 * unit - 126 → n < 2 ^ t → compare (33554432 * 2 ^ (2 * bias - 151)) n ≡ Ordering.gt
  below_edge t l f =
      let k : t ≤ 25 + (2 * bias - 151) = omega (arith, bias_is) in
      let a : 2 ^ t ≤ 2 ^ (25 + (2 * bias - 151)) = pow_mono k in
      cmp_gt (33554432 * 2 ^ (2 * bias - 151)) n (omega (arith, a, edge_is, f))

  by_edge : (t : ℕ) → t ≤ 2 * unit - 126 → n < 2 ^ t → (u : Bool) → goes_up way (compare (33554430 * 2 ^ (2 * bias - 151)) n) (compare (33554431 * 2 ^ (2 * bias - 151)) n) true ≡ u → not u ≡ small way n
  by_edge t l f u e = sym (ap (λ (o : Ordering). not (is_le o) && not (goes_up way (compare (33554430 * 2 ^ (2 * bias - 151)) n) (compare (33554431 * 2 ^ (2 * bias - 151)) n) true)) (below_edge t l f) ∙ ap not e)

  module _ (M g : ℕ) (side : Side) (h : Splits M side g n) (g_is : g ≡ suc (2 * bias - 151)) where
    unit_is : 2 ^ g ≡ 2 * 2 ^ (2 * bias - 151)
    unit_is = ap (λ (x : ℕ). 2 ^ x) g_is ∙ two-pow-succ (2 * bias - 151) ∙ omega arith

    small_yes : (t : ℕ) → t ≤ 2 * unit - 126 → n < 2 ^ t → M < 16777215 → true ≡ small way n
    small_yes t l f m =
        let w : suc M * 2 ^ g ≤ 16777215 * 2 ^ g = mul-le-mul_right (2 ^ g) m in
        let gt : n < 33554430 * 2 ^ (2 * bias - 151) = omega (arith, h.parts, h.small, unit_is, w, suc-mul M (2 ^ g)) in
        by_edge t l f false (ap (λ (o : Ordering). goes_up way o (compare (33554431 * 2 ^ (2 * bias - 151)) n) true) (cmp_gt (33554430 * 2 ^ (2 * bias - 151)) n gt))

    small_edge : (t : ℕ) → t ≤ 2 * unit - 126 → n < 2 ^ t → M ≡ 16777215 → (u : Bool) → u ≡ goes_up way (lower_of side) (middle_of side) true → not u ≡ small way n
    small_edge t l f m u e =
        let L : M * 2 ^ g ≡ 33554430 * 2 ^ (2 * bias - 151) = ap (λ (x : ℕ). x * 2 ^ g) m ∙ omega (arith, unit_is) in
        let told : Sided side h.rest (2 * 2 ^ (2 * bias - 151)) = subst (Sided side h.rest) unit_is h.told in
        let a : compare (33554430 * 2 ^ (2 * bias - 151)) n ≡ lower_of side = orders_lower side (M * 2 ^ g) h.rest (2 ^ (2 * bias - 151)) (33554430 * 2 ^ (2 * bias - 151)) n h.parts told (sym L) in
        let b : compare (33554431 * 2 ^ (2 * bias - 151)) n ≡ middle_of side = orders_middle side (M * 2 ^ g) h.rest (2 ^ (2 * bias - 151)) (33554431 * 2 ^ (2 * bias - 151)) n (pow_pos (2 * bias - 151)) h.parts told (omega (arith, L)) in
        by_edge t l f u (ap (λ (o : Ordering). goes_up way o (compare (33554431 * 2 ^ (2 * bias - 151)) n) true) a ∙ ap (λ (o : Ordering). goes_up way (lower_of side) o true) b ∙ sym e)

-- the rounding to 24 bits tells the same
module _ (beside : ℕ → Ordering) (value : Ordered beside) (way : Way) where
  wide_edge : grid_wide 1459617792 ≡ 2 ^ 197
  unfolding grid_wide
  wide_edge = refl

  wide_last : grid_wide 1459617791 ≡ 2 ^ 197 - 2 ^ 173
  unfolding grid_wide
  wide_last = refl

  wide_lower_is : beside (2 * grid_wide 1459617791) ≡ beside (2 ^ 198 - 2 ^ 174)
  wide_lower_is = ap (λ (x : ℕ). beside (2 * x)) wide_last

  wide_middle_is : beside (grid_wide 1459617791 + grid_wide 1459617792) ≡ beside (2 ^ 198 - 2 ^ 173)
  wide_middle_is = ap (λ (x : ℕ). beside (x + grid_wide 1459617792)) wide_last ∙ ap (λ (x : ℕ). beside (2 ^ 197 - 2 ^ 173 + x)) wide_edge

  up_to : (B : ℕ) → is_le (beside (2 * grid_wide B)) ≡ true → (p : ℕ) → p ≤ B → is_le (beside (2 * grid_wide p)) ≡ true
  up_to B t p l = le_down grid_wide grid_wide_rises beside value (2 * grid_wide p) (2 * grid_wide B) (omega (arith, rising_mono grid_wide grid_wide_rises p B l)) t

  from_on : (B : ℕ) → is_le (beside (2 * grid_wide B)) ≡ false → (p : ℕ) → B ≤ p → is_le (beside (2 * grid_wide p)) ≡ false
  from_on B t p l = not_le_up grid_wide grid_wide_rises beside value (2 * grid_wide B) (2 * grid_wide p) (omega (arith, rising_mono grid_wide grid_wide_rises B p l)) t

  chosen_low : (low : ℕ) (a b : Ordering) → low ≤ chosen way low a b
  chosen_low low a b = both (goes_up way a b (is_odd low))
    where
      both : (t : Bool) → low ≤ cond t (low + 1) low
      both true = omega arith
      both false = omega arith

  chosen_high : (low : ℕ) (a b : Ordering) → chosen way low a b ≤ low + 1
  chosen_high low a b = both (goes_up way a b (is_odd low))
    where
      both : (t : Bool) → cond t (low + 1) low ≤ low + 1
      both true = omega arith
      both false = omega arith

  abbrev edge : Bool
  edge = not (is_le (beside (2 ^ 198))) && not (goes_up way (beside (2 ^ 198 - 2 ^ 174)) (beside (2 ^ 198 - 2 ^ 173)) true)

  pub tiny_is : is_tiny way beside ≡ edge
  unfolding is_tiny place_on
  tiny_is = elim (cases_Bool (is_le (beside (2 ^ 198)))) [
    | inl y ↦
        let t : is_le (beside (2 * grid_wide 1459617792)) ≡ true = ap (λ (x : ℕ). is_le (beside (2 * x))) wide_edge ∙ y in
        let r : 1459617792 ≤ L = seek_reaches grid_wide beside 1459617792 (up_to 1459617792 t) 32 0 (omega arith) in
        le-ltb p 1459617792 (le_trans r (chosen_low L lo mi)) ∙ sym (ap (λ (x : Bool). not x && not (goes_up way (beside (2 ^ 198 - 2 ^ 174)) (beside (2 ^ 198 - 2 ^ 173)) true)) y)
    | inr z ↦
        let t : is_le (beside (2 * grid_wide 1459617792)) ≡ false = ap (λ (x : ℕ). is_le (beside (2 * x))) wide_edge ∙ z in
        let b : L < 1459617792 = seek_below grid_wide beside 1459617792 (from_on 1459617792 t) 32 0 (omega arith) in
        below b ∙ sym (ap (λ (x : Bool). not x && not (goes_up way (beside (2 ^ 198 - 2 ^ 174)) (beside (2 ^ 198 - 2 ^ 173)) true)) z)
  ]
    where
      L : ℕ
      L = seek grid_wide beside 32 0

      lo : Ordering
      lo = beside (2 * grid_wide L)

      mi : Ordering
      mi = beside (grid_wide L + grid_wide (L + 1))

      p : ℕ
      p = chosen way L lo mi

      at_last : (t : Bool) → ltb (cond t 1459617792 1459617791) 1459617792 ≡ not t
      at_last true = refl
      at_last false = refl

      below : L < 1459617792 → ltb p 1459617792 ≡ not (goes_up way (beside (2 ^ 198 - 2 ^ 174)) (beside (2 ^ 198 - 2 ^ 173)) true)
      below b = elim (cases_Bool (is_le (beside (2 * grid_wide 1459617791)))) [
        | inl y ↦
            let r : 1459617791 ≤ L = seek_reaches grid_wide beside 1459617791 (up_to 1459617791 y) 32 0 (omega arith) in
            let e : L ≡ 1459617791 = omega arith in
            ap (λ (x : ℕ). ltb (chosen way x (beside (2 * grid_wide x)) (beside (grid_wide x + grid_wide (x + 1)))) 1459617792) e
            ∙ at_last (goes_up way (beside (2 * grid_wide 1459617791)) (beside (grid_wide 1459617791 + grid_wide 1459617792)) true)
            ∙ ap (λ (o : Ordering). not (goes_up way o (beside (grid_wide 1459617791 + grid_wide 1459617792)) true)) wide_lower_is
            ∙ ap (λ (o : Ordering). not (goes_up way (beside (2 ^ 198 - 2 ^ 174)) o true)) wide_middle_is
        | inr z ↦
            let s : L < 1459617791 = seek_below grid_wide beside 1459617791 (from_on 1459617791 z) 32 0 (omega arith) in
            let gt : beside (2 ^ 198 - 2 ^ 174) ≡ Ordering.gt = sym wide_lower_is ∙ not_le_gt (beside (2 * grid_wide 1459617791)) z in
            lt-ltb p 1459617792 (omega (arith, chosen_high L lo mi)) ∙ sym (ap (λ (o : Ordering). not (goes_up way o (beside (2 ^ 198 - 2 ^ 173)) true)) gt)
      ]

pub tiny_whole : (way : Way) (n : ℕ) → 0 < n → is_tiny way (beside_whole n) ≡ small way n
tiny_whole way n p =
    tiny_is (beside_whole n) (whole_ordered n p) way
    ∙ ap (λ (x : ℕ). not (is_le (compare x n)) && not (goes_up way (beside_whole n (2 ^ 198 - 2 ^ 174)) (beside_whole n (2 ^ 198 - 2 ^ 173)) true)) (unit_of (2 ^ 198) 33554432 refl)
    ∙ ap (λ (x : ℕ). not (is_le (compare (33554432 * 2 ^ (2 * bias - 151)) n)) && not (goes_up way (compare x n) (beside_whole n (2 ^ 198 - 2 ^ 173)) true)) (unit_of (2 ^ 198 - 2 ^ 174) 33554430 refl)
    ∙ ap (λ (x : ℕ). not (is_le (compare (33554432 * 2 ^ (2 * bias - 151)) n)) && not (goes_up way (compare (33554430 * 2 ^ (2 * bias - 151)) n) (compare x n) true)) (unit_of (2 ^ 198 - 2 ^ 173) 33554431 refl)

-- ---- what the code asks of smallness

module _ (way : Way) (n : ℕ) where
  pub tiny_not : (t : ℕ) → 2 * unit - 126 < t → 2 ^ t ≤ 2 * n → false ≡ is_tiny way (beside_whole n)
  tiny_not t l f = small_not way n t l f ∙ sym (tiny_whole way n (omega (arith, f, pow_pos t)))

  pub tiny_yes : (M g : ℕ) (side : Side) → Splits M side g n → g ≡ suc (2 * bias - 151) → 0 < n → (t : ℕ) → t ≤ 2 * unit - 126 → n < 2 ^ t → M < 16777215 → true ≡ is_tiny way (beside_whole n)
  tiny_yes M g side h e p t l f m = small_yes way n M g side h e t l f m ∙ sym (tiny_whole way n p)

  pub tiny_edge : (M g : ℕ) (side : Side) → Splits M side g n → g ≡ suc (2 * bias - 151) → 0 < n → (t : ℕ) → t ≤ 2 * unit - 126 → n < 2 ^ t → M ≡ 16777215 → (u : Bool) → u ≡ goes_up way (lower_of side) (middle_of side) true → not u ≡ is_tiny way (beside_whole n)
  tiny_edge M g side h e p t l f m u d = small_edge way n M g side h e t l f m u d ∙ sym (tiny_whole way n p)

mono : (p q : ℕ) → p ≤ q → magnitude p ≤ magnitude q
mono p q h = rising_mono magnitude magnitude_step p q h

-- ---- the pattern

module _ (way : Way) (n M k : ℕ) (side : Side) (h : Splits M side (k + (2 * bias - 149)) n) (few : M < 2 ^ 24) (full : (k ≡ 0) ⊎ (2 ^ 23 ≤ M)) where
  u : ℕ
  u = 2 ^ k * 2 ^ (2 * bias - 151)

  step_is : 2 ^ (k + (2 * bias - 149)) ≡ 4 * (2 ^ k * 2 ^ (2 * bias - 151))
  step_is =
      let d : 2 * bias - 149 ≡ 2 + (2 * bias - 151) = omega (arith, bias_is) in
      pow-add 2 k (2 * bias - 149) ∙ ap (λ (x : ℕ). 2 ^ k * 2 ^ x) d ∙ ap (λ (x : ℕ). 2 ^ k * x) (pow-add 2 2 (2 * bias - 151)) ∙ mul_left_comm (2 ^ k) 4 (2 ^ (2 * bias - 151))

  -- the magnitude of M * 2 ^ k in units
  units : (N p : ℕ) → magnitude p ≡ N * 2 ^ k → 4 * magnitude p * 2 ^ (2 * bias - 151) ≡ 4 * (N * (2 ^ k * 2 ^ (2 * bias - 151)))
  units N p e = mul_assoc 4 (magnitude p) (2 ^ (2 * bias - 151)) ∙ ap (λ (x : ℕ). 4 * (x * 2 ^ (2 * bias - 151))) e ∙ ap (λ (x : ℕ). 4 * x) (mul_assoc N (2 ^ k) (2 ^ (2 * bias - 151)))

  low_is : magnitude (k * 2 ^ 23 + M) ≡ M * 2 ^ k
  low_is = magnitude_at k M (omega arith) full

  next_is : magnitude (k * 2 ^ 23 + M + 1) ≡ (M + 1) * 2 ^ k
  next_is =
      let f : k * 2 ^ 23 + M + 1 ≡ k * 2 ^ 23 + (M + 1) = omega arith in
      let o : (k ≡ 0) ⊎ (2 ^ 23 ≤ M + 1) = elim full [ inl z ↦ inl z | inr g ↦ inr (omega arith) ] in
      ap magnitude f ∙ magnitude_at k (M + 1) (omega arith) o

  more_is : (M + 1) * (2 ^ k * 2 ^ (2 * bias - 151)) ≡ M * (2 ^ k * 2 ^ (2 * bias - 151)) + 2 ^ k * 2 ^ (2 * bias - 151)
  more_is = add-mul M 1 (2 ^ k * 2 ^ (2 * bias - 151)) ∙ ap (λ (x : ℕ). M * (2 ^ k * 2 ^ (2 * bias - 151)) + x) (one-mul (2 ^ k * 2 ^ (2 * bias - 151)))

  parts_are : n ≡ 4 * (M * (2 ^ k * 2 ^ (2 * bias - 151))) + h.rest
  parts_are = h.parts ∙ ap (λ (x : ℕ). M * x + h.rest) step_is ∙ ap (λ (x : ℕ). x + h.rest) (mul_left_comm M 4 (2 ^ k * 2 ^ (2 * bias - 151)))

  rest_small : h.rest < 4 * (2 ^ k * 2 ^ (2 * bias - 151))
  rest_small = subst (λ (x : ℕ). h.rest < x) step_is h.small

  at_unit : (p : ℕ) → is_le (beside_whole n (2 * grid32 p)) ≡ is_le (compare (4 * magnitude p * 2 ^ (2 * bias - 151)) n)
  at_unit p = ap (λ (x : ℕ). is_le (compare x n)) (unit_of (2 * grid32 p) (4 * magnitude p) (omega arith))

  not_above : (p : ℕ) → p ≤ k * 2 ^ 23 + M → is_le (beside_whole n (2 * grid32 p)) ≡ true
  not_above p l =
      let m : 4 * magnitude p * 2 ^ (2 * bias - 151) ≤ 4 * magnitude (k * 2 ^ 23 + M) * 2 ^ (2 * bias - 151) = mul-le-mul_right (2 ^ (2 * bias - 151)) (mul-le-mul_left 4 (mono p (k * 2 ^ 23 + M) l)) in
      at_unit p ∙ le-leb (4 * magnitude p * 2 ^ (2 * bias - 151)) n (omega (arith, m, units M (k * 2 ^ 23 + M) low_is, parts_are))

  above : (p : ℕ) → k * 2 ^ 23 + M < p → is_le (beside_whole n (2 * grid32 p)) ≡ false
  above p l =
      let s : k * 2 ^ 23 + M + 1 ≤ p = omega arith in
      let m : 4 * magnitude (k * 2 ^ 23 + M + 1) * 2 ^ (2 * bias - 151) ≤ 4 * magnitude p * 2 ^ (2 * bias - 151) = mul-le-mul_right (2 ^ (2 * bias - 151)) (mul-le-mul_left 4 (mono (k * 2 ^ 23 + M + 1) p s)) in
      at_unit p ∙ ap is_le (cmp_gt (4 * magnitude p * 2 ^ (2 * bias - 151)) n (omega (arith, m, units (M + 1) (k * 2 ^ 23 + M + 1) next_is, more_is, parts_are, rest_small)))

  middle_is : 2 * (magnitude (k * 2 ^ 23 + M) + magnitude (k * 2 ^ 23 + M + 1)) * 2 ^ (2 * bias - 151) ≡ 4 * (M * (2 ^ k * 2 ^ (2 * bias - 151))) + 2 * (2 ^ k * 2 ^ (2 * bias - 151))
  middle_is =
      let x : ℕ = magnitude (k * 2 ^ 23 + M) in
      let y : ℕ = magnitude (k * 2 ^ 23 + M + 1) in
      let z : ℕ = 2 ^ (2 * bias - 151) in
      omega (arith, mul_assoc 2 (x + y) z, add-mul x y z, mul_assoc 4 x z, mul_assoc 4 y z, units M (k * 2 ^ 23 + M) low_is, units (M + 1) (k * 2 ^ 23 + M + 1) next_is, more_is)

  pub pattern_is : k * 2 ^ 23 + M < 2 ^ 31 → concluded way (k * 2 ^ 23 + M) (lower_of side) (middle_of side) (is_tiny way (beside_whole n)) ≡ rounding way (beside_whole n)
  unfolding rounding
  pattern_is l =
      let told : Sided side h.rest (2 * (2 * (2 ^ k * 2 ^ (2 * bias - 151)))) = subst (Sided side h.rest) (step_is ∙ omega arith) h.told in
      let a : beside_whole n (2 * grid32 (k * 2 ^ 23 + M)) ≡ lower_of side =
      ap (λ (x : ℕ). compare x n) (unit_of (2 * grid32 (k * 2 ^ 23 + M)) (4 * magnitude (k * 2 ^ 23 + M)) (omega arith)) ∙
      orders_lower side (4 * (M * (2 ^ k * 2 ^ (2 * bias - 151)))) h.rest (2 * (2 ^ k * 2 ^ (2 * bias - 151))) (4 * magnitude (k * 2 ^ 23 + M) * 2 ^ (2 * bias - 151)) n parts_are told (units M (k * 2 ^ 23 + M) low_is) in
      let b : beside_whole n (grid32 (k * 2 ^ 23 + M) + grid32 (k * 2 ^ 23 + M + 1)) ≡ middle_of side =
      ap (λ (x : ℕ). compare x n) (unit_of (grid32 (k * 2 ^ 23 + M) + grid32 (k * 2 ^ 23 + M + 1)) (2 * (magnitude (k * 2 ^ 23 + M) + magnitude (k * 2 ^ 23 + M + 1))) (omega arith)) ∙
      orders_middle side (4 * (M * (2 ^ k * 2 ^ (2 * bias - 151)))) h.rest (2 * (2 ^ k * 2 ^ (2 * bias - 151))) (2 * (magnitude (k * 2 ^ 23 + M) + magnitude (k * 2 ^ 23 + M + 1)) * 2 ^ (2 * bias - 151)) n
      (omega (arith, mul-pos (pow_pos k) (pow_pos (2 * bias - 151)))) parts_are told middle_is in
      let s : seek grid32 (beside_whole n) 31 0 ≡ k * 2 ^ 23 + M = seek_finds grid32 (beside_whole n) (k * 2 ^ 23 + M) not_above above 31 0 (omega arith) (omega arith) in
      sym (ap (from_low way (beside_whole n)) s
      ∙ ap (λ (o : Ordering). concluded way (k * 2 ^ 23 + M) o (beside_whole n (grid32 (k * 2 ^ 23 + M) + grid32 (k * 2 ^ 23 + M + 1))) (is_tiny way (beside_whole n))) a
      ∙ ap (λ (o : Ordering). concluded way (k * 2 ^ 23 + M) (lower_of side) o (is_tiny way (beside_whole n))) b)

-- past the greatest pattern
over_any : (way : Way) (L : ℕ) → 0x7F800000 ≤ L → (lower middle : Ordering) → concluded way L lower middle false ≡ record { pattern = beyond way; inexact = true; overflow = true; underflow = false }
over_any way L l lower middle = by lower
  where
    past_end : (b : Bool) → leb 0x7F800000 (cond b (L + 1) L) ≡ true
    past_end true = le-leb 0x7F800000 (L + 1) (omega arith)
    past_end false = le-leb 0x7F800000 L l

    by : (o : Ordering) → concluded way L o middle false ≡ record { pattern = beyond way; inexact = true; overflow = true; underflow = false }
    by Ordering.lt = rw (past_end (goes_up way Ordering.lt middle (is_odd L))) refl
    by Ordering.eq = rw (past_end (goes_up way Ordering.eq middle (is_odd L))) refl
    by Ordering.gt = rw (past_end (goes_up way Ordering.gt middle (is_odd L))) refl

pub pattern_over : (way : Way) (n t : ℕ) → 2 * unit + 128 < t → 2 ^ t ≤ 2 * n → concluded way 0x7F800000 Ordering.eq Ordering.gt false ≡ rounding way (beside_whole n)
unfolding rounding
pattern_over way n t l f =
    over_any way 0x7F800000 (omega arith) Ordering.eq Ordering.gt
    ∙ sym (ap (concluded way L (beside_whole n (2 * grid32 L)) (beside_whole n (grid32 L + grid32 (L + 1)))) (tiny_whole way n some ∙ sym (small_not way n t (omega arith) f)) ∙ over_any way L reached (beside_whole n (2 * grid32 L)) (beside_whole n (grid32 L + grid32 (L + 1))))
  where
    L : ℕ
    L = seek grid32 (beside_whole n) 31 0

    some : 0 < n
    some = omega (arith, f, pow_pos t)

    top_is : magnitude 0x7F800000 ≡ 2 ^ 277
    top_is = magnitude_at 254 (2 ^ 23) (omega arith) (inr (omega arith))

    below : 4 * magnitude 0x7F800000 * 2 ^ (2 * bias - 151) ≤ n
    below =
        let k : suc (279 + (2 * bias - 151)) ≤ t = omega (arith, bias_is) in
        let a : 2 ^ suc (279 + (2 * bias - 151)) ≤ 2 ^ t = pow_mono k in
        let e : 4 * magnitude 0x7F800000 * 2 ^ (2 * bias - 151) ≡ 2 ^ (279 + (2 * bias - 151)) = ap (λ (x : ℕ). 4 * x * 2 ^ (2 * bias - 151)) top_is ∙ sym (pow-add 2 279 (2 * bias - 151)) in
        omega (arith, a, e, two-pow-succ (279 + (2 * bias - 151)))

    reached : 0x7F800000 ≤ L
    reached =
        seek_reaches grid32 (beside_whole n) 0x7F800000
        (λ p m. ap (λ (x : ℕ). is_le (compare x n)) (unit_of (2 * grid32 p) (4 * magnitude p) (omega arith)) ∙ le-leb (4 * magnitude p * 2 ^ (2 * bias - 151)) n (le_trans (mul-le-mul_right (2 ^ (2 * bias - 151)) (mul-le-mul_left 4 (mono p 0x7F800000 m))) below))
        31 0 (omega arith)

pub placed : (way : Way) (n M grain top : ℕ) (side : Side) (small : Bool) → Splits M side grain n → M < 2 ^ 24 → 2 ^ top ≤ 2 * n → top ≤ 2 * unit + 128
    → (grain ≡ 2 * unit - 149) ⊎ ((2 * unit - 125 ≤ top) × (grain ≡ top - 24)) → small ≡ is_tiny way (beside_whole n)
    → concluded way ((grain - (2 * unit - 149)) * 2 ^ 23 + M) (lower_of side) (middle_of side) small ≡ rounding way (beside_whole n)
placed way n M grain top side small h few f l o s =
    ap (concluded way ((grain - (2 * unit - 149)) * 2 ^ 23 + M) (lower_of side) (middle_of side)) s
    ∙ pattern_is way n M (grain - (2 * unit - 149)) side (subst (λ (x : ℕ). Splits M side x n) g_is h) few full small_enough
  where
    g_is : grain ≡ grain - (2 * unit - 149) + (2 * bias - 149)
    g_is = elim o [ inl e ↦ omega (arith, bias_is) | inr e ↦ omega (arith, bias_is) ]

    small_enough : (grain - (2 * unit - 149)) * 2 ^ 23 + M < 2 ^ 31
    small_enough = elim o [ inl e ↦ omega arith | inr e ↦ omega arith ]

    full : (grain - (2 * unit - 149) ≡ 0) ⊎ (2 ^ 23 ≤ M)
    full = elim o [
      | inl e ↦ inl (omega arith)
      | inr e ↦
          let d : top ≡ 24 + grain = omega arith in
          let a : 2 ^ top ≡ 2 ^ 24 * 2 ^ grain = ap (λ (x : ℕ). 2 ^ x) d ∙ pow-add 2 24 grain in
          let b : 2 ^ 23 * 2 ^ grain < suc M * 2 ^ grain = omega (arith, a, f, h.parts, h.small, suc-mul M (2 ^ grain)) in
          let c : 2 ^ 23 < suc M = lt_of_mul-lt-mul_right (2 ^ grain) b in
          inr (omega arith)
    ]
