-- The patterns of binary32 in their order, the search among them, and what it consults.
use Rattle.std.proofs.Common.{◌≡◌, ℕ, zero, suc, ◌+◌, ◌-◌, ◌*◌, ◌/◌, ◌%◌, ◌^◌, ◌<◌, ◌≤◌, Bool, true, false, cond, ltb, ◌⊎◌, sym, refl, ap, ◌∙◌, subst, inl, inr, le_refl, add-zero, mul_assoc, suc-mul, add-mul, one-mul, mul-one, arith, pow_pos, pow-add}
use Prim.Native.Nat.{Ordering}
use native.Mathlib.Nat.{pow-zero, two-pow-succ}
use lib.Dec.{is_le}
use lib.Pow.{low}
use Rattle.std.proofs.lemmas.Bool.{lt-ltb, le-ltb, cases_lt}
use Rattle.registers.specs.declared.mode.Way.{Way}
use Rattle.registers.specs.Binary32.{magnitude, grid32, grid_wide, seek, place_on, rounding, from_low, chosen, is_tiny, concluded, Short}

-- ---- magnitudes

pub magnitude_low : (p : ℕ) → p < 2 ^ 23 → magnitude p ≡ p
unfolding magnitude
magnitude_low p h = rw (lt-ltb p (2 ^ 23) h)

pub magnitude_normal : (p : ℕ) → 2 ^ 23 ≤ p → magnitude p ≡ (2 ^ 23 + p % 2 ^ 23) * 2 ^ (p / 2 ^ 23 - 1)
unfolding magnitude
magnitude_normal p h = rw (le-ltb p (2 ^ 23) h)

magnitude_high : (p j f : ℕ) → p ≡ suc j * 2 ^ 23 + f → f < 2 ^ 23 → magnitude p ≡ (2 ^ 23 + f) * 2 ^ j
unfolding magnitude
magnitude_high p j f e h =
    let a : p % 2 ^ 23 ≡ f = omega arith in
    let b : p / 2 ^ 23 - 1 ≡ j = omega arith in
    rw (le-ltb p (2 ^ 23) (omega arith), a, b)

-- the pattern of M * 2 ^ k
pub magnitude_at : (k M : ℕ) → M ≤ 2 ^ 24 → (k ≡ 0) ⊎ (2 ^ 23 ≤ M) → magnitude (k * 2 ^ 23 + M) ≡ M * 2 ^ k
magnitude_at k M h o = elim (cases_lt M (2 ^ 23)) [
  | inl l ↦
      let z : k ≡ 0 = elim o [ inl z ↦ z | inr g ↦ omega arith ] in
      let e : k * 2 ^ 23 + M ≡ M = omega arith in
      ap magnitude e ∙ magnitude_low M l ∙ sym (ap (λ (x : ℕ). M * 2 ^ x) z ∙ mul-one M)
  | inr g ↦ elim (cases_lt M (2 ^ 24)) [
    | inl l ↦
        let e : 2 ^ 23 + (M - 2 ^ 23) ≡ M = omega arith in
        magnitude_high (k * 2 ^ 23 + M) k (M - 2 ^ 23) (omega arith) (omega arith) ∙ ap (λ (x : ℕ). x * 2 ^ k) e
    | inr f ↦
        let e : M ≡ 2 ^ 24 = omega arith in
        magnitude_high (k * 2 ^ 23 + M) (suc k) 0 (omega arith) (omega arith) ∙ (omega (arith, two-pow-succ k, ap (λ (x : ℕ). x * 2 ^ k) e))
  ]
]

-- each pattern is one
pub pattern_view : (p : ℕ) → (k : ℕ) × (M : ℕ) × (p ≡ k * 2 ^ 23 + M) × (M < 2 ^ 24) × ((k ≡ 0) ⊎ (2 ^ 23 ≤ M))
pattern_view p = elim (cases_lt p (2 ^ 24)) [
  | inl l ↦ (0, p, omega arith, l, inl refl)
  | inr g ↦ (p / 2 ^ 23 - 1, 2 ^ 23 + p % 2 ^ 23, omega arith, omega arith, inr (omega arith))
]

pub magnitude_step : (p : ℕ) → magnitude p < magnitude (p + 1)
magnitude_step p =
    let v = pattern_view p in
    let k : ℕ = v.0 in
    let M : ℕ = v.1 in
    go k M v.2 v.3 v.4
  where
    go : (k M : ℕ) → p ≡ k * 2 ^ 23 + M → M < 2 ^ 24 → (k ≡ 0) ⊎ (2 ^ 23 ≤ M) → magnitude p < magnitude (p + 1)
    go k M e h o =
        let a : magnitude p ≡ M * 2 ^ k = ap magnitude e ∙ magnitude_at k M (omega arith) o in
        let f : p + 1 ≡ k * 2 ^ 23 + (M + 1) = omega arith in
        let o' : (k ≡ 0) ⊎ (2 ^ 23 ≤ M + 1) = elim o [ inl z ↦ inl z | inr g ↦ inr (omega arith) ] in
        let b : magnitude (p + 1) ≡ (M + 1) * 2 ^ k = ap magnitude f ∙ magnitude_at k (M + 1) (omega arith) o' in
        omega (arith, a, b, add-mul M 1 (2 ^ k), one-mul (2 ^ k), pow_pos k)

-- ---- grids

abbrev pub Rising : (ℕ → ℕ) → Type 0
Rising g = (p : ℕ) → g p < g (p + 1)

rising_on : (g : ℕ → ℕ) → Rising g → (d p : ℕ) → g p ≤ g (p + d)
rising_on g r zero p = rw (add-zero p) (le_refl (g p))
rising_on g r (suc d) p =
    let e : p + suc d ≡ p + d + 1 = omega arith in
    omega (arith, rising_on g r d p, r (p + d), ap g e)

pub rising_mono : (g : ℕ → ℕ) → Rising g → (p q : ℕ) → p ≤ q → g p ≤ g q
rising_mono g r p q h =
    let e : p + (q - p) ≡ q = omega arith in
    subst (λ (x : ℕ). g p ≤ g x) e (rising_on g r (q - p) p)

pub grid32_rises : Rising grid32
grid32_rises p = omega (arith, magnitude_step p)

-- the numbers of 24 bits
wide_at : (e f : ℕ) → f < 2 ^ 23 → grid_wide (e * 2 ^ 23 + f) ≡ (2 ^ 23 + f) * 2 ^ e
unfolding grid_wide
wide_at e f h =
    let a : (e * 2 ^ 23 + f) % 2 ^ 23 ≡ f = omega arith in
    let b : (e * 2 ^ 23 + f) / 2 ^ 23 ≡ e = omega arith in
    rw (a, b)

wide_next : (e f : ℕ) → f < 2 ^ 23 → grid_wide (e * 2 ^ 23 + f + 1) ≡ (2 ^ 23 + f) * 2 ^ e + 2 ^ e
wide_next e f h = elim (cases_lt (f + 1) (2 ^ 23)) [
  | inl l ↦
      let a : e * 2 ^ 23 + f + 1 ≡ e * 2 ^ 23 + (f + 1) = omega arith in
      let b : 2 ^ 23 + (f + 1) ≡ suc (2 ^ 23 + f) = omega arith in
      ap grid_wide a ∙ wide_at e (f + 1) l ∙ ap (λ (x : ℕ). x * 2 ^ e) b ∙ suc-mul (2 ^ 23 + f) (2 ^ e)
  | inr g ↦
      let a : e * 2 ^ 23 + f + 1 ≡ suc e * 2 ^ 23 + 0 = omega arith in
      let b : 2 ^ 23 + f ≡ 2 ^ 24 - 1 = omega arith in
      ap grid_wide a ∙ wide_at (suc e) 0 (omega arith) ∙ omega (arith, two-pow-succ e, ap (λ (x : ℕ). x * 2 ^ e) b)
]

wide_view : (p : ℕ) → (e : ℕ) × (f : ℕ) × (p ≡ e * 2 ^ 23 + f) × (f < 2 ^ 23)
wide_view p = (p / 2 ^ 23, p % 2 ^ 23, omega arith, omega arith)

pub grid_wide_rises : Rising grid_wide
grid_wide_rises p = go v.0 v.1 v.2 v.3
  where
    v : (e : ℕ) × (f : ℕ) × (p ≡ e * 2 ^ 23 + f) × (f < 2 ^ 23)
    v = wide_view p

    go : (e f : ℕ) → p ≡ e * 2 ^ 23 + f → f < 2 ^ 23 → grid_wide p < grid_wide (p + 1)
    go e f d h = omega (arith, ap grid_wide d ∙ wide_at e f h, ap (λ (x : ℕ). grid_wide (x + 1)) d ∙ wide_next e f h, pow_pos e)

-- ---- the search

pub seek_finds : (g : ℕ → ℕ) (beside : ℕ → Ordering) (L : ℕ) → ((p : ℕ) → p ≤ L → is_le (beside (2 * g p)) ≡ true) → ((p : ℕ) → L < p → is_le (beside (2 * g p)) ≡ false) → (k p : ℕ) → p ≤ L → L < p + 2 ^ k → seek g beside k p ≡ L
unfolding seek
seek_finds g beside L is isnt zero p a b = omega (arith, pow-zero 2)
seek_finds g beside L is isnt (suc k) p a b = elim (cases_lt L (p + 2 ^ k)) [
  | inl l ↦ rw (isnt (p + 2 ^ k) l) (seek_finds g beside L is isnt k p a l)
  | inr h ↦ rw (is (p + 2 ^ k) h) (seek_finds g beside L is isnt k (p + 2 ^ k) h (omega (arith, two-pow-succ k)))
]

pub seek_reaches : (g : ℕ → ℕ) (beside : ℕ → Ordering) (B : ℕ) → ((p : ℕ) → p ≤ B → is_le (beside (2 * g p)) ≡ true) → (k p : ℕ) → B < p + 2 ^ k → B ≤ seek g beside k p
unfolding seek
seek_reaches g beside B is zero p b = omega (arith, pow-zero 2)
seek_reaches g beside B is (suc k) p b = elim (cases_lt B (p + 2 ^ k)) [
  | inl l ↦ either (is_le (beside (2 * g (p + 2 ^ k)))) (seek_reaches g beside B is k p l) (seek_reaches g beside B is k (p + 2 ^ k) (omega arith))
  | inr h ↦ rw (is (p + 2 ^ k) h) (seek_reaches g beside B is k (p + 2 ^ k) (omega (arith, two-pow-succ k)))
]
  where
    either : (t : Bool) → B ≤ seek g beside k p → B ≤ seek g beside k (p + 2 ^ k) → B ≤ seek g beside k (cond t (p + 2 ^ k) p)
    either true x y = y
    either false x y = x

-- it stays below a place that is above the value
pub seek_below : (g : ℕ → ℕ) (beside : ℕ → Ordering) (B : ℕ) → ((p : ℕ) → B ≤ p → is_le (beside (2 * g p)) ≡ false) → (k p : ℕ) → p < B → seek g beside k p < B
unfolding seek
seek_below g beside B isnt zero p b = b
seek_below g beside B isnt (suc k) p b = elim (cases_lt (p + 2 ^ k) B) [
  | inl l ↦ either (is_le (beside (2 * g (p + 2 ^ k)))) (seek_below g beside B isnt k p b) (seek_below g beside B isnt k (p + 2 ^ k) l)
  | inr h ↦ rw (isnt (p + 2 ^ k) h) (seek_below g beside B isnt k p b)
]
  where
    either : (t : Bool) → seek g beside k p < B → seek g beside k (p + 2 ^ k) < B → seek g beside k (cond t (p + 2 ^ k) p) < B
    either true x y = y
    either false x y = x

-- ---- values that no number of at most 25 bits tells apart

-- a grid of which the numbers and their middles are short
pub record ShortGrid (g : ℕ → ℕ) : Type 0 where
  pub at : (p : ℕ) → Short (2 * g p)
  pub between : (p : ℕ) → Short (g p + g (p + 1))

pub grid32_short : ShortGrid grid32
grid32_short = record { at = λ p. at p (pattern_view p).0 (pattern_view p).1 (pattern_view p).2 (pattern_view p).3 (pattern_view p).4; between = λ p. between p (pattern_view p).0 (pattern_view p).1 (pattern_view p).2 (pattern_view p).3 (pattern_view p).4 }
  where
    at : (p k M : ℕ) → p ≡ k * 2 ^ 23 + M → M < 2 ^ 24 → (k ≡ 0) ⊎ (2 ^ 23 ≤ M) → Short (2 * grid32 p)
    at p k M e h o =
        let a : magnitude p ≡ M * 2 ^ k = ap magnitude e ∙ magnitude_at k M (omega arith) o in
        record { part = M; exp = k + 175; fits = omega arith; is = omega (arith, a, ap (λ (x : ℕ). M * x) (pow-add 2 k 175), sym (mul_assoc M (2 ^ k) (2 ^ 175))) }

    between : (p k M : ℕ) → p ≡ k * 2 ^ 23 + M → M < 2 ^ 24 → (k ≡ 0) ⊎ (2 ^ 23 ≤ M) → Short (grid32 p + grid32 (p + 1))
    between p k M e h o =
        let a : magnitude p ≡ M * 2 ^ k = ap magnitude e ∙ magnitude_at k M (omega arith) o in
        let f : p + 1 ≡ k * 2 ^ 23 + (M + 1) = omega arith in
        let o' : (k ≡ 0) ⊎ (2 ^ 23 ≤ M + 1) = elim o [ inl z ↦ inl z | inr g ↦ inr (omega arith) ] in
        let b : magnitude (p + 1) ≡ (M + 1) * 2 ^ k = ap magnitude f ∙ magnitude_at k (M + 1) (omega arith) o' in
        let c : (M + 1) * 2 ^ k ≡ M * 2 ^ k + 2 ^ k = add-mul M 1 (2 ^ k) ∙ ap (λ (x : ℕ). M * 2 ^ k + x) (one-mul (2 ^ k)) in
        let d : (2 * M + 1) * 2 ^ (k + 174) ≡ (2 * M + 1) * 2 ^ k * 2 ^ 174 = ap (λ (x : ℕ). (2 * M + 1) * x) (pow-add 2 k 174) ∙ sym (mul_assoc (2 * M + 1) (2 ^ k) (2 ^ 174)) in
        let g : (2 * M + 1) * 2 ^ k ≡ 2 * (M * 2 ^ k) + 2 ^ k = add-mul (2 * M) 1 (2 ^ k) ∙ ap (λ (x : ℕ). x + 1 * 2 ^ k) (mul_assoc 2 M (2 ^ k)) ∙ ap (λ (x : ℕ). 2 * (M * 2 ^ k) + x) (one-mul (2 ^ k)) in
        record { part = 2 * M + 1; exp = k + 174; fits = omega arith; is = omega (arith, a, b, c, d, g) }

pub grid_wide_short : ShortGrid grid_wide
grid_wide_short = record { at = λ p. at p (wide_view p).0 (wide_view p).1 (wide_view p).2 (wide_view p).3; between = λ p. between p (wide_view p).0 (wide_view p).1 (wide_view p).2 (wide_view p).3 }
  where
    at : (p e f : ℕ) → p ≡ e * 2 ^ 23 + f → f < 2 ^ 23 → Short (2 * grid_wide p)
    at p e f d h =
        let a : grid_wide p ≡ (2 ^ 23 + f) * 2 ^ e = ap grid_wide d ∙ wide_at e f h in
        record { part = 2 ^ 23 + f; exp = e + 1; fits = omega arith; is = omega (arith, a, ap (λ (x : ℕ). (2 ^ 23 + f) * x) (pow-add 2 e 1), sym (mul_assoc (2 ^ 23 + f) (2 ^ e) 2)) }

    between : (p e f : ℕ) → p ≡ e * 2 ^ 23 + f → f < 2 ^ 23 → Short (grid_wide p + grid_wide (p + 1))
    between p e f d h =
        let a : grid_wide p ≡ (2 ^ 23 + f) * 2 ^ e = ap grid_wide d ∙ wide_at e f h in
        let b : grid_wide (p + 1) ≡ (2 ^ 23 + f) * 2 ^ e + 2 ^ e = ap (λ (x : ℕ). grid_wide (x + 1)) d ∙ wide_next e f h in
        let g : (2 * (2 ^ 23 + f) + 1) * 2 ^ e ≡ 2 * ((2 ^ 23 + f) * 2 ^ e) + 2 ^ e = add-mul (2 * (2 ^ 23 + f)) 1 (2 ^ e) ∙ ap (λ (x : ℕ). x + 1 * 2 ^ e) (mul_assoc 2 (2 ^ 23 + f) (2 ^ e)) ∙ ap (λ (x : ℕ). 2 * ((2 ^ 23 + f) * 2 ^ e) + x) (one-mul (2 ^ e)) in
        record { part = 2 * (2 ^ 23 + f) + 1; exp = e; fits = omega arith; is = omega (arith, a, b, g) }

module _ (b c : ℕ → Ordering) (same : (m : ℕ) → Short m → b m ≡ c m) where
  seek_alike : (g : ℕ → ℕ) → ShortGrid g → (k p : ℕ) → seek g b k p ≡ seek g c k p
  unfolding seek
  seek_alike g s zero p = refl
  seek_alike g s (suc k) p = seek_alike g s k (cond (is_le (b (2 * g (p + 2 ^ k)))) (p + 2 ^ k) p) ∙ ap (λ (o : Ordering). seek g c k (cond (is_le o) (p + 2 ^ k) p)) (same (2 * g (p + 2 ^ k)) (s.at (p + 2 ^ k)))

  place_alike : (g : ℕ → ℕ) → ShortGrid g → (k : ℕ) (way : Way) → place_on g k way b ≡ place_on g k way c
  unfolding place_on
  place_alike g s k way =
      let L : ℕ = seek g b k 0 in
      ap (λ (o : Ordering). chosen way L o (b (g L + g (L + 1)))) (same (2 * g L) (s.at L))
      ∙ ap (λ (o : Ordering). chosen way L (c (2 * g L)) o) (same (g L + g (L + 1)) (s.between L))
      ∙ ap (λ (x : ℕ). chosen way x (c (2 * g x)) (c (g x + g (x + 1)))) (seek_alike g s k 0)

  tiny_alike : (way : Way) → is_tiny way b ≡ is_tiny way c
  unfolding is_tiny
  tiny_alike way = ap (λ (x : ℕ). ltb x (174 * 2 ^ 23)) (place_alike grid_wide grid_wide_short 32 way)

  low_alike : (way : Way) (low : ℕ) → from_low way b low ≡ from_low way c low
  low_alike way low =
      ap (λ (o : Ordering). concluded way low o (b (grid32 low + grid32 (low + 1))) (is_tiny way b)) (same (2 * grid32 low) (grid32_short.at low))
      ∙ ap (λ (o : Ordering). concluded way low (c (2 * grid32 low)) o (is_tiny way b)) (same (grid32 low + grid32 (low + 1)) (grid32_short.between low))
      ∙ ap (concluded way low (c (2 * grid32 low)) (c (grid32 low + grid32 (low + 1)))) (tiny_alike way)

  -- two values on the same side of every number of at most 25 bits round alike, with the same flags
  pub rounding_alike : (way : Way) → rounding way b ≡ rounding way c
  unfolding rounding
  rounding_alike way = low_alike way (seek grid32 b 31 0) ∙ ap (from_low way c) (seek_alike grid32 grid32_short 31 0)
