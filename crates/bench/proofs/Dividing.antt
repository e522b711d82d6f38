-- Division by doubling, and the nearest step at its end.
use Rattle.std.proofs.Common.{◌≡◌, ℕ, ◌+◌, ◌-◌, ◌*◌, ◌/◌, ◌%◌, ◌^◌, ◌<◌, ◌≤◌, Bool, true, false, cond, eqb, ltb, leb, ◌⊎◌, sym, ap, ◌∙◌, inl, inr, mul-le-mul_right, mod-lt, mod-eq_of_lt, mul_assoc, add-mul, mul-lt-mul_of_pos_right, one-mul, div-add-mod', mul-add, arith, pow_pos, pow_mono, pow-add}
use native.Mathlib.Nat.{two-pow-succ}
use lib.Arith.{digits_div, digits_mod}
use Rattle.std.proofs.lemmas.Bool.{le-leb, lt-leb, eq-eqb, ne_eqb, eqb-true, eqb-false, lt-ltb, le-ltb, ltb-true, ltb-false, cases_lt, cases_eq}
use Rattle.registers.specs.Binary32.{is_odd}
use Rattle.registers.proofs.Nearness.{upward_over, upward_tie, upward_under, upward_scale}
use Rattle.registers.proofs.Adding.{sub_mul}
use Rattle.bench.specs.Remainders.{nearest_quotient, remainder_size, remainder_turned}

-- twice a divided number
module _ (a m : ℕ) (p : 0 < m) where
  twice_parts : 2 * a ≡ 2 * (a / m) * m + 2 * (a % m)
  twice_parts = omega (arith, div-add-mod' a m, mul_assoc 2 (a / m) m)

  pub twice_below : 2 * (a % m) < m → (2 * a % m ≡ 2 * (a % m)) × (is_odd (2 * a / m) ≡ false)
  twice_below h =
      let q : 2 * a / m ≡ 2 * (a / m) = rw twice_parts (digits_div (2 * (a / m)) h) in
      (rw twice_parts (digits_mod (2 * (a / m)) h), rw q (ne_eqb _ 1 (omega arith)))

  pub twice_above : m ≤ 2 * (a % m) → (2 * a % m ≡ 2 * (a % m) - m) × (is_odd (2 * a / m) ≡ true)
  twice_above h =
      let s : 2 * (a % m) - m < m = omega (arith, mod-lt a p) in
      let e : 2 * a ≡ (2 * (a / m) + 1) * m + (2 * (a % m) - m) = omega (arith, twice_parts, add-mul (2 * (a / m)) 1 m, one-mul m) in
      let q : 2 * a / m ≡ 2 * (a / m) + 1 = rw e (digits_div (2 * (a / m) + 1) s) in
      (rw e (digits_mod (2 * (a / m) + 1) s), rw q (eq-eqb _ 1 (omega arith)))

pub power_more : (n i : ℕ) → n * 2 ^ (i + 1) ≡ 2 * (n * 2 ^ i)
power_more n i = ap (λ (x : ℕ). n * x) (ap (λ (x : ℕ). 2 ^ x) (omega arith) ∙ two-pow-succ i) ∙ omega (arith, mul-add n (2 ^ i) (2 ^ i))

-- the remainder from quotient and rest
module _ (x m : ℕ) (p : 0 < m) where
  pub rest_turned : nearest_quotient x m ≡ x / m + 1 → (m - x % m ≡ remainder_size x m) × (true ≡ remainder_turned x m)
  unfolding remainder_size remainder_turned
  rest_turned e =
      let n : nearest_quotient x m * m ≡ x / m * m + m = ap (λ (y : ℕ). y * m) e ∙ add-mul (x / m) 1 m ∙ ap (λ (y : ℕ). x / m * m + y) (one-mul m) in
      (omega (arith, n, div-add-mod' x m, mod-lt x p), sym (lt-ltb x _ (omega (arith, n, div-add-mod' x m, mod-lt x p))))

  pub rest_kept : nearest_quotient x m ≡ x / m → (x % m ≡ remainder_size x m) × (false ≡ remainder_turned x m)
  unfolding remainder_size remainder_turned
  rest_kept e =
      let n : nearest_quotient x m * m ≡ x / m * m = ap (λ (y : ℕ). y * m) e in
      (omega (arith, n, div-add-mod' x m), sym (le-ltb x _ (omega (arith, n, div-add-mod' x m))))

  pub quotient_up : (m < 2 * (x % m)) ⊎ ((2 * (x % m) ≡ m) × (is_odd (x / m) ≡ true)) → nearest_quotient x m ≡ x / m + 1
  quotient_up (inl h) = ap (λ (y : ℕ). x / m + y) (upward_over (x / m) (x % m) m h)
  quotient_up (inr t) = ap (λ (y : ℕ). x / m + y) (upward_tie (x / m) (x % m) m t.0 ∙ eqb-true _ 1 t.1)

  pub quotient_down : (2 * (x % m) < m) ⊎ ((2 * (x % m) ≡ m) × (is_odd (x / m) ≡ false)) → nearest_quotient x m ≡ x / m
  quotient_down (inl h) = omega (arith, upward_under (x / m) (x % m) m h)
  quotient_down (inr t) = omega (arith, upward_tie (x / m) (x % m) m t.0, eqb-false _ 1 t.1)

  pub rest_over : (m < 2 * (x % m)) ⊎ ((2 * (x % m) ≡ m) × (is_odd (x / m) ≡ true)) → (m - x % m ≡ remainder_size x m) × (true ≡ remainder_turned x m)
  rest_over o = rest_turned (quotient_up o)

  pub rest_under : (2 * (x % m) < m) ⊎ ((2 * (x % m) ≡ m) × (is_odd (x / m) ≡ false)) → (x % m ≡ remainder_size x m) × (false ≡ remainder_turned x m)
  rest_under o = rest_kept (quotient_down o)

-- in another unit
module _ (x y u : ℕ) (p : 0 < u) (q : 0 < y) where
  parts_scale : x * u ≡ x / y * (y * u) + x % y * u
  parts_scale = ap (λ (z : ℕ). z * u) (sym (div-add-mod' x y)) ∙ add-mul (x / y * y) (x % y) u ∙ ap (λ (z : ℕ). z + x % y * u) (mul_assoc (x / y) y u)

  rest_small : x % y * u < y * u
  rest_small = mul-lt-mul_of_pos_right (mod-lt x q) p

  pub quotient_scale : nearest_quotient (x * u) (y * u) ≡ nearest_quotient x y
  quotient_scale =
      let a : x * u / (y * u) ≡ x / y = rw parts_scale (digits_div (x / y) rest_small) in
      let b : x * u % (y * u) ≡ x % y * u = rw parts_scale (digits_mod (x / y) rest_small) in
      rw (a, b, upward_scale (x / y) (x % y) y u p)

  count_scale : nearest_quotient (x * u) (y * u) * (y * u) ≡ nearest_quotient x y * y * u
  count_scale = ap (λ (z : ℕ). z * (y * u)) quotient_scale ∙ sym (mul_assoc (nearest_quotient x y) y u)

  pub size_scaled : remainder_size (x * u) (y * u) ≡ remainder_size x y * u
  unfolding remainder_size
  size_scaled =
      let n : ℕ = nearest_quotient x y * y in
      rw count_scale (ap (λ (z : ℕ). z + (n * u - x * u)) (sym (sub_mul x n u)) ∙ ap (λ (z : ℕ). (x - n) * u + z) (sym (sub_mul n x u)) ∙ sym (add-mul (x - n) (n - x) u))

  pub turned_scaled : remainder_turned (x * u) (y * u) ≡ remainder_turned x y
  unfolding remainder_turned
  turned_scaled = rw count_scale (go (cases_lt x (nearest_quotient x y * y)))
    where
      go : (x < nearest_quotient x y * y) ⊎ (nearest_quotient x y * y ≤ x) → ltb (x * u) (nearest_quotient x y * y * u) ≡ ltb x (nearest_quotient x y * y)
      go (inl l) = lt-ltb _ _ (mul-lt-mul_of_pos_right l p) ∙ sym (lt-ltb _ _ l)
      go (inr g) = le-ltb _ _ (mul-le-mul_right u g) ∙ sym (le-ltb _ _ g)

-- as the code has it
module _ (x m rest : ℕ) (odd : Bool) (p : 0 < m) (r : rest ≡ x % m) (o : odd ≡ is_odd (x / m)) where
  pub over_at : (m < 2 * rest) ⊎ ((2 * rest ≡ m) × (odd ≡ true)) → (m - rest ≡ remainder_size x m) × (true ≡ remainder_turned x m)
  over_at h =
      let q = rest_over x m p (elim h [ inl l ↦ inl (omega arith) | inr t ↦ inr (omega (arith, t.0), sym o ∙ t.1) ]) in
      (omega (arith, q.0), q.1)

  pub under_at : (2 * rest < m) ⊎ ((2 * rest ≡ m) × (odd ≡ false)) → (rest ≡ remainder_size x m) × (false ≡ remainder_turned x m)
  under_at h =
      let q = rest_under x m p (elim h [ inl l ↦ inl (omega arith) | inr t ↦ inr (omega (arith, t.0), sym o ∙ t.1) ]) in
      (r ∙ q.0, q.1)

-- what the test for the nearest step says
module _ (m rest : ℕ) (odd up : Bool) (is : up ≡ cond (eqb (2 * rest) m) odd (ltb m (2 * rest))) where
  pub up_when : up ≡ true → (m < 2 * rest) ⊎ ((2 * rest ≡ m) × (odd ≡ true))
  up_when u = elim (cases_eq (2 * rest) m) [
    | inl t ↦ inr (t, sym (rw (eq-eqb (2 * rest) m t) at is) ∙ u)
    | inr d ↦ inl (ltb-true m (2 * rest) (sym (rw (ne_eqb (2 * rest) m d) at is) ∙ u))
  ]

  pub down_when : up ≡ false → (2 * rest < m) ⊎ ((2 * rest ≡ m) × (odd ≡ false))
  down_when u = elim (cases_eq (2 * rest) m) [
    | inl t ↦ inr (t, sym (rw (eq-eqb (2 * rest) m t) at is) ∙ u)
    | inr d ↦ let l : 2 * rest ≤ m = ltb-false m (2 * rest) (sym (rw (ne_eqb (2 * rest) m d) at is) ∙ u) in inl (omega arith)
  ]

-- a turn of the loop
module _ (n i m rest new : ℕ) (p : 0 < m) (r : rest ≡ n * 2 ^ i % m) where
  pub turn_above : m ≤ 2 * rest → new ≡ 2 * rest - m → (new < m) × (new ≡ n * 2 ^ (i + 1) % m) × (leb m (2 * rest) ≡ is_odd (n * 2 ^ (i + 1) / m))
  turn_above h e =
      let q = twice_above (n * 2 ^ i) m p (omega arith) in
      (omega (arith, mod-lt (n * 2 ^ i) p), rw (power_more n i) (omega (arith, q.0)), le-leb m _ h ∙ sym (rw (power_more n i) q.1))

  pub turn_below : 2 * rest < m → new ≡ 2 * rest → (new < m) × (new ≡ n * 2 ^ (i + 1) % m) × (leb m (2 * rest) ≡ is_odd (n * 2 ^ (i + 1) / m))
  turn_below h e =
      let q = twice_below (n * 2 ^ i) m p (omega arith) in
      (omega arith, rw (power_more n i) (omega (arith, q.0)), lt-leb m _ h ∙ sym (rw (power_more n i) q.1))

-- a dividend that is far below the divisor is its own remainder
pub far_below : (a e b f : ℕ) → a < 2 ^ 24 → 2 ^ 23 ≤ b → e + 1 < f → (a * 2 ^ e ≡ remainder_size (a * 2 ^ e) (b * 2 ^ f)) × (false ≡ remainder_turned (a * 2 ^ e) (b * 2 ^ f))
far_below a e b f h g l =
    let t : 2 + e ≤ f = omega arith in
    let m : 2 ^ (2 + e) ≤ 2 ^ f = pow_mono t in
    let m' : 2 ^ (2 + e) ≡ 4 * 2 ^ e = pow-add 2 2 e in
    let y : 2 ^ 23 * 2 ^ f ≤ b * 2 ^ f = mul-le-mul_right (2 ^ f) g in
    let x : a * 2 ^ e < 2 ^ 24 * 2 ^ e = mul-lt-mul_of_pos_right h (pow_pos e) in
    let d : 2 * (a * 2 ^ e) < b * 2 ^ f = omega arith in
    let s : a * 2 ^ e % (b * 2 ^ f) ≡ a * 2 ^ e = mod-eq_of_lt (omega arith) in
    let q = rest_under (a * 2 ^ e) (b * 2 ^ f) (omega arith) (inl (omega arith)) in
    (sym s ∙ q.0, q.1)

-- the remainder in a unit common to both
pub in_unit : (a b k X Y S : ℕ) (t : Bool) → 0 < b → X ≡ a * 2 ^ k → Y ≡ b * 2 ^ k → S ≡ remainder_size a b → t ≡ remainder_turned a b → (S * 2 ^ k ≡ remainder_size X Y) × (t ≡ remainder_turned X Y)
in_unit a b k X Y S t p x y s u =
    rw (x, y) (ap (λ (z : ℕ). z * 2 ^ k) s ∙ sym (size_scaled a b (2 ^ k) (pow_pos k) p), u ∙ sym (turned_scaled a b (2 ^ k) (pow_pos k) p))
