-- A held number rounded to a width.
use Rattle.std.proofs.Common.{◌≡◌, ℕ, suc, ◌+◌, ◌-◌, ◌*◌, ◌/◌, ◌%◌, ◌^◌, ◌<◌, ◌≤◌, Bool, true, false, T, sym, refl, ap, ◌∙◌, subst, inl, inr, le_trans, lt_of_lt_of_le, mul-le-mul_right, mul_assoc, suc-mul, div-lt_iff_lt-mul, add_comm, mul-lt-mul_of_pos_right, le-div_iff_mul-le, mul-div_cancel, arith, pow_pos, pow_mono, pow-add, shr_lt}
use native.Mathlib.Nat.{two-pow-succ}
use lib.Ieee.{size}
use lib.Ieee.Digits.{size-lt, size-le, size_reaches}
use Rattle.std.proofs.lemmas.Bool.{ltb-false, ne_eqb, cases_lt, cases_eq, eq-eqb}
use Rattle.registers.specs.declared.cut.Side.{Side}
use Rattle.registers.specs.declared.cut.Side.TheVariants.{On, Under, Half, Over}
use Rattle.registers.specs.declared.mode.Way.TheVariants.{Nearest}
use Rattle.registers.specs.Binary32.{goes_up, is_odd}
use Rattle.registers.specs.Sides.{Splits, lower_of, middle_of, one}
use Rattle.registers.specs.Nearest.{multiple, nearest}
use Rattle.registers.specs.Held.{Held}
use Rattle.registers.proofs.Nearness.{size_at, nearest_at, nearest_exact, multiple_is, upward_over, upward_tie, upward_under}

-- how a number fills its digits
pub size_full : (n : ℕ) → 0 < n → 2 ^ size n ≤ 2 * n
size_full n p =
    let l : 0 < size n = elim (cases_lt 0 (size n)) [ inl l ↦ l | inr z ↦ absurd (omega (arith, lt_of_lt_of_le (size-lt n) (pow_mono z))) ] in
    let s : suc (size n - 1) ≡ size n = omega arith in
    let d : 2 ^ size n ≡ 2 ^ (size n - 1) + 2 ^ (size n - 1) = ap (λ (x : ℕ). 2 ^ x) (sym s) ∙ two-pow-succ (size n - 1) in
    omega (arith, d, size_reaches n (size n - 1) (omega arith))

pub size_scale : (n j : ℕ) → 0 < n → size (n * 2 ^ j) ≡ size n + j
size_scale n j p =
    let a : 2 ^ (size n + j) ≡ 2 ^ size n * 2 ^ j = pow-add 2 (size n) j in
    let b : n * 2 ^ j < 2 ^ (size n + j) = rw a (mul-lt-mul_of_pos_right (size-lt n) (pow_pos j)) in
    let c : 2 ^ size n * 2 ^ j ≤ 2 * n * 2 ^ j = mul-le-mul_right (2 ^ j) (size_full n p) in
    size_at (n * 2 ^ j) (size n + j) b (omega (arith, a, c, mul_assoc 2 n (2 ^ j)))

module _ (whole e n : ℕ) (more : Bool) (h : Held whole e more n) where
  pub width_exact : (w : ℕ) → w ≤ 30 → size whole ≤ w → (T more → 2 ^ 32 ≤ whole) → whole * 2 ^ e ≡ nearest w n
  width_exact w w30 l big =
      let small : whole < 2 ^ w = lt_of_lt_of_le (size-lt whole) (pow_mono l) in
      sym (ap (nearest w) (whole_is more refl) ∙ nearest_exact w whole e small)
    where
      whole_is : (b : Bool) → more ≡ b → n ≡ whole * 2 ^ e
      whole_is true d =
          let m : 2 ^ 32 ≤ whole = big (subst T (sym d) tt) in
          let t : size whole ≤ 30 = omega arith in
          let s : whole < 2 ^ 30 = lt_of_lt_of_le (size-lt whole) (pow_mono t) in
          absurd (omega arith)
      whole_is false d = omega (arith, h.parts, ltb-false 0 h.rest (sym h.told ∙ d))

  pub width_cut : (w : ℕ) → w < size whole → multiple ((size whole - w) + e) n ≡ nearest w n
  width_cut w l =
      let p : 0 < whole = elim (cases_lt 0 whole) [ inl q ↦ q | inr z ↦ absurd (omega (arith, size-le whole 0 (omega arith))) ] in
      let d : w + ((size whole - w) + e) ≡ size whole + e = omega arith in
      let a : 2 ^ (w + ((size whole - w) + e)) ≡ 2 ^ size whole * 2 ^ e = ap (λ (x : ℕ). 2 ^ x) d ∙ pow-add 2 (size whole) e in
      let b : n < 2 ^ size whole * 2 ^ e = omega (arith, h.parts, h.small, rw suc-mul at (mul-le-mul_right (2 ^ e) (size-lt whole))) in
      let c : 2 ^ size whole * 2 ^ e ≤ 2 * whole * 2 ^ e = mul-le-mul_right (2 ^ e) (size_full whole p) in
      sym (nearest_at w ((size whole - w) + e) n (rw a b) (inr (rw a (omega (arith, c, h.parts, mul_assoc 2 whole (2 ^ e))))))

pub cut_small : (whole w r : ℕ) → w ≤ size whole → r ≤ whole / 2 ^ (size whole - w) + 1 → r ≤ 2 ^ w
cut_small whole w r l h =
    let d : w + (size whole - w) ≡ size whole = omega arith in
    let a : whole / 2 ^ (size whole - w) < 2 ^ w = shr_lt w (size whole - w) (rw d (size-lt whole)) in
    omega arith

-- ---- moved to 30 digits

module _ (n : ℕ) (some : 0 < n) (few : n ≤ 2 ^ 30) where
  pub normal_same : n * 2 ^ 30 / 2 ^ size n * 2 ^ size n ≡ n * 2 ^ 30
  normal_same = elim (cases_lt 30 (size n)) [
    | inl l ↦
        let a : n ≡ 2 ^ 30 = omega (arith, size_reaches n 30 l) in
        let b : size n ≡ 31 = size_at n 31 (omega arith) (omega arith) in
        rw (b, a) refl
    | inr g ↦
        let d : (30 - size n) + size n ≡ 30 = omega arith in
        let a : n * 2 ^ 30 ≡ n * 2 ^ (30 - size n) * 2 ^ size n = ap (λ (x : ℕ). n * 2 ^ x) (sym d) ∙ ap (λ (x : ℕ). n * x) (pow-add 2 (30 - size n) (size n)) ∙ sym (mul_assoc n (2 ^ (30 - size n)) (2 ^ size n)) in
        ap (λ (x : ℕ). x / 2 ^ size n * 2 ^ size n) a ∙ ap (λ (x : ℕ). x * 2 ^ size n) (mul-div_cancel (n * 2 ^ (30 - size n)) (pow_pos (size n))) ∙ sym a
  ]

  pub normal_low : 2 ^ 29 ≤ n * 2 ^ 30 / 2 ^ size n
  normal_low = (le-div_iff_mul-le (pow_pos (size n))).1 (omega (arith, size_full n some))

  pub normal_high : n * 2 ^ 30 / 2 ^ size n < 2 ^ 30
  normal_high = (div-lt_iff_lt-mul (pow_pos (size n))).1 (omega (arith, size-lt n))

pub normal_all : (n long m : ℕ) → long ≡ size n → 0 < n → n ≤ 2 ^ 30 → m ≡ n * 2 ^ 30 → (m / 2 ^ long * 2 ^ long ≡ n * 2 ^ 30) × (2 ^ 29 ≤ m / 2 ^ long) × (m / 2 ^ long < 2 ^ 30)
normal_all n long m d some few e = rw (e, d) (normal_same n some few, normal_low n some few, normal_high n some few)

pub size_few : (n : ℕ) → n ≤ 2 ^ 30 → size n ≤ 31
size_few n h = size-le n 31 (omega arith)

-- the same, with the size by another name
pub width_exact_at : (w long whole e : ℕ) (more : Bool) → long ≡ size whole → w ≤ 30 → long ≤ w → (T more → 2 ^ 32 ≤ whole) → ((n : ℕ) → Held whole e more n → whole * 2 ^ e ≡ nearest w n) × (whole ≤ 2 ^ 30)
width_exact_at w long whole e more d w30 l big =
    let t : size whole ≤ w = omega arith in
    (λ n h. width_exact whole e n more h w w30 t big, omega (arith, lt_of_lt_of_le (size-lt whole) (pow_mono t), pow_mono {i = w} {j = 30} w30))

-- a split number, to nearest
pub split_nearest : (kept : ℕ) (side : Side) (g n : ℕ) → Splits kept side g n → (kept + one (goes_up Nearest (lower_of side) (middle_of side) (is_odd kept))) * 2 ^ g ≡ multiple g n
split_nearest kept On g n h = sym (multiple_is g n kept h.rest h.parts h.small ∙ ap (λ (x : ℕ). (kept + x) * 2 ^ g) (upward_under kept h.rest (2 ^ g) (omega (arith, h.told, pow_pos g))))
split_nearest kept Under g n h = sym (multiple_is g n kept h.rest h.parts h.small ∙ ap (λ (x : ℕ). (kept + x) * 2 ^ g) (upward_under kept h.rest (2 ^ g) h.told.1))
split_nearest kept Half g n h = sym (multiple_is g n kept h.rest h.parts h.small ∙ ap (λ (x : ℕ). (kept + x) * 2 ^ g) (upward_tie kept h.rest (2 ^ g) h.told.1 ∙ odd_one kept))
  where
    odd_one : (k : ℕ) → k % 2 ≡ one (is_odd k)
    odd_one k = elim (cases_eq (k % 2) 1) [ inl e ↦ rw (eq-eqb (k % 2) 1 e) e | inr d ↦ rw (ne_eqb (k % 2) 1 d) (omega arith) ]
split_nearest kept Over g n h = sym (multiple_is g n kept h.rest h.parts h.small ∙ ap (λ (x : ℕ). (kept + x) * 2 ^ g) (upward_over kept h.rest (2 ^ g) h.told.1))

pub width_cut_at : (w long whole e k r : ℕ) (more : Bool) (side : Side) → w ≤ 30 → long ≡ size whole → w < long
    → ((n : ℕ) → Held whole e more n → Splits k side (long - w + e) n) → k ≡ whole / 2 ^ (long - w)
    → r ≡ k + one (goes_up Nearest (lower_of side) (middle_of side) (is_odd k))
    → ((n : ℕ) → Held whole e more n → r * 2 ^ (e + (long - w)) ≡ nearest w n) × (r ≤ 2 ^ 30)
width_cut_at w long whole e k r more side w30 d l splits k-is r-is = (
  λ n h. ap (λ (x : ℕ). r * 2 ^ x) (add_comm e (long - w)) ∙ ap (λ (x : ℕ). x * 2 ^ (long - w + e)) r-is ∙ split_nearest k side (long - w + e) n (splits n h) ∙ ap (λ (x : ℕ). multiple (x - w + e) n) d ∙ width_cut whole e n more h w (omega arith),
  le_trans (cut_small whole w r (omega arith) (subst (λ (x : ℕ). r ≤ whole / 2 ^ (x - w) + 1) d (omega (arith, r-is, k-is, one_small (goes_up Nearest (lower_of side) (middle_of side) (is_odd k)))))) (pow_mono w30),
)
  where
    one_small : (b : Bool) → one b ≤ 1
    one_small true = omega arith
    one_small false = omega arith
