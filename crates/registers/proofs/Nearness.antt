-- What `nearest` gives.
use Rattle.std.proofs.Common.{◌≡◌, ℕ, zero, suc, ◌+◌, ◌-◌, ◌*◌, ◌/◌, ◌%◌, ◌^◌, ◌<◌, ◌≤◌, ◌⊎◌, sym, refl, ap, ◌∙◌, subst, inl, inr, lt_of_lt_of_le, add-zero, add_assoc, mul-le-mul_right, mod-lt, mul_assoc, suc-mul, mul_comm, add-mul, lt_of_mul-lt-mul_right, mul-le-mul_left, mul-lt-mul_of_pos_right, one-mul, zero-mul, mul-one, mul-add, mul_right_comm, arith, pow_pos, pow_mono, pow-add}
use native.Mathlib.Nat.{two-pow-succ, pow-zero}
use lib.Pow.{high, low, split}
use lib.Ieee.{size}
use lib.Ieee.Digits.{size-lt, size-le, size_reaches}
use Rattle.std.proofs.lemmas.Bool.{cases_lt, cases_order, lt-ltb, le-ltb, eq-eqb, ne_eqb}
use Rattle.registers.specs.Nearest.{upward, multiple, nearest}

-- ---- the three ways of a remainder

pub upward_over : (q r m : ℕ) → m < 2 * r → upward q r m ≡ 1
upward_over q r m h = rw (lt-ltb m (2 * r) h)

pub upward_tie : (q r m : ℕ) → 2 * r ≡ m → upward q r m ≡ q % 2
upward_tie q r m h = rw (le-ltb m (2 * r) (omega arith), eq-eqb (2 * r) m h)

pub upward_under : (q r m : ℕ) → 2 * r < m → upward q r m ≡ 0
upward_under q r m h = rw (le-ltb m (2 * r) (omega arith), ne_eqb (2 * r) m (omega arith))

-- half a step off at most
pub upward_close : (q r m : ℕ) → r < m → (2 * r ≤ 2 * (upward q r m * m) + m) × (2 * (upward q r m * m) ≤ 2 * r + m)
upward_close q r m h =
    elim (cases_order (2 * r) m) [
      | inl e ↦
          rw (upward_tie q r m e) (omega (arith, mul-le-mul_right m (small q), e))
      | inr o ↦ elim o [
        | inl l ↦ rw (upward_under q r m l) (omega (arith, zero-mul m))
        | inr g ↦ rw (upward_over q r m g) (omega (arith, one-mul m))
      ]
    ]
  where
    small : (q : ℕ) → q % 2 ≤ 1
    small q = omega arith

-- ---- a multiple of a power

pub multiple_is : (k n q r : ℕ) → n ≡ q * 2 ^ k + r → r < 2 ^ k → multiple k n ≡ (q + upward q r (2 ^ k)) * 2 ^ k
unfolding multiple
multiple_is k n q r e h =
    rw (e, high q k h, low q k h)

pub multiple_exact : (k q : ℕ) → multiple k (q * 2 ^ k) ≡ q * 2 ^ k
multiple_exact k q =
    multiple_is k (q * 2 ^ k) q 0 (sym (add-zero (q * 2 ^ k))) (pow_pos k)
    ∙ rw (upward_under q 0 (2 ^ k) (pow_pos k), add-zero q)

pub multiple_close : (k n : ℕ) → (2 * n ≤ 2 * multiple k n + 2 ^ k) × (2 * multiple k n ≤ 2 * n + 2 ^ k)
multiple_close k n =
    let q : ℕ = n / 2 ^ k in
    let r : ℕ = n % 2 ^ k in
    let s : r < 2 ^ k = mod-lt n (pow_pos k) in
    let e : q * 2 ^ k + r ≡ n = split n k in
    let c = upward_close q r (2 ^ k) s in
    rw (multiple_is k n q r (sym e) s, add-mul q (upward q r (2 ^ k)) (2 ^ k)) (omega (arith, c.0, c.1, e))

-- ---- to a width

pub size_at : (n j : ℕ) → n < 2 ^ j → 2 ^ j ≤ 2 * n + 1 → size n ≡ j
size_at n j h f = elim (cases_lt (size n) j) [
  | inl l ↦
      let m : 2 ^ suc (size n) ≤ 2 ^ j = pow_mono l in
      omega (arith, size-lt n, two-pow-succ (size n), m)
  | inr g ↦ omega (arith, size-le n j h)
]

pub nearest_at : (w k n : ℕ) → n < 2 ^ (w + k) → (k ≡ 0) ⊎ (2 ^ (w + k) ≤ 2 * n) → nearest w n ≡ multiple k n
unfolding nearest
nearest_at w k n h o = ap (λ (j : ℕ). multiple j n) eq
  where
    eq : size n - w ≡ k
    eq = elim o [ inl z ↦ omega (arith, size-le n (w + k) h) | inr f ↦ omega (arith, size_at n (w + k) h (omega arith)) ]

-- the view of a number: what is cut off, and how the number fills what is kept
pub nearest_view : (w n : ℕ) → (k : ℕ) × (n < 2 ^ (w + k)) × ((k ≡ 0) ⊎ (2 ^ (w + k) ≤ 2 * n))
nearest_view w n = elim (cases_lt w (size n)) [
  | inl l ↦
      let b : w + (size n - w) ≡ size n = omega arith in
      let j : 2 ^ (size n - 1) ≤ n = size_reaches n (size n - 1) (omega arith) in
      let d : 2 ^ suc (size n - 1) ≡ 2 ^ (size n - 1) + 2 ^ (size n - 1) = two-pow-succ (size n - 1) in
      let s : suc (size n - 1) ≡ size n = omega arith in
      (size n - w, rw b (size-lt n), inr (rw b (omega (arith, j, rw s at d))))
  | inr g ↦ (0, rw (add-zero w) (lt_of_lt_of_le (size-lt n) (pow_mono g)), inl refl)
]

-- a number of at most `w` bits, at any place, is its own rounding
pub nearest_exact : (w q j : ℕ) → q < 2 ^ w → nearest w (q * 2 ^ j) ≡ q * 2 ^ j
nearest_exact w q j h = go v.0 v.1 v.2
  where
    v : (k : ℕ) × (q * 2 ^ j < 2 ^ (w + k)) × ((k ≡ 0) ⊎ (2 ^ (w + k) ≤ 2 * (q * 2 ^ j)))
    v = nearest_view w (q * 2 ^ j)

    below : (k : ℕ) → (k ≡ 0) ⊎ (2 ^ (w + k) ≤ 2 * (q * 2 ^ j)) → k ≤ j
    below k o = elim o [
      | inl z ↦ omega arith
      | inr f ↦ elim (cases_lt j k) [
        | inl l ↦
            let a : q * 2 ^ j < 2 ^ w * 2 ^ j = mul-lt-mul_of_pos_right h (pow_pos j) in
            let b : 2 ^ (w + suc j) ≤ 2 ^ (w + k) = pow_mono (omega arith) in
            let c : 2 ^ (w + suc j) ≡ 2 ^ w * (2 ^ j + 2 ^ j) = rw (pow-add 2 w (suc j), two-pow-succ j) in
            omega (arith, a, b, c, f, mul-add (2 ^ w) (2 ^ j) (2 ^ j))
        | inr g ↦ g
      ]
    ]

    go : (k : ℕ) → q * 2 ^ j < 2 ^ (w + k) → (k ≡ 0) ⊎ (2 ^ (w + k) ≤ 2 * (q * 2 ^ j)) → nearest w (q * 2 ^ j) ≡ q * 2 ^ j
    go k s o =
        let g : k ≤ j = below k o in
        let d : j ≡ (j - k) + k = omega arith in
        let e : q * 2 ^ j ≡ q * 2 ^ (j - k) * 2 ^ k = ap (λ (x : ℕ). q * 2 ^ x) d ∙ ap (λ (x : ℕ). q * x) (pow-add 2 (j - k) k) ∙ sym (mul_assoc q (2 ^ (j - k)) (2 ^ k)) in
        nearest_at w k (q * 2 ^ j) s o ∙ ap (multiple k) e ∙ multiple_exact k (q * 2 ^ (j - k)) ∙ sym e

-- the error is at most the number over 2 ^ w
pub nearest_error : (w n : ℕ) → (2 ^ w * n ≤ 2 ^ w * nearest w n + n) × (2 ^ w * nearest w n ≤ 2 ^ w * n + n)
nearest_error w n = go v.0 v.1 v.2
  where
    v : (k : ℕ) × (n < 2 ^ (w + k)) × ((k ≡ 0) ⊎ (2 ^ (w + k) ≤ 2 * n))
    v = nearest_view w n

    scaled : (k a b : ℕ) → 2 ^ (w + k) ≤ 2 * n → 2 * a ≤ 2 * b + 2 ^ k → 2 ^ w * a ≤ 2 ^ w * b + n
    scaled k a b f c =
        omega (arith, f, pow-add 2 w k, mul-le-mul_left (2 ^ w) c, mul-add (2 ^ w) (2 * b) (2 ^ k), twice a, twice b)
      where
        twice : (x : ℕ) → 2 ^ w * (2 * x) ≡ 2 * (2 ^ w * x)
        twice x = sym (mul_assoc (2 ^ w) 2 x) ∙ ap (λ (y : ℕ). y * x) (mul_comm (2 ^ w) 2) ∙ mul_assoc 2 (2 ^ w) x

    go : (k : ℕ) → n < 2 ^ (w + k) → (k ≡ 0) ⊎ (2 ^ (w + k) ≤ 2 * n) → (2 ^ w * n ≤ 2 ^ w * nearest w n + n) × (2 ^ w * nearest w n ≤ 2 ^ w * n + n)
    go k s o = elim o [
      | inl z ↦ rw (small z) (omega arith)
      | inr f ↦ rw (nearest_at w k n s (inr f)) (scaled k n (multiple k n) f (multiple_close k n).0, scaled k (multiple k n) n f (multiple_close k n).1)
    ]
      where
        small : k ≡ 0 → nearest w n ≡ n
        small z =
            let l : n < 2 ^ w = rw (add-zero w) at (subst (λ (x : ℕ). n < 2 ^ (w + x)) z s) in
            subst (λ (x : ℕ). nearest w x ≡ x) (mul-one n) (nearest_exact w n 0 l)

-- the rounding does not turn on the unit
pub upward_scale : (q r m c : ℕ) → 0 < c → upward q (r * c) (m * c) ≡ upward q r m
upward_scale q r m c p = elim (cases_order (2 * r) m) [
  | inl e ↦ upward_tie q (r * c) (m * c) (two ∙ ap (λ (x : ℕ). x * c) e) ∙ sym (upward_tie q r m e)
  | inr o ↦ elim o [
    | inl l ↦ upward_under q (r * c) (m * c) (subst (λ (x : ℕ). x < m * c) (sym two) (mul-lt-mul_of_pos_right l p)) ∙ sym (upward_under q r m l)
    | inr g ↦ upward_over q (r * c) (m * c) (subst (λ (x : ℕ). m * c < x) (sym two) (mul-lt-mul_of_pos_right g p)) ∙ sym (upward_over q r m g)
  ]
]
  where
    two : 2 * (r * c) ≡ 2 * r * c
    two = sym (mul_assoc 2 r c)

pub multiple_scale : (k n j : ℕ) → multiple (k + j) (n * 2 ^ j) ≡ multiple k n * 2 ^ j
multiple_scale k n j =
    multiple_is (k + j) (n * 2 ^ j) q (r * 2 ^ j) parts small
    ∙ ap (λ (x : ℕ). (q + x) * 2 ^ (k + j)) (ap (upward q (r * 2 ^ j)) (pow-add 2 k j) ∙ upward_scale q r (2 ^ k) (2 ^ j) (pow_pos j))
    ∙ ap (λ (x : ℕ). (q + upward q r (2 ^ k)) * x) (pow-add 2 k j)
    ∙ sym (mul_assoc (q + upward q r (2 ^ k)) (2 ^ k) (2 ^ j))
    ∙ ap (λ (x : ℕ). x * 2 ^ j) (sym (multiple_is k n q r (sym (split n k)) (mod-lt n (pow_pos k))))
  where
    q : ℕ
    q = n / 2 ^ k

    r : ℕ
    r = n % 2 ^ k

    parts : n * 2 ^ j ≡ q * 2 ^ (k + j) + r * 2 ^ j
    parts = ap (λ (x : ℕ). x * 2 ^ j) (sym (split n k)) ∙ add-mul (q * 2 ^ k) r (2 ^ j) ∙ ap (λ (x : ℕ). x + r * 2 ^ j) (mul_assoc q (2 ^ k) (2 ^ j) ∙ ap (λ (x : ℕ). q * x) (sym (pow-add 2 k j)))

    small : r * 2 ^ j < 2 ^ (k + j)
    small = subst (λ (x : ℕ). r * 2 ^ j < x) (sym (pow-add 2 k j)) (mul-lt-mul_of_pos_right (mod-lt n (pow_pos k)) (pow_pos j))

pub nearest_scale : (w n j : ℕ) → nearest w (n * 2 ^ j) ≡ nearest w n * 2 ^ j
nearest_scale w n j = go v.0 v.1 v.2
  where
    v : (k : ℕ) × (n < 2 ^ (w + k)) × ((k ≡ 0) ⊎ (2 ^ (w + k) ≤ 2 * n))
    v = nearest_view w n

    go : (k : ℕ) → n < 2 ^ (w + k) → (k ≡ 0) ⊎ (2 ^ (w + k) ≤ 2 * n) → nearest w (n * 2 ^ j) ≡ nearest w n * 2 ^ j
    go k s o = elim o [
      | inl z ↦
          let l : n < 2 ^ w = rw (add-zero w) at (subst (λ (x : ℕ). n < 2 ^ (w + x)) z s) in
          let m : nearest w n ≡ n = subst (λ (x : ℕ). nearest w x ≡ x) (mul-one n) (nearest_exact w n 0 l) in
          nearest_exact w n j l ∙ ap (λ (x : ℕ). x * 2 ^ j) (sym m)
      | inr f ↦
          let a : 2 ^ (w + (k + j)) ≡ 2 ^ (w + k) * 2 ^ j = ap (λ (x : ℕ). 2 ^ x) (sym (add_assoc w k j)) ∙ pow-add 2 (w + k) j in
          let b : n * 2 ^ j < 2 ^ (w + (k + j)) = rw a (mul-lt-mul_of_pos_right s (pow_pos j)) in
          let c : 2 ^ (w + (k + j)) ≤ 2 * (n * 2 ^ j) = rw (a, ← mul_assoc 2 n (2 ^ j)) (mul-le-mul_right (2 ^ j) f) in
          nearest_at w (k + j) (n * 2 ^ j) b (inr c) ∙ multiple_scale k n j ∙ ap (λ (x : ℕ). x * 2 ^ j) (sym (nearest_at w k n s (inr f)))
    ]

-- a multiple nearer than half a step is the one
pub multiple_near : (k n p : ℕ) → 2 * n < 2 * (p * 2 ^ k) + 2 ^ k → 2 * (p * 2 ^ k) < 2 * n + 2 ^ k → multiple k n ≡ p * 2 ^ k
multiple_near k n p a b =
    let q : ℕ = n / 2 ^ k in
    let r : ℕ = n % 2 ^ k in
    let v : ℕ = q + upward q r (2 ^ k) in
    let e : multiple k n ≡ v * 2 ^ k = multiple_is k n q r (sym (split n k)) (mod-lt n (pow_pos k)) in
    let c = multiple_close k n in
    let x : v * 2 ^ k < suc p * 2 ^ k = omega (arith, c.0, c.1, e, a, b, suc-mul p (2 ^ k)) in
    let y : p * 2 ^ k < suc v * 2 ^ k = omega (arith, c.0, c.1, e, a, b, suc-mul v (2 ^ k)) in
    let x' : v < suc p = lt_of_mul-lt-mul_right (2 ^ k) x in
    let y' : p < suc v = lt_of_mul-lt-mul_right (2 ^ k) y in
    let z : v ≡ p = omega arith in
    e ∙ ap (λ (t : ℕ). t * 2 ^ k) z

-- a number of exactly `w` bits that is nearer than a part of 2 ^ (w + 1) of itself is the rounding
-- (no proof cites it; it stands because no other fact states it)
pub nearest_near : (w q j n : ℕ) → q < 2 ^ w → 2 ^ w ≤ 2 * q → 2 * 2 ^ w * (q * 2 ^ j - n) < q * 2 ^ j → 2 * 2 ^ w * (n - q * 2 ^ j) < q * 2 ^ j → nearest w n ≡ q * 2 ^ j
nearest_near w q j n few full low high = elim (cases_lt n (2 ^ (w + j))) [
  | inl l ↦ elim (cases_lt (2 * n) (2 ^ (w + j))) [
    | inl below ↦ down j refl below
    | inr above ↦ nearest_at w j n l (inr above) ∙ multiple_near j n q (omega (arith, half_high)) (omega (arith, half_low))
  ]
  | inr g ↦ absurd (omega (arith, half_high, pow-add 2 w j, rw suc-mul at (mul-le-mul_right (2 ^ j) few), pow_pos j))
]
  where
    top : q * 2 ^ j < 2 ^ w * 2 ^ j
    top = mul-lt-mul_of_pos_right few (pow_pos j)

    half : (d : ℕ) → 2 * 2 ^ w * d < q * 2 ^ j → 2 * d < 2 ^ j
    half d h =
        let e : 2 * 2 ^ w * d ≡ 2 * d * 2 ^ w = mul_right_comm 2 (2 ^ w) d in
        lt_of_mul-lt-mul_right (2 ^ w) (omega (arith, h, e, top, mul_comm (2 ^ w) (2 ^ j)))

    half_low : 2 * (q * 2 ^ j - n) < 2 ^ j
    half_low = half (q * 2 ^ j - n) low

    half_high : 2 * (n - q * 2 ^ j) < 2 ^ j
    half_high = half (n - q * 2 ^ j) high

    down : (i : ℕ) → j ≡ i → 2 * n < 2 ^ (w + j) → nearest w n ≡ q * 2 ^ j
    down zero e b =
        let o : 2 ^ j ≡ 1 = ap (λ (x : ℕ). 2 ^ x) e ∙ pow-zero 2 in
        let f : 2 ^ w * 2 ^ j ≤ 2 * q * 2 ^ j = mul-le-mul_right (2 ^ j) full in
        absurd (omega (arith, o, f, half_low, b, pow-add 2 w j, mul_assoc 2 q (2 ^ j)))
    down (suc i) e b =
        let o : 2 ^ j ≡ 2 ^ i + 2 ^ i = ap (λ (x : ℕ). 2 ^ x) e ∙ two-pow-succ i in
        let x_is : q * 2 ^ j ≡ 2 * q * 2 ^ i = ap (λ (x : ℕ). q * x) o ∙ mul-add q (2 ^ i) (2 ^ i) ∙ omega (arith, mul_assoc 2 q (2 ^ i)) in
        let p-is : 2 ^ (w + j) ≡ 2 * (2 ^ w * 2 ^ i) = pow-add 2 w j ∙ ap (λ (x : ℕ). 2 ^ w * x) o ∙ mul-add (2 ^ w) (2 ^ i) (2 ^ i) ∙ omega arith in
        let c : 2 * q * 2 ^ i < suc (2 ^ w) * 2 ^ i = omega (arith, half_low, o, x_is, p-is, b, suc-mul (2 ^ w) (2 ^ i)) in
        let d : 2 * q < suc (2 ^ w) = lt_of_mul-lt-mul_right (2 ^ i) c in
        let f : 2 * q ≡ 2 ^ w = omega arith in
        let g : q * 2 ^ j ≡ 2 ^ w * 2 ^ i = x_is ∙ ap (λ (x : ℕ). x * 2 ^ i) f in
        let h : 2 * (q * 2 ^ j - n) * 2 ^ w < 2 ^ i * 2 ^ w = omega (arith, low, mul_right_comm 2 (2 ^ w) (q * 2 ^ j - n), g, mul_comm (2 ^ w) (2 ^ i)) in
        let m : 2 * (q * 2 ^ j - n) < 2 ^ i = lt_of_mul-lt-mul_right (2 ^ w) h in
        let u : 1 * 2 ^ i ≤ 2 ^ w * 2 ^ i = mul-le-mul_right (2 ^ i) (pow_pos w) in
        let v : 2 ^ (w + i) ≡ 2 ^ w * 2 ^ i = pow-add 2 w i in
        nearest_at w i n (omega (arith, v, b, p-is)) (inr (omega (arith, v, g, m, u, one-mul (2 ^ i))))
        ∙ multiple_near i n (2 * q) (omega (arith, x_is, g, b, p-is, pow_pos i)) (omega (arith, x_is, m))
        ∙ sym x_is
