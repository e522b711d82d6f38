-- Numbers of at most k bits: they keep a distance, and an odd factor takes no two away.
use Rattle.std.proofs.Common.{◌≡◌, ℕ, zero, suc, ◌+◌, ◌*◌, ◌/◌, ◌^◌, ◌<◌, ◌≤◌, ◌⊎◌, sym, ap, ◌∙◌, inl, inr, mul-le-mul_right, lt_of_mul-lt-mul_right, mul-le-mul_left, arith, pow-add}
use native.Mathlib.Nat.{le_dest, pow-succ'}
use native.Mathlib.Decide.{dec_le}
use Rattle.registers.proofs.Near.{Near}
use Rattle.registers.specs.Laws.{Bits, apart}

-- v is n rounded to k significant bits: no other such number is nearer
pub record Rounded (k n v : ℕ) : Type 0 where
  pub near : Near (2 ^ k) n v
  pub bits : Bits k v
  pub closest : (m : ℕ) → Bits k m → apart v n ≤ apart m n

pub order : (i j : ℕ) → (i ≤ j) ⊎ (j < i)
order i j = elim (dec_le i j) [ yes h ↦ inl h | no h ↦ inr (omega arith) ]

space : (K v x : ℕ) → v < x → (x ≤ K) ⊎ (v < K) → K * v + x ≤ K * x
space K v x h (inl p) = omega (arith, mul-le-mul_left K h)
space K v x h (inr p) = elim (order x K) [ inl q ↦ omega (arith, mul-le-mul_left K h) | inr q ↦ far (le_dest {n = K} {m = x} (omega (arith, q))) ]
  where
    far : (z : ℕ) × (K + z ≡ x) → K * v + x ≤ K * x
    far z = omega (arith, z.1, mul-le-mul_left K p, ap (λ t. K * t) z.1, mul-le-mul_right {m = 1} {n = K} z.0 (omega arith))

scale : (K v x p : ℕ) → K * v + x ≤ K * x → K * (v * p) + x * p ≤ K * (x * p)
scale K v x p h = omega (arith, mul-le-mul_right p h)

pub raise : (i j : ℕ) → i ≤ j → (t : ℕ) × (2 ^ j ≡ 2 ^ t * 2 ^ i)
raise i j h = let d = le_dest h in (d.0, ap (λ e. 2 ^ e) (sym d.1) ∙ pow-add 2 i d.0 ∙ omega arith)

keep : (K v m x y p : ℕ) → v ≡ x * p → m ≡ y * p → v < m → (y ≤ K) ⊎ (x < K) → K * v + m ≤ K * m
keep K v m x y p e f h c = omega (arith, ap (λ t. K * t) e, ap (λ t. K * t) f, scale K x y p (space K x y (lt_of_mul-lt-mul_right p (omega arith)) c))

-- numbers of k bits keep a distance
pub spacing : (k : ℕ) {v m : ℕ} → Bits k v → Bits k m → v < m → 2 ^ k * v + m ≤ 2 ^ k * m
spacing k {v} {m} a b h = elim (order a.exp b.exp) [ inl q ↦ up (raise a.exp b.exp q) | inr q ↦ down (raise b.exp a.exp (omega (arith, q))) ]
  where
    up : (t : ℕ) × (2 ^ b.exp ≡ 2 ^ t * 2 ^ a.exp) → 2 ^ k * v + m ≤ 2 ^ k * m
    up t = keep (2 ^ k) v m a.part (b.part * 2 ^ t.0) (2 ^ a.exp) a.is (omega (arith, b.is, ap (λ x. b.part * x) t.1)) h (inr a.fits)

    down : (t : ℕ) × (2 ^ a.exp ≡ 2 ^ t * 2 ^ b.exp) → 2 ^ k * v + m ≤ 2 ^ k * m
    down t = keep (2 ^ k) v m (a.part * 2 ^ t.0) b.part (2 ^ b.exp) (omega (arith, a.is, ap (λ x. a.part * x) t.1)) b.is h (inl (omega (arith, b.fits)))

halve : (p b h t : ℕ) → b * (2 * h + 1) ≡ 2 * p * t → (b ≡ 2 * (b / 2)) × ((b / 2) * (2 * h + 1) ≡ p * t)
halve p b h t e = (even, omega (arith, e, ap (λ x. x * h) even, even))
  where
    even : b ≡ 2 * (b / 2)
    even = omega (arith, e)

-- an odd factor takes no two away
pub odd_out : (k b h t : ℕ) → b * (2 * h + 1) ≡ 2 ^ k * t → (s : ℕ) × (b ≡ 2 ^ k * s)
odd_out zero b h t e = (b, omega arith)
odd_out (suc k) b h t e = let q = halve (2 ^ k) b h t (rw pow-succ' at e) in
    let r = odd_out k (b / 2) h t q.1 in
    (r.0, rw pow-succ' (omega (arith, q.0, r.1)))

-- what fits is not changed
pub exact : (k : ℕ) {n v : ℕ} → Rounded k n v → Bits k n → v ≡ n
exact k {n} {v} r b = omega (arith, r.closest n b)
