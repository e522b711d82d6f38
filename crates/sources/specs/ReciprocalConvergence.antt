-- How close the reciprocal comes. A round takes y to y·(2 - b·y), which squares the error but for a few parts in 2 ^ 30; the line starts within one part in 16.
use Rattle.std.specs.Prelude.{◌≡◌, ℕ, zero, ◌+◌, ◌-◌, ◌*◌, ◌^◌, ◌<◌, ◌≤◌, Bool, true, false}
use Rattle.std.proofs.Common.{mul-le-mul, mul-le-mul_right, mul-le-mul_left, le_of_mul-le-mul_right, lt_of_mul-lt-mul_right, mul-pos, arith, subst, subst₂, ap, inl, inr}
use Rattle.std.proofs.Math.Nat.{le_dest}
use Rattle.registers.specs.Lines.{FusedLine}
use Rattle.registers.proofs.Near.{Near, Near30}
use Rattle.registers.proofs.Spacing.{order}
use Rattle.registers.proofs.Signs.{Line, line_of}
use Rattle.sources.specs.Convergence.{Inverse, ReciprocalRound, ReciprocalBetters}
use Rattle.sources.specs.Nonnegative.{Plain, plus, minus, positive}
use Rattle.sources.specs.Squared.{Apart, Factor, betters_most, betters_least}

-- what one round makes of a seed within one part in K
pub record Bettered (K W B : ℕ) (s : Bool) (Y' : ℕ) : Type 0 where
  pub sign : s ≡ false
  pub most : 2 ^ 29 * (B * Y') ≤ 2 ^ 29 * (W * W) + W * W
  pub least : 2 ^ 29 * (K * K * (W * W)) ≤ 2 ^ 29 * (K * K * (B * Y')) + 2 ^ 29 * (W * W) + K * K * (W * W)

module _ (K W B Y : ℕ)
    (one : zero < W)
    (some : 2 ≤ K)
    (close : Near K (W * W) (B * Y))
  where
    square : zero < W * W
    square = mul-pos one one

    pub some_y : zero < Y
    some_y = positive Y (λ e. omega (arith, close.1, square, mul-le-mul_right (W * W) some, ap (λ y. K * (B * y)) e))

    -- with the factor f = 1 ± e
    close_by : (n e f : ℕ) → Apart (W * W) (B * Y) n → Factor (W * W) (B * Y) n (f * W) → (s : Bool) (Y' : ℕ) → Plain (Y * f) W s Y' → Bettered K W B s Y'
    close_by n e f a g s Y' r = record {
      sign = r.sign;
      most = betters_most K (W * W) (B * Y) n (f * W) (B * Y') square some a near g round;
      least = betters_least K (W * W) (B * Y) n (f * W) (B * Y') square some a near g round;
    }
      where
        near : K * n ≤ W * W
        near = elim a [ inl h ↦ omega (arith, close.1, ap (λ x. K * x) h) | inr h ↦ omega (arith, close.0, ap (λ x. K * x) h) ]

        round : Near30 (B * Y * (f * W)) (B * Y' * (W * W))
        round = (omega (arith, mul-le-mul_right (B * W) r.near.0), omega (arith, mul-le-mul_right (B * W) r.near.1))

    less : (e : ℕ) → Line 30 W false W true (B * Y) false e → (s : Bool) (Y' : ℕ) → Line 30 W false Y false (e * Y) s Y' → Bettered K W B s Y'
    less e l s Y' m = close_by l.n e (W + e) (inl (omega (arith, l.sum))) (omega (arith, l.sum, l.line.near.0), omega (arith, l.sum, l.line.near.1)) s Y'
        (subst (λ x. Plain x W s Y') (omega arith) (plus W Y (e * Y) s Y' one m))

    over : (e : ℕ) → Line 30 W false W true (B * Y) true e → (s : Bool) (Y' : ℕ) → Line 30 W false Y true (e * Y) s Y' → Bettered K W B s Y'
    over e l s Y' m = go (le_dest {n = e} {m = W} (omega (arith, e<))) (minus W Y (e * Y) s Y' (omega (arith, mul-le-mul_right Y e<, some_y)) m)
      where
        gap : l.n + W * W ≡ B * Y
        gap = omega (arith, l.sum)

        half : 2 * l.n ≤ W * W
        half = omega (arith, close.0, ap (λ x. K * x) gap, mul-le-mul_right l.n some)

        e< : e < W
        e< = lt_of_mul-lt-mul_right W (omega (arith, half, l.line.near.0, square))

        go : (f : ℕ) × (e + f ≡ W) → (n : ℕ) × (n + e * Y ≡ Y * W) × Plain n W s Y' → Bettered K W B s Y'
        go f n = close_by l.n e f.0 (inr (omega (arith, gap))) (omega (arith, gap, l.line.near.1, ap (λ x. x * W) f.1), omega (arith, gap, l.line.near.0, ap (λ x. x * W) f.1)) s Y'
            (subst (λ x. Plain x W s Y') (omega (arith, n.1, ap (λ x. x * Y) f.1)) n.2)

    ways : (t : Bool) (e : ℕ) → Line 30 W false W true (B * Y) t e → (s : Bool) (Y' : ℕ) → Line 30 W false Y t (e * Y) s Y' → Bettered K W B s Y'
    ways false = less
    ways true = over

    pub round : (s : Bool) (Y' : ℕ) → ReciprocalRound W B Y s Y' → Bettered K W B s Y'
    round s Y' r = ways r.sign r.e (line_of 30 (omega arith) r.rest) s Y' (line_of 30 (omega arith) r.next)

-- from one part in K, K at least 29
pub near_of : (K W B Y : ℕ) → 29 ≤ K → Inverse K W B Y → Near K (W * W) (B * Y)
near_of K W B Y big c = (omega (arith, c.most), go (le_dest {n = 1} {m = K} (omega arith)))
  where
    go : (j : ℕ) × (1 + j ≡ K) → K * (W * W) ≤ K * (B * Y) + W * W
    go j = omega (arith, c.least, ap (λ x. x * (W * W)) j.1, ap (λ x. x * (W * W)) less)
      where
        less : K - 1 ≡ j.0
        less = omega (arith, j.1)

-- a smaller claim is met too
pub weaker : (K L M X : ℕ) → L ≤ K → zero < K → Near K M X → Near L M X
weaker K L M X h some n = (le_of_mul-le-mul_right {k = K} (omega (arith, mul-le-mul_left L n.0, mul-le-mul_right M h)) some, le_of_mul-le-mul_right {k = K} (omega (arith, mul-le-mul_left L n.1, mul-le-mul_right M h)) some)

pub reciprocal_betters : ReciprocalBetters
reciprocal_betters K W B Y one big c s Y' r = (b.sign, record { most = omega (arith, b.most); least = le_of_mul-le-mul_right {k = K * K} (omega (arith, b.least, mul-le-mul_right (W * W) square)) (omega (arith, square)) })
  where
    square : 841 ≤ K * K
    square = mul-le-mul big big

    b : Bettered K W B s Y'
    b = round K W B Y one (omega arith) (near_of K W B Y big c) s Y' r

-- the start: b is 2 p + q and one is p + q
twice : (p q : ℕ) → 2 * (p * q) ≤ p * p + q * q
twice p q = elim (order p q) [ inl h ↦ go p (le_dest h) | inr h ↦ omega (arith, go q (le_dest {n = q} {m = p} (omega (arith, h)))) ]
  where
    go : (a : ℕ) {b : ℕ} → (x : ℕ) × (a + x ≡ b) → 2 * (a * b) ≤ a * a + b * b
    go a x = subst (λ b. 2 * (a * b) ≤ a * a + b * b) x.1 (omega arith)

start : (p q R C n Y : ℕ) → zero < p + q → 256 * R ≡ 361 * (p + q) → 256 * C ≡ 120 * (p + q) → n + C * (2 * p + q) ≡ R * (p + q)
    → Near30 n (Y * (p + q)) → Near 16 ((p + q) * (p + q)) ((2 * p + q) * Y)
start p q R C n Y one r c e near = (omega (arith, hi, twice p q), omega (arith, lo, twice p q))
  where
    line : 256 * n ≡ (p + q) * (121 * p + 241 * q)
    line = omega (arith, ap (λ x. x * (p + q)) r, ap (λ x. x * (2 * p + q)) c, e)

    hi : 2 ^ 30 * (256 * ((2 * p + q) * Y)) ≤ (2 ^ 30 + 1) * (242 * (p * p) + 603 * (p * q) + 241 * (q * q))
    hi = le_of_mul-le-mul_right {k = p + q} (omega (arith, mul-le-mul_right (2 * p + q) near.0, ap (λ x. x * (2 * p + q)) line)) one

    lo : (2 ^ 30 - 1) * (242 * (p * p) + 603 * (p * q) + 241 * (q * q)) ≤ 2 ^ 30 * (256 * ((2 * p + q) * Y))
    lo = le_of_mul-le-mul_right {k = p + q} (omega (arith, mul-le-mul_right (2 * p + q) near.1, ap (λ x. x * (2 * p + q)) line)) one

module _ (W B R C : ℕ)
    (one : zero < W)
    (low : W ≤ B)
    (high : B ≤ 2 * W)
    (r : 256 * R ≡ 361 * W)
    (c : 256 * C ≡ 120 * W)
  where
    fits : C * B < R * W
    fits = omega (arith, ap (λ x. x * W) r, ap (λ x. x * B) c, mul-le-mul_right W high, mul-pos one one)

    pub started : (s : Bool) (Y : ℕ) → FusedLine 30 W false R true (C * B) s Y → (s ≡ false) × Near 16 (W * W) (B * Y)
    started s Y f = go (le_dest low) (le_dest high) (minus W R (C * B) s Y fits (line_of 30 (omega arith) f))
      where
        go : (p : ℕ) × (W + p ≡ B) → (q : ℕ) × (B + q ≡ 2 * W) → (n : ℕ) × (n + C * B ≡ R * W) × Plain n W s Y → (s ≡ false) × Near 16 (W * W) (B * Y)
        go p q n = (n.2.sign, subst₂ (λ w b. zero < w → 256 * R ≡ 361 * w → 256 * C ≡ 120 * w → n.0 + C * b ≡ R * w → Near30 n.0 (Y * w) → Near 16 (w * w) (b * Y)) ew eb (start p.0 q.0 R C n.0 Y) one r c n.1 n.2.near)
          where
            ew : p.0 + q.0 ≡ W
            ew = omega (arith, p.1, q.1)

            eb : 2 * p.0 + q.0 ≡ B
            eb = omega (arith, p.1, q.1)

    pub first : (s : Bool) (Y Y' : ℕ) → Near 16 (W * W) (B * Y) → ReciprocalRound W B Y s Y' → (s ≡ false) × Near 255 (W * W) (B * Y')
    first s Y Y' h r = let b = round 16 W B Y one (omega arith) h s Y' r in (b.sign, (omega (arith, b.most), omega (arith, b.least)))

    pub second : (s : Bool) (Y Y' : ℕ) → Near 255 (W * W) (B * Y) → ReciprocalRound W B Y s Y' → (s ≡ false) × Near 400 (W * W) (B * Y')
    second s Y Y' h r = let b = round 255 W B Y one (omega arith) h s Y' r in (b.sign, (omega (arith, b.most), omega (arith, b.least)))
