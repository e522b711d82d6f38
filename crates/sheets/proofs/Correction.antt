-- A value c corrected by its residual: c + x·h, where x is what r leaves over p, rounded, with its sign.
use Rattle.std.proofs.Common.{◌≡◌, ℕ, zero, ◌+◌, ◌*◌, ◌^◌, ◌<◌, ◌≤◌, Bool, true, false, ◌⊎◌, sym, refl, ap, subst, inl, inr, mul-pos, le_of_mul-le-mul_right, arith, pow_pos, pow-add}
use native.Mathlib.Nat.{le_dest}
use Rattle.registers.specs.Laws.{Bits}
use Rattle.registers.specs.Lines.{Sum}
use Rattle.registers.proofs.Signs.{Line, true≢false}
use Rattle.registers.proofs.Spacing.{exact}

-- r - p is n, up or down, and N is c + x·h with x on the same side
abbrev pub Correction : ℕ → ℕ → ℕ → ℕ → ℕ → ℕ → ℕ → ℕ → Type 0
Correction W r p c h x n N = ((n + p ≡ r) × (N ≡ c * W + x * h)) ⊎ ((n + r ≡ p) × (N + x * h ≡ c * W))

-- what is left over p, where r is below it
pub left_over : (r p n : ℕ) (s : Bool) → s ≡ true → Sum false r true p s n → n + r ≡ p
left_over r p n true h e = omega (arith, e)
left_over r p n false h e = absurd (true≢false (sym h))

-- a sum is at most both terms together
pub sum_most : (a b s : Bool) (x y n : ℕ) → Sum a x b y s n → n ≤ x + y
sum_most false false false x y n e = omega (arith, e)
sum_most false false true x y n e = omega (arith, e)
sum_most false true false x y n e = omega (arith, e)
sum_most false true true x y n e = omega (arith, e)
sum_most true false false x y n e = omega (arith, e)
sum_most true false true x y n e = omega (arith, e)
sum_most true true false x y n e = omega (arith, e)
sum_most true true true x y n e = omega (arith, e)

-- c + x, with x of a sign, is above zero where c outweighs x
pub sum_plus : (c x : ℕ) (s t : Bool) (N : ℕ) → zero < c → (s ≡ true → x < c) → Sum false c s x t N → t ≡ false
sum_plus c x s false N some less e = refl
sum_plus c x false true N some less e = absurd (omega (arith, e, some))
sum_plus c x true true N some less e = absurd (omega (arith, e, less refl))

pub correction : (W r p c h : ℕ) (s : Bool) (x n N : ℕ) → Sum false r true p s n → Sum false (c * W) s (x * h) false N → Correction W r p c h x n N
correction W r p c h false x n N e f = inl (omega (arith, e), omega (arith, f))
correction W r p c h true x n N e f = inr (omega (arith, e), omega (arith, f))

-- what is left of two multiples of a power of two has at most 30 bits, where they are not far apart
pub few_bits : (i j x y n : ℕ) → n + y * (2 ^ i * 2 ^ j) ≡ x * (2 ^ i * 2 ^ j) → x < y + 2 ^ 30 → Bits 30 n
few_bits i j x y n e near = by (le_dest (le_of_mul-le-mul_right {m = y} {n = x} {k = 2 ^ i * 2 ^ j} (omega (arith, e)) (mul-pos (pow_pos i) (pow_pos j))))
  where
    by : (t : ℕ) × (y + t ≡ x) → Bits 30 n
    by t = record { part = t.0; exp = i + j; fits = omega (arith, t.1, near); is = omega (arith, e, ap (λ z. z * (2 ^ i * 2 ^ j)) t.1, ap (λ z. t.0 * z) (pow-add 2 i j)) }

-- a residual is exact where what is left, up or down, has at most 30 bits
pub rest_exact : {W A p : ℕ} {s : Bool} {x : ℕ} → Line 30 W false A true p s x
    → ((n : ℕ) → n + p ≡ A * W → Bits 30 n) → ((n : ℕ) → n + A * W ≡ p → Bits 30 n)
    → Sum false (A * W) true p s (x * W)
rest_exact {W} {A} {p} {s} {x} line left over = subst (Sum false (A * W) true p s) (sym (exact 30 line.line (bits s line.n line.sum))) line.sum
  where
    bits : (t : Bool) (n : ℕ) → Sum false (A * W) true p t n → Bits 30 n
    bits false n e = left n (omega (arith, e))
    bits true n e = over n (omega (arith, e))
