-- Two ways to read one digit more that read the same number.
use Rattle.std.proofs.Common.{◌≡◌, ℕ, ◌+◌, ◌*◌, ◌^◌, ◌<◌, ◌≤◌, List, [], ◌∷◌, length, Some, None, Option, refl, ap, ◌∙◌, lt_of_lt_of_le, arith, pow_mono, pow-add}
use Rattle.std.proofs.lemmas.Bool.Decides.{nat_tests}
use Rattle.words.specs.Decimal.{ten_more}
use Rattle.words.specs.Digits.{more_in}
use Rattle.words.specs.Hexadecimal.{hex_more}
use Rattle.words.specs.Reading.{next, read_on}

next_same : (o : Option ℕ) (f g : ℕ → Option ℕ) → ((m : ℕ) → o ≡ Some m → f m ≡ g m) → next o f ≡ next o g
next_same None f g h = refl
next_same (Some m) f g h = h m refl

-- they agree wherever `Kept` holds of what was read and of what is left, and each digit keeps it
module _ (f g : ℕ → ℕ → Option ℕ) (Kept : ℕ → List ℕ → Type 0) (agree : (n c : ℕ) (cs : List ℕ) → Kept n (c ∷ cs) → f n c ≡ g n c) (keeps : (n c m : ℕ) (cs : List ℕ) → Kept n (c ∷ cs) → g n c ≡ Some m → Kept m cs) where
  same : (cs : List ℕ) (n : ℕ) → Kept n cs → read_on f n cs ≡ read_on g n cs
  unfolding read_on
  same [] n h = refl
  same (c ∷ cs) n h = ap (λ (o : Option ℕ). next o (λ m. read_on f m cs)) (agree n c cs h) ∙ next_same (g n c) (λ m. read_on f m cs) (λ m. read_on g m cs) (λ m e. same cs m (keeps n c m cs h e))

ten_agrees : (n c : ℕ) → more_in 10 n c ≡ ten_more n c
ten_agrees n c = grind (arith, nat_tests)

pub ten_same : (cs : List ℕ) → read_on (more_in 10) 0 cs ≡ read_on ten_more 0 cs
ten_same cs = same (more_in 10) ten_more (λ _ _. Unit {0}) (λ n c _ _. ten_agrees n c) (λ _ _ _ _ _ _. tt) cs 0 tt

sixteen_agrees : (n c : ℕ) → n < 2 ^ 28 → more_in 16 n c ≡ hex_more n c
sixteen_agrees n c h = grind (arith, nat_tests)

sixteen_small : (n c m : ℕ) → hex_more n c ≡ Some m → m < n * 16 + 16
sixteen_small n c m e = grind (arith, nat_tests)

small_more : (n i m : ℕ) → n < 2 ^ (4 * i) → m < n * 16 + 16 → m < 2 ^ (4 * (i + 1))
small_more n i m h k =
    let e : 4 * (i + 1) ≡ 4 + 4 * i = omega arith in
    let f : 2 ^ (4 * (i + 1)) ≡ 2 ^ 4 * 2 ^ (4 * i) = ap (λ (x : ℕ). 2 ^ x) e ∙ pow-add 2 4 (4 * i) in
    omega (arith, f)

small_fits : (n i : ℕ) → n < 2 ^ (4 * i) → i < 8 → n < 2 ^ 28
small_fits n i h k =
    let l : 4 * i ≤ 28 = omega arith in
    lt_of_lt_of_le h (pow_mono l)

-- i of eight digits are read, and n is what they write
record Eighth (n : ℕ) (cs : List ℕ) : Type 0 where
  i : ℕ
  left : length cs + i ≡ 8
  small : n < 2 ^ (4 * i)

-- eight digits fit 32 bits
pub sixteen_same : (cs : List ℕ) → length cs ≡ 8 → read_on (more_in 16) 0 cs ≡ read_on hex_more 0 cs
sixteen_same cs l =
    same (more_in 16) hex_more Eighth
    (λ n c ds h. sixteen_agrees n c (small_fits n h.i h.small (omega arith)))
    (λ n c m ds h e. record { i = h.i + 1; left = omega arith; small = small_more n h.i m h.small (sixteen_small n c m e) })
    cs 0 (record { i = 0; left = omega arith; small = omega arith })
