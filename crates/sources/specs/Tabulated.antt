-- The tables' entries are near and their seeds close. Each table is tested by one sum, which adds up by how much any of its entries passes a bound: it is computed, and is none. An entry's product with the operand grows with the operand, so the ends of the stretch that it serves speak for all of it.
use Rattle.std.specs.Prelude.{◌≡◌, ℕ, zero, suc, ◌+◌, ◌-◌, ◌*◌, ◌^◌, ◌<◌, ◌≤◌, cond, List, map, nat_lt, slice_index, refl}
use Rattle.std.proofs.Common.{ap, ◌∙◌, inl, inr, mul-le-mul_left, mul-le-mul_right, not-suc-le-zero, arith, pow-add}
use Rattle.std.proofs.lemmas.List.FromFn.{get_or-map-range_with_len}
use Rattle.std.proofs.lemmas.Bool.{cases_lt}
use Rattle.std.proofs.lemmas.Bool.Decides.{nat_tests}
use Rattle.std.specs.List.{range_with_len}
use Rattle.registers.specs.Range.{bias, bias_is}
use Rattle.registers.specs.Laws.{Bits}
use Rattle.sources.specs.Entries.{reciprocal_rule, reciprocal_entry, reciprocal_index, table_reciprocal, root_rule, root_entry, root_index, table_root, middle, NearestQuotient, NearestHalfRoot}
use Rattle.sources.specs.Fractions.{fraction}
use Rattle.sources.specs.Seeds.{IsSignificand, IsRadicand, ReciprocalSeed, RootSeed}

-- ---- sums over a table

total : (ℕ → ℕ) → ℕ → ℕ
total f zero = 0
total f (suc n) = f n + total f n

-- a sum that is none has no part that is more
none : (f : ℕ → ℕ) (n : ℕ) → total f n ≡ 0 → (k : ℕ) → k < n → f k ≡ 0
unfolding total
none f zero e k h = absurd (not-suc-le-zero h)
none f (suc n) e k h = elim (cases_lt k n) [ inl l ↦ none f n (omega (arith, e)) k l | inr g ↦ ap f (last g) ∙ omega (arith, e) ]
  where
    last : n ≤ k → k ≡ n
    last g = omega arith

-- an entry e of 11 bits passes p ≤ m x ≤ q at both ends, l and h, of its stretch, x growing by the factor f
excess : ℕ → ℕ → ℕ → ℕ → ℕ → ℕ → ℕ → ℕ
excess e m f l h p q = (2 ^ 10 - e) + (e - (2 ^ 11 - 1)) + (p - m * (f * l)) + (m * (f * h) - q)

pub record Bounded (e m f p q B : ℕ) : Type 0 where
  pub long : 2 ^ 10 ≤ e
  pub short : e < 2 ^ 11
  pub least : p ≤ m * (f * B)
  pub most : m * (f * B) ≤ q

bounded : (e m f l h p q B : ℕ) → excess e m f l h p q ≡ 0 → l ≤ B → B ≤ h → Bounded e m f p q B
unfolding excess
bounded e m f l h p q B none lo hi = record {
  long = omega (arith, none);
  short = omega (arith, none);
  least = omega (arith, none, mul-le-mul_left m (mul-le-mul_left f lo));
  most = omega (arith, none, mul-le-mul_left m (mul-le-mul_left f hi));
}

-- ---- reciprocals

-- where the stretch of entry i begins
from : ℕ → ℕ
from i = 2 ^ 23 + i * 2 ^ 15

reciprocal_excess : ℕ → ℕ
reciprocal_excess i = excess (reciprocal_rule i) 400 (reciprocal_rule i) (from i) (from i + (2 ^ 15 - 1)) (399 * 2 ^ 34) (401 * 2 ^ 34)

reciprocals_pass : total reciprocal_excess 256 ≡ 0
unfolding total excess reciprocal_excess from
reciprocals_pass = refl

pub index_small : (b : ℕ) → IsSignificand b → reciprocal_index b < 256
index_small b s = omega (arith, s.least, s.most)

pub reciprocal_bounded : (b : ℕ) → IsSignificand b → Bounded (reciprocal_entry (reciprocal_index b)) 400 (reciprocal_entry (reciprocal_index b)) (399 * 2 ^ 34) (401 * 2 ^ 34) b
unfolding reciprocal_entry reciprocal_excess from
reciprocal_bounded b s = bounded _ 400 _ (from (reciprocal_index b)) (from (reciprocal_index b) + (2 ^ 15 - 1)) _ _ b (none reciprocal_excess 256 reciprocals_pass (reciprocal_index b) (index_small b s)) (omega (arith, s.least)) (omega (arith, s.least))

-- ---- roots

-- where the stretch of entry k begins, and how long it is
stretch_from : ℕ → ℕ
stretch_from k = cond (nat_lt k 128) (2 ^ 23 + k * 2 ^ 16) (2 ^ 24 + (k - 128) * 2 ^ 17)

stretch_length : ℕ → ℕ
stretch_length k = cond (nat_lt k 128) (2 ^ 16) (2 ^ 17)

root_excess : ℕ → ℕ
root_excess k = excess (root_rule k) (400 * 400) (root_rule k * root_rule k) (stretch_from k) (stretch_from k + (stretch_length k - 1)) (399 * 399 * 2 ^ 45) (401 * 401 * 2 ^ 45)

roots_pass : total root_excess 256 ≡ 0
unfolding total excess root_excess stretch_from stretch_length
roots_pass = refl

pub root_index_small : (t : ℕ) → IsRadicand t → root_index t < 256
root_index_small t s = let lo : 2 ^ 23 ≤ t = s.least in let hi : t < 2 ^ 25 = s.most in grind (arith, nat_tests)

stretch_low : (t : ℕ) → 2 ^ 23 ≤ t → t < 2 ^ 25 → stretch_from (root_index t) ≤ t
unfolding stretch_from
stretch_low t lo hi = grind (arith, nat_tests)

stretch_high : (t : ℕ) → 2 ^ 23 ≤ t → t < 2 ^ 25 → t ≤ stretch_from (root_index t) + (stretch_length (root_index t) - 1)
unfolding stretch_from stretch_length
stretch_high t lo hi = grind (arith, nat_tests)

pub root_bounded : (t : ℕ) → IsRadicand t → Bounded (root_entry (root_index t)) (400 * 400) (root_entry (root_index t) * root_entry (root_index t)) (399 * 399 * 2 ^ 45) (401 * 401 * 2 ^ 45) t
unfolding root_entry root_excess
root_bounded t s = bounded _ (400 * 400) _ (stretch_from (root_index t)) (stretch_from (root_index t) + (stretch_length (root_index t) - 1)) _ _ t (none root_excess 256 roots_pass (root_index t) (root_index_small t s)) (stretch_low t s.least s.most) (stretch_high t s.least s.most)

-- ---- the seeds

-- one is 2 ^ 11 of the parts that entries count
scale : 2 ^ bias ≡ 2 ^ 11 * 2 ^ (bias - 11)
scale = ap (λ x. 2 ^ x) parts ∙ pow-add 2 11 (bias - 11)
  where
    parts : bias ≡ 11 + (bias - 11)
    parts = omega (arith, bias_is)

bits_of : (e m f p q B : ℕ) → Bounded e m f p q B → Bits 30 (fraction e 11)
bits_of e m f p q B b = record { part = e; exp = bias - 11; fits = omega (arith, b.short); is = refl }

pub reciprocals_are_close : (b : ℕ) → IsSignificand b → ReciprocalSeed 400 b (table_reciprocal b)
reciprocals_are_close b s = go (reciprocal_entry (reciprocal_index b)) (2 ^ (bias - 11)) (reciprocal_bounded b s) scale (bits_of _ _ _ _ _ _ (reciprocal_bounded b s))
  where
    go : (e u : ℕ) → Bounded e 400 e (399 * 2 ^ 34) (401 * 2 ^ 34) b → 2 ^ bias ≡ 2 ^ 11 * u → Bits 30 (e * u) → ReciprocalSeed 400 b (e * u)
    go e u h w k = record {
      bits = k;
      least = omega (arith, w, mul-le-mul_right u h.least);
      most = omega (arith, w, mul-le-mul_right u h.most);
    }

pub roots_are_close : (t : ℕ) → IsRadicand t → RootSeed 400 t (table_root t)
roots_are_close t s = go (root_entry (root_index t)) (2 ^ (bias - 11)) (root_bounded t s) scale (bits_of _ _ _ _ _ _ (root_bounded t s))
  where
    go : (e u : ℕ) → Bounded e (400 * 400) (e * e) (399 * 399 * 2 ^ 45) (401 * 401 * 2 ^ 45) t → 2 ^ bias ≡ 2 ^ 11 * u → Bits 30 (e * u) → RootSeed 400 t (e * u)
    go e u h w k = record {
      bits = k;
      least = omega (arith, ap (λ x. x * 2 ^ bias) w, ap (λ x. 2 ^ 11 * u * x) w, mul-le-mul_right (u * u) h.least);
      most = omega (arith, ap (λ x. x * 2 ^ bias) w, ap (λ x. 2 ^ 11 * u * x) w, mul-le-mul_right (u * u) h.most);
    }

-- ---- what the tables hold

-- the entries of a list that follows a rule
pub held : (f : ℕ → ℕ) (xs : List ℕ) (i : ℕ) → xs ≡ map f (range_with_len 0 256) → i < 256 → slice_index xs i ≡ f i
held f xs i e h = ap (λ (l : List ℕ). slice_index l i) e ∙ get_or-map-range_with_len f 0 256 i i 0 h (omega arith)

pub reciprocal_held : (xs : List ℕ) (i : ℕ) → xs ≡ map reciprocal_rule (range_with_len 0 256) → i < 256 → slice_index xs i ≡ reciprocal_entry i
unfolding reciprocal_entry
reciprocal_held xs i e h = held reciprocal_rule xs i e h

pub root_held : (xs : List ℕ) (i : ℕ) → xs ≡ map root_rule (range_with_len 0 256) → i < 256 → slice_index xs i ≡ root_entry i
unfolding root_entry
root_held xs i e h = held root_rule xs i e h

-- what is told of an entry
sized : (e m f l h p q : ℕ) → excess e m f l h p q ≡ 0 → (2 ^ 10 ≤ e) × (e < 2 ^ 11)
unfolding excess
sized e m f l h p q none = (omega (arith, none), omega (arith, none))

pub reciprocal_long : (i : ℕ) → i < 256 → (2 ^ 10 ≤ reciprocal_entry i) × (reciprocal_entry i < 2 ^ 11)
unfolding reciprocal_entry reciprocal_excess
reciprocal_long i h = sized _ _ _ _ _ _ _ (none reciprocal_excess 256 reciprocals_pass i h)

pub root_long : (i : ℕ) → i < 256 → (2 ^ 10 ≤ root_entry i) × (root_entry i < 2 ^ 11)
unfolding root_entry root_excess
root_long i h = sized _ _ _ _ _ _ _ (none root_excess 256 roots_pass i h)

-- ---- the rules give what is nearest

quotient_off : ℕ → ℕ → ℕ → ℕ
quotient_off n d e = (2 * n - (2 * (e * d) + d)) + (2 * (e * d) - (2 * n + d))

root_off : ℕ → ℕ → ℕ → ℕ
root_off n d e = (n - (2 * e + 1) * (2 * e + 1) * d) + ((2 * e - 1) * (2 * e - 1) * d - n)

nearest_quotient_lem : (n d e : ℕ) → quotient_off n d e ≡ 0 → NearestQuotient n d e
unfolding quotient_off
nearest_quotient_lem n d e none = record { not_low = omega (arith, none); not_high = omega (arith, none) }

nearest_half_root_lem : (n d e : ℕ) → root_off n d e ≡ 0 → NearestHalfRoot n d e
unfolding root_off
nearest_half_root_lem n d e none = record { not_low = omega (arith, none); not_high = omega (arith, none) }

reciprocals_off : ℕ → ℕ
reciprocals_off i = quotient_off (2 ^ 20) (513 + 2 * i) (reciprocal_rule i)

roots_off : ℕ → ℕ
roots_off k = root_off (2 ^ 32) (middle k) (root_rule k)

reciprocals_nearest : total reciprocals_off 256 ≡ 0
unfolding total quotient_off reciprocals_off
reciprocals_nearest = refl

roots_nearest : total roots_off 256 ≡ 0
unfolding total root_off roots_off
roots_nearest = refl

pub reciprocal_nearest : (i : ℕ) → i < 256 → NearestQuotient (2 ^ 20) (513 + 2 * i) (reciprocal_entry i)
unfolding reciprocal_entry reciprocals_off
reciprocal_nearest i h = nearest_quotient_lem _ _ _ (none reciprocals_off 256 reciprocals_nearest i h)

pub root_nearest : (k : ℕ) → k < 256 → NearestHalfRoot (2 ^ 32) (middle k) (root_entry k)
unfolding root_entry roots_off
root_nearest k h = nearest_half_root_lem _ _ _ (none roots_off 256 roots_nearest k h)
