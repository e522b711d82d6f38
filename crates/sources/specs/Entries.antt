-- The seeds of the table source, by the rule that its tables follow.
use Rattle.std.specs.Prelude.{◌≡◌, ℕ, zero, suc, ◌+◌, ◌-◌, ◌*◌, ◌/◌, ◌^◌, ◌≤◌, cond, nat_le, nat_lt, refl}
use Rattle.sources.specs.Fractions.{fraction}

-- the whole number nearest to n / d
abbrev pub nearest_quotient : ℕ → ℕ → ℕ
nearest_quotient n d = (2 * n + d) / (2 * d)

-- the greatest number from r up and below r + 2 ^ k whose square is at most n
abbrev pub root_from : ℕ → ℕ → ℕ → ℕ
root_from n zero r = r
root_from n (suc k) r = root_from n k (cond (nat_le ((r + 2 ^ k) * (r + 2 ^ k)) n) (r + 2 ^ k) r)

-- the whole number nearest to the root of n / (4 * d), for n below 2 ^ 32 times d: the root of n / d, cut to a whole number, halved and rounded up at a half
abbrev pub nearest_half_root : ℕ → ℕ → ℕ
nearest_half_root n d = (root_from (n / d) 16 0 + 1) / 2

-- Reciprocal entry i serves the significands from (512 + 2 i) / 512 up to (514 + 2 i) / 512: it is the whole number nearest to 2 ^ 11 over the middle, (513 + 2 i) / 512.
abbrev pub reciprocal_rule : ℕ → ℕ
reciprocal_rule i = nearest_quotient (2 ^ 20) (513 + 2 * i)

-- the index is the top eight fraction bits
abbrev pub reciprocal_index : ℕ → ℕ
reciprocal_index b = (b - 2 ^ 23) / 2 ^ 15

-- 256 times the middle c of what root entry k serves: from 128 on c is twice that of entry k - 128
abbrev pub middle : ℕ → ℕ
middle k = cond (nat_lt k 128) (257 + 2 * k) (2 * (257 + 2 * (k - 128)))

-- root entry k is the whole number nearest to 2 ^ 11 / √c, which is the root of 2 ^ 32 / (4 * 256 c)
abbrev pub root_rule : ℕ → ℕ
root_rule k = nearest_half_root (2 ^ 32) (middle k)

-- the index is the seven bits after the highest one that is set, and 128 more from t = 2 up
abbrev pub root_index : ℕ → ℕ
root_index t = cond (nat_lt t (2 ^ 24)) ((t - 2 ^ 23) / 2 ^ 16) (128 + (t - 2 ^ 24) / 2 ^ 17)

-- the first, the middle and the last entry
pub reciprocal_examples : (reciprocal_rule 0 ≡ 2044) × (reciprocal_rule 128 ≡ 1364) × (reciprocal_rule 255 ≡ 1025)
reciprocal_examples = (refl, refl, refl)

pub root_examples : (root_rule 0 ≡ 2044) × (root_rule 128 ≡ 1445) × (root_rule 255 ≡ 1025)
root_examples = (refl, refl, refl)

-- The same two rules under names that stay shut.
unfoldable pub reciprocal_entry : ℕ → ℕ
reciprocal_entry i = reciprocal_rule i

unfoldable pub root_entry : ℕ → ℕ
root_entry k = root_rule k

-- the seeds are the entries times 2 ^ -11
abbrev pub table_reciprocal : ℕ → ℕ
table_reciprocal b = fraction (reciprocal_entry (reciprocal_index b)) 11

abbrev pub table_root : ℕ → ℕ
table_root t = fraction (root_entry (root_index t)) 11

-- That an entry e is nearest, said without division or roots: to n / d,
pub record NearestQuotient (n d e : ℕ) : Type 0 where
  pub not_low : 2 * n ≤ 2 * (e * d) + d
  pub not_high : 2 * (e * d) ≤ 2 * n + d

-- and to the root of n / (4 * d)
pub record NearestHalfRoot (n d e : ℕ) : Type 0 where
  pub not_low : n ≤ (2 * e + 1) * (2 * e + 1) * d
  pub not_high : (2 * e - 1) * (2 * e - 1) * d ≤ n
