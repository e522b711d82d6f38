-- Register numbers made exactly. A fraction over a power of two has its numerator, moved to 30 bits, as the significand, and what was moved is taken off the exponent; half a number has an exponent that is one less.
use Rattle.std.specs.Prelude.{◌≡◌, ℕ, suc, ◌+◌, ◌-◌, ◌*◌, ◌/◌, ◌^◌, ◌<◌, ◌≤◌, Bool, true, false, ℤ, pos, ◌-ℤ◌, is_some, Some, None, Ok, Err, Option, MatchOption, refl}
use Rattle.std.proofs.Common.{sym, ap, subst, ◌∙◌, inl, inr, mul-le-mul, mul-le-mul_right, mul-lt-mul_of_pos_right, mul_assoc, mul-one, arith, pow-add, pow_pos}
use Rattle.std.specs.Int.Count.{count_leading_zeros}
use Rattle.std.proofs.lemmas.Nat.{leading_top}
use Rattle.std.proofs.lemmas.Int.{ints}
use Rattle.std.proofs.lemmas.Bool.{cases_lt, ne_eqb, lt-ltb, le-ltb}
use Rattle.registers.specs.declared.register.Number.{Number}
use Rattle.registers.specs.declared.register.Register.{Register}
use Rattle.registers.specs.declared.register.Register.TheVariants.{Zero}
use Rattle.registers.specs.Range.{bias, bias_is}
use Rattle.registers.specs.Values.{Buildable, Built, exponent_of, number_value, value}
use Rattle.registers.proofs.Granted.{below_of}
use Rattle.sources.specs.Fractions.{fraction}
use Rattle.sources.specs.Rounds.{half}
use Rattle.sources.specs.Seeds.{plain}

-- what can be built is there
pub built : (r : Option Number) (negative : Bool) (e : ℤ) (S : ℕ) → Buildable e S → MatchOption r (Buildable e S → ⊥) (λ n. Built negative e S n) → is_some r ≡ true
built (Some n) negative e S b h = refl
built None negative e S b h = absurd (h b)

-- and it is as told
pub built_as : (r : Option Number) (n : Number) (negative : Bool) (e : ℤ) (S : ℕ) → r ≡ Some n → MatchOption r (Buildable e S → ⊥) (λ n. Built negative e S n) → Built negative e S n
built_as r n negative e S is h = subst (λ (o : Option Number). MatchOption o (Buildable e S → ⊥) (λ n. Built negative e S n)) is h

-- what is not there cannot be built
pub not_built : (r : Option Number) (negative : Bool) (e : ℤ) (S : ℕ) → r ≡ None → MatchOption r (Buildable e S → ⊥) (λ n. Built negative e S n) → Buildable e S → ⊥
not_built r negative e S is h = subst (λ (o : Option Number). MatchOption o (Buildable e S → ⊥) (λ n. Built negative e S n)) is h

-- a with its leading zeros, of 32 bits, but for two moved away
pub record Moved (a : ℕ) : Type 0 where
  pub least : 2 ≤ count_leading_zeros 32 a
  pub most : count_leading_zeros 32 a ≤ 31
  pub digits : a * 2 ^ (count_leading_zeros 32 a - 2) < 2 ^ 30

-- a of at most 30 bits and its leading zeros, of 32 bits
module _ (a : ℕ) (some : 0 < a) (few : a < 2 ^ 30) where
  top : (j : ℕ) × (count_leading_zeros 32 a + suc j ≡ 32) × (2 ^ j ≤ a) × (a < 2 ^ suc j)
  top = leading_top 32 a some (omega arith)

  low : top.0 < 30
  low = below_of top.0 30 (omega (arith, top.2))

  pub zeros_least : 2 ≤ count_leading_zeros 32 a
  zeros_least = omega (arith, top.1, low)

  pub zeros_most : count_leading_zeros 32 a ≤ 31
  zeros_most = omega (arith, top.1)

  pub digits_least : 2 ^ 29 ≤ a * 2 ^ (count_leading_zeros 32 a - 2)
  digits_least = omega (arith, mul-le-mul_right (2 ^ (count_leading_zeros 32 a - 2)) top.2, pow-add 2 top.0 (count_leading_zeros 32 a - 2), ap (λ x. 2 ^ x) sum)
    where
      sum : top.0 + (count_leading_zeros 32 a - 2) ≡ 29
      sum = omega (arith, top.1, low)

  pub digits_most : a * 2 ^ (count_leading_zeros 32 a - 2) < 2 ^ 30
  digits_most = omega (arith, mul-lt-mul_of_pos_right top.3 (pow_pos (count_leading_zeros 32 a - 2)), pow-add 2 (suc top.0) (count_leading_zeros 32 a - 2), ap (λ x. 2 ^ x) sum)
    where
      sum : suc top.0 + (count_leading_zeros 32 a - 2) ≡ 30
      sum = omega (arith, top.1, low)

  -- how far it moves, and where to
  pub moved : Moved a
  moved = record { least = zeros_least; most = zeros_most; digits = digits_most }

  module _ (k : ℕ) (near : k ≤ 23) (e : ℤ) (S : ℕ)
      (exponent : e ≡ pos 29 -ℤ pos (count_leading_zeros 32 a - 2 + k))
      (digits : S ≡ a * 2 ^ (count_leading_zeros 32 a - 2))
    where
      pub buildable : Buildable e S
      buildable = record {
        from = omega (arith, ints, exponent, zeros_most);
        to = omega (arith, ints, exponent);
        least = omega (arith, digits, digits_least);
        most = omega (arith, digits, digits_most);
      }

      pub fraction_is : (n : Number) → Built false e S n → number_value n ≡ plain (fraction a k)
      fraction_is n b = ap (λ (s : Bool). record { negative = s; units = n.significand * 2 ^ n.exponent }) b.sign
          ∙ ap plain (ap (λ x. x * 2 ^ n.exponent) (b.digits ∙ digits) ∙ mul_assoc a (2 ^ (count_leading_zeros 32 a - 2)) (2 ^ n.exponent) ∙ ap (λ x. a * x) (sym (pow-add 2 (count_leading_zeros 32 a - 2) n.exponent) ∙ ap (λ x. 2 ^ x) sum))
        where
          sum : count_leading_zeros 32 a - 2 + n.exponent ≡ bias - k
          sum = omega (arith, ints, b.place, exponent, bias_is, zeros_most)

-- ---- half of a number

-- half of what has units
pub half_some : (s : Bool) (u : ℕ) → 2 ^ 30 ≤ u → half (record { negative = s; units = u }) ≡ Ok (record { negative = s; units = u / 2 })
unfolding half
half_some s u h = rw (ne_eqb u 0 (omega arith), le-ltb u (2 ^ 30) h) refl

half_none : (s : Bool) (u : ℕ) → 0 < u → u < 2 ^ 30 → half (record { negative = s; units = u }) ≡ Err 7
unfolding half
half_none s u some h = rw (ne_eqb u 0 (omega arith), lt-ltb u (2 ^ 30) h) refl

pub half_zero : (z : Register) → z ≡ Zero → Ok (value z) ≡ half (value z)
unfolding half
half_zero z e = subst (λ (y : Register). Ok (value y) ≡ half (value y)) (sym e) refl

module _ (x : Number) (s : Bool) (e : ℤ) (S : ℕ)
    (sign : s ≡ x.negative)
    (exponent : e ≡ exponent_of x.exponent -ℤ pos 1)
    (digits : S ≡ x.significand)
  where
    pub half_built : (n : Number) → Built s e S n → Ok (number_value n) ≡ half (number_value x)
    half_built n b = sym (half_some x.negative (x.significand * 2 ^ x.exponent) large ∙ ap Ok (ap (λ (s : Bool). record { negative = s; units = x.significand * 2 ^ x.exponent / 2 }) (sym (b.sign ∙ sign)) ∙ ap (λ u. record { negative = n.negative; units = u }) whole))
      where
        next : x.exponent ≡ n.exponent + 1
        next = omega (arith, ints, b.place, exponent)

        twice : x.significand * 2 ^ x.exponent ≡ 2 * (n.significand * 2 ^ n.exponent)
        twice = ap (λ k. x.significand * 2 ^ k) next ∙ ap (λ k. x.significand * k) (pow-add 2 n.exponent 1) ∙ omega (arith, ap (λ k. k * 2 ^ n.exponent) (b.digits ∙ digits))

        large : 2 ^ 30 ≤ x.significand * 2 ^ x.exponent
        large = omega (arith, twice, ap (λ k. k * 2 ^ n.exponent) (b.digits ∙ digits), mul-le-mul x.bounds.1 (pow_pos n.exponent))

        whole : x.significand * 2 ^ x.exponent / 2 ≡ n.significand * 2 ^ n.exponent
        whole = omega (arith, twice)

    pub half_refused : (Buildable e S → ⊥) → Err 7 ≡ half (number_value x)
    half_refused no_number = sym (half_none x.negative (x.significand * 2 ^ x.exponent) (omega (arith, same)) (omega (arith, same)))
      where
        least : x.exponent ≡ 0
        least = elim (cases_lt 0 x.exponent) [
          | inl l ↦ absurd (no_number (record { from = omega (arith, ints, exponent, l); to = omega (arith, ints, exponent, x.bounds.0); least = omega (arith, digits, x.bounds.1); most = omega (arith, digits, x.bounds.2) }))
          | inr g ↦ omega arith
        ]

        same : x.significand * 2 ^ x.exponent ≡ x.significand
        same = ap (λ k. x.significand * 2 ^ k) least ∙ mul-one x.significand
