-- The definitions on examples.
use Rattle.std.proofs.Common.{◌≡◌, ◌*◌, ◌^◌, refl}
use Prim.Native.Nat.{Ordering}
use Rattle.sheets.specs.Beside.{beside_quotient, beside_root}
use Rattle.sheets.specs.Operands.{radicand_of}

-- 1 is 2 ^ 23 · 2 ^ (149 - 172), and its t is 1; 2 is 2 ^ 23 · 2 ^ (150 - 172), and its t is 2
one_radicand : radicand_of (2 ^ 23) 149 ≡ 2 ^ 23
one_radicand = refl

two_radicand : radicand_of (2 ^ 23) 150 ≡ 2 ^ 24
two_radicand = refl

-- 1/4 is less than 1 / 3, 1/2 is more
quarter_beside_third : beside_quotient 1 3 (2 ^ 322) ≡ Ordering.lt
quarter_beside_third = refl

half_beside_third : beside_quotient 1 3 (2 ^ 323) ≡ Ordering.gt
half_beside_third = refl

-- the root of 9/4 is 3/2
root_of_nine_quarters : beside_root (9 * 2 ^ 147) (3 * 2 ^ 323) ≡ Ordering.eq
root_of_nine_quarters = refl
