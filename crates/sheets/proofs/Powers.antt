-- A power of two by a sum that its exponent is.
use Rattle.std.proofs.Common.{◌≡◌, ℕ, ◌+◌, ◌*◌, ◌^◌, ap, ◌∙◌, pow-add}

pub power_parts : (a b c : ℕ) → a ≡ b + c → 2 ^ a ≡ 2 ^ b * 2 ^ c
power_parts a b c e = ap (λ t. 2 ^ t) e ∙ pow-add 2 b c
