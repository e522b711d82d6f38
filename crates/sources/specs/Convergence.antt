-- One round of refining as a relation between whole numbers of units, for the analysis of how close it comes. One is W units, each step is a fused step of 30 bits.
use Rattle.std.specs.Prelude.{◌≡◌, ℕ, zero, ◌+◌, ◌-◌, ◌*◌, ◌<◌, ◌≤◌, Bool, true, false}
use Rattle.registers.specs.Lines.{FusedLine}

-- y is the reciprocal of b up to one part in K: b is B / W, y is Y / W
pub record Inverse (K W B Y : ℕ) : Type 0 where
  pub most : K * (B * Y) ≤ (K + 1) * (W * W)
  pub least : (K - 1) * (W * W) ≤ K * (B * Y)

-- z is the reciprocal of the root of t up to one part in K
pub record InverseRoot (K W T Z : ℕ) : Type 0 where
  pub most : K * K * (T * Z * Z) ≤ (K + 1) * (K + 1) * (W * W * W)
  pub least : (K - 1) * (K - 1) * (W * W * W) ≤ K * K * (T * Z * Z)

-- e = 1 - b·y, and y', of sign s, is y + e·y
pub record ReciprocalRound (W B Y : ℕ) (s : Bool) (Y' : ℕ) : Type 0 where
  pub sign : Bool
  pub e : ℕ
  pub rest : FusedLine 30 W false W true (B * Y) sign e
  pub next : FusedLine 30 W false Y sign (e * Y) s Y'

-- h = z / 2, s = t·z, d = 1/2 - s·h, and z', of sign s, is z + d·z; U is a half
pub record RootRound (W U T Z : ℕ) (s : Bool) (Z' : ℕ) : Type 0 where
  pub h : ℕ
  pub halved : Z ≡ 2 * h
  pub sign_s : Bool
  pub product : ℕ
  pub line_s : FusedLine 30 W false zero false (T * Z) sign_s product
  pub sign : Bool
  pub d : ℕ
  pub rest : FusedLine 30 W false U true (product * h) sign d
  pub next : FusedLine 30 W false Z sign (d * Z) s Z'

-- One round takes each seed within one part in K, K at least 29, to within one part in 400.
abbrev pub ReciprocalBetters : Type 0
ReciprocalBetters = (K W B Y : ℕ) → zero < W → 29 ≤ K → Inverse K W B Y
    → (s : Bool) (Y' : ℕ) → ReciprocalRound W B Y s Y' → (s ≡ false) × Inverse 400 W B Y'

abbrev pub RootBetters : Type 0
RootBetters = (K W U T Z : ℕ) → zero < W → W ≡ 2 * U → 29 ≤ K → InverseRoot K W T Z
    → (s : Bool) (Z' : ℕ) → RootRound W U T Z s Z' → (s ≡ false) × InverseRoot 400 W T Z'
