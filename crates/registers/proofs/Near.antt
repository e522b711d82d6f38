-- Closeness by a part: v is n up to n / k, either way.
use Rattle.std.proofs.Common.{ℕ, ◌+◌, ◌*◌, ◌^◌, ◌≤◌}

abbrev pub Near : ℕ → ℕ → ℕ → Type 0
Near k n v = (k * v ≤ k * n + n) × (k * n ≤ k * v + n)

abbrev pub Near30 : ℕ → ℕ → Type 0
Near30 n v = Near (2 ^ 30) n v

abbrev pub Near24 : ℕ → ℕ → Type 0
Near24 n v = Near (2 ^ 24) n v
