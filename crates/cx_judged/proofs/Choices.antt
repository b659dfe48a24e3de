-- What is one or the other.
use Rattle.std.proofs.Common.{◌≡◌, ℕ, ◌<◌, ◌≤◌, arith}
use Rattle.std.specs.Prelude.{◌⊎◌}

-- a fact, or its denial
abbrev pub Decided : Type 0 → Type 0
Decided P = P ⊎ (P → ⊥)

pub none_or_some : (n : ℕ) → (n ≡ 0) ⊎ (0 < n)
none_or_some n = grind arith

pub at_most_or_more : (n m : ℕ) → (n ≤ m) ⊎ (m < n)
at_most_or_more n m = grind arith
