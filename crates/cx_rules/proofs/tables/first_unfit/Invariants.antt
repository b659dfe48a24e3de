use Rattle.std.proofs.Common.{ℕ, ◌<◌}
use Rattle.cx_rules.specs.Tables.{IsUnfit}
use Rattle.cx_rules.proofs.tables.first_unfit.Given as goal

abbrev pub invariant-loop-of : goal.invariant-loop-of
invariant-loop-of l = (n : ℕ) → n < l.of → ¬ IsUnfit l.image n
