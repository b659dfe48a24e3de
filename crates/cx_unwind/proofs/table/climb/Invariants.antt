use Rattle.std.proofs.Common.{◌≡◌, ℕ, ◌+◌, ◌≤◌, length, drop}
use Rattle.cx_code.specs.Unwind.{first_covering}
use Rattle.cx_unwind.proofs.Covering.{left_of}
use Rattle.cx_unwind.proofs.table.climb.Given as goal

abbrev pub invariant-outwards : goal.invariant-outwards
invariant-outwards l = (from : ℕ) × (from ≤ l.after + 1) × (l.found ≡ first_covering (drop from l.table) from l.place)

abbrev pub decreases-outwards : goal.decreases-outwards
decreases-outwards l = left_of (length l.table) l.found
