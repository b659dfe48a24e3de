use Rattle.std.proofs.Common.{◌≡◌, ◌≤◌, ◌++◌}
use Rattle.cx_lower.specs.Code.{ends_code}
use Rattle.cx_lower.proofs.emitter.put_ends.Given as goal

abbrev pub invariant-loop-left : goal.invariant-loop-left
invariant-loop-left l = record { within : l.left ≤ l.count; code : l.code ++ ends_code l.base l.left ≡ l.fn.code ++ ends_code l.base l.count }

abbrev pub decreases-loop-left : goal.decreases-loop-left
decreases-loop-left l = l.left
