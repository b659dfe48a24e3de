use Rattle.std.proofs.Common.{◌≡◌, take, map}
use Rattle.cx_faults.specs.Faults.{token_at}
use Rattle.cx_faults.specs.Nowhere.{nowhere}
use Rattle.cx_faults.proofs.spelled.spelled.Given as goal

abbrev pub invariant-loop-placed : goal.invariant-loop-placed
invariant-loop-placed l = map nowhere l.tokens.items ≡ map (token_at l.list) (take l.placed-index l.placed-items)
