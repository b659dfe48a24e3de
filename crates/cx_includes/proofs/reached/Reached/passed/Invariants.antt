use Rattle.cx_includes.specs.Stretch.{IsReached}
use Rattle.cx_includes.proofs.reached.Reached.passed.Given as goal

abbrev pub invariant-loop-at : goal.invariant-loop-at
invariant-loop-at l = IsReached l.text l.at l.reached
