use Rattle.cx_rules.specs.Tables.{IsLowest, IsLostBefore}
use Rattle.cx_rules.proofs.thrown.lost_in.Given as goal

abbrev pub invariant-loop-place : goal.invariant-loop-place
invariant-loop-place l = IsLowest (IsLostBefore l.image l.function l.place) l.lowest
