use Rattle.cx_rules.specs.Tables.{IsLowest, IsLostInFirst}
use Rattle.cx_rules.proofs.thrown.first_lost.Given as goal

abbrev pub invariant-loop-index : goal.invariant-loop-index
invariant-loop-index l = IsLowest (IsLostInFirst l.image l.index) l.lowest
