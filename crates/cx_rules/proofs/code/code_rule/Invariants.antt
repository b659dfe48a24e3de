use Rattle.cx_rules.specs.First.{KeepBefore}
use Rattle.cx_rules.proofs.code.code_rule.Given as goal

abbrev pub invariant-loop-place : goal.invariant-loop-place
invariant-loop-place l = KeepBefore l.image l.function l.place
