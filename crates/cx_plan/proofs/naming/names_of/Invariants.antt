use Rattle.std.proofs.Common.{◌≡◌, drop}
use Rattle.cx_plan.specs.Names.{own_names_fault}
use Rattle.cx_plan.proofs.naming.names_of.Given as goal

abbrev pub invariant-loop-line : goal.invariant-loop-line
invariant-loop-line l = own_names_fault l.unit (drop l.line-index l.plan.lines) ≡ own_names_fault l.unit l.plan.lines
