use Rattle.std.proofs.Common.{◌≡◌, drop}
use Rattle.cx_plan.specs.Names.{names_fault}
use Rattle.cx_plan.proofs.naming.names.Given as goal

abbrev pub invariant-loop-line : goal.invariant-loop-line
invariant-loop-line l = names_fault l.units (drop l.line-index l.plan.lines) ≡ names_fault l.units l.plan.lines
