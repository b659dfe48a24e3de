use Rattle.std.proofs.Common.{◌≡◌, ◌++◌, ◌-◌, ◌+◌}
use Rattle.std.specs.List.{flat_map}
use Rattle.cx_generated.specs.Generated.{numbers_from, plan_line}
use Rattle.cx_generated.proofs.plan.plan_text.Given as goal

abbrev pub invariant-loop-unit : goal.invariant-loop-unit
invariant-loop-unit l = l.text ++ flat_map plan_line (numbers_from l.unit (l.units + 1 - l.unit)) ≡ flat_map plan_line (numbers_from 1 l.units)
