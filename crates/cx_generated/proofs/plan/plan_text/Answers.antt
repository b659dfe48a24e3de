use Rattle.std.proofs.Common.{arith, ◌∙◌, ◌+◌}
use Rattle.cx_generated.specs.Generated.{plan_line}
use Rattle.cx_generated.proofs.Lines.{line_added}
use Rattle.cx_generated.proofs.plan.plan_text.Goals as goal

pub loop-unit-preserved : goal.loop-unit-preserved
loop-unit-preserved c = line_added plan_line _ _ c.loop-unit.unit (c.args.units + 1) (omega (arith, c.loop-unit-test.true, c.from-unit-end.ensures)) c.in_ok-put_line.ensures ∙ c.loop-unit.invariant
