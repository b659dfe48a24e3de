use Rattle.std.proofs.Common.{◌≡◌, drop}
use Rattle.cx_plan.specs.Chosen.{choice_among, usual_choice}
use Rattle.cx_plan.proofs.choice.unit_choice.Given as goal

abbrev pub invariant-loop-line : goal.invariant-loop-line
invariant-loop-line l = choice_among l.unit (drop l.line-index l.plan.lines) (usual_choice l.plan.semantic) ≡ choice_among l.unit l.plan.lines (usual_choice l.plan.semantic)
