use Rattle.std.proofs.Common.{◌≡◌, drop}
use Rattle.cx_plan.specs.Chosen.{semantic_among, choice_among, usual_choice}
use Rattle.cx_plan.proofs.choice.chosen.Given as goal

abbrev pub invariant-loop-line : goal.invariant-loop-line
invariant-loop-line l =
    semantic_among l.unit l.assertion (drop l.line-index l.plan.lines) (choice_among l.unit l.plan.lines (usual_choice l.plan.semantic)).semantic
    ≡ semantic_among l.unit l.assertion l.plan.lines (choice_among l.unit l.plan.lines (usual_choice l.plan.semantic)).semantic
