use Rattle.std.proofs.Common.{length, ap, ◌∙◌, arith}
use Rattle.cx_syntax.specs.View as view
use Rattle.cx_front.proofs.Units.{length_marks, tree_answer}
use Rattle.cx_front.proofs.front.unit_of.Goals as goal

pub parse-requires : goal.parse-requires
parse-requires c = record { few = omega (arith, c.requires.few, ap length (c.as_slice.ensures.value ∙ c.in_ok-marks.ensures), length_marks c.args.list.now) }

pub returns-in-Ok : goal.returns-in-Ok
returns-in-Ok c = tree_answer c.args.list.now c.as_slice.result.now (view.unit_of c.in-Ok.tree) c.unit_in.result (c.as_slice.ensures.value ∙ c.in_ok-marks.ensures) c.in-Ok.ensures c.unit_in.ensures
