use Rattle.std.proofs.Common.{◌++◌, ap, ◌∙◌}
use Rattle.cx_generated.specs.Generated.{definition_line}
use Rattle.cx_generated.proofs.Lines.{line_added}
use Rattle.cx_generated.proofs.unit.unit_text.Goals as goal

pub loop-function-preserved : goal.loop-function-preserved
loop-function-preserved c =
    let added = c.in_ok-put_definition.ensures ∙ ap (λ unit. c.loop-function.text ++ definition_line unit c.loop-function.function) c.from-in-loop-function.ensures in
    line_added (definition_line c.args.unit) _ _ c.loop-function.function 17 c.loop-function-test.true added ∙ c.loop-function.invariant
