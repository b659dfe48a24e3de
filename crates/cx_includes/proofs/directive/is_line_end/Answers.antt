use Rattle.std.proofs.Common.{sym, ◌∙◌}
use Rattle.std.proofs.lemmas.List.{at_drop_more}
use Rattle.cx_includes.specs.Directive.{is_line_end}
use Rattle.cx_includes.proofs.Forms.{line_end_blank}
use Rattle.cx_includes.proofs.directive.is_line_end.Goals as goal

pub loop-at-preserved : goal.loop-at-preserved
loop-at-preserved c =
    sym (at_drop_more is_line_end c.args.tail.now c.loop-at.at 0 c.loop-at-test.true ∙ line_end_blank _ _ (sym c.is_line_blank.ensures ∙ c.if-not-is_line_blank.false)) ∙ c.loop-at.invariant
