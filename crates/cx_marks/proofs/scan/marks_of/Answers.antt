use Rattle.std.proofs.Common.{◌++◌, ◌∷◌, [], refl, ap, ◌∙◌}
use Rattle.cx_marks.proofs.Steps.{key_more, knows_none, marks_all, marks_more}
use Rattle.cx_marks.proofs.scan.marks_of.Goals as goal

pub loop-at-init : goal.loop-at-init
loop-at-init c = record { told = c.in_ok-told.ensures.items; knows = knows_none _ _ c.in_ok-names.ensures; key = refl }

pub loop-at-preserved : goal.loop-at-preserved
loop-at-preserved c = record {
  told = c.in_ok-push.ensures.items ∙ (ap (λ x. x ++ c.in_ok-mark.mark ∷ []) c.loop-at.invariant.told ∙ marks_more c.args.tokens.now c.loop-at.at c.in_ok-mark.mark c.loop-at-test.true c.in_ok-mark.ensures.told);
  knows = c.in_ok-mark.ensures.knows;
  key = c.is_class_key-after_key.ensures ∙ key_more c.args.tokens.now c.loop-at.at c.loop-at-test.true;
}

pub returns : goal.returns
returns c = c.loop-at.invariant.told ∙ marks_all c.args.tokens.now c.loop-at.at c.loop-at-test.false
