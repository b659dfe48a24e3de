use Rattle.std.proofs.Common.{arith, sym, ◌∙◌}
use Rattle.std.proofs.lemmas.List.{take_all}
use Rattle.std.proofs.lemmas.Bool.{true≢false, false≢true}
use Rattle.cx_includes.proofs.Sources.{not_once_yet, never_once}
use Rattle.cx_includes.proofs.source.has_once.Goals as goal

pub loop-part-preserved : goal.loop-part-preserved
loop-part-preserved c = not_once_yet c.args.parts.now c.loop-part.part-index _ c.loop-part-test.true c.loop-part.invariant (λ line is. true≢false (sym (c.is_once.ensures.1 (line, is)) ∙ c.if-is_once.false))

pub returns : goal.returns
returns c =
    (λ never. absurd (false≢true never), λ has. absurd (never_once c.args.parts.now c.loop-part.part-index (take_all _ _ (omega arith)) c.loop-part.invariant has))
