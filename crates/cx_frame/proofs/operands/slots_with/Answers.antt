use Rattle.std.proofs.Common.{map, length, Some, None, ◌++◌, ◌∷◌, [], ◌∙◌, ap}
use Rattle.cx_frame.proofs.Reversed.{replicate_more}
use Rattle.cx_frame.proofs.operands.slots_with.Goals as goal

pub loop-empty-preserved : goal.loop-empty-preserved
loop-empty-preserved c =
    let front = map Some c.args.arguments.now in
    replicate_more front c.push-in-loop-empty.new.self.items None (length c.args.arguments.now) c.loop-empty._empty c.loop-empty.auto._empty (c.in_ok-push-2.ensures.items ∙ ap (λ l. l ++ None ∷ []) c.loop-empty.invariant)
