use Rattle.std.proofs.Common.{◌≡◌, max, drop}
use Rattle.cx_core.specs.View.{stmts_of}
use Rattle.cx_lower.specs.Code.{stmts_most}
use Rattle.cx_lower.proofs.emitter.Emitter.+most.Given as goal

abbrev pub invariant-most_in_block-loop-s : goal.invariant-most_in_block-loop-s
invariant-most_in_block-loop-s l =
    max l.most (stmts_most l.visible (stmts_of (drop l.s-index l.b))) ≡ stmts_most l.live (stmts_of l.b)
