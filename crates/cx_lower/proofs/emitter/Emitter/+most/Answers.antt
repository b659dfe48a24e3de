use Rattle.std.proofs.Common.{◌≡◌, max, ap, ◌∙◌, arith, drop}
use Rattle.std.proofs.lemmas.Grind.{common_steps}
use Rattle.cx_core.specs.View.{stmts_of}
use Rattle.cx_lower.proofs.Blocks.{visible_counted, next_most, most_so_far}
use Rattle.cx_lower.proofs.emitter.Emitter.+most.Goals as goal

pub most_in_block-live_behind-visible-requires : goal.most_in_block-live_behind-visible-requires
most_in_block-live_behind-visible-requires t c =
    omega (arith, c.loop-s.invariant, visible_counted (stmts_of (drop c.loop-s.s-index c.args.b.now)) c.loop-s.visible)

pub most_in_block-loop-s-preserved : goal.most_in_block-loop-s-preserved
most_in_block-loop-s-preserved t c =
    let more : c.max-most.result ≡ max c.loop-s.most c.most_in_statement.result = grind (arith, common_steps) in
    rw c.live_behind-visible.ensures
    (most_so_far c.loop-s.most _ _ _ _ _ (next_most c.loop-s.visible c.loop-s.s-index c.args.b.now c.s-item.result c.loop-s-test.true c.s-item.is) c.loop-s.invariant
    (more ∙ ap (max c.loop-s.most) c.most_in_statement.ensures))
