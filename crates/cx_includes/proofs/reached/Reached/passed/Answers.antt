use Rattle.std.proofs.Common.{arith, refl}
use Rattle.cx_includes.proofs.Reaching.{small_line, small_column, reached_more}
use Rattle.cx_includes.proofs.reached.Reached.passed.Goals as goal

pub behind-reached-requires-clause-line : goal.behind-reached-requires-clause-line
behind-reached-requires-clause-line c = let le = small_line c.args.text.now c.loop-at.at c.loop-at.reached (omega arith) c.loop-at.invariant in omega arith

pub behind-reached-requires-clause-column : goal.behind-reached-requires-clause-column
behind-reached-requires-clause-column c = let le = small_column c.args.text.now c.loop-at.at c.loop-at.reached (omega arith) c.loop-at.invariant in omega arith

pub loop-at-preserved : goal.loop-at-preserved
loop-at-preserved c = reached_more c.args.text.now c.loop-at.at _ c.loop-at.reached _ (omega arith) refl c.loop-at.invariant c.behind-reached.ensures.line c.behind-reached.ensures.column c.behind-reached.ensures.blank
