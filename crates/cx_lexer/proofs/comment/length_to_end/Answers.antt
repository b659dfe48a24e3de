use Rattle.std.proofs.Common.{sym, ◌∙◌, arith}
use Rattle.cx_lexer.proofs.Ends.{begins_behind, ends_here, ends_later, ends_nowhere}
use Rattle.cx_lexer.proofs.comment.length_to_end.Goals as goal

pub loop-at-init : goal.loop-at-init
loop-at-init c = begins_behind c.args.rest.now

pub returns-then-is_end-clause-value : goal.returns-then-is_end-clause-value
returns-then-is_end-clause-value c = sym (ends_here c.args.rest.now c.loop-at.at c.loop-at.invariant (omega arith) (sym c.is_end.ensures ∙ c.if-is_end.true))

pub loop-at-preserved : goal.loop-at-preserved
loop-at-preserved c = ends_later c.args.rest.now c.loop-at.at c.loop-at.invariant (omega arith) (sym c.is_end.ensures ∙ c.if-is_end.false)

pub returns-clause-value : goal.returns-clause-value
returns-clause-value c = sym (ends_nowhere c.args.rest.now c.loop-at.at c.loop-at.invariant (omega arith))
