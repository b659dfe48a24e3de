use Rattle.std.proofs.Common.{sym, ◌∙◌, ap, arith, cond}
use Rattle.std.specs.Prelude.{eqb}
use Rattle.cx_lexer.specs.Bytes.{is_splice_blank}
use Rattle.cx_lexer.proofs.Comments.{nothing_ends, ends_more, ends_whole}
use Rattle.std.proofs.Common.{get_or}
use Rattle.cx_lexer.proofs.comment.ends_in_backslash.Goals as goal

pub loop-byte-init : goal.loop-byte-init
loop-byte-init c = sym nothing_ends

pub loop-byte-preserved : goal.loop-byte-preserved
loop-byte-preserved c =
    let byte = get_or c.args.line.now c.loop-byte.byte-index 0 in
    c.ends_behind-ends.ensures ∙ (ap (λ t. cond (is_splice_blank byte) t (eqb byte 92)) c.loop-byte.invariant ∙ sym (ends_more c.args.line.now c.loop-byte.byte-index (omega arith)))

pub returns : goal.returns
returns c = c.loop-byte.invariant ∙ ends_whole c.args.line.now c.loop-byte.byte-index (omega arith)
