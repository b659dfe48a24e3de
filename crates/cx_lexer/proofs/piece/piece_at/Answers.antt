use Rattle.std.proofs.Common.{sym, ◌∙◌}
use Rattle.cx_lexer.proofs.Pieces.{blank_stands, block_is_long}
use Rattle.cx_lexer.proofs.piece.piece_at.Goals as goal

pub returns-then-is_blank : goal.returns-then-is_blank
returns-then-is_blank c = blank_stands c.args.rest.now c.args.at c.requires.some (sym c.is_blank.ensures ∙ c.if-is_blank.true)

pub block_comment-requires-clause-long : goal.block_comment-requires-clause-long
block_comment-requires-clause-long c = block_is_long c.args.rest.now (sym c.begins_block_comment.ensures ∙ c.if-begins_block_comment.true)
