use Rattle.std.proofs.Common.{sym, ◌∙◌}
use Rattle.cx_lexer.proofs.Pieces.{line_stands, spliced_stands}
use Rattle.cx_lexer.proofs.piece.line_comment.Goals as goal

pub returns-then-is_spliced_line : goal.returns-then-is_spliced_line
returns-then-is_spliced_line c = spliced_stands c.args.rest.now c.args.at c.requires (sym c.is_spliced_line.ensures ∙ c.if-is_spliced_line.true)

pub returns-else-is_spliced_line : goal.returns-else-is_spliced_line
returns-else-is_spliced_line c =
    line_stands c.args.rest.now c.args.at c.line_length-length.result c.requires c.line_length-length.ensures (sym c.is_spliced_line.ensures ∙ c.if-is_spliced_line.false)
