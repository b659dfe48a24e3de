use Rattle.std.proofs.Common.{sym, ◌∙◌, arith}
use Rattle.cx_lexer.proofs.Pieces.{word_stands, long_stands, name_stands}
use Rattle.cx_lexer.proofs.piece.name.Goals as goal

pub returns-then-is_word : goal.returns-then-is_word
returns-then-is_word c =
    word_stands c.args.rest.now c.args.at c.name_length-length.result c.requires.some c.requires.first c.requires.no_comment c.name_length-length.ensures (sym c.is_word.ensures ∙ c.if-is_word.true)

pub returns-then-length-gt-LONGEST_NAME : goal.returns-then-length-gt-LONGEST_NAME
returns-then-length-gt-LONGEST_NAME c =
    long_stands c.args.rest.now c.args.at c.name_length-length.result c.requires.some c.requires.first c.requires.no_comment c.name_length-length.ensures (sym c.is_word.ensures ∙ c.if-is_word.false) (omega arith)

pub returns-else-length-gt-LONGEST_NAME : goal.returns-else-length-gt-LONGEST_NAME
returns-else-length-gt-LONGEST_NAME c =
    name_stands c.args.rest.now c.args.at c.name_length-length.result c.requires.some c.requires.first c.requires.no_comment c.name_length-length.ensures (sym c.is_word.ensures ∙ c.if-is_word.false) (omega arith)
