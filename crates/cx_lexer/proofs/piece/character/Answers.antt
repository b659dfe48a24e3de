use Rattle.std.proofs.Common.{arith}
use Rattle.cx_lexer.proofs.Pieces.{char_stands, open_char_stands}
use Rattle.cx_lexer.proofs.piece.character.Goals as goal

pub returns-then-length-eq0 : goal.returns-then-length-eq0
returns-then-length-eq0 c = open_char_stands c.args.rest.now c.args.at c.requires.some c.requires.first (omega (arith, c.char_length-length.ensures))

pub returns-else-length-eq0 : goal.returns-else-length-eq0
returns-else-length-eq0 c =
    char_stands c.args.rest.now c.args.at c.char_length-length.result c.requires.some c.requires.first c.requires.no_comment c.char_length-length.ensures (omega arith)
