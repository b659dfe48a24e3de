use Rattle.std.proofs.Common.{arith, get_or}
use Rattle.cx_lexer.proofs.Pieces.{punct_stands, none_stands, at_sign}
use Rattle.cx_lexer.proofs.piece.punct.Goals as goal

pub returns-then-length-eq0 : goal.returns-then-length-eq0
returns-then-length-eq0 c =
    let first = at_sign (get_or c.args.rest.now 0 0) c.requires.no_letter c.requires.no_digit c.requires.no_quote c.requires.no_double_quote in
    none_stands c.args.rest.now c.args.at c.requires.some c.requires.no_blank first (omega (arith, c.punct_length-length.ensures.length))

pub returns-else-length-eq0 : goal.returns-else-length-eq0
returns-else-length-eq0 c =
    let first = at_sign (get_or c.args.rest.now 0 0) c.requires.no_letter c.requires.no_digit c.requires.no_quote c.requires.no_double_quote in
    punct_stands c.args.rest.now c.args.at c.punct_length-length.result c.requires.some first c.requires.no_comment c.punct_length-length.ensures.length (omega arith)
