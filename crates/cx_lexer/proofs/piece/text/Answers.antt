use Rattle.std.proofs.Common.{refl}
use Rattle.std.proofs.lemmas.List.{take_rest}
use Rattle.cx_lexer.proofs.Pieces.{text_stands, open_text_stands}
use Rattle.cx_lexer.proofs.piece.text.Goals as goal

pub returns-in-Some : goal.returns-in-Some
returns-in-Some c =
    let closed = rw take_rest at c.in-Some.ensures.closed in
    text_stands c.args.rest.now c.args.at c.in-Some.length c.requires.some c.requires.first c.requires.no_comment closed.0 closed.1

pub returns-in-None : goal.returns-in-None
returns-in-None c =
    let closed = rw take_rest at c.in-None.ensures.closed in
    open_text_stands c.args.rest.now c.args.at _ c.requires.some c.requires.first refl closed
