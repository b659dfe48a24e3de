use Rattle.std.proofs.Common.{sym}
use Rattle.std.proofs.lemmas.List.{take_rest}
use Rattle.std.proofs.lemmas.Bool.{iff_false}
use Rattle.cx_lexer.proofs.Pieces.{open_stands, hidden_stands, block_stands}
use Rattle.cx_lexer.proofs.piece.block_comment.Goals as goal

pub returns-in_default : goal.returns-in_default
returns-in_default c = open_stands c.args.rest.now c.args.at c.requires.begins (sym (rw take_rest at c.in_default.ensures.value))

pub returns-then-hides_end : goal.returns-then-hides_end
returns-then-hides_end c =
    hidden_stands c.args.rest.now c.args.at c.in-Some.length c.requires.begins (sym (rw take_rest at c.in-Some.ensures.value)) ((rw take_rest at c.hides_end.ensures).0 c.if-hides_end.true)

pub returns-else-hides_end : goal.returns-else-hides_end
returns-else-hides_end c =
    block_stands c.args.rest.now c.args.at c.in-Some.length c.requires.begins (sym (rw take_rest at c.in-Some.ensures.value)) (iff_false (rw take_rest at c.hides_end.ensures) c.if-hides_end.false)
