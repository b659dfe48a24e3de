-- What stands at the front of the rest of a text, at a place of the text: one thing, as one reading of a text has it.
use Rattle.std.specs.Prelude.{ℕ, List, take, drop, IsFalse}
use Rattle.cx_lexer.specs.declared.piece.Piece.{Piece}
use Rattle.cx_lexer.specs.declared.piece.Piece.TheVariants as pieces
use Rattle.cx_lexer.specs.Lexeme.{IsLexeme, is_refused}
use Rattle.cx_lexer.specs.Spelling.{IsGap, Begins}

-- a blank or a comment, a token, or a fault
unfoldable pub Stands : List ℕ → ℕ → Piece → Type 0
Stands rest at (pieces.Gap n) = IsGap rest n
Stands rest at (pieces.Token kind n) = IsLexeme kind rest n × IsFalse (is_refused kind (take n rest) (drop n rest))
Stands rest at (pieces.Fault fault) = Begins rest at fault
