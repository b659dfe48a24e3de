-- What the private functions that read a file answer: how far it was read, and what stands there. No public contract speaks of these.
use Rattle.std.specs.Prelude.{◌≡◌, ◌+◌, ℕ, List, take, drop, IsTrue, IsFalse, true, ◌<◌, ◌++◌, length, codes}
use Rattle.cx_syntax.specs.declared.token.TokenKind.{TokenKind}
use Rattle.cx_lexer.specs.declared.fault.LexFault.{LexFault}
use Rattle.cx_lexer.specs.Comment.{line_length}
use Rattle.cx_lexer.specs.Lexeme.{IsLexeme, is_refused}
use Rattle.cx_lexer.specs.Spelling.{IsGap, Begins}
use Rattle.cx_includes.specs.declared.part.Part.{Part}
use Rattle.cx_includes.specs.declared.part.Part.TheVariants as parts
use Rattle.cx_includes.specs.declared.reached.Reached.{Reached}
use Rattle.cx_includes.specs.declared.stretch.Stretch.{Stretch}
use Rattle.cx_includes.specs.declared.stretch.Stretch.TheVariants as stretches
use Rattle.cx_includes.specs.Place.{line_at, column_at, spot_at}
use Rattle.cx_includes.specs.Directive.{begins_directive, ends_in_blank_line, is_line_end, is_name_byte, opening}
use Rattle.std.specs.List.{list_all}
use Rattle.cx_includes.specs.Parts.{IsLine, fault_place}

-- a line has these bytes, and then what may stand at the end of a directive
pub record IsForm (bytes line : List ℕ) : Type 0 where
  pub tail : List ℕ
  pub spelled : line ≡ bytes ++ tail
  pub ends : IsTrue (is_line_end tail)

-- a line includes the file of a name
pub record IsFileForm (line name : List ℕ) : Type 0 where
  pub some : 0 < length name
  pub bytes : IsTrue (list_all is_name_byte name)
  pub form : IsForm (opening ++ name ++ codes "\"") line

-- a file was read up to a place
pub record IsReached (text : List ℕ) (place : ℕ) (reached : Reached) : Type 0 where
  pub line : reached.line ≡ line_at text place
  pub column : reached.column ≡ column_at text place
  pub blank : reached.blank ≡ ends_in_blank_line true (take place text)

-- what stands at a place of a file
pub data Holds (text : List ℕ) (at : ℕ) : Stretch → Type 0 where
  blank : {n : ℕ} → IsGap (drop at text) n → Holds text at (stretches.Blank n)
  token : {kind : TokenKind} {n : ℕ} → IsLexeme kind (drop at text) n → IsFalse (is_refused kind (take n (drop at text)) (drop n (drop at text)))
      → Holds text at (stretches.Part (parts.Token (record { kind = kind; start = at; end = at + n }) (spot_at text at)) n)
  line : {part : Part} → IsTrue (begins_directive text at) → IsLine text at part → Holds text at (stretches.Part part (line_length (drop at text)))
  fault : {fault : LexFault} → IsFalse (begins_directive text at) → Begins (drop at text) at fault → Holds text at (stretches.Last (parts.Fault fault (spot_at text (fault_place fault))))
