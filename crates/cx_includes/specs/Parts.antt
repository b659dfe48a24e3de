-- What a file holds in its order: its tokens and its directive lines, up to its first lexical fault. A directive line counts as a blank between tokens.
use Rattle.std.specs.Prelude.{ℕ, ◌+◌, List, [], ◌∷◌, ◌++◌, IsTrue, IsFalse, length, take, drop}
use Rattle.cx_syntax.specs.declared.token.TokenKind.{TokenKind}
use Rattle.cx_lexer.specs.declared.fault.LexFault.{LexFault}
use Rattle.cx_lexer.specs.declared.fault.LexFault.TheVariants as faults
use Rattle.cx_lexer.specs.Comment.{line_length}
use Rattle.cx_lexer.specs.Lexeme.{IsLexeme, is_refused}
use Rattle.cx_lexer.specs.Spelling.{IsGap, Begins}
use Rattle.cx_includes.specs.declared.part.Directive.{Directive}
use Rattle.cx_includes.specs.declared.part.Part.{Part}
use Rattle.cx_includes.specs.declared.part.Part.TheVariants as parts
use Rattle.cx_includes.specs.Place.{line_at, spot_at}
use Rattle.cx_includes.specs.Directive.{begins_directive, IsDirective}

-- a directive line, of one of the four forms or of none
pub data IsLine (text : List ℕ) (p : ℕ) : Part → Type 0 where
  formed : {directive : Directive} → IsDirective text p directive → IsLine text p (parts.Line directive (line_at text p))
  bad : IsTrue (begins_directive text p) → ((directive : Directive) → IsDirective text p directive → ⊥) → IsLine text p (parts.BadLine (line_at text p))

-- the parts of a file up to a place
pub data ReadsTo (text : List ℕ) : ℕ → List Part → Type 0 where
  start : ReadsTo text 0 []
  gap : {p n : ℕ} {front : List Part} → ReadsTo text p front → IsGap (drop p text) n → ReadsTo text (p + n) front
  token : {p n : ℕ} {front : List Part} {kind : TokenKind} → ReadsTo text p front → IsLexeme kind (drop p text) n → IsFalse (is_refused kind (take n (drop p text)) (drop n (drop p text)))
      → ReadsTo text (p + n) (front ++ parts.Token (record { kind = kind; start = p; end = p + n }) (spot_at text p) ∷ [])
  line : {p : ℕ} {front : List Part} {part : Part} → ReadsTo text p front → IsLine text p part → ReadsTo text (p + line_length (drop p text)) (front ++ part ∷ [])

-- where a lexical fault stands
abbrev pub fault_place : LexFault → ℕ
fault_place faults.OutOfMemory = 0
fault_place (faults.BadByte at) = at
fault_place (faults.OpenComment at) = at
fault_place (faults.OpenText at) = at
fault_place (faults.TooWide at) = at
fault_place (faults.LongName at count) = at

-- all of a file's parts, the last of which may be its lexical fault
pub data IsReading (text : List ℕ) : List Part → Type 0 where
  whole : {all : List Part} → ReadsTo text (length text) all → IsReading text all
  broken : {p : ℕ} {front : List Part} {fault : LexFault} → ReadsTo text p front → IsFalse (begins_directive text p) → Begins (drop p text) p fault
      → IsReading text (front ++ parts.Fault fault (spot_at text (fault_place fault)) ∷ [])
