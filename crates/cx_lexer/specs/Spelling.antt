-- Which list of tokens spells a text, and which lexical fault a text has: a relation on whole texts, after [lex.phases].
use Rattle.std.specs.Prelude.{◌≡◌, ◌==◌, ◌+◌, ◌<◌, ◌≤◌, ℕ, List, [], ◌∷◌, ◌++◌, Some, None, IsTrue, IsFalse, length, take, drop}
use Rattle.cx_syntax.specs.declared.token.Token.{Token}
use Rattle.cx_syntax.specs.declared.token.TokenKind.{TokenKind}
use Rattle.cx_syntax.specs.declared.token.TokenKind.TheVariants.{Name, Number}
use Rattle.cx_lexer.specs.declared.fault.LexFault.{LexFault}
use Rattle.cx_lexer.specs.declared.fault.LexFault.TheVariants.{BadByte, OpenComment, OpenText, TooWide, LongName}
use Rattle.cx_lexer.specs.Bytes.{begins, is_blank, quote, double_quote}
use Rattle.cx_lexer.specs.Name.{longest_name}
use Rattle.cx_lexer.specs.Number.{is_too_wide, runs_on}
use Rattle.cx_lexer.specs.Quoted.{is_char, is_text}
use Rattle.cx_lexer.specs.Comment.{begins_line_comment, begins_block_comment, line_length, is_spliced_line, length_to_end, HidesEnd}
use Rattle.cx_lexer.specs.Lexeme.{IsLexeme, is_refused, BeginsNoToken}

-- the first n bytes of the rest of a text are a blank or a comment
pub data IsGap (rest : List ℕ) : ℕ → Type 0 where
  blank : IsTrue (begins is_blank rest) → IsGap rest 1
  line_comment : IsTrue (begins_line_comment rest) → IsFalse (is_spliced_line rest) → IsGap rest (line_length rest)
  block_comment : {n : ℕ} → IsTrue (begins_block_comment rest) → length_to_end (drop 2 rest) ≡ Some n → (HidesEnd (take n (drop 2 rest)) → ⊥) → IsGap rest (2 + n)

-- The tokens, with blanks and comments between them, spell the text up to a place.
pub data SpellsTo (text : List ℕ) : ℕ → List Token → Type 0 where
  start : SpellsTo text 0 []
  gap : {p n : ℕ} {tokens : List Token} → SpellsTo text p tokens → IsGap (drop p text) n → SpellsTo text (p + n) tokens
  token : {p n : ℕ} {tokens : List Token} {kind : TokenKind} → SpellsTo text p tokens → IsLexeme kind (drop p text) n → IsFalse (is_refused kind (take n (drop p text)) (drop n (drop p text))) → SpellsTo text (p + n) (tokens ++ record { kind = kind; start = p; end = p + n } ∷ [])

abbrev pub Spells : List ℕ → List Token → Type 0
Spells text tokens = SpellsTo text (length text) tokens

-- the cause of a fault begins at a place, where this is the rest of the text
pub data Begins (rest : List ℕ) (at : ℕ) : LexFault → Type 0 where
  no_token : BeginsNoToken rest → Begins rest at (BadByte at)
  spliced_comment : IsTrue (begins_line_comment rest) → IsTrue (is_spliced_line rest) → Begins rest at (BadByte at)
  hidden_end : {n : ℕ} → IsTrue (begins_block_comment rest) → length_to_end (drop 2 rest) ≡ Some n → HidesEnd (take n (drop 2 rest)) → Begins rest at (BadByte at)
  -- the fault stands at the byte behind the number
  number_runs_on : {n : ℕ} → IsLexeme Number rest n → IsFalse (is_too_wide (take n rest)) → IsTrue (runs_on (take n rest) (drop n rest)) → Begins rest at (BadByte (at + n))
  open_comment : IsTrue (begins_block_comment rest) → length_to_end (drop 2 rest) ≡ None → Begins rest at (OpenComment at)
  open_char : IsTrue (begins (λ b. b == quote) rest) → ((n : ℕ) → IsFalse (is_char (take n rest))) → Begins rest at (OpenText at)
  open_text : IsTrue (begins (λ b. b == double_quote) rest) → ((n : ℕ) → IsFalse (is_text (take n rest))) → Begins rest at (OpenText at)
  too_wide : {n : ℕ} → IsLexeme Number rest n → IsTrue (is_too_wide (take n rest)) → Begins rest at (TooWide at)
  long_name : {n : ℕ} → IsLexeme Name rest n → longest_name < n → Begins rest at (LongName at n)

-- the tokens spell the text up to a place, and the fault's cause begins there
pub record IsFaultOf (text : List ℕ) (fault : LexFault) : Type 0 where
  pub place : ℕ
  pub tokens : List Token
  pub spelled : SpellsTo text place tokens
  pub cause : Begins (drop place text) place fault

-- From a place on the tokens come one behind the other, none of them empty, up to another place.
abbrev pub InOrder : ℕ → List Token → ℕ → Type 0
InOrder from [] to = from ≤ to
InOrder from (t ∷ tokens) to = (from ≤ t.start) × (t.start < t.end) × InOrder t.end tokens to
