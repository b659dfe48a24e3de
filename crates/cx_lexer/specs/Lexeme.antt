-- The tokens of the language and where one stands at the front of a text, after [lex.token] and [lex.pptoken].
use Rattle.std.specs.Prelude.{◌&&◌, ◌||◌, ◌<◌, ◌≤◌, Bool, false, not, ℕ, List, [], ◌∷◌, IsTrue, IsFalse, length, take, nat_lt}
use Rattle.cx_syntax.specs.declared.token.TokenKind.{TokenKind}
use Rattle.cx_syntax.specs.declared.token.TokenKind.TheVariants.{Name, Word, Number, Char, Text, Punct}
use Rattle.cx_lexer.specs.Name.{is_name, is_word, longest_name}
use Rattle.cx_lexer.specs.Number.{is_number, is_too_wide, runs_on}
use Rattle.cx_lexer.specs.Quoted.{is_char, is_text}
use Rattle.cx_lexer.specs.Punct.{is_punct}
use Rattle.cx_lexer.specs.Bytes.{is_blank}
use Rattle.cx_lexer.specs.Comment.{begins_line_comment, begins_block_comment}

-- the bytes are a token of this class
abbrev pub is_token : TokenKind → List ℕ → Bool
is_token Name bytes = is_name bytes && not (is_word bytes)
is_token Word bytes = is_name bytes && is_word bytes
is_token Number bytes = is_number bytes
is_token Char bytes = is_char bytes
is_token Text bytes = is_text bytes
is_token Punct bytes = is_punct bytes

-- The first n bytes of the rest of a text are a token of this class. No longer front is a token of any class, and no
-- comment begins there.
pub record IsLexeme (kind : TokenKind) (rest : List ℕ) (n : ℕ) : Type 0 where
  pub within : n ≤ length rest
  pub token : IsTrue (is_token kind (take n rest))
  pub longest : (m : ℕ) (other : TokenKind) → n < m → m ≤ length rest → IsFalse (is_token other (take m rest))
  pub no_comment : IsFalse (begins_line_comment rest || begins_block_comment rest)

-- a token with these bytes, and these behind it, is refused
unfoldable pub is_refused : TokenKind → List ℕ → List ℕ → Bool
is_refused Name bytes after = nat_lt longest_name (length bytes)
is_refused Word bytes after = false
is_refused Number bytes after = is_too_wide bytes || runs_on bytes after
is_refused Char bytes after = false
is_refused Text bytes after = false
is_refused Punct bytes after = false

-- the first byte is no blank and no token's first one
abbrev pub BeginsNoToken : List ℕ → Type 0
BeginsNoToken [] = ⊥
BeginsNoToken (b ∷ rest) = IsFalse (is_blank b) × ((kind : TokenKind) (bytes : List ℕ) → IsFalse (is_token kind (b ∷ bytes)))
