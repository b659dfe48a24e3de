-- The place of a syntax fault over lists of tokens; this project's own.
use Rattle.std.specs.Prelude.{ℕ, ◌<◌, ◌≤◌, [], ◌∷◌, ◌++◌, IsTrue, IsFalse, length, take}
use Rattle.cx_lexer.specs.Lexeme.{is_refused, is_token}
use Rattle.cx_syntax.specs.Place.{Grammatical}
use Rattle.cx_marks.specs.declared.spelled.Spelled.{Spelled}
use Rattle.cx_marks.specs.Marks.{Tokens, marks}

-- the bytes are a token of its class, which no fault refuses
abbrev pub IsToken : Spelled → Type 0
IsToken t = IsTrue (is_token t.kind t.bytes.now) × IsFalse (is_refused t.kind t.bytes.now [])

-- each is
abbrev pub AreTokens : Tokens → Type 0
AreTokens [] = Unit {0}
AreTokens (t ∷ ts) = IsToken t × AreTokens ts

-- the tokens begin a grammatical list of tokens
abbrev pub TokensBegin : Tokens → Type 0
TokensBegin ts = (z : Tokens) × AreTokens z × Grammatical (marks (ts ++ z))

-- the length of the longest front that begins a grammatical list of tokens, of a list that isn't one
abbrev pub IsTokensPlace : Tokens → ℕ → Type 0
IsTokensPlace ts p =
    (Grammatical (marks ts) → ⊥) × (p ≤ length ts) × TokensBegin (take p ts)
    × ((n : ℕ) → p < n → n ≤ length ts → TokensBegin (take n ts) → ⊥)
