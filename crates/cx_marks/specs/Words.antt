-- The keywords that the grammar uses and the operators, by their spelling, after [lex.key] and [lex.operators].
use Rattle.std.specs.Prelude.{ℕ, List, [], ◌∷◌, codes, bytes_eq}
use Rattle.std.specs.Map.{lookup}
use Rattle.std.specs.Option.{unwrap_or}
use Rattle.cx_syntax.specs.declared.mark.Punct.{Punct}
use Rattle.cx_syntax.specs.declared.mark.Punct.TheVariants as P
use Rattle.cx_syntax.specs.declared.mark.Word.{Word}
use Rattle.cx_syntax.specs.declared.mark.Word.TheVariants as W

unfoldable pub words : List (List ℕ × Word)
words =
    (codes "bool", W.Bool) ∷
    (codes "break", W.Break) ∷
    (codes "catch", W.Catch) ∷
    (codes "char", W.Char) ∷
    (codes "class", W.Class) ∷
    (codes "const", W.Const) ∷
    (codes "continue", W.Continue) ∷
    (codes "contract_assert", W.ContractAssert) ∷
    (codes "else", W.Else) ∷
    (codes "explicit", W.Explicit) ∷
    (codes "extern", W.Extern) ∷
    (codes "false", W.False) ∷
    (codes "for", W.For) ∷
    (codes "if", W.If) ∷
    (codes "inline", W.Inline) ∷
    (codes "int", W.Int) ∷
    (codes "long", W.Long) ∷
    (codes "noexcept", W.Noexcept) ∷
    (codes "nullptr", W.Nullptr) ∷
    (codes "private", W.Private) ∷
    (codes "public", W.Public) ∷
    (codes "return", W.Return) ∷
    (codes "static_cast", W.StaticCast) ∷
    (codes "struct", W.Struct) ∷
    (codes "this", W.This) ∷
    (codes "throw", W.Throw) ∷
    (codes "true", W.True) ∷
    (codes "try", W.Try) ∷
    (codes "unsigned", W.Unsigned) ∷
    (codes "virtual", W.Virtual) ∷
    (codes "void", W.Void) ∷
    (codes "while", W.While) ∷
    []

unfoldable pub puncts : List (List ℕ × Punct)
puncts =
    (codes "{", P.OpenBrace) ∷
    (codes "}", P.CloseBrace) ∷
    (codes "(", P.OpenParen) ∷
    (codes ")", P.CloseParen) ∷
    (codes "[", P.OpenBracket) ∷
    (codes "]", P.CloseBracket) ∷
    (codes ";", P.Semicolon) ∷
    (codes ":", P.Colon) ∷
    (codes "::", P.Scope) ∷
    (codes ",", P.Comma) ∷
    (codes ".", P.Dot) ∷
    (codes "->", P.Arrow) ∷
    (codes "?", P.Question) ∷
    (codes "+", P.Plus) ∷
    (codes "-", P.Minus) ∷
    (codes "*", P.Star) ∷
    (codes "/", P.Slash) ∷
    (codes "%", P.Percent) ∷
    (codes "&", P.And) ∷
    (codes "|", P.Or) ∷
    (codes "^", P.Xor) ∷
    (codes "~", P.Tilde) ∷
    (codes "!", P.Not) ∷
    (codes "=", P.Assign) ∷
    (codes "==", P.Equal) ∷
    (codes "!=", P.NotEqual) ∷
    (codes "<", P.Less) ∷
    (codes ">", P.Greater) ∷
    (codes "<=", P.LessEqual) ∷
    (codes ">=", P.GreaterEqual) ∷
    (codes "<<", P.ShiftLeft) ∷
    (codes ">>", P.ShiftRight) ∷
    (codes "&&", P.Both) ∷
    (codes "||", P.Either) ∷
    (codes "++", P.Increment) ∷
    (codes "--", P.Decrement) ∷
    (codes "+=", P.PlusAssign) ∷
    (codes "-=", P.MinusAssign) ∷
    (codes "*=", P.StarAssign) ∷
    (codes "/=", P.SlashAssign) ∷
    (codes "%=", P.PercentAssign) ∷
    (codes "&=", P.AndAssign) ∷
    (codes "|=", P.OrAssign) ∷
    (codes "^=", P.XorAssign) ∷
    (codes "<<=", P.ShiftLeftAssign) ∷
    (codes ">>=", P.ShiftRightAssign) ∷
    (codes "<=>", P.Spaceship) ∷
    (codes "...", P.Ellipsis) ∷
    (codes ".*", P.DotStar) ∷
    (codes "->*", P.ArrowStar) ∷
    []

-- the keyword of these bytes; each other word is one that the grammar doesn't use
abbrev pub word_of : List ℕ → Word
word_of bytes = unwrap_or (lookup (λ spelling. bytes_eq spelling bytes) words) W.Unused

-- the operator of these bytes; no token has others, and they would be one that the grammar doesn't use
abbrev pub punct_of : List ℕ → Punct
punct_of bytes = unwrap_or (lookup (λ spelling. bytes_eq spelling bytes) puncts) P.ArrowStar
