-- Punctuators and keywords that are the same by their numbers are equal.
use Rattle.std.proofs.Common.{◌≡◌, ℕ, zero, suc, Bool, true, List, [], ◌∷◌, refl, sym, ◌∙◌, ap, arith}
use Rattle.std.proofs.lemmas.Bool.Decides.{nat_tests}
use Rattle.cx_syntax.specs.declared.mark.Punct.{Punct}
use Rattle.cx_syntax.specs.declared.mark.Punct.TheVariants as P
use Rattle.cx_syntax.specs.declared.mark.Word.{Word}
use Rattle.cx_syntax.specs.declared.mark.Word.TheVariants as W
use Rattle.cx_table.specs.declared.symbol.Part.TheVariants.{Assign}
use Rattle.cx_parser.proofs.Runs.{eqb_equal}
use Rattle.cx_syntax.specs.Same.{punct_number, same_punct, same_word, word_number}

punct_in : List Punct → ℕ → Punct
punct_in [] n = P.ArrowStar
punct_in (p ∷ ps) zero = p
punct_in (p ∷ ps) (suc n) = punct_in ps n

puncts : List Punct
puncts =
    P.OpenBrace ∷ P.CloseBrace ∷ P.OpenParen ∷ P.CloseParen ∷ P.OpenBracket ∷ P.CloseBracket ∷ P.Semicolon ∷ P.Colon ∷
    P.Scope ∷ P.Comma ∷ P.Dot ∷ P.Arrow ∷ P.Question ∷ P.Plus ∷ P.Minus ∷ P.Star ∷ P.Slash ∷ P.Percent ∷ P.And ∷
    P.Or ∷ P.Xor ∷ P.Tilde ∷ P.Not ∷ P.Assign ∷ P.Equal ∷ P.NotEqual ∷ P.Less ∷ P.Greater ∷ P.LessEqual ∷
    P.GreaterEqual ∷ P.ShiftLeft ∷ P.ShiftRight ∷ P.Both ∷ P.Either ∷ P.Increment ∷ P.Decrement ∷ P.PlusAssign ∷
    P.MinusAssign ∷ P.StarAssign ∷ P.SlashAssign ∷ P.PercentAssign ∷ P.AndAssign ∷ P.OrAssign ∷ P.XorAssign ∷
    P.ShiftLeftAssign ∷ P.ShiftRightAssign ∷ P.Spaceship ∷ P.Ellipsis ∷ P.DotStar ∷ P.ArrowStar ∷ []

punct_back : (p : Punct) → punct_in puncts (punct_number p) ≡ p
unfolding punct_in puncts
punct_back P.OpenBrace = refl
punct_back _ = refl

pub punct_same : (p q : Punct) → same_punct p q ≡ true → p ≡ q
punct_same p q h = let e : punct_number p ≡ punct_number q = grind (arith, nat_tests) in sym (punct_back p) ∙ (ap (punct_in puncts) e ∙ punct_back q)

pub punct_self : (p : Punct) → same_punct p p ≡ true
punct_self p = eqb_equal (punct_number p) (punct_number p) refl

word_in : List Word → ℕ → Word
word_in [] n = W.Unused
word_in (k ∷ ks) zero = k
word_in (k ∷ ks) (suc n) = word_in ks n

words : List Word
words =
    W.Bool ∷ W.Break ∷ W.Catch ∷ W.Char ∷ W.Class ∷ W.Const ∷ W.Continue ∷ W.ContractAssert ∷ W.Else ∷ W.Explicit ∷
    W.Extern ∷ W.False ∷ W.For ∷ W.If ∷ W.Inline ∷ W.Int ∷ W.Long ∷ W.Noexcept ∷ W.Nullptr ∷ W.Private ∷ W.Public ∷
    W.Return ∷ W.StaticCast ∷ W.Struct ∷ W.This ∷ W.Throw ∷ W.True ∷ W.Try ∷ W.Unsigned ∷ W.Virtual ∷ W.Void ∷
    W.While ∷ W.Unused ∷ []

word_back : (k : Word) → word_in words (word_number k) ≡ k
unfolding word_in words
word_back W.Bool = refl
word_back _ = refl

pub word_same : (j k : Word) → same_word j k ≡ true → j ≡ k
word_same j k h = let e : word_number j ≡ word_number k = grind (arith, nat_tests) in sym (word_back j) ∙ (ap (word_in words) e ∙ word_back k)

pub word_self : (k : Word) → same_word k k ≡ true
word_self k = eqb_equal (word_number k) (word_number k) refl
