-- Whether two punctuators, or two keywords, are the same: each has a number of its own, in the order of their declarations.
use Rattle.std.specs.Prelude.{ℕ, Bool, eqb}
use Rattle.cx_syntax.specs.declared.mark.Punct.{Punct}
use Rattle.cx_syntax.specs.declared.mark.Punct.TheVariants as P
use Rattle.cx_syntax.specs.declared.mark.Word.{Word}
use Rattle.cx_syntax.specs.declared.mark.Word.TheVariants as W

abbrev pub punct_number : Punct → ℕ
punct_number P.OpenBrace = 0
punct_number P.CloseBrace = 1
punct_number P.OpenParen = 2
punct_number P.CloseParen = 3
punct_number P.OpenBracket = 4
punct_number P.CloseBracket = 5
punct_number P.Semicolon = 6
punct_number P.Colon = 7
punct_number P.Scope = 8
punct_number P.Comma = 9
punct_number P.Dot = 10
punct_number P.Arrow = 11
punct_number P.Question = 12
punct_number P.Plus = 13
punct_number P.Minus = 14
punct_number P.Star = 15
punct_number P.Slash = 16
punct_number P.Percent = 17
punct_number P.And = 18
punct_number P.Or = 19
punct_number P.Xor = 20
punct_number P.Tilde = 21
punct_number P.Not = 22
punct_number P.Assign = 23
punct_number P.Equal = 24
punct_number P.NotEqual = 25
punct_number P.Less = 26
punct_number P.Greater = 27
punct_number P.LessEqual = 28
punct_number P.GreaterEqual = 29
punct_number P.ShiftLeft = 30
punct_number P.ShiftRight = 31
punct_number P.Both = 32
punct_number P.Either = 33
punct_number P.Increment = 34
punct_number P.Decrement = 35
punct_number P.PlusAssign = 36
punct_number P.MinusAssign = 37
punct_number P.StarAssign = 38
punct_number P.SlashAssign = 39
punct_number P.PercentAssign = 40
punct_number P.AndAssign = 41
punct_number P.OrAssign = 42
punct_number P.XorAssign = 43
punct_number P.ShiftLeftAssign = 44
punct_number P.ShiftRightAssign = 45
punct_number P.Spaceship = 46
punct_number P.Ellipsis = 47
punct_number P.DotStar = 48
punct_number P.ArrowStar = 49

abbrev pub same_punct : Punct → Punct → Bool
same_punct a b = eqb (punct_number a) (punct_number b)

abbrev pub word_number : Word → ℕ
word_number W.Bool = 0
word_number W.Break = 1
word_number W.Catch = 2
word_number W.Char = 3
word_number W.Class = 4
word_number W.Const = 5
word_number W.Continue = 6
word_number W.ContractAssert = 7
word_number W.Else = 8
word_number W.Explicit = 9
word_number W.Extern = 10
word_number W.False = 11
word_number W.For = 12
word_number W.If = 13
word_number W.Inline = 14
word_number W.Int = 15
word_number W.Long = 16
word_number W.Noexcept = 17
word_number W.Nullptr = 18
word_number W.Private = 19
word_number W.Public = 20
word_number W.Return = 21
word_number W.StaticCast = 22
word_number W.Struct = 23
word_number W.This = 24
word_number W.Throw = 25
word_number W.True = 26
word_number W.Try = 27
word_number W.Unsigned = 28
word_number W.Virtual = 29
word_number W.Void = 30
word_number W.While = 31
word_number W.Unused = 32

abbrev pub same_word : Word → Word → Bool
same_word a b = eqb (word_number a) (word_number b)
