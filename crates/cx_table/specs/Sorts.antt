-- The sorts of tokens on which a choice between productions rests, after [gram]; each is asked of the token that comes next, or of none.
use Rattle.std.specs.Prelude.{ℕ, Bool, true, false, cond, Option, Some, None}
use Rattle.cx_syntax.specs.declared.mark.Punct.{Punct}
use Rattle.cx_syntax.specs.declared.mark.Punct.TheVariants as P
use Rattle.cx_syntax.specs.declared.mark.Word.{Word}
use Rattle.cx_syntax.specs.declared.mark.Word.TheVariants as W
use Rattle.cx_syntax.specs.declared.mark.Mark.{Mark}
use Rattle.cx_syntax.specs.declared.mark.Mark.TheVariants as M
use Rattle.cx_table.specs.declared.symbol.Kind.{Kind}
use Rattle.cx_table.specs.declared.symbol.Kind.TheVariants.{Sign, Keyword, AName, AClass, ANumber, TheContracts}
use Rattle.cx_syntax.specs.Same.{same_punct, same_word}
use Rattle.cx_syntax.specs.Shaped.{contracts_name, is_leaf, is_named, is_prefix, is_word_base, looseness}

abbrev pub fits : Kind → Mark → Bool
fits (Sign p) (M.Punct q) = same_punct p q
fits (Keyword p) (M.Word q) = same_word p q
fits AName (M.Name n) = true
fits AClass (M.Class n) = true
fits ANumber M.Number = true
fits TheContracts m = is_named contracts_name m
fits _ _ = false

abbrev pub loose : Option Mark → ℕ
loose (Some (M.Punct p)) = looseness p
loose _ = 12

abbrev pub is_prefix_mark : Option Mark → Bool
is_prefix_mark (Some (M.Punct p)) = is_prefix p
is_prefix_mark _ = false

abbrev pub is_mark : Punct → Option Mark → Bool
is_mark p (Some (M.Punct q)) = same_punct p q
is_mark p _ = false

abbrev pub is_word : Word → Option Mark → Bool
is_word p (Some (M.Word q)) = same_word p q
is_word p _ = false

-- the end of an optional expression: `)` or `;`
abbrev pub is_end : Option Mark → Bool
is_end o = cond (is_mark P.CloseParen o) true (is_mark P.Semicolon o)

-- it can begin an expression, and no type
abbrev pub is_free_other : Mark → Bool
is_free_other (M.Word W.StaticCast) = true
is_free_other (M.Punct p) = cond (is_prefix p) true (same_punct P.OpenParen p)
is_free_other _ = false

abbrev pub is_free : Mark → Bool
is_free m = cond (is_leaf m) true (is_free_other m)

-- it can begin a type, and is no name that the grammar takes by its letters
abbrev pub is_type_start : Mark → Bool
is_type_start (M.Class n) = true
is_type_start (M.Word W.Const) = true
is_type_start (M.Word W.Long) = true
is_type_start (M.Word k) = is_word_base k
is_type_start _ = false

-- the number of the name that comes next, a class name or not
abbrev pub name_number : Option Mark → Option ℕ
name_number (Some (M.Name n)) = Some n
name_number (Some (M.Class n)) = Some n
name_number _ = None
