-- What the grammar asks of each token of a list, and which names are class names, after [class.name]; the numbers of names are this project's own.
use Rattle.std.specs.Prelude.{ℕ, zero, suc, ◌+◌, ◌&&◌, ◌||◌, Bool, true, false, if◌then◌else◌, List, [], ◌∷◌, Option, Some, None, slice_get, codes, bytes_eq}
use Rattle.cx_syntax.specs.declared.token.TokenKind.{TokenKind}
use Rattle.cx_syntax.specs.declared.token.TokenKind.TheVariants as T
use Rattle.cx_syntax.specs.declared.mark.Mark.{Mark}
use Rattle.cx_syntax.specs.declared.mark.Mark.TheVariants as M
use Rattle.cx_syntax.specs.Spell.{Marks}
use Rattle.cx_marks.specs.declared.spelled.Spelled.{Spelled}
use Rattle.cx_marks.specs.Words.{word_of, punct_of}

abbrev pub Tokens : Type 0
Tokens = List Spelled

abbrev pub is_name_kind : TokenKind → Bool
is_name_kind T.Name = true
is_name_kind _ = false

abbrev pub is_word_kind : TokenKind → Bool
is_word_kind T.Word = true
is_word_kind _ = false

-- the token is this name
abbrev pub is_name : List ℕ → Spelled → Bool
is_name name t = is_name_kind t.kind && bytes_eq name t.bytes.now

-- the token is `class` or `struct`
abbrev pub is_class_key : Spelled → Bool
is_class_key t = is_word_kind t.kind && (bytes_eq (codes "class") t.bytes.now || bytes_eq (codes "struct") t.bytes.now)

-- a place of the list has a token that passes the test
abbrev pub has_at : (Spelled → Bool) → Option Spelled → Bool
has_at test None = false
has_at test (Some t) = test t

-- the place stands directly after `class` or `struct`
abbrev pub is_after_key : Tokens → ℕ → Bool
is_after_key ts zero = false
is_after_key ts (suc j) = has_at is_class_key (slice_get ts j)

-- the place holds the name directly after `class` or `struct`
unfoldable pub declares_at : Tokens → List ℕ → ℕ → Bool
declares_at ts name j = is_after_key ts j && has_at (is_name name) (slice_get ts j)

-- some place below this one passes the test
unfoldable pub some_below : ℕ → (ℕ → Bool) → Bool
some_below zero test = false
some_below (suc i) test = test i || some_below i test

-- some place, at most `i`, holds the name directly after `class` or `struct`
abbrev pub is_class_name : Tokens → List ℕ → ℕ → Bool
is_class_name ts name i = some_below (suc i) (declares_at ts name)

-- the first place of the name, or the list's length where it has none
unfoldable pub first_place : Tokens → List ℕ → ℕ
first_place [] name = 0
first_place (t ∷ ts) name = if is_name name t then 0 else suc (first_place ts name)

-- The names that the grammar takes by their letters have the first three numbers, each other name has its first place and three more.
unfoldable pub number : Tokens → List ℕ → ℕ
number ts name =
    if bytes_eq (codes "contracts") name then 0
    else if bytes_eq (codes "pre") name then 1
    else if bytes_eq (codes "post") name then 2
    else 3 + first_place ts name

-- the mark of a name at a place
unfoldable pub name_mark : Tokens → ℕ → List ℕ → Mark
name_mark ts i name =
    if bytes_eq name (codes "std") then M.Std
    else if is_class_name ts name i then M.Class (number ts name)
    else M.Name (number ts name)

-- the mark of a token of some kind with these bytes at a place
abbrev pub mark_at : Tokens → ℕ → TokenKind → List ℕ → Mark
mark_at ts i T.Name bytes = name_mark ts i bytes
mark_at ts i T.Word bytes = M.Word (word_of bytes)
mark_at ts i T.Number bytes = M.Number
mark_at ts i T.Char bytes = M.Char
mark_at ts i T.Text bytes = M.Text
mark_at ts i T.Punct bytes = M.Punct (punct_of bytes)

-- the marks of the last tokens of the list, from a place on
unfoldable pub marks_from : Tokens → ℕ → Tokens → Marks
marks_from ts i [] = []
marks_from ts i (t ∷ rest) = mark_at ts i t.kind t.bytes.now ∷ marks_from ts (suc i) rest

-- the marks of the tokens
abbrev pub marks : Tokens → Marks
marks ts = marks_from ts 0 ts
