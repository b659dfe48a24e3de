-- Names, after [lex.name], and the words among them, after [lex.key] and [lex.digraph].
use Rattle.std.specs.Prelude.{◌&&◌, Bool, false, ℕ, List, [], ◌∷◌, codes, bytes_eq}
use Rattle.std.specs.List.{list_all, list_any}
use Rattle.cx_lexer.specs.Bytes.{starts_name, continues_name}

-- a letter or an underscore, then letters, digits and underscores
unfoldable pub is_name : List ℕ → Bool
is_name [] = false
is_name (b ∷ rest) = starts_name b && list_all continues_name rest

-- the words of C++, whether the language has them or not
unfoldable pub words : List (List ℕ)
words =
    codes "alignas" ∷ codes "alignof" ∷ codes "and" ∷ codes "and_eq" ∷ codes "asm" ∷ codes "auto" ∷
    codes "bitand" ∷ codes "bitor" ∷ codes "bool" ∷ codes "break" ∷ codes "case" ∷ codes "catch" ∷
    codes "char" ∷ codes "char8_t" ∷ codes "char16_t" ∷ codes "char32_t" ∷ codes "class" ∷ codes "compl" ∷
    codes "concept" ∷ codes "const" ∷ codes "consteval" ∷ codes "constexpr" ∷ codes "constinit" ∷
    codes "const_cast" ∷ codes "continue" ∷ codes "contract_assert" ∷ codes "co_await" ∷ codes "co_return" ∷
    codes "co_yield" ∷ codes "decltype" ∷ codes "default" ∷ codes "delete" ∷ codes "do" ∷ codes "double" ∷
    codes "dynamic_cast" ∷ codes "else" ∷ codes "enum" ∷ codes "explicit" ∷ codes "export" ∷ codes "extern" ∷
    codes "false" ∷ codes "float" ∷ codes "for" ∷ codes "friend" ∷ codes "goto" ∷ codes "if" ∷ codes "inline" ∷
    codes "int" ∷ codes "long" ∷ codes "mutable" ∷ codes "namespace" ∷ codes "new" ∷ codes "noexcept" ∷
    codes "not" ∷ codes "not_eq" ∷ codes "nullptr" ∷ codes "operator" ∷ codes "or" ∷ codes "or_eq" ∷
    codes "private" ∷ codes "protected" ∷ codes "public" ∷ codes "register" ∷ codes "reinterpret_cast" ∷
    codes "requires" ∷ codes "return" ∷ codes "short" ∷ codes "signed" ∷ codes "sizeof" ∷ codes "static" ∷
    codes "static_assert" ∷ codes "static_cast" ∷ codes "struct" ∷ codes "switch" ∷ codes "template" ∷
    codes "this" ∷ codes "thread_local" ∷ codes "throw" ∷ codes "true" ∷ codes "try" ∷ codes "typedef" ∷
    codes "typeid" ∷ codes "typename" ∷ codes "union" ∷ codes "unsigned" ∷ codes "using" ∷ codes "virtual" ∷
    codes "void" ∷ codes "volatile" ∷ codes "wchar_t" ∷ codes "while" ∷ codes "xor" ∷ codes "xor_eq" ∷ []

unfoldable pub is_word : List ℕ → Bool
is_word name = list_any (λ word. bytes_eq word name) words

-- the most bytes that a name may have
abbrev pub longest_name : ℕ
longest_name = 1024
