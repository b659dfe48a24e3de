-- Directive lines and their four forms, after [cpp.include] and [cpp.pragma], of which the language has these alone.
use Rattle.std.specs.Prelude.{◌≡◌, ◌&&◌, ◌||◌, ◌==◌, ◌+◌, ◌<◌, ◌≤◌, Bool, true, not, ℕ, List, [], ◌∷◌, ◌++◌, IsTrue, IsFalse, length, take, drop, codes, slice_range}
use Rattle.std.specs.List.{list_all}
use Rattle.cx_lexer.specs.Bytes.{begins, is_within, double_quote, newline, space, tab, carriage_return}
use Rattle.cx_lexer.specs.Comment.{begins_line_comment, line_length, is_spliced_line}
use Rattle.cx_includes.specs.declared.part.Directive.{Directive}
use Rattle.cx_includes.specs.declared.part.Directive.TheVariants as directives
use Rattle.cx_includes.specs.declared.part.Span.{Span}

abbrev pub number_sign : ℕ
number_sign = 35

-- a blank within a line
abbrev pub is_line_blank : ℕ → Bool
is_line_blank b = b == space || b == tab || b == carriage_return

-- only blanks stand behind the last newline, or in all of it where it has none
abbrev pub ends_in_blank_line : Bool → List ℕ → Bool
ends_in_blank_line blank [] = blank
ends_in_blank_line blank (b ∷ rest) = ends_in_blank_line ((blank && is_line_blank b) || b == newline) rest

-- The first byte of its line that isn't a blank stands here, and is `#`. A line that begins within a comment has the
-- comment's bytes first.
abbrev pub begins_directive : List ℕ → ℕ → Bool
begins_directive text p = begins (λ b. b == number_sign) (drop p text) && ends_in_blank_line true (take p text)

-- the bytes from a place to before the end of its line
abbrev pub line_from : List ℕ → ℕ → List ℕ
line_from text p = take (line_length (drop p text)) (drop p text)

-- a byte of a file's name in an include
abbrev pub is_name_byte : ℕ → Bool
is_name_byte b = is_within 33 126 b && not (b == double_quote)

-- blanks, and then nothing or a `//` comment
abbrev pub is_line_end : List ℕ → Bool
is_line_end [] = true
is_line_end (b ∷ rest) = begins_line_comment (b ∷ rest) || (is_line_blank b && is_line_end rest)

abbrev pub name_in : List ℕ → Span → List ℕ
name_in text span = slice_range text span.start span.end

-- `#include "`
abbrev pub opening : List ℕ
opening = codes "#include \""

-- the bytes of a line, with what stands at its end, are a directive of one of the four forms
pub data HasForm (text : List ℕ) (p : ℕ) : Directive → Type 0 where
  once : (tail : List ℕ) → line_from text p ≡ codes "#pragma once" ++ tail → IsTrue (is_line_end tail) → HasForm text p directives.Once
  contracts : (tail : List ℕ) → line_from text p ≡ codes "#include <contracts>" ++ tail → IsTrue (is_line_end tail) → HasForm text p directives.Contracts
  cstdio : (tail : List ℕ) → line_from text p ≡ codes "#include <cstdio>" ++ tail → IsTrue (is_line_end tail) → HasForm text p directives.Cstdio
  -- the name has one byte or more
  file : {span : Span} (tail : List ℕ) → span.start ≡ p + length opening → span.start < span.end → span.end ≤ length text
      → line_from text p ≡ opening ++ name_in text span ++ codes "\"" ++ tail → IsTrue (list_all is_name_byte (name_in text span)) → IsTrue (is_line_end tail)
      → HasForm text p (directives.File span)

-- a directive stands at a place; its line ends in no line splice
pub record IsDirective (text : List ℕ) (p : ℕ) (directive : Directive) : Type 0 where
  pub begins : IsTrue (begins_directive text p)
  pub whole : IsFalse (is_spliced_line (drop p text))
  pub form : HasForm text p directive
