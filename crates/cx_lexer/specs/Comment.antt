-- Comments, after [lex.comment], and the line splices of [lex.phases], which the language leaves out: where C++ would
-- give one a meaning in a comment, the comment is refused.
use Rattle.std.specs.Prelude.{◌≡◌, ◌==◌, ◌&&◌, Bool, false, not, ℕ, suc, List, [], ◌∷◌, ◌++◌, Option, Some, None, option_map, if◌then◌else◌, IsTrue, ◌<◌, length, take, nat_lt, reverse}
use Rattle.std.specs.Option.{option_map_or}
use Rattle.std.specs.List.{list_all, flat_map, find, prefix_len}
use Rattle.cx_lexer.specs.Bytes.{begins, is_splice_blank, slash, star, newline, backslash}

unfoldable pub begins_line_comment : List ℕ → Bool
begins_line_comment [] = false
begins_line_comment (a ∷ rest) = a == slash && begins (λ b. b == slash) rest

unfoldable pub begins_block_comment : List ℕ → Bool
begins_block_comment [] = false
begins_block_comment (a ∷ rest) = a == slash && begins (λ b. b == star) rest

-- how many bytes stand before the end of the line
abbrev pub line_length : List ℕ → ℕ
line_length rest = prefix_len (λ b. not (b == newline)) rest

-- the last byte that isn't a blank is a backslash
unfoldable pub ends_in_backslash : List ℕ → Bool
ends_in_backslash line = option_map_or (λ b. b == backslash) (find (λ b. not (is_splice_blank b)) (reverse line)) false

-- the line ends in a line splice: it has its newline, and a backslash before it
abbrev pub is_spliced_line : List ℕ → Bool
is_spliced_line rest = nat_lt (line_length rest) (length rest) && ends_in_backslash (take (line_length rest) rest)

-- how many bytes there are up to the first `*/`, with it, if there is one
unfoldable pub length_to_end : List ℕ → Option ℕ
length_to_end [] = None
length_to_end (a ∷ rest) =
    if a == star && begins (λ b. b == slash) rest then Some 2 else option_map suc (length_to_end rest)

-- a line splice with these blanks
abbrev pub splice : List ℕ → List ℕ
splice blanks = backslash ∷ (blanks ++ newline ∷ [])

-- A star, one or more line splices and a slash follow each other in what stands behind the opening of a comment: C++
-- ends the comment there.
pub record HidesEnd (body : List ℕ) : Type 0 where
  pub before : List ℕ
  pub splices : List (List ℕ)
  pub after : List ℕ
  pub some : 0 < length splices
  pub blank : IsTrue (list_all (list_all is_splice_blank) splices)
  pub spelled : body ≡ before ++ star ∷ (flat_map splice splices ++ slash ∷ after)
