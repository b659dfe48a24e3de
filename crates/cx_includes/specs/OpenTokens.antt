-- How many tokens are open at once in a list of tokens, which bounds how deep its trees can be; this project's own.
use Rattle.std.specs.Prelude.{ℕ, ◌+◌, List, [], ◌∷◌, Bool, nat_le, sum, max, if◌then◌else◌, codes}
use Rattle.std.specs.Str.{bytes_eq}
use Rattle.cx_includes.specs.declared.shape.Shape.{Shape}
use Rattle.cx_includes.specs.declared.shape.Shape.TheVariants.{OpenBrace, CloseBrace, OpenParen, CloseParen, Semicolon, Else, Other}

-- The counts of the constructs that are open, the innermost one first, and how many more `(` than `)` stand behind the
-- last `{`: closed behind more than opened is kept, so that both are counted.
pub record Counts : Type 0 where
  pub innermost : ℕ
  pub outer : List ℕ
  pub opened : ℕ
  pub closed : ℕ

abbrev pub no_counts : Counts
no_counts = record { innermost = 0; outer = []; opened = 0; closed = 0 }

abbrev pub open_now : Counts → ℕ
open_now counts = counts.innermost + sum counts.outer

abbrev pub with_one : Counts → Counts
with_one counts = record counts { innermost = counts.innermost + 1 }

-- the innermost construct has ended, unless an `else` goes on with it
abbrev pub ended_before : List Shape → Counts → Counts
ended_before (Else ∷ rest) counts = counts
ended_before next counts = record counts { innermost = 0 }

-- the innermost braces are closed, if there are any
abbrev pub closed : Counts → List ℕ → Counts
closed counts [] = counts
closed counts (count ∷ outer) = record counts { innermost = count; outer = outer }

-- no more `(` than `)` stand behind the last `{`
abbrev pub is_ending : Counts → Bool
is_ending counts = nat_le counts.opened counts.closed

-- a token that was counted, and those that follow it
abbrev pub behind : Shape → List Shape → Counts → Counts
behind OpenBrace next counts = record { innermost = 0; outer = counts.innermost ∷ counts.outer; opened = 0; closed = 0 }
behind CloseBrace next counts = ended_before next (closed counts counts.outer)
behind OpenParen next counts = record counts { opened = counts.opened + 1 }
behind CloseParen next counts = record counts { closed = counts.closed + 1 }
behind Semicolon next counts = if is_ending counts then ended_before next counts else counts
behind shape next counts = counts

-- the most tokens that are open at one place, from here on
abbrev pub most_from : Counts → List Shape → ℕ
most_from counts [] = 0
most_from counts (shape ∷ next) = max (open_now (with_one counts)) (most_from (behind shape next (with_one counts)) next)

abbrev pub shape_of : List ℕ → Shape
shape_of bytes =
    if bytes_eq bytes (codes "{") then OpenBrace else
    if bytes_eq bytes (codes "}") then CloseBrace else
    if bytes_eq bytes (codes "(") then OpenParen else
    if bytes_eq bytes (codes ")") then CloseParen else
    if bytes_eq bytes (codes ";") then Semicolon else
    if bytes_eq bytes (codes "else") then Else else Other

abbrev pub most_open_tokens : List Shape → ℕ
most_open_tokens shapes = most_from no_counts shapes
