-- Marks don't depend on where the bytes of tokens lie.
use Rattle.std.proofs.Common.{◌≡◌, ℕ, zero, suc, ◌||◌, Bool, List, [], ◌∷◌, Option, Some, None, if◌then◌else◌, map, slice_get, refl, sym, ap, ◌∙◌, subst}
use Rattle.cx_syntax.specs.declared.token.TokenKind.{TokenKind}
use Rattle.cx_syntax.specs.declared.token.TokenKind.TheVariants as T
use Rattle.cx_syntax.specs.declared.mark.Mark.{Mark}
use Rattle.cx_marks.specs.declared.spelled.Spelled.{Spelled}
use Rattle.cx_marks.specs.Marks.{Tokens, declares_at, first_place, has_at, is_after_key, is_class_key, is_name, mark_at, marks, marks_from, name_mark, number, some_below}
use Rattle.cx_syntax.specs.Spell.{Marks}
use Rattle.cx_includes.specs.declared.assembled.Assembled.{Assembled}
use Rattle.cx_faults.specs.Faults.{marks_of, tokens_of}
use Rattle.cx_faults.specs.Nowhere.{nowhere}

named_at : (ts : Tokens) (name : List ℕ) (i : ℕ) → has_at (is_name name) (slice_get (map nowhere ts) i) ≡ has_at (is_name name) (slice_get ts i)
named_at [] name i = refl
named_at (t ∷ ts) name zero = refl
named_at (t ∷ ts) name (suc i) = named_at ts name i

key_at : (ts : Tokens) (i : ℕ) → has_at is_class_key (slice_get (map nowhere ts) i) ≡ has_at is_class_key (slice_get ts i)
key_at [] i = refl
key_at (t ∷ ts) zero = refl
key_at (t ∷ ts) (suc i) = key_at ts i

after_key : (ts : Tokens) (i : ℕ) → is_after_key (map nowhere ts) i ≡ is_after_key ts i
after_key ts zero = refl
after_key ts (suc i) = key_at ts i

declares : (ts : Tokens) (name : List ℕ) (i : ℕ) → declares_at (map nowhere ts) name i ≡ declares_at ts name i
unfolding declares_at
declares ts name i = rw (after_key ts i, named_at ts name i) refl

below : (ts : Tokens) (name : List ℕ) (i : ℕ) → some_below i (declares_at (map nowhere ts) name) ≡ some_below i (declares_at ts name)
unfolding some_below
below ts name zero = refl
below ts name (suc i) = rw (declares ts name i, below ts name i) refl

first : (ts : Tokens) (name : List ℕ) → first_place (map nowhere ts) name ≡ first_place ts name
unfolding first_place
first [] name = refl
first (t ∷ ts) name = ap (λ (n : ℕ). if is_name name t then 0 else suc n) (first ts name)

numbers : (ts : Tokens) (name : List ℕ) → number (map nowhere ts) name ≡ number ts name
unfolding number
numbers ts name = rw (first ts name) refl

names : (ts : Tokens) (i : ℕ) (name : List ℕ) → name_mark (map nowhere ts) i name ≡ name_mark ts i name
unfolding name_mark
names ts i name = rw (below ts name (suc i), numbers ts name) refl

mark : (ts : Tokens) (i : ℕ) (kind : TokenKind) (bytes : List ℕ) → mark_at (map nowhere ts) i kind bytes ≡ mark_at ts i kind bytes
mark ts i T.Name bytes = names ts i bytes
mark ts i T.Word bytes = refl
mark ts i T.Number bytes = refl
mark ts i T.Char bytes = refl
mark ts i T.Text bytes = refl
mark ts i T.Punct bytes = refl

from : (ts rest : Tokens) (i : ℕ) → marks_from (map nowhere ts) i (map nowhere rest) ≡ marks_from ts i rest
unfolding marks_from
from ts [] i = refl
from ts (t ∷ rest) i = rw (mark ts i t.kind t.bytes.now, from ts rest (suc i)) refl

marks_nowhere : (ts : Tokens) → marks (map nowhere ts) ≡ marks ts
marks_nowhere ts = from ts ts 0

-- the marks that were told of the tokens of a list are its marks
pub the_marks : (list : Assembled) (tokens : Tokens) (told : Marks) → map nowhere tokens ≡ tokens_of list → told ≡ marks tokens → told ≡ marks_of list
the_marks list tokens told same is = is ∙ sym (marks_nowhere tokens) ∙ ap marks same
