-- Marks depend on what stands before alone.
use Rattle.std.proofs.Common.{◌≡◌, inl, inr, ℕ, zero, suc, ◌+◌, ◌<◌, ◌≤◌, true, false, cond, List, [], ◌∷◌, ◌++◌, Some, length, take, drop, slice_get, refl, sym, ap, ◌∙◌, arith, subst, append_assoc, length-append, add-zero}
use Rattle.std.proofs.lemmas.Bool.{cases_lt}
use Rattle.std.proofs.lemmas.List.{take-append-drop, take_all}
use Rattle.std.proofs.lemmas.Slice.Eq.{bytes_eq-Decides}
use Rattle.cx_syntax.specs.declared.token.TokenKind.{TokenKind}
use Rattle.cx_syntax.specs.declared.token.TokenKind.TheVariants as T
use Rattle.cx_syntax.specs.Spell.{Marks}
use Rattle.cx_marks.specs.declared.spelled.Spelled.{Spelled}
use Rattle.cx_marks.specs.Marks.{Tokens, declares_at, first_place, has_at, is_after_key, is_class_key, is_name, mark_at, marks, marks_from, name_mark, number, some_below}
use Rattle.cx_marks.proofs.Names.{first_at_most}
use Rattle.cx_marks.proofs.Steps.{marks_length}

pub at_front : (u w : Tokens) (i : ℕ) → i < length u → slice_get (u ++ w) i ≡ slice_get u i
at_front [] w i h = absurd (omega arith)
at_front (t ∷ u) w zero h = refl
at_front (t ∷ u) w (suc i) h = at_front u w i (omega arith)

key_front : (u w : Tokens) (i : ℕ) → i < length u → is_after_key (u ++ w) i ≡ is_after_key u i
key_front u w zero h = refl
key_front u w (suc i) h = ap (has_at is_class_key) (at_front u w i (omega arith))

declares_front : (u w : Tokens) (name : List ℕ) (i : ℕ) → i < length u → declares_at (u ++ w) name i ≡ declares_at u name i
unfolding declares_at
declares_front u w name i h = rw (key_front u w i h, at_front u w i h) refl

pub some_front : (u w : Tokens) (name : List ℕ) (i : ℕ) → i ≤ length u → some_below i (declares_at (u ++ w) name) ≡ some_below i (declares_at u name)
unfolding some_below
some_front u w name zero h = refl
some_front u w name (suc i) h = rw (declares_front u w name i (omega arith), some_front u w name i (omega arith)) refl

first_front : (u w : Tokens) (name : List ℕ) → first_place u name < length u → first_place (u ++ w) name ≡ first_place u name
unfolding first_place
first_front [] w name h = absurd (omega arith)
first_front (t ∷ u) w name h =
    elim (is_name name t) as (λ b. cond b 0 (suc (first_place u name)) < suc (length u) → cond b 0 (suc (first_place (u ++ w) name)) ≡ cond b 0 (suc (first_place u name))) [
      | true ↦ λ e. refl
      | false ↦ λ e. ap suc (first_front u w name (omega arith))
    ] h

number_front : (u w : Tokens) (name : List ℕ) → first_place u name < length u → number (u ++ w) name ≡ number u name
unfolding number
number_front u w name h = rw (first_front u w name h) refl

pub name_front : (u w : Tokens) (name : List ℕ) (i : ℕ) → i < length u → has_at (is_name name) (slice_get u i) ≡ true → name_mark (u ++ w) i name ≡ name_mark u i name
unfolding name_mark
name_front u w name i h here = let first = first_at_most u name i here in rw (some_front u w name (suc i) (omega arith), number_front u w name (omega arith)) refl

pub slice_after : (a : Tokens) (t : Spelled) (b : Tokens) → slice_get (a ++ (t ∷ b)) (length a) ≡ Some t
slice_after [] t b = refl
slice_after (s ∷ a) t b = slice_after a t b

pub itself : (t : Spelled) → t.kind ≡ T.Name → is_name t.bytes.now t ≡ true
itself t kind = let same = (bytes_eq-Decides t.bytes.now t.bytes.now).1 refl in rw (kind, same) refl

pub mark_front : (a : Tokens) (t : Spelled) (b w : Tokens) (kind : TokenKind) → t.kind ≡ kind → mark_at ((a ++ (t ∷ b)) ++ w) (length a) kind t.bytes.now ≡ mark_at (a ++ (t ∷ b)) (length a) kind t.bytes.now
mark_front a t b w T.Name e = name_front (a ++ (t ∷ b)) w t.bytes.now (length a) (omega (arith, length-append a (t ∷ b))) (ap (has_at (is_name t.bytes.now)) (slice_after a t b) ∙ itself t e)
mark_front a t b w _ e = refl

from_front : (rest a w : Tokens) → marks_from ((a ++ rest) ++ w) (length a) rest ≡ marks_from (a ++ rest) (length a) rest
unfolding marks_from
from_front [] a w = refl
from_front (t ∷ rest) a w =
    let e : (a ++ (t ∷ [])) ++ rest ≡ a ++ (t ∷ rest) = append_assoc a (t ∷ []) rest in
    let n : length (a ++ (t ∷ [])) ≡ suc (length a) = length-append a (t ∷ []) ∙ omega arith in
    let more = from_front rest (a ++ (t ∷ [])) w in
    let later : marks_from ((a ++ (t ∷ rest)) ++ w) (suc (length a)) rest ≡ marks_from (a ++ (t ∷ rest)) (suc (length a)) rest = subst (λ k. marks_from ((a ++ (t ∷ rest)) ++ w) k rest ≡ marks_from (a ++ (t ∷ rest)) k rest) n (subst (λ x. marks_from (x ++ w) (length (a ++ (t ∷ []))) rest ≡ marks_from x (length (a ++ (t ∷ []))) rest) e more) in
    rw (mark_front a t rest w t.kind refl, later) refl

from_append : (ts a b : Tokens) (k : ℕ) → marks_from ts k (a ++ b) ≡ marks_from ts k a ++ marks_from ts (k + length a) b
unfolding marks_from
from_append ts [] b k = rw add-zero refl
from_append ts (t ∷ a) b k = let e : k + suc (length a) ≡ suc k + length a = omega arith in rw (from_append ts a b (suc k), e) refl

-- the marks of a list begin with those of its front
pub marks_then : (u w : Tokens) → marks (u ++ w) ≡ marks u ++ marks_from (u ++ w) (length u) w
marks_then u w =
    let z : 0 + length u ≡ length u = omega arith in
    from_append (u ++ w) u w 0 ∙ (ap (λ x. x ++ marks_from (u ++ w) (0 + length u) w) (from_front u [] w) ∙ ap (λ n. marks u ++ marks_from (u ++ w) n w) z)

take_front : (a b : Marks) (n : ℕ) → length a ≡ n → take n (a ++ b) ≡ a
take_front [] b n h = rw (sym h) refl
take_front (m ∷ a) b zero h = absurd (omega arith)
take_front (m ∷ a) b (suc n) h = ap (λ x. m ∷ x) (take_front a b n (omega arith))

take_size : (ts : Tokens) (n : ℕ) → n ≤ length ts → length (take n ts) ≡ n
take_size ts zero h = refl
take_size [] (suc n) h = absurd (omega arith)
take_size (t ∷ ts) (suc n) h = ap suc (take_size ts n (omega arith))

-- the marks of the first tokens are the first marks
pub marks_take : (ts : Tokens) (n : ℕ) → take n (marks ts) ≡ marks (take n ts)
marks_take ts n =
    elim (cases_lt n (length ts)) [
      | inl lt ↦
          let parts : take n ts ++ drop n ts ≡ ts = take-append-drop n ts in
          let size : length (marks (take n ts)) ≡ n = marks_length (take n ts) (take n ts) 0 ∙ take_size ts n (omega arith) in
          ap (λ x. take n (marks x)) (sym parts) ∙ (ap (take n) (marks_then (take n ts) (drop n ts)) ∙ take_front (marks (take n ts)) _ n size)
      | inr le ↦
          let size = marks_length ts ts 0 in
          take_all n (marks ts) (omega arith) ∙ ap marks (sym (take_all n ts le))
    ]
