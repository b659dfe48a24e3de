-- What the marks of tokens say of class names and class keys, the tokens say too.
use Rattle.std.proofs.Common.{◌≡◌, ◌⊎◌, inl, inr, ℕ, suc, ◌||◌, Bool, true, false, not, cond, List, [], ◌∷◌, ◌++◌, Some, length, refl, sym, ap, ◌∙◌, subst, arith, bytes_eq, append_assoc, length-append, append-nil, ⊎_elim}
use Rattle.std.specs.Prelude.{codes}
use Rattle.std.specs.List.{list_all}
use Rattle.std.specs.Map.{lookup}
use Rattle.std.specs.Option.{unwrap_or}
use Rattle.std.proofs.lemmas.Bool.{and_parts, false≢true, or_cases}
use Rattle.std.proofs.lemmas.Slice.Eq.{bytes_eq-Decides}
use Rattle.cx_syntax.specs.declared.token.TokenKind.{TokenKind}
use Rattle.cx_syntax.specs.declared.token.TokenKind.TheVariants as T
use Rattle.cx_syntax.specs.declared.mark.Word.{Word}
use Rattle.cx_syntax.specs.declared.mark.Word.TheVariants as W
use Rattle.cx_syntax.specs.declared.mark.Mark.{Mark}
use Rattle.cx_syntax.specs.declared.mark.Mark.TheVariants as M
use Rattle.cx_syntax.specs.Shaped as S
use Rattle.cx_syntax.specs.Spell.{numbered}
use Rattle.cx_lexer.specs.Lexeme.{is_refused, is_token}
use Rattle.cx_marks.specs.declared.spelled.Spelled.{Spelled}
use Rattle.cx_marks.specs.Marks.{Tokens, declares_at, has_at, is_after_key, is_class_key, is_class_name, mark_at, marks, marks_from, name_mark, number, some_below}
use Rattle.cx_marks.specs.Place.{AreTokens, IsToken}
use Rattle.cx_marks.specs.Words.{word_of, words}
use Rattle.cx_marks.proofs.Fronts.{mark_front, slice_after}
use Rattle.cx_grammar.proofs.Good.{is_key, known_after}
use Rattle.cx_grammar.proofs.Realize.{HasClass, class_kept}
use Rattle.cx_grammar.proofs.Standing.{key_all, known_all}

-- ---- class keys

abbrev Entry : Type 0
Entry = List ℕ × Word

-- a class key, or no key
abbrev told_key : Entry → Bool
told_key e = not (S.is_class_key e.1) || (bytes_eq (codes "class") e.0 || bytes_eq (codes "struct") e.0)

abbrev no_key_bytes : List ℕ → Bool
no_key_bytes bytes = bytes_eq (codes "class") bytes || bytes_eq (codes "struct") bytes

not_true : (b : Bool) → not b ≡ true → b ≡ false
not_true true h = absurd (false≢true h)
not_true false h = refl

other_word : (bytes : List ℕ) (es : List Entry) → no_key_bytes bytes ≡ false → list_all told_key es ≡ true → S.is_class_key (unwrap_or (lookup (λ spelling. bytes_eq spelling bytes) es) W.Unused) ≡ false
other_word bytes [] none all = refl
other_word bytes (e ∷ es) none all =
    let parts = and_parts (told_key e) (list_all told_key es) all in
    elim (bytes_eq e.0 bytes) as (λ b. bytes_eq e.0 bytes ≡ b → S.is_class_key (unwrap_or (cond b (Some e.1) (lookup (λ spelling. bytes_eq spelling bytes) es)) W.Unused) ≡ false) [
      | true ↦ λ y.
          let same : e.0 ≡ bytes = (bytes_eq-Decides e.0 bytes).0 y in
          ⊎_elim (λ k. not_true (S.is_class_key e.1) k) (λ k. absurd (false≢true (sym none ∙ (ap no_key_bytes (sym same) ∙ k)))) (or_cases (not (S.is_class_key e.1)) _ parts.0)
      | false ↦ λ y. other_word bytes es none parts.1
    ] refl

key_word : (bytes : List ℕ) → S.is_class_key (word_of bytes) ≡ no_key_bytes bytes
unfolding words
key_word bytes = by (bytes_eq (codes "class") bytes) (bytes_eq (codes "struct") bytes) refl refl
  where
    by : (b d : Bool) → bytes_eq (codes "class") bytes ≡ b → bytes_eq (codes "struct") bytes ≡ d → S.is_class_key (word_of bytes) ≡ no_key_bytes bytes
    by true d e f = subst (λ x. S.is_class_key (word_of x) ≡ no_key_bytes x) ((bytes_eq-Decides (codes "class") bytes).0 e) refl
    by false true e f = subst (λ x. S.is_class_key (word_of x) ≡ no_key_bytes x) ((bytes_eq-Decides (codes "struct") bytes).0 f) refl
    by false false e f = let none : no_key_bytes bytes ≡ false = rw (e, f) refl in other_word bytes words none refl ∙ sym none

name_key : (s c : Bool) (n : ℕ) → is_key (cond s M.Std (cond c (M.Class n) (M.Name n))) ≡ false
name_key true c n = refl
name_key false true n = refl
name_key false false n = refl

mark_key : (ts : Tokens) (n : ℕ) (t : Spelled) (kind : TokenKind) → t.kind ≡ kind → is_key (mark_at ts n kind t.bytes.now) ≡ is_class_key t
unfolding name_mark
mark_key ts n t T.Name e = rw e (name_key (bytes_eq t.bytes.now (codes "std")) (is_class_name ts t.bytes.now n) (number ts t.bytes.now))
mark_key ts n t T.Word e = rw e (key_word t.bytes.now)
mark_key ts n t _ e = rw e refl

key_from : (rest a : Tokens) (n : ℕ) → key_all (is_after_key (a ++ rest) (length a)) (numbered n (marks_from (a ++ rest) (length a) rest)) ≡ is_after_key (a ++ rest) (length (a ++ rest))
unfolding marks_from
key_from [] a n = let e : length a ≡ length (a ++ []) = ap length (sym (append-nil a)) in ap (is_after_key (a ++ [])) e
key_from (t ∷ rest) a n =
    let e : (a ++ t ∷ []) ++ rest ≡ a ++ (t ∷ rest) = append_assoc a (t ∷ []) rest in
    let l : length (a ++ t ∷ []) ≡ suc (length a) = length-append a (t ∷ []) ∙ omega arith in
    let more = key_from rest (a ++ t ∷ []) (suc n) in
    let P : Tokens → ℕ → Type 0 = λ x k. key_all (is_after_key x k) (numbered (suc n) (marks_from x k rest)) ≡ is_after_key x (length x) in
    let later : P (a ++ (t ∷ rest)) (suc (length a)) = subst (λ k. P (a ++ (t ∷ rest)) k) l (subst (λ x. P x (length (a ++ t ∷ []))) e more) in
    let key : is_key (mark_at (a ++ (t ∷ rest)) (length a) t.kind t.bytes.now) ≡ is_after_key (a ++ (t ∷ rest)) (suc (length a)) = mark_key (a ++ (t ∷ rest)) (length a) t t.kind refl ∙ sym (ap (has_at is_class_key) (slice_after a t rest)) in
    ap (λ k. key_all k (numbered (suc n) (marks_from (a ++ (t ∷ rest)) (suc (length a)) rest))) key ∙ later

-- the last mark is that of a class key where the last token is one
pub key_is : (ts : Tokens) → key_all false (numbered 0 (marks ts)) ≡ is_after_key ts (length ts)
key_is ts = key_from ts [] 0

-- ---- class names

name_known : (s c b : Bool) (n : ℕ) → known_after b (cond s M.Std (cond c (M.Class n) (M.Name n))) ≡ true → (b ≡ true) ⊎ ((s ≡ false) × (c ≡ true))
name_known true c b n h = inl h
name_known false true b n h = inr (refl, refl)
name_known false false b n h = inl h

known_step : (b : Bool) (a : Tokens) (t : Spelled) (kind : TokenKind) → t.kind ≡ kind → IsToken t → (b ≡ true → HasClass a) → known_after b (mark_at (a ++ t ∷ []) (length a) kind t.bytes.now) ≡ true → HasClass (a ++ t ∷ [])
unfolding name_mark
known_step b a t T.Name e is old h =
    ⊎_elim (λ y. class_kept a t (old y))
    (λ y. let l : suc (length a) ≡ length (a ++ t ∷ []) = omega arith ∙ sym (length-append a (t ∷ [])) in
    (t.bytes.now, subst (λ k. (is_token k t.bytes.now ≡ true) × (is_refused k t.bytes.now [] ≡ false)) e is, y.0, subst (λ k. some_below k (declares_at (a ++ t ∷ []) t.bytes.now) ≡ true) l y.1))
    (name_known (bytes_eq t.bytes.now (codes "std")) (is_class_name (a ++ t ∷ []) t.bytes.now (length a)) b (number (a ++ t ∷ []) t.bytes.now) h)
known_step b a t _ e is old h = class_kept a t (old h)

known_from : (rest a : Tokens) (n : ℕ) (b : Bool) → AreTokens rest → (b ≡ true → HasClass a) → known_all b (numbered n (marks_from (a ++ rest) (length a) rest)) ≡ true → HasClass (a ++ rest)
unfolding marks_from
known_from [] a n b are old h = subst HasClass (sym (append-nil a)) (old h)
known_from (t ∷ rest) a n b are old h =
    let e : (a ++ t ∷ []) ++ rest ≡ a ++ (t ∷ rest) = append_assoc a (t ∷ []) rest in
    let l : length (a ++ t ∷ []) ≡ suc (length a) = length-append a (t ∷ []) ∙ omega arith in
    let m : Mark = mark_at (a ++ (t ∷ rest)) (length a) t.kind t.bytes.now in
    let same : mark_at (a ++ (t ∷ rest)) (length a) t.kind t.bytes.now ≡ mark_at (a ++ t ∷ []) (length a) t.kind t.bytes.now = subst (λ x. mark_at x (length a) t.kind t.bytes.now ≡ mark_at (a ++ t ∷ []) (length a) t.kind t.bytes.now) e (mark_front a t [] rest t.kind refl) in
    let new : known_after b m ≡ true → HasClass (a ++ t ∷ []) = λ y. known_step b a t t.kind refl are.0 old (subst (λ x. known_after b x ≡ true) same y) in
    let Q : Tokens → ℕ → Type 0 = λ x k. known_all (known_after b m) (numbered (suc n) (marks_from x k rest)) ≡ true in
    let later : Q ((a ++ t ∷ []) ++ rest) (length (a ++ t ∷ [])) = subst (λ x. Q x (length (a ++ t ∷ []))) (sym e) (subst (λ k. Q (a ++ (t ∷ rest)) k) (sym l) h) in
    subst HasClass e (known_from rest (a ++ t ∷ []) (suc n) (known_after b m) are.1 new later)

-- marks with a class name are those of tokens with one
pub known_is : (ts : Tokens) → AreTokens ts → known_all false (numbered 0 (marks ts)) ≡ true → HasClass ts
known_is ts are h = known_from ts [] 0 false are (λ y. absurd (false≢true y)) h
