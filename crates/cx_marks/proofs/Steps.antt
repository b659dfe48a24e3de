-- What a step of the scan leaves known.
use Rattle.std.proofs.Common.{◌≡◌, ℕ, zero, suc, ◌+◌, ◌<◌, ◌≤◌, true, false, if◌then◌else◌, List, [], ◌∷◌, ◌++◌, Some, length, take, get_or, slice_get, refl, sym, ap, ◌∙◌, arith, add-one, bytes_eq, subst}
use Rattle.std.specs.Prelude.{codes}
use Rattle.std.specs.BTreeMap.{BTreeMap}
use Rattle.std.proofs.lemmas.Bool.{cond_both, true≢false, false_from_ne_true}
use Rattle.std.proofs.lemmas.Grind.{common_steps}
use Rattle.std.proofs.lemmas.List.{take_more, take_all}
use Rattle.std.proofs.lemmas.Option.{slice_get-get_or, get_or_from_slice_get}
use Rattle.std.proofs.lemmas.Slice.Eq.{bytes_eq-Decides}
use denote.Ref.{Bor}
use Rattle.cx_syntax.specs.declared.token.TokenKind.{TokenKind}
use Rattle.cx_syntax.specs.declared.token.TokenKind.TheVariants as T
use Rattle.cx_syntax.specs.declared.mark.Mark.{Mark}
use Rattle.cx_syntax.specs.declared.mark.Mark.TheVariants as M
use Rattle.cx_marks.specs.declared.spelled.Spelled.{Spelled}
use Rattle.cx_marks.specs.declared.scan.Known.{Known}
use Rattle.cx_marks.specs.Marks.{Tokens, has_at, is_after_key, is_class_key, is_name, is_name_kind, mark_at, marks, marks_from, name_mark}
use Rattle.cx_marks.specs.Seen.{Knows, fixed, known, known_name, mark_by, noted}
use Rattle.cx_marks.proofs.Names.{keeps, learns, none_known, told_mark}

-- the token that lists have past their ends
abbrev pub no_token : Spelled
no_token = record { kind = T.Name; bytes = record { ref_ptr = (0, 0); now = [] } }

pub token_at : (ts : Tokens) (i : ℕ) → i < length ts → slice_get ts i ≡ Some (get_or ts i no_token)
token_at ts i h = slice_get-get_or ts i no_token h

-- a token that says nothing of a name
pub knows_on : (names : BTreeMap (Bor (List ℕ)) Known) (ts : Tokens) (i : ℕ) (t : Spelled) → slice_get ts i ≡ Some t → ((name : List ℕ) → bytes_eq name (codes "std") ≡ false → is_name name t ≡ false) → Knows names ts i → Knows names ts (i + 1)
unfolding Knows
knows_on names ts i t at silent before name other = rw add-one (before name other ∙ sym (keeps ts i t name at (silent name other)))

-- so is each token but a name
pub no_name : (names : BTreeMap (Bor (List ℕ)) Known) (ts : Tokens) (i : ℕ) → i < length ts → is_name_kind (get_or ts i no_token).kind ≡ false → Knows names ts i → Knows names ts (i + 1)
no_name names ts i h kind before = knows_on names ts i (get_or ts i no_token) (token_at ts i h) (λ name other. rw kind refl) before

-- and `std`
pub std_name : (names : BTreeMap (Bor (List ℕ)) Known) (ts : Tokens) (i : ℕ) → i < length ts → (get_or ts i no_token).bytes.now ≡ codes "std" → Knows names ts i → Knows names ts (i + 1)
std_name names ts i h is before = knows_on names ts i (get_or ts i no_token) (token_at ts i h) (λ name other. rw (is, other) (grind (arith, common_steps))) before

name_here : (ts : Tokens) (i : ℕ) → i < length ts → (get_or ts i no_token).kind ≡ T.Name → has_at (is_name (get_or ts i no_token).bytes.now) (slice_get ts i) ≡ true
name_here ts i h kind = let e = token_at ts i h in let same = (bytes_eq-Decides (get_or ts i no_token).bytes.now (get_or ts i no_token).bytes.now).1 refl in rw (e, kind, same) refl

-- a name
pub knows_name : (names more : BTreeMap (Bor (List ℕ)) Known) (ts : Tokens) (i : ℕ) → i < length ts → (get_or ts i no_token).kind ≡ T.Name → bytes_eq (get_or ts i no_token).bytes.now (codes "std") ≡ false
    → ((name : List ℕ) → known_name more name ≡ (if bytes_eq (get_or ts i no_token).bytes.now name then Some (noted (known_name names (get_or ts i no_token).bytes.now) i (is_after_key ts i)) else known_name names name))
    → Knows names ts i → Knows more ts (i + 1)
unfolding Knows
knows_name names more ts i h kind other updates before name apart =
    let t : Spelled = get_or ts i no_token in
    let at : slice_get ts i ≡ Some t = token_at ts i h in
    rw add-one (updates name ∙
    cond_both (bytes_eq t.bytes.now name) (Some (noted (known_name names t.bytes.now) i (is_after_key ts i))) (known_name names name) (λ o. o ≡ known ts (suc i) name)
    (λ e. let same : t.bytes.now ≡ name = (bytes_eq-Decides t.bytes.now name).0 e in
    subst (λ n. Some (noted (known_name names t.bytes.now) i (is_after_key ts i)) ≡ known ts (suc i) n) same
    (ap (λ o. Some (noted o i (is_after_key ts i))) (before t.bytes.now other) ∙ sym (learns ts i t.bytes.now (name_here ts i h kind))))
    (λ e. before name apart ∙ sym (keeps ts i t name at (rw kind (apart_name t.bytes.now name e)))))
  where
    apart_name : (a b : List ℕ) → bytes_eq a b ≡ false → bytes_eq b a ≡ false
    apart_name a b e = false_from_ne_true (bytes_eq b a) (λ y. true≢false (sym ((bytes_eq-Decides a b).1 (sym ((bytes_eq-Decides b a).0 y))) ∙ e))

-- the mark of a name
pub marked_name : (names : BTreeMap (Bor (List ℕ)) Known) (ts : Tokens) (i : ℕ) (k : Known) (t : Spelled) → i < length ts → (get_or ts i no_token).kind ≡ T.Name → bytes_eq (get_or ts i no_token).bytes.now (codes "std") ≡ false
    → k ≡ noted (known_name names (get_or ts i no_token).bytes.now) i (is_after_key ts i) → Knows names ts i → slice_get ts i ≡ Some t → mark_by k ≡ name_mark ts i t.bytes.now
unfolding Knows
marked_name names ts i k t h kind other is before at =
    let e : get_or ts i no_token ≡ t = get_or_from_slice_get ts i t no_token at in
    subst (λ (u : Spelled). mark_by k ≡ name_mark ts i u.bytes.now) e
    (sym (told_mark ts i (get_or ts i no_token).bytes.now k (name_here ts i h kind) other (is ∙ ap (λ o. noted o i (is_after_key ts i)) (before _ other))))

pub marked_std : (ts : Tokens) (i : ℕ) (t : Spelled) → (get_or ts i no_token).bytes.now ≡ codes "std" → slice_get ts i ≡ Some t → M.Std ≡ name_mark ts i t.bytes.now
unfolding name_mark
marked_std ts i t is at =
    let e : get_or ts i no_token ≡ t = get_or_from_slice_get ts i t no_token at in
    let same : t.bytes.now ≡ codes "std" = sym (ap (λ (u : Spelled). u.bytes.now) e) ∙ is in
    rw same refl

-- before the first token
pub knows_none : (names : BTreeMap (Bor (List ℕ)) Known) (ts : Tokens) → ((name : List ℕ) → known_name names name ≡ fixed name) → Knows names ts 0
unfolding Knows
knows_none names ts is name other = is name ∙ sym (none_known ts name)

-- the mark of a token of another kind
pub marked : (ts : Tokens) (i : ℕ) (t : Spelled) (kind : TokenKind) → (get_or ts i no_token).kind ≡ kind → slice_get ts i ≡ Some t → mark_at ts i kind (get_or ts i no_token).bytes.now ≡ mark_at ts i t.kind t.bytes.now
marked ts i t kind is at =
    let e : get_or ts i no_token ≡ t = get_or_from_slice_get ts i t no_token at in
    subst (λ (u : Spelled). mark_at ts i kind (get_or ts i no_token).bytes.now ≡ mark_at ts i u.kind u.bytes.now) e (rw is refl)

pub marks_length : (ts rest : Tokens) (k : ℕ) → length (marks_from ts k rest) ≡ length rest
unfolding marks_from
marks_length ts [] k = refl
marks_length ts (t ∷ rest) k = ap suc (marks_length ts rest (suc k))

-- the mark at a place
pub mark_get : (ts rest : Tokens) (k i : ℕ) (d : Mark) → i < length rest → get_or (marks_from ts k rest) i d ≡ mark_at ts (k + i) (get_or rest i no_token).kind (get_or rest i no_token).bytes.now
unfolding marks_from
mark_get ts [] k i d h = absurd (omega arith)
mark_get ts (t ∷ rest) k zero d h = let e : k + 0 ≡ k = omega arith in rw e refl
mark_get ts (t ∷ rest) k (suc i) d h = let e : k + suc i ≡ suc k + i = omega arith in rw e (mark_get ts rest (suc k) i d (omega arith))

pub marks_more : (ts : Tokens) (i : ℕ) (m : Mark) → i < length ts → ((t : Spelled) → slice_get ts i ≡ Some t → m ≡ mark_at ts i t.kind t.bytes.now) → take i (marks ts) ++ m ∷ [] ≡ take (i + 1) (marks ts)
marks_more ts i m h is =
    let size = marks_length ts ts 0 in
    let zero_in : 0 + i ≡ i = omega arith in
    let e : get_or (marks ts) i m ≡ m = mark_get ts ts 0 i m h ∙ rw zero_in (sym (is (get_or ts i no_token) (token_at ts i h))) in
    sym (take_more (marks ts) i m (omega arith) ∙ ap (λ x. take i (marks ts) ++ x ∷ []) e)

pub marks_all : (ts : Tokens) (i : ℕ) → length ts ≤ i → take i (marks ts) ≡ marks ts
marks_all ts i h = let size = marks_length ts ts 0 in take_all i (marks ts) (omega arith)

-- whether the next place stands after `class` or `struct`
pub key_more : (ts : Tokens) (i : ℕ) → i < length ts → is_class_key (get_or ts i no_token) ≡ is_after_key ts (i + 1)
key_more ts i h = let e = token_at ts i h in rw (add-one, e) refl
