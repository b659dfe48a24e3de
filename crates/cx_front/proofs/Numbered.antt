-- The assertions of statements: how they are named, and in which files they stand.
use Rattle.std.proofs.Common.{◌≡◌, ℕ, zero, suc, ◌+◌, ◌≤◌, true, nat_le, List, [], ◌∷◌, ◌++◌, length, Option, Some, None, IfSome, option_map, unwrap_or, slice_get, All, refl, subst, arith, lit≤, add-zero}
use Rattle.std.proofs.lemmas.Bool.{leb-true}
use Rattle.std.proofs.lemmas.List.Elements.{All-head, All-tail, All-nil, All-cons, All-append, All-weaker}
use Rattle.std.proofs.lemmas.List.Sums.{AllPass-from_list_all}
use Rattle.cx_syntax.specs.Tree as grammar
use Rattle.cx_syntax.specs.Tree.{asserts, block, branch, branches, compound, more_stmts, no_stmts, while_loop}
use Rattle.cx_includes.specs.declared.assembled.Assembled.{Assembled}
use Rattle.cx_includes.specs.declared.assembled.Placed.{Placed}
use Rattle.cx_includes.specs.declared.assembled.SourceFile.{SourceFile}
use Rattle.cx_includes.specs.Assembled.{bytes_of_placed}
use Rattle.cx_core.specs.declared.unit.Assertion.{Assertion}
use Rattle.cx_typed.specs.Unit.{AreNumbered}
use Rattle.cx_front.specs.Front.{word_at, name_of_file, entry_at, entries, assertions_in, all_assertions_in, longest_token, has_short_tokens}
use Rattle.cx_front.proofs.Sizes.{IsShort}

-- ---- elements

element_is : {X : Type 0} (P : X → Type 0) (xs : List X) (i : ℕ) → All P xs → IfSome (slice_get xs i) P
element_is P [] i h = tt
element_is P (x ∷ xs) zero h = All-head P x xs h
element_is P (x ∷ xs) (suc i) h = element_is P xs i (All-tail P x xs h)

-- none has no bytes
short_or_none : {X : Type 0} (bytes : X → List ℕ) (o : Option X) → IfSome o (λ x. IsShort (bytes x)) → IsShort (unwrap_or (option_map bytes o) [])
short_or_none bytes None h = lit≤ tt
short_or_none bytes (Some x) h = h

pub words_are_short : (list : Assembled) → has_short_tokens list ≡ true → (i : ℕ) → IsShort (word_at list i)
words_are_short list h i =
    let passes = λ (placed : Placed). nat_le (length (bytes_of_placed list placed)) longest_token in
    let all = All-weaker (λ (placed : Placed). passes placed ≡ true) (λ (placed : Placed). IsShort (bytes_of_placed list placed)) (λ placed e. leb-true (length (bytes_of_placed list placed)) longest_token e) list.placed (AllPass-from_list_all passes list.placed h) in
    short_or_none (bytes_of_placed list) (slice_get list.placed i) (element_is (λ (placed : Placed). IsShort (bytes_of_placed list placed)) list.placed i all)

abbrev pub HasShortName : SourceFile → Type 0
HasShortName file = length file.name ≤ 1024

module _ (list : Assembled) (short : All HasShortName list.files) where
  pub name_is_short : (file : ℕ) → IsShort (name_of_file list file)
  name_is_short file = short_or_none (λ (source : SourceFile). source.name) (slice_get list.files file) (element_is HasShortName list.files file short)

  -- ---- files

  abbrev pub HasShortFile : Assertion → Type 0
  HasShortFile a = length a.file ≤ 1024

  entries_are_short : (ordinal : ℕ) (e : grammar.Expr) (o : Option Placed) → All HasShortFile (entries list ordinal e o)
  entries_are_short ordinal e None = All-nil HasShortFile
  entries_are_short ordinal e (Some word) = All-cons HasShortFile (entry_at list ordinal word e) [] (name_is_short word.file) (All-nil HasShortFile)

  mutual
    unfolding assertions_in

    pub files_are_short : (ordinal : ℕ) (s : grammar.Stmt) → All HasShortFile (assertions_in list ordinal s)
    files_are_short ordinal (compound (block i b j)) = all_files_are_short ordinal b
    files_are_short ordinal (branch i j c k a) = files_are_short ordinal a
    files_are_short ordinal (branches i j c k a l b) =
        let later = ordinal + length (assertions_in list ordinal a) in
        All-append HasShortFile (assertions_in list ordinal a) (assertions_in list later b) (files_are_short ordinal a) (files_are_short later b)
    files_are_short ordinal (while_loop i j c k body) = files_are_short ordinal body
    files_are_short ordinal (asserts i j e k l) = entries_are_short ordinal e (slice_get list.placed i)
    files_are_short ordinal other = All-nil HasShortFile

    pub all_files_are_short : (ordinal : ℕ) (b : grammar.Stmts) → All HasShortFile (all_assertions_in list ordinal b)
    all_files_are_short ordinal no_stmts = All-nil HasShortFile
    all_files_are_short ordinal (more_stmts b s) =
        let later = ordinal + length (all_assertions_in list ordinal b) in
        All-append HasShortFile (all_assertions_in list ordinal b) (assertions_in list later s) (all_files_are_short ordinal b) (files_are_short later s)

-- ---- names

numbered_on : (ordinal : ℕ) (xs ys : List Assertion) → AreNumbered ordinal xs → AreNumbered (ordinal + length xs) ys → AreNumbered ordinal (xs ++ ys)
numbered_on ordinal [] ys h k = subst (λ (n : ℕ). AreNumbered n ys) (add-zero ordinal) k
numbered_on ordinal (a ∷ xs) ys h k =
    let same : ordinal + length (a ∷ xs) ≡ ordinal + 1 + length xs = omega arith in
    (h.0, h.1, numbered_on (ordinal + 1) xs ys h.2 (subst (λ (n : ℕ). AreNumbered n ys) same k))

module _ (list : Assembled) where
  entries_are_numbered : (ordinal : ℕ) (e : grammar.Expr) (o : Option Placed) → AreNumbered ordinal (entries list ordinal e o)
  entries_are_numbered ordinal e None = tt
  entries_are_numbered ordinal e (Some word) = (refl, refl, tt)

  mutual
    unfolding assertions_in

    pub are_numbered : (ordinal : ℕ) (s : grammar.Stmt) → AreNumbered ordinal (assertions_in list ordinal s)
    are_numbered ordinal (compound (block i b j)) = all_are_numbered ordinal b
    are_numbered ordinal (branch i j c k a) = are_numbered ordinal a
    are_numbered ordinal (branches i j c k a l b) =
        let later = ordinal + length (assertions_in list ordinal a) in
        numbered_on ordinal (assertions_in list ordinal a) (assertions_in list later b) (are_numbered ordinal a) (are_numbered later b)
    are_numbered ordinal (while_loop i j c k body) = are_numbered ordinal body
    are_numbered ordinal (asserts i j e k l) = entries_are_numbered ordinal e (slice_get list.placed i)
    are_numbered ordinal other = tt

    pub all_are_numbered : (ordinal : ℕ) (b : grammar.Stmts) → AreNumbered ordinal (all_assertions_in list ordinal b)
    all_are_numbered ordinal no_stmts = tt
    all_are_numbered ordinal (more_stmts b s) =
        let later = ordinal + length (all_assertions_in list ordinal b) in
        numbered_on ordinal (all_assertions_in list ordinal b) (assertions_in list later s) (all_are_numbered ordinal b) (are_numbered later s)
