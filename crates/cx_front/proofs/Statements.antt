-- The statements of a tree, one after another, and the tables of their assertions.
use Rattle.std.proofs.Common.{◌≡◌, ℕ, ◌+◌, ◌<◌, Bool, true, false, List, [], ◌∷◌, ◌++◌, Option, Some, None, length, get_or, map, take, drop, refl, sym, ap, ◌∙◌, arith, append_assoc, append-nil, length-append}
use Rattle.std.specs.Prelude.{◌&&◌, fold}
use Rattle.std.proofs.lemmas.List.{map-append, take_at, take-append-drop, take_more}
use Rattle.std.proofs.lemmas.List.Sums.{fold-append}
use Rattle.cx_syntax.specs.Tree as grammar
use Rattle.cx_syntax.specs.Tree.{Stmts, local, declare, more_stmts, no_stmts}
use Rattle.cx_syntax.specs.declared.tree.statement.Stmt.{Stmt}
use Rattle.cx_syntax.specs.View.{stmt_list, stmt_of, stmts_of}
use Rattle.cx_includes.specs.declared.assembled.Assembled.{Assembled}
use Rattle.cx_core.specs.declared.unit.Assertion.{Assertion}
use Rattle.cx_core.specs.declared.statement.Statement.{Statement}
use Rattle.cx_core.specs.Tree as core
use Rattle.cx_core.specs.Tree.{Stmts as Stmts'}
use Rattle.cx_core.specs.declared.number.IntegerType.{IntegerType}
use Rattle.cx_core.specs.View as view
use Rattle.cx_front.specs.declared.names.Slot.{Slot}
use Rattle.cx_front.specs.Front.{Names, Typed, all_assertions_in, assertions_in, both, declared_in, found, if_of, initialised_in, is_declaration, is_new, may_name, names_after, names_behind, of_type, only_if, stmt_in, stmts_in, type_in, with_last, with_typed_name, word_at}
use Rattle.cx_front.specs.Made.{names_with}

-- ---- trees

pub stmts_last : (front : List Stmt) (last : Stmt) → stmts_of (front ++ last ∷ []) ≡ more_stmts (stmts_of front) (stmt_of last)
stmts_last front last = ap stmt_list (map-append stmt_of front (last ∷ [])) ∙ fold-append more_stmts no_stmts (map stmt_of front) (stmt_of last ∷ [])

pub stmts_more : (all : List Stmt) (i : ℕ) (x : Stmt) → i < length all → x ≡ get_or all i x → stmts_of (take (i + 1) all) ≡ more_stmts (stmts_of (take i all)) (stmt_of x)
stmts_more all i x lt is =
    let front : take (i + 1) all ≡ take i all ++ x ∷ [] = take_more all i x lt ∙ ap (λ (y : Stmt). take i all ++ y ∷ []) (sym is) in
    ap stmts_of front ∙ stmts_last (take i all) x

made_last : (s : List (core.Stmt ℕ)) (x : (core.Stmt ℕ)) → view.stmts (s ++ x ∷ []) ≡ with_last (view.stmts s) x
made_last [] x = refl
made_last (y ∷ s) x = ap (core.next y) (made_last s x)

pub made_more : (s : List Statement) (x : Statement) → view.stmts_of (s ++ x ∷ []) ≡ with_last (view.stmts_of s) (view.stmt_of x)
made_more s x = ap view.stmts (map-append view.stmt_of s (x ∷ [])) ∙ made_last (map view.stmt_of s) (view.stmt_of x)

-- ---- options

pub both_none : {A B C : Type 0} (f : A → B → C) (a : Option A) → both f a None ≡ None
both_none f None = refl
both_none f (Some a) = refl

pub if_none : (c : Option Typed) (b : Option (core.Stmt ℕ)) → if_of c None b ≡ None
if_none None b = refl
if_none (Some c) None = refl
if_none (Some c) (Some b) = refl

pub if_none_else : (c : Option Typed) (a : Option (core.Stmt ℕ)) → if_of c a None ≡ None
if_none_else None a = refl
if_none_else (Some c) None = refl
if_none_else (Some c) (Some a) = refl

-- ---- what is visible

-- what is visible behind a part began with what was visible before it
Longer : Names → Names → Type 0
Longer names behind = (more : Names) × (behind ≡ names ++ more)

longer_named : (names : Names) (name : ℕ) (type : Option IntegerType) → Longer names (with_typed_name names name type)
unfolding Longer
longer_named names name None = ([], sym (append-nil names))
longer_named names name (Some type) = (record { name = name; of = type } ∷ [], refl)

longer_behind : (names : Names) (tree : grammar.Stmt) → Longer names (names_behind names tree)
unfolding Longer
longer_behind names (declare (local type name i init) j) = longer_named names name (type_in type)
longer_behind names _ = ([], sym (append-nil names))

longer_after : (names : Names) (tree : grammar.Stmts) → Longer names (names_after names tree)
unfolding Longer
longer_after names no_stmts = ([], sym (append-nil names))
longer_after names (more_stmts b s) =
    let front : Longer names (names_after names b) = longer_after names b in
    let last : Longer (names_after names b) (names_behind (names_after names b) s) = longer_behind (names_after names b) s in
    (front.0 ++ last.0, last.1 ∙ ap (λ (l : Names). l ++ last.0) front.1 ∙ append_assoc names front.0 last.0)

-- so the end of a block gives that back
pub given_back : (names : Names) (tree : grammar.Stmts) → take (length names) (names_after names tree) ≡ names
unfolding Longer
given_back names tree =
    let longer : Longer names (names_after names tree) = longer_after names tree in
    ap (take (length names)) longer.1 ∙ take_at names longer.0 (length names) refl

-- what is no declaration leaves nothing visible
pub branch_behind : (names : Names) (tree : grammar.Stmt) → is_declaration tree ≡ false → names_behind names tree ≡ names
branch_behind names (declare l i) not_one = absurd (cc)
branch_behind names _ not_one = refl

pub declaration_behind : (names : Names) (l : grammar.Local) (i : ℕ) → names_behind names (declare l i) ≡ names_with names l
declaration_behind names (local type name i init) j = refl

-- ---- one more statement

module _ (list : Assembled) where
  pub table_more : (table front more : List Assertion) (b : Stmts) (s : grammar.Stmt) → front ≡ table ++ all_assertions_in list (length table + 1) b → more ≡ front ++ assertions_in list (length front + 1) s
      → more ≡ table ++ all_assertions_in list (length table + 1) (more_stmts b s)
  unfolding all_assertions_in assertions_in
  table_more table front more b s at_front at_more =
      let count : length front + 1 ≡ length table + 1 + length (all_assertions_in list (length table + 1) b) = omega (arith, ap length at_front, length-append table (all_assertions_in list (length table + 1) b)) in
      at_more
      ∙ ap (λ (k : ℕ). front ++ assertions_in list k s) count
      ∙ ap (λ (l : List Assertion). l ++ assertions_in list (length table + 1 + length (all_assertions_in list (length table + 1) b)) s) at_front
      ∙ append_assoc table (all_assertions_in list (length table + 1) b) (assertions_in list (length table + 1 + length (all_assertions_in list (length table + 1) b)) s)

  -- the statements with one more stand for their tree with one more
  pub stands_more : (base : ℕ) (names visible : Names) (table front : List Assertion) (b : Stmts) (s : grammar.Stmt) (made : Option (Stmts' ℕ)) (told : Option (core.Stmt ℕ))
      → front ≡ table ++ all_assertions_in list (length table + 1) b → visible ≡ names_after names b
      → stmts_in list (length table + 1) base names b ≡ made → stmt_in list (length front + 1) base visible s ≡ told
      → stmts_in list (length table + 1) base names (more_stmts b s) ≡ both with_last made told
  unfolding stmts_in
  stands_more base names visible table front b s made told at_front seen of_front of_last =
      let count : length front + 1 ≡ length table + 1 + length (all_assertions_in list (length table + 1) b) = omega (arith, ap length at_front, length-append table (all_assertions_in list (length table + 1) b)) in
      let last : stmt_in list (length table + 1 + length (all_assertions_in list (length table + 1) b)) base (names_after names b) s ≡ told =
      ap (λ (k : ℕ). stmt_in list k base (names_after names b) s) (sym count) ∙ ap (λ (v : Names). stmt_in list (length front + 1) base v s) (sym seen) ∙ of_last in
      ap (λ (a : Option (Stmts' ℕ)). both with_last a (stmt_in list (length table + 1 + length (all_assertions_in list (length table + 1) b)) base (names_after names b) s)) of_front
      ∙ ap (both with_last made) last

  -- what isn't built spoils all
  none_behind : (ordinal base : ℕ) (names : Names) (s : Stmts) (more : List grammar.Stmt) → stmts_in list ordinal base names s ≡ None → stmts_in list ordinal base names (fold more_stmts s more) ≡ None
  unfolding stmts_in
  none_behind ordinal base names s [] none = none
  none_behind ordinal base names s (t ∷ more) none = none_behind ordinal base names (more_stmts s t) more (rw none refl)

  pub spoilt : (ordinal base : ℕ) (names : Names) (front more : List Stmt) → stmts_in list ordinal base names (stmts_of front) ≡ None → stmts_in list ordinal base names (stmts_of (front ++ more)) ≡ None
  spoilt ordinal base names front more none =
      let same : stmts_of (front ++ more) ≡ fold more_stmts (stmts_of front) (map stmt_of more) = ap stmt_list (map-append stmt_of front more) ∙ fold-append more_stmts no_stmts (map stmt_of front) (map stmt_of more) in
      ap (stmts_in list ordinal base names) same ∙ none_behind ordinal base names (stmts_of front) (map stmt_of more) none

  -- ---- a loop over statements

  module _ (base : ℕ) (names visible : Names) (table front : List Assertion) (all : List Stmt) (i : ℕ) (x : Stmt) where
    pub step_stands : (more : List Assertion) (told next : List Statement) (s : Statement) → i < length all → x ≡ get_or all i x
        → front ≡ table ++ all_assertions_in list (length table + 1) (stmts_of (take i all)) → visible ≡ names_after names (stmts_of (take i all))
        → more ≡ front ++ assertions_in list (length front + 1) (stmt_of x) → next ≡ told ++ s ∷ []
        → (Some (view.stmts_of told) ≡ stmts_in list (length table + 1) base names (stmts_of (take i all)))
        → Some (view.stmt_of s) ≡ stmt_in list (length front + 1) base visible (stmt_of x)
        → Some (view.stmts_of next) ≡ stmts_in list (length table + 1) base names (stmts_of (take (i + 1) all))
    step_stands more told next s lt is at_front seen at_more pushed of_front of_last =
        ap (λ (l : List Statement). Some (view.stmts_of l)) pushed
        ∙ ap (λ (l : Stmts' ℕ). Some l) (made_more told s)
        ∙ sym (stands_more base names visible table front (stmts_of (take i all)) (stmt_of x) (Some (view.stmts_of told)) (Some (view.stmt_of s)) at_front seen (sym of_front) (sym of_last))
        ∙ ap (stmts_in list (length table + 1) base names) (sym (stmts_more all i x lt is))

    pub step_table : (more : List Assertion) → i < length all → x ≡ get_or all i x → front ≡ table ++ all_assertions_in list (length table + 1) (stmts_of (take i all))
        → more ≡ front ++ assertions_in list (length front + 1) (stmt_of x) → more ≡ table ++ all_assertions_in list (length table + 1) (stmts_of (take (i + 1) all))
    step_table more lt is at_front at_more =
        table_more table front more (stmts_of (take i all)) (stmt_of x) at_front at_more
        ∙ ap (λ (b : Stmts). table ++ all_assertions_in list (length table + 1) b) (sym (stmts_more all i x lt is))

    pub step_visible : (behind : Names) → i < length all → x ≡ get_or all i x → visible ≡ names_after names (stmts_of (take i all)) → behind ≡ names_behind visible (stmt_of x)
        → behind ≡ names_after names (stmts_of (take (i + 1) all))
    step_visible behind lt is seen last =
        last ∙ ap (λ (v : Names). names_behind v (stmt_of x)) seen ∙ ap (names_after names) (sym (stmts_more all i x lt is))

    -- a statement that isn't built is among them
    pub stops : i < length all → x ≡ get_or all i x
        → front ≡ table ++ all_assertions_in list (length table + 1) (stmts_of (take i all)) → visible ≡ names_after names (stmts_of (take i all))
        → None ≡ stmt_in list (length front + 1) base visible (stmt_of x)
        → None ≡ stmts_in list (length table + 1) base names (stmts_of all)
    stops lt is at_front seen none =
        let b : Stmts = stmts_of (take i all) in
        let here : stmts_in list (length table + 1) base names (stmts_of (take (i + 1) all)) ≡ None =
        ap (stmts_in list (length table + 1) base names) (stmts_more all i x lt is)
        ∙ stands_more base names visible table front (stmts_of (take i all)) (stmt_of x) (stmts_in list (length table + 1) base names (stmts_of (take i all))) None at_front seen refl (sym none)
        ∙ both_none with_last (stmts_in list (length table + 1) base names (stmts_of (take i all))) in
        sym (ap (λ (l : List Stmt). stmts_in list (length table + 1) base names (stmts_of l)) (sym (take-append-drop (i + 1) all))
        ∙ spoilt (length table + 1) base names (take (i + 1) all) (drop (i + 1) all) here)

-- ---- a declaration

-- a new name of a type that is built
pub declared_stands : (list : Assembled) (base : ℕ) (names : Names) (type : grammar.TypeTree) (name i : ℕ) (init : grammar.Init) (before : Option Slot) (of : IntegerType)
    → found name names ≡ before → (is_new base before && may_name (word_at list i)) ≡ true → type_in type ≡ Some of
    → declared_in list base names (local type name i init) ≡ initialised_in list names name init of
declared_stands list base names type name i init before of is new built =
    ap (λ (o : Option Slot). only_if (is_new base o && may_name (word_at list i)) (of_type (initialised_in list names name init) (type_in type))) is
    ∙ ap (λ (b : Bool). only_if b (of_type (initialised_in list names name init) (type_in type))) new
    ∙ ap (of_type (initialised_in list names name init)) built
