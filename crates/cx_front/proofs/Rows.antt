-- Rows that are not empty.
use Rattle.std.proofs.Common.{◌≡◌, ℕ, ◌≤◌, List, [], ◌∷◌, length, map, false, None, refl, ap, ◌∙◌, arith}
use Rattle.std.proofs.lemmas.List.{length-map}
use Rattle.std.specs.Prelude.{fold}
use Rattle.cx_syntax.specs.Tree as tree
use Rattle.cx_syntax.specs.Tree.{Several, Specs, Stars, UnitTree, also, args, more_items, one}
use Rattle.cx_syntax.specs.declared.tree.expression.Several.{Several as Rows, out-Several}
use Rattle.cx_syntax.specs.declared.tree.types.Star.{Star}
use Rattle.cx_syntax.specs.declared.tree.function.Spec.{Spec}
use Rattle.cx_syntax.specs.declared.tree.item.Item.{Item}
use Rattle.cx_syntax.specs.View.{another_of, expr_of, item_of, items_of, several_of, specs_of, stars_of, with_expr, with_item, with_spec, with_star}
use Rattle.cx_includes.specs.declared.assembled.Assembled.{Assembled}
use Rattle.cx_front.proofs.LeafOpened.{opened-several}
use Rattle.cx_front.specs.Front.{Names, argument_in, has_no_specs, has_no_stars, statements_in}

more_stars : (s : Stars) (list : List Star) → has_no_stars s ≡ false → has_no_stars (fold with_star s list) ≡ false
more_stars s [] some = some
more_stars s (x ∷ list) some = more_stars (with_star s x) list refl

pub starred : (list : List Star) → 1 ≤ length list → has_no_stars (stars_of list) ≡ false
starred [] some = absurd (omega arith)
starred (x ∷ list) some = more_stars (with_star tree.no_stars x) list refl

more_specified : (s : Specs) (list : List Spec) → has_no_specs s ≡ false → has_no_specs (fold with_spec s list) ≡ false
more_specified s [] some = some
more_specified s (x ∷ list) some = more_specified (with_spec s x) list refl

pub specified : (list : List Spec) → 1 ≤ length list → has_no_specs (specs_of list) ≡ false
specified [] some = absurd (omega arith)
specified (x ∷ list) some = more_specified (with_spec tree.no_specs x) list refl

-- two items or more
no_alone : (list : Assembled) (s : UnitTree) (first second : tree.Item) (more : List Item) → statements_in list (fold with_item (more_items (more_items s first) second) more) ≡ None
no_alone list s first second [] = refl
no_alone list s first second (x ∷ more) = no_alone list (more_items s first) second (item_of x) more

pub several : (list : Assembled) (items : List Item) → 2 ≤ length items → statements_in list (items_of items) ≡ None
several list [] two = absurd (omega arith)
several list (first ∷ []) two = absurd (omega arith)
several list (first ∷ second ∷ more) two = no_alone list tree.no_items (item_of first) (item_of second) more

-- two arguments or more
no_one : (list : Assembled) (names : Names) (i j : ℕ) (s : Several) (k : ℕ) (e : tree.Expr) (more : List (ℕ × tree.Expr)) → argument_in list names (args i (fold with_expr (also s k e) more) j) ≡ None
no_one list names i j s k e [] = refl
no_one list names i j s k e (x ∷ more) = no_one list names i j (also s k e) x.0 x.1 more

pub several_arguments : (list : Assembled) (names : Names) (i j : ℕ) (s : Several) (more : List (ℕ × tree.Expr)) → 1 ≤ length more → argument_in list names (args i (fold with_expr s more) j) ≡ None
several_arguments list names i j s [] some = absurd (omega arith)
several_arguments list names i j s (x ∷ more) some = no_one list names i j s x.0 x.1 more

pub more_than_one : (list : Assembled) (names : Names) (i j : ℕ) (s : Rows) → 1 ≤ length (out-Several s).more.items → argument_in list names (args i (several_of s) j) ≡ None
more_than_one list names i j s some =
    ap (λ (t : Several). argument_in list names (args i t j)) (opened-several s)
    ∙ several_arguments list names i j (one (expr_of (out-Several s).first.value)) (map another_of (out-Several s).more.items) (omega (arith, length-map (out-Several s).more.items another_of))
