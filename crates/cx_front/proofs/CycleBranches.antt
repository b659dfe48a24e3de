-- What is told of the branches of `if` and of the body of a loop is told of the whole.
use Rattle.std.proofs.Common.{◌≡◌, ℕ, ◌+◌, List, ◌++◌, Option, Some, None, Box, Global, length, refl, sym, ap, ◌∙◌, arith, append_assoc, length-append}
use Rattle.std.specs.Prelude.{Result, Ok, Err, IfOk, OnSome, option_map}
use Rattle.cx_syntax.specs.Tree as grammar
use Rattle.cx_syntax.specs.declared.tree.expression.Expr.{Expr}
use Rattle.cx_syntax.specs.declared.tree.statement.Stmt.{Stmt}
use Rattle.cx_syntax.specs.declared.tree.statement.Stmt.TheVariants as rust
use Rattle.cx_syntax.specs.View.{expr_of, stmt_of}
use Rattle.cx_includes.specs.declared.assembled.Assembled.{Assembled}
use Rattle.cx_core.specs.declared.unit.Assertion.{Assertion}
use Rattle.cx_core.specs.declared.statement.Statement.{Statement}
use Rattle.cx_core.specs.Tree as core
use Rattle.cx_core.specs.View as view
use Rattle.cx_front.specs.declared.typed.TypedExpression.{TypedExpression}
use Rattle.cx_front.specs.Core.{typed_of}
use Rattle.cx_front.specs.Front.{Names, Typed, assertions_in, both, expr_in, if_of, stmt_in, while_of}
use Rattle.cx_front.specs.Made.{StandsFor, branch_in}
use Rattle.cx_front.proofs.Statements.{both_none, if_none, if_none_else}
use Rattle.cx_front.proofs.CycleTrees.{opened-branches}

pub of_some : {A : Type 0} {P : Type 0} (o : Option A) (x : A) → o ≡ Some x → OnSome o P → P
of_some None x is p = absurd (cc)
of_some (Some y) x is p = p

-- ---- one branch

pub alone_none : (c : Option Typed) (a b : Option (core.Stmt ℕ)) → None ≡ a → None ≡ if_of c a b
alone_none c a b none = sym (ap (λ (o : Option (core.Stmt ℕ)). if_of c o b) (sym none) ∙ if_none c b)

pub else_none : (c : Option Typed) (a b : Option (core.Stmt ℕ)) → None ≡ b → None ≡ if_of c a b
else_none c a b none = sym (ap (if_of c a) (sym none) ∙ if_none_else c a)

pub loop_none : (c : Option Typed) (a : Option (core.Stmt ℕ)) → None ≡ a → None ≡ both while_of c a
loop_none c a none = sym (ap (both while_of c) (sym none) ∙ both_none while_of c)

module _ {E : Type 0} (list : Assembled) (ordinal : ℕ) (names : Names) (c : grammar.Expr) (s : grammar.Stmt) (condition : Option TypedExpression) (body : Statement) (r : Result (Option Statement) E) where
  pub alone_stands : (seen : Names) → (option_map typed_of condition ≡ expr_in list seen c) → seen ≡ names
      → (Some (view.stmt_of body) ≡ branch_in list ordinal names s)
      → IfOk r (λ told. option_map view.stmt_of told ≡ if_of (option_map typed_of condition) (Some (view.stmt_of body)) (Some core.empty))
      → IfOk r (StandsFor view.stmt_of (if_of (expr_in list names c) (branch_in list ordinal names s) (Some core.empty)))
  alone_stands seen of_condition same of_body made =
      elim r as (λ (r : Result (Option Statement) E).
      IfOk r (λ told. option_map view.stmt_of told ≡ if_of (option_map typed_of condition) (Some (view.stmt_of body)) (Some core.empty))
      → IfOk r (StandsFor view.stmt_of (if_of (expr_in list names c) (branch_in list ordinal names s) (Some core.empty)))) [
        | Ok told ↦ λ made.
            made ∙ ap (λ (o : Option Typed). if_of o (Some (view.stmt_of body)) (Some core.empty)) (of_condition ∙ ap (λ (v : Names). expr_in list v c) same) ∙ ap (λ (o : Option (core.Stmt ℕ)). if_of (expr_in list names c) o (Some core.empty)) of_body
        | Err e ↦ λ made. made
      ] made

  pub loop_stands : (seen : Names) → (option_map typed_of condition ≡ expr_in list seen c) → seen ≡ names
      → (Some (view.stmt_of body) ≡ branch_in list ordinal names s)
      → IfOk r (λ told. option_map view.stmt_of told ≡ both while_of (option_map typed_of condition) (Some (view.stmt_of body)))
      → IfOk r (StandsFor view.stmt_of (both while_of (expr_in list names c) (branch_in list ordinal names s)))
  loop_stands seen of_condition same of_body made =
      elim r as (λ (r : Result (Option Statement) E).
      IfOk r (λ told. option_map view.stmt_of told ≡ both while_of (option_map typed_of condition) (Some (view.stmt_of body)))
      → IfOk r (StandsFor view.stmt_of (both while_of (expr_in list names c) (branch_in list ordinal names s)))) [
        | Ok told ↦ λ made.
            made ∙ ap (λ (o : Option Typed). both while_of o (Some (view.stmt_of body))) (of_condition ∙ ap (λ (v : Names). expr_in list v c) same) ∙ ap (both while_of (expr_in list names c)) of_body
        | Err e ↦ λ made. made
      ] made

  -- `else` behind a branch that is made
  pub else_stands : (first : Statement) (seen : Names) → (option_map typed_of condition ≡ expr_in list seen c) → seen ≡ names
      → (Some (view.stmt_of body) ≡ branch_in list ordinal names s)
      → IfOk r (λ told. option_map view.stmt_of told ≡ if_of (option_map typed_of condition) (Some (view.stmt_of first)) (Some (view.stmt_of body)))
      → IfOk r (λ told. option_map view.stmt_of told ≡ if_of (expr_in list names c) (Some (view.stmt_of first)) (branch_in list ordinal names s))
  else_stands first seen of_condition same of_body made =
      elim r as (λ (r : Result (Option Statement) E).
      IfOk r (λ told. option_map view.stmt_of told ≡ if_of (option_map typed_of condition) (Some (view.stmt_of first)) (Some (view.stmt_of body)))
      → IfOk r (λ told. option_map view.stmt_of told ≡ if_of (expr_in list names c) (Some (view.stmt_of first)) (branch_in list ordinal names s))) [
        | Ok told ↦ λ made.
            made ∙ ap (λ (o : Option Typed). if_of o (Some (view.stmt_of first)) (Some (view.stmt_of body))) (of_condition ∙ ap (λ (v : Names). expr_in list v c) same) ∙ ap (if_of (expr_in list names c) (Some (view.stmt_of first))) of_body
        | Err e ↦ λ made. made
      ] made

-- ---- two branches

-- an `else` that isn't built spoils the `if`, whatever its first branch is
none_anyway : (c : Option Typed) (x : (core.Stmt ℕ)) (a o : Option (core.Stmt ℕ)) → None ≡ if_of c (Some x) o → None ≡ if_of c a o
none_anyway None x a o none = refl
none_anyway (Some c) x a None none = sym (if_none_else (Some c) a)
none_anyway (Some c) x a (Some o) none = absurd (cc)

module _ (list : Assembled) (base : ℕ) (names between : Names) (start front more : List Assertion) (tree : Stmt) (i j : ℕ) (c : Expr) (k : ℕ) (t : Box Stmt Global) (l : ℕ) (f : Box Stmt Global) (a b : Stmt) where
  next : front ≡ start ++ assertions_in list (length start + 1) (stmt_of a) → length front + 1 ≡ length start + 1 + length (assertions_in list (length start + 1) (stmt_of a))
  next first = omega (arith, ap length first, length-append start (assertions_in list (length start + 1) (stmt_of a)))

  added : front ≡ start ++ assertions_in list (length start + 1) (stmt_of a) → more ≡ front ++ assertions_in list (length front + 1) (stmt_of b)
      → more ≡ start ++ (assertions_in list (length start + 1) (stmt_of a) ++ assertions_in list (length start + 1 + length (assertions_in list (length start + 1) (stmt_of a))) (stmt_of b))
  added first second =
      second
      ∙ ap (λ (k : ℕ). front ++ assertions_in list k (stmt_of b)) (next first)
      ∙ ap (λ (t' : List Assertion). t' ++ assertions_in list (length start + 1 + length (assertions_in list (length start + 1) (stmt_of a))) (stmt_of b)) first
      ∙ append_assoc start (assertions_in list (length start + 1) (stmt_of a)) (assertions_in list (length start + 1 + length (assertions_in list (length start + 1) (stmt_of a))) (stmt_of b))

  both_stand : (body : Statement) (told : Option Statement) → between ≡ names → front ≡ start ++ assertions_in list (length start + 1) (stmt_of a)
      → (Some (view.stmt_of body) ≡ branch_in list (length start + 1) names (stmt_of a))
      → option_map view.stmt_of told ≡ if_of (expr_in list names (expr_of c)) (Some (view.stmt_of body)) (branch_in list (length start + 1 + length (assertions_in list (length start + 1) (stmt_of a))) names (stmt_of b))
      → OnSome told (more ≡ front ++ assertions_in list (length front + 1) (stmt_of b))
      → option_map view.stmt_of told ≡ if_of (expr_in list names (expr_of c)) (branch_in list (length start + 1) names (stmt_of a)) (branch_in list (length start + 1 + length (assertions_in list (length start + 1) (stmt_of a))) names (stmt_of b))
  both_stand body None same first of_first stands grown =
      none_anyway (expr_in list names (expr_of c)) (view.stmt_of body) (branch_in list (length start + 1) names (stmt_of a)) (branch_in list (length start + 1 + length (assertions_in list (length start + 1) (stmt_of a))) names (stmt_of b)) stands
  both_stand body (Some s) same first of_first stands grown =
      stands ∙ ap (λ (o : Option (core.Stmt ℕ)). if_of (expr_in list names (expr_of c)) o (branch_in list (length start + 1 + length (assertions_in list (length start + 1) (stmt_of a))) names (stmt_of b))) of_first

  same_tree : tree ≡ rust.Branches i j c k t l f → a ≡ t.value → b ≡ f.value → grammar.branches i j (expr_of c) k (stmt_of a) l (stmt_of b) ≡ stmt_of tree
  same_tree is at_a at_b =
      ap (λ (s : Stmt). grammar.branches i j (expr_of c) k (stmt_of s) l (stmt_of b)) at_a
      ∙ ap (λ (s : Stmt). grammar.branches i j (expr_of c) k (stmt_of t.value) l (stmt_of s)) at_b
      ∙ sym (ap stmt_of is ∙ opened-branches i j c k t l f)

  opened : tree ≡ rust.Branches i j c k t l f → a ≡ t.value → b ≡ f.value
      → if_of (expr_in list names (expr_of c)) (branch_in list (length start + 1) names (stmt_of a)) (branch_in list (length start + 1 + length (assertions_in list (length start + 1) (stmt_of a))) names (stmt_of b))
      ≡ stmt_in list (length start + 1) base names (stmt_of tree)
  unfolding stmt_in
  opened is at_a at_b = ap (stmt_in list (length start + 1) base names) (same_tree is at_a at_b)

  pub arm-branches : {E : Type 0} (r : Result (Option Statement) E) (body : Statement) → tree ≡ rust.Branches i j c k t l f → a ≡ t.value → b ≡ f.value → between ≡ names → front ≡ start ++ assertions_in list (length start + 1) (stmt_of a)
      → (Some (view.stmt_of body) ≡ branch_in list (length start + 1) names (stmt_of a))
      → IfOk r (λ told. option_map view.stmt_of told ≡ if_of (expr_in list between (expr_of c)) (Some (view.stmt_of body)) (branch_in list (length front + 1) between (stmt_of b)))
      → IfOk r (λ told. OnSome told (more ≡ front ++ assertions_in list (length front + 1) (stmt_of b)))
      → IfOk r (StandsFor view.stmt_of (stmt_in list (length start + 1) base names (stmt_of tree)))
  arm-branches (Ok told) body is at_a at_b same first of_first stands grown =
      let moved : if_of (expr_in list between (expr_of c)) (Some (view.stmt_of body)) (branch_in list (length front + 1) between (stmt_of b))
      ≡ if_of (expr_in list names (expr_of c)) (Some (view.stmt_of body)) (branch_in list (length start + 1 + length (assertions_in list (length start + 1) (stmt_of a))) names (stmt_of b)) =
      ap (λ (v : Names). if_of (expr_in list v (expr_of c)) (Some (view.stmt_of body)) (branch_in list (length front + 1) v (stmt_of b))) same
      ∙ ap (λ (k : ℕ). if_of (expr_in list names (expr_of c)) (Some (view.stmt_of body)) (branch_in list k names (stmt_of b))) (next first) in
      both_stand body told same first of_first (stands ∙ moved) grown ∙ opened is at_a at_b
  arm-branches (Err e) body is at_a at_b same first of_first stands grown = stands

  pub arm-branches-none : tree ≡ rust.Branches i j c k t l f → a ≡ t.value → b ≡ f.value
      → (None ≡ branch_in list (length start + 1) names (stmt_of a))
      → StandsFor view.stmt_of (stmt_in list (length start + 1) base names (stmt_of tree)) None
  arm-branches-none is at_a at_b none =
      alone_none (expr_in list names (expr_of c)) (branch_in list (length start + 1) names (stmt_of a)) (branch_in list (length start + 1 + length (assertions_in list (length start + 1) (stmt_of a))) names (stmt_of b)) none
      ∙ opened is at_a at_b

  pub arm-branches-added : {E : Type 0} (r : Result (Option Statement) E) → tree ≡ rust.Branches i j c k t l f → a ≡ t.value → b ≡ f.value → front ≡ start ++ assertions_in list (length start + 1) (stmt_of a)
      → IfOk r (λ told. OnSome told (more ≡ front ++ assertions_in list (length front + 1) (stmt_of b)))
      → IfOk r (λ told. OnSome told (more ≡ start ++ assertions_in list (length start + 1) (stmt_of tree)))
  unfolding assertions_in
  arm-branches-added (Ok (Some s)) is at_a at_b first grown = added first grown ∙ ap (λ (t : grammar.Stmt). start ++ assertions_in list (length start + 1) t) (same_tree is at_a at_b)
  arm-branches-added (Ok None) is at_a at_b first grown = grown
  arm-branches-added (Err e) is at_a at_b first grown = grown
