-- What is told of the parts of a statement is told of the statement.
use Rattle.std.proofs.Common.{◌≡◌, ℕ, Bool, false, List, Option, Some, None, Box, Global, length, refl, sym, ap, ◌∙◌}
use Rattle.std.specs.Prelude.{Result, Ok, Err, IfOk, option_map, not}
use Rattle.cx_syntax.specs.Tree as grammar
use Rattle.cx_syntax.specs.declared.tree.expression.Expr.{Expr}
use Rattle.cx_syntax.specs.declared.tree.statement.Local.{Local}
use Rattle.cx_syntax.specs.declared.tree.statement.Block.{Block, out-Block}
use Rattle.cx_syntax.specs.declared.tree.statement.Stmt.{Stmt}
use Rattle.cx_syntax.specs.declared.tree.statement.Stmt.TheVariants as rust
use Rattle.cx_syntax.specs.View.{expr_of, local_of, stmt_of, stmts_of}
use Rattle.cx_includes.specs.declared.assembled.Assembled.{Assembled}
use Rattle.cx_core.specs.declared.statement.Statement.{Statement}
use Rattle.cx_core.specs.Tree as core
use Rattle.cx_core.specs.View as view
use Rattle.cx_front.specs.Front.{Names, both, declared_in, discarded_in, expr_in, if_of, is_declaration, only_if, stmt_in, stmts_in, while_of}
use Rattle.cx_front.specs.Made.{StandsFor, branch_in, is_asserted, returned_in}
use Rattle.cx_front.proofs.CycleTrees.{opened-assert, opened-branch, opened-compound, opened-declare, opened-evaluate, opened-return, opened-while}

stands_same : {A T E : Type 0} (view : A → T) (given wanted : Option T) (r : Result (Option A) E)
    → given ≡ wanted → IfOk r (StandsFor view given) → IfOk r (StandsFor view wanted)
stands_same view given wanted (Ok told) same stands = stands ∙ same
stands_same view given wanted (Err e) same stands = stands

stands_always : {A T E : Type 0} (view : A → T) (given wanted : Option T) (r : Result (Option A) E)
    → given ≡ wanted → IfOk r (λ told. option_map view told ≡ given) → IfOk r (StandsFor view wanted)
stands_always view given wanted (Ok told) same stands = stands ∙ same
stands_always view given wanted (Err e) same stands = stands

module _ {E : Type 0} (list : Assembled) (ordinal base : ℕ) (names : Names) (tree : Stmt) (r : Result (Option Statement) E) where
  abbrev pub Stands : Type 0
  Stands = IfOk r (StandsFor view.stmt_of (stmt_in list ordinal base names (stmt_of tree)))

  pub arm-compound : (b : Block) (inside : List Stmt) → tree ≡ rust.Compound b → inside ≡ (out-Block b).statements.items
      → IfOk r (StandsFor view.stmt_of (option_map core.block (stmts_in list ordinal (length names) names (stmts_of inside)))) → Stands
  unfolding stmt_in
  arm-compound b inside is at stands =
      stands_same view.stmt_of (option_map core.block (stmts_in list ordinal (length names) names (stmts_of inside))) (stmt_in list ordinal base names (stmt_of tree)) r
      (ap (λ (l : List Stmt). option_map core.block (stmts_in list ordinal (length names) names (stmts_of l))) at ∙ sym (ap (λ (t : Stmt). stmt_in list ordinal base names (stmt_of t)) is ∙ ap (stmt_in list ordinal base names) (opened-compound b))) stands

  pub arm-evaluate : (e : Expr) (i : ℕ) (seen : Names) → tree ≡ rust.Evaluate e i → seen ≡ names → IfOk r (λ told. option_map view.stmt_of told ≡ discarded_in list seen (expr_of e)) → Stands
  unfolding stmt_in
  arm-evaluate e i seen is same stands =
      stands_always view.stmt_of (discarded_in list seen (expr_of e)) (stmt_in list ordinal base names (stmt_of tree)) r
      (ap (λ (v : Names). discarded_in list v (expr_of e)) same ∙ sym (ap (λ (t : Stmt). stmt_in list ordinal base names (stmt_of t)) is ∙ ap (stmt_in list ordinal base names) (opened-evaluate e i))) stands

  pub arm-declare : (l : Local) (i : ℕ) → tree ≡ rust.Declare l i → IfOk r (λ told. option_map view.stmt_of told ≡ declared_in list base names (local_of l)) → Stands
  unfolding stmt_in
  arm-declare l i is stands =
      stands_always view.stmt_of (declared_in list base names (local_of l)) (stmt_in list ordinal base names (stmt_of tree)) r
      (sym (ap (λ (t : Stmt). stmt_in list ordinal base names (stmt_of t)) is ∙ ap (stmt_in list ordinal base names) (opened-declare l i))) stands

  pub arm-branch : (i j : ℕ) (c : Expr) (k : ℕ) (t : Box Stmt Global) (body : Stmt) → tree ≡ rust.Branch i j c k t → body ≡ t.value
      → IfOk r (StandsFor view.stmt_of (if_of (expr_in list names (expr_of c)) (branch_in list ordinal names (stmt_of body)) (Some core.empty))) → Stands
  unfolding stmt_in
  arm-branch i j c k t body is at stands =
      stands_same view.stmt_of (if_of (expr_in list names (expr_of c)) (branch_in list ordinal names (stmt_of body)) (Some core.empty)) (stmt_in list ordinal base names (stmt_of tree)) r
      (ap (λ (s : Stmt). if_of (expr_in list names (expr_of c)) (branch_in list ordinal names (stmt_of s)) (Some core.empty)) at ∙ sym (ap (λ (t : Stmt). stmt_in list ordinal base names (stmt_of t)) is ∙ ap (stmt_in list ordinal base names) (opened-branch i j c k t))) stands

  pub arm-while : (i j : ℕ) (c : Expr) (k : ℕ) (t : Box Stmt Global) (body : Stmt) → tree ≡ rust.While i j c k t → body ≡ t.value
      → IfOk r (StandsFor view.stmt_of (both while_of (expr_in list names (expr_of c)) (branch_in list ordinal names (stmt_of body)))) → Stands
  unfolding stmt_in
  arm-while i j c k t body is at stands =
      stands_same view.stmt_of (both while_of (expr_in list names (expr_of c)) (branch_in list ordinal names (stmt_of body))) (stmt_in list ordinal base names (stmt_of tree)) r
      (ap (λ (s : Stmt). both while_of (expr_in list names (expr_of c)) (branch_in list ordinal names (stmt_of s))) at ∙ sym (ap (λ (t : Stmt). stmt_in list ordinal base names (stmt_of t)) is ∙ ap (stmt_in list ordinal base names) (opened-while i j c k t))) stands

  returned : (i : ℕ) (e : Option grammar.Expr) (j : ℕ) → stmt_in list ordinal base names (grammar.returns i e j) ≡ returned_in list names e
  unfolding stmt_in
  returned i None j = refl
  returned i (Some e) j = refl

  pub arm-return : (i : ℕ) (e : Option Expr) (j : ℕ) (seen : Names) → tree ≡ rust.Return i e j → seen ≡ names → IfOk r (λ told. option_map view.stmt_of told ≡ returned_in list seen (option_map expr_of e)) → Stands
  arm-return i e j seen is same stands =
      stands_always view.stmt_of (returned_in list seen (option_map expr_of e)) (stmt_in list ordinal base names (stmt_of tree)) r
      (ap (λ (v : Names). returned_in list v (option_map expr_of e)) same ∙ sym (ap (λ (t : Stmt). stmt_in list ordinal base names (stmt_of t)) is ∙ ap (stmt_in list ordinal base names) (opened-return i e j) ∙ returned i (option_map expr_of e) j)) stands

  pub arm-assert : (i j : ℕ) (e : Expr) (k l : ℕ) (seen : Names) → tree ≡ rust.Assert i j e k l → seen ≡ names → IfOk r (StandsFor view.stmt_of (is_asserted list ordinal seen i (expr_of e))) → Stands
  unfolding stmt_in
  arm-assert i j e k l seen is same stands =
      stands_same view.stmt_of (is_asserted list ordinal seen i (expr_of e)) (stmt_in list ordinal base names (stmt_of tree)) r
      (ap (λ (v : Names). is_asserted list ordinal v i (expr_of e)) same ∙ sym (ap (λ (t : Stmt). stmt_in list ordinal base names (stmt_of t)) is ∙ ap (stmt_in list ordinal base names) (opened-assert i j e k l))) stands

  -- what is no declaration stands as a branch
  pub stands-branch : is_declaration (stmt_of tree) ≡ false → base ≡ length names → Stands
      → IfOk r (StandsFor view.stmt_of (branch_in list ordinal names (stmt_of tree)))
  stands-branch not_one at stands =
      stands_same view.stmt_of (stmt_in list ordinal base names (stmt_of tree)) (branch_in list ordinal names (stmt_of tree)) r
      (ap (λ (k : ℕ). stmt_in list ordinal k names (stmt_of tree)) at ∙ sym (ap (λ (d : Bool). only_if (not d) (stmt_in list ordinal (length names) names (stmt_of tree))) not_one)) stands
