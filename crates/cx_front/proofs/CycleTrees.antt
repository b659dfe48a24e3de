-- What a statement of one layer stands for.
use Rattle.std.proofs.Common.{◌≡◌, ℕ, Option, Box, Vec, Global, ap, sym, ◌∙◌}
use Rattle.std.specs.Prelude.{option_map}
use Rattle.cx_syntax.specs.Tree as grammar
use Rattle.cx_syntax.specs.declared.tree.expression.Expr.{Expr}
use Rattle.cx_syntax.specs.declared.tree.statement.Local.{Local}
use Rattle.cx_syntax.specs.declared.tree.statement.Block.{Block, out-Block}
use Rattle.cx_syntax.specs.declared.tree.statement.Stmt.{Stmt}
use Rattle.cx_syntax.specs.declared.tree.statement.Stmt.TheVariants as rust
use Rattle.cx_syntax.specs.declared.tree.statement.Stmt.TheFolds.{fold-roll-Stmt, fold_out-Block}
use Rattle.cx_syntax.specs.declared.tree.statement.Stmt.TheOpen.{Stmt-F}
use Rattle.cx_syntax.specs.View.{expr_of, local_of, stmt_of, block_of, stmts_of, stmt_step, block_step, handler_step, handlers_step}
use Rattle.cx_core.specs.Tree as core
use Rattle.cx_core.specs.declared.statement.Statement.{Statement}
use Rattle.cx_core.specs.declared.statement.Statement.TheVariants as made
use Rattle.cx_core.specs.declared.statement.Statement.TheFolds.{fold-roll-Statement}
use Rattle.cx_core.specs.declared.statement.Statement.TheOpen.{Statement-F}
use Rattle.cx_core.specs.View as view
use Rattle.cx_core.specs.View.{statement_layer, handler_layer}

pub opened-evaluate : (e : Expr) (i : ℕ) → stmt_of (rust.Evaluate e i) ≡ grammar.evaluate (expr_of e) i
opened-evaluate e i = ap stmt_of (sym (rust.rolls-Evaluate e i)) ∙ fold-roll-Stmt grammar.Stmt grammar.Block grammar.Handler grammar.Handlers stmt_step block_step handler_step handlers_step (Stmt-F.Evaluate e i)

pub opened-declare : (l : Local) (i : ℕ) → stmt_of (rust.Declare l i) ≡ grammar.declare (local_of l) i
opened-declare l i = ap stmt_of (sym (rust.rolls-Declare l i)) ∙ fold-roll-Stmt grammar.Stmt grammar.Block grammar.Handler grammar.Handlers stmt_step block_step handler_step handlers_step (Stmt-F.Declare l i)

pub opened-branch : (i j : ℕ) (c : Expr) (k : ℕ) (t : Box Stmt Global) → stmt_of (rust.Branch i j c k t) ≡ grammar.branch i j (expr_of c) k (stmt_of t.value)
opened-branch i j c k t = ap stmt_of (sym (rust.rolls-Branch i j c k t)) ∙ fold-roll-Stmt grammar.Stmt grammar.Block grammar.Handler grammar.Handlers stmt_step block_step handler_step handlers_step (Stmt-F.Branch i j c k t)

pub opened-branches : (i j : ℕ) (c : Expr) (k : ℕ) (t : Box Stmt Global) (l : ℕ) (f : Box Stmt Global) → stmt_of (rust.Branches i j c k t l f) ≡ grammar.branches i j (expr_of c) k (stmt_of t.value) l (stmt_of f.value)
opened-branches i j c k t l f = ap stmt_of (sym (rust.rolls-Branches i j c k t l f)) ∙ fold-roll-Stmt grammar.Stmt grammar.Block grammar.Handler grammar.Handlers stmt_step block_step handler_step handlers_step (Stmt-F.Branches i j c k t l f)

pub opened-while : (i j : ℕ) (c : Expr) (k : ℕ) (t : Box Stmt Global) → stmt_of (rust.While i j c k t) ≡ grammar.while_loop i j (expr_of c) k (stmt_of t.value)
opened-while i j c k t = ap stmt_of (sym (rust.rolls-While i j c k t)) ∙ fold-roll-Stmt grammar.Stmt grammar.Block grammar.Handler grammar.Handlers stmt_step block_step handler_step handlers_step (Stmt-F.While i j c k t)

pub opened-return : (i : ℕ) (e : Option Expr) (j : ℕ) → stmt_of (rust.Return i e j) ≡ grammar.returns i (option_map expr_of e) j
opened-return i e j = ap stmt_of (sym (rust.rolls-Return i e j)) ∙ fold-roll-Stmt grammar.Stmt grammar.Block grammar.Handler grammar.Handlers stmt_step block_step handler_step handlers_step (Stmt-F.Return i e j)

pub opened-assert : (i j : ℕ) (e : Expr) (k l : ℕ) → stmt_of (rust.Assert i j e k l) ≡ grammar.asserts i j (expr_of e) k l
opened-assert i j e k l = ap stmt_of (sym (rust.rolls-Assert i j e k l)) ∙ fold-roll-Stmt grammar.Stmt grammar.Block grammar.Handler grammar.Handlers stmt_step block_step handler_step handlers_step (Stmt-F.Assert i j e k l)

opened-block : (b : Block) → block_of b ≡ grammar.block (out-Block b).at (stmts_of (out-Block b).statements.items) (out-Block b).close
opened-block b = fold_out-Block grammar.Stmt grammar.Block grammar.Handler grammar.Handlers stmt_step block_step handler_step handlers_step b

pub opened-compound : (b : Block) → stmt_of (rust.Compound b) ≡ grammar.compound (grammar.block (out-Block b).at (stmts_of (out-Block b).statements.items) (out-Block b).close)
opened-compound b =
    ap stmt_of (sym (rust.rolls-Compound b))
    ∙ fold-roll-Stmt grammar.Stmt grammar.Block grammar.Handler grammar.Handlers stmt_step block_step handler_step handlers_step (Stmt-F.Compound b)
    ∙ ap grammar.compound (opened-block b)

-- a block that is made
pub made-block : (b : Vec Statement Global) → view.stmt_of (made.Block b) ≡ core.block (view.stmts_of b.items)
made-block b = ap view.stmt_of (sym (made.rolls-Block b)) ∙ fold-roll-Statement (core.Stmt ℕ) (core.Handlers ℕ → core.Handlers ℕ) statement_layer handler_layer (Statement-F.Block b)
