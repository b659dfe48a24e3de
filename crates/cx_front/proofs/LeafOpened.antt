-- What a tree of one layer stands for.
use Rattle.std.proofs.Common.{◌≡◌, ℕ, Box, Global, ap, sym, ◌∙◌}
use Rattle.std.specs.Prelude.{fold, map}
use Rattle.cx_syntax.specs.Tree as tree
use Rattle.cx_syntax.specs.Tree.{assign, binary, call, one, paren}
use Rattle.cx_syntax.specs.declared.mark.Punct.{Punct}
use Rattle.cx_syntax.specs.declared.tree.expression.Args.{Args}
use Rattle.cx_syntax.specs.declared.tree.expression.Expr.{Expr}
use Rattle.cx_syntax.specs.declared.tree.expression.Expr.TheVariants as rust
use Rattle.cx_syntax.specs.declared.tree.expression.Several.{Several, out-Several}
use Rattle.cx_syntax.specs.declared.tree.expression.Args.TheFolds.{fold-roll-Expr, fold_out-Several}
use Rattle.cx_syntax.specs.declared.tree.expression.Args.TheOpen.{Expr-F}
use Rattle.cx_syntax.specs.View.{another_of, another_step, args_of, args_step, expr_of, expr_step, several_of, several_step, with_expr}

pub opened-paren : (i : ℕ) (e : Box Expr Global) (j : ℕ) → expr_of (rust.Paren i e j) ≡ paren i (expr_of e.value) j
opened-paren i e j =
    ap expr_of (sym (rust.rolls-Paren i e j))
    ∙ fold-roll-Expr tree.Args tree.Expr (ℕ × tree.Expr) tree.Several args_step expr_step another_step several_step (Expr-F.Paren i e j)

pub opened-binary : (i : ℕ) (l : Box Expr Global) (p : Punct) (j : ℕ) (r : Box Expr Global) → expr_of (rust.Binary i l p j r) ≡ binary i (expr_of l.value) p j (expr_of r.value)
opened-binary i l p j r =
    ap expr_of (sym (rust.rolls-Binary i l p j r))
    ∙ fold-roll-Expr tree.Args tree.Expr (ℕ × tree.Expr) tree.Several args_step expr_step another_step several_step (Expr-F.Binary i l p j r)

pub opened-assign : (i : ℕ) (l : Box Expr Global) (p : Punct) (j : ℕ) (r : Box Expr Global) → expr_of (rust.Assign i l p j r) ≡ assign i (expr_of l.value) p j (expr_of r.value)
opened-assign i l p j r =
    ap expr_of (sym (rust.rolls-Assign i l p j r))
    ∙ fold-roll-Expr tree.Args tree.Expr (ℕ × tree.Expr) tree.Several args_step expr_step another_step several_step (Expr-F.Assign i l p j r)

pub opened-call : (i : ℕ) (f : Box Expr Global) (a : Args) → expr_of (rust.Call i f a) ≡ call i (expr_of f.value) (args_of a)
opened-call i f a =
    ap expr_of (sym (rust.rolls-Call i f a))
    ∙ fold-roll-Expr tree.Args tree.Expr (ℕ × tree.Expr) tree.Several args_step expr_step another_step several_step (Expr-F.Call i f a)

pub opened-several : (s : Several) → several_of s ≡ fold with_expr (one (expr_of (out-Several s).first.value)) (map another_of (out-Several s).more.items)
opened-several s = fold_out-Several tree.Args tree.Expr (ℕ × tree.Expr) tree.Several args_step expr_step another_step several_step s
