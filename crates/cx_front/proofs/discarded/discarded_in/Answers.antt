use Rattle.std.proofs.Common.{◌≡◌, ℕ, Option, sym, ap, ◌∙◌}
use Rattle.std.specs.Prelude.{option_map}
use Rattle.cx_syntax.specs.declared.tree.expression.Expr.{Expr}
use Rattle.cx_syntax.specs.View.{args_of, expr_of}
use Rattle.cx_core.specs.declared.statement.Statement.{Statement}
use Rattle.cx_core.specs.Tree as core
use Rattle.cx_core.specs.View.{stmt_of}
use Rattle.cx_front.specs.Front.{argument_in, assigned, both, discarded_in, expr_in, is_assign, is_putchar, only_if, target_in, written}
use Rattle.cx_front.proofs.Arms.{if_ok}
use Rattle.cx_front.proofs.LeafOpened.{opened-assign, opened-call}
use Rattle.cx_front.proofs.discarded.discarded_in.Goals as goal

pub returns-in-Assign : goal.returns-in-Assign
returns-in-Assign c =
    let list = c.args.list.now in
    let names = c.args.names.now in
    let given = c.in-Assign in
    let same_left : c.deref.result.now ≡ given.left.value = cc in
    let same_right : c.deref-in-Assign.result.now ≡ given.right.value = cc in
    let of : Expr → Expr → Option (core.Stmt ℕ) = λ l r. only_if (is_assign given.punct) (both assigned (target_in names (expr_of l)) (expr_in list names (expr_of r))) in
    let is : of c.deref.result.now c.deref-in-Assign.result.now ≡ discarded_in list names (expr_of c.args.tree.now) =
    ap (λ (e : Expr). of e c.deref-in-Assign.result.now) same_left
    ∙ ap (of given.left.value) same_right
    ∙ sym (ap (discarded_in list names) (opened-assign given.at given.left given.punct given.operator given.right))
    ∙ ap (λ (e : Expr). discarded_in list names (expr_of e)) (sym given.is) in
    if_ok (λ (told : Option Statement). option_map stmt_of told ≡ of c.deref.result.now c.deref-in-Assign.result.now)
    (λ (told : Option Statement). option_map stmt_of told ≡ discarded_in list names (expr_of c.args.tree.now))
    c.assignment_in.result (λ told h. h ∙ is) c.assignment_in.ensures

pub returns-in-Call : goal.returns-in-Call
returns-in-Call c =
    let list = c.args.list.now in
    let names = c.args.names.now in
    let given = c.in-Call in
    let same : c.deref-in-Call.result.now ≡ given.callee.value = cc in
    let of : Expr → Option (core.Stmt ℕ) = λ f. only_if (is_putchar list (expr_of f)) (option_map written (argument_in list names (args_of given.arguments))) in
    let is : of c.deref-in-Call.result.now ≡ discarded_in list names (expr_of c.args.tree.now) =
    ap of same
    ∙ sym (ap (discarded_in list names) (opened-call given.at given.callee given.arguments))
    ∙ ap (λ (e : Expr). discarded_in list names (expr_of e)) (sym given.is) in
    if_ok (λ (told : Option Statement). option_map stmt_of told ≡ of c.deref-in-Call.result.now)
    (λ (told : Option Statement). option_map stmt_of told ≡ discarded_in list names (expr_of c.args.tree.now))
    c.call_in.result (λ told h. h ∙ is) c.call_in.ensures
