use Rattle.std.proofs.Common.{◌≡◌, ◌+◌, ℕ, List, Option, Some, length, refl, sym, ap, ◌∙◌, arith, append-nil}
use Rattle.std.specs.Prelude.{option_map}
use Rattle.std.proofs.lemmas.List.{take_all}
use Rattle.cx_syntax.specs.declared.tree.statement.Stmt.{Stmt}
use Rattle.cx_syntax.specs.View.{expr_of, stmt_of, stmts_of}
use Rattle.cx_core.specs.declared.statement.Statement.{Statement}
use Rattle.cx_core.specs.Tree as core
use Rattle.cx_core.specs.View as view
use Rattle.cx_front.specs.Front.{all_assertions_in, expr_in, stmts_in}
use Rattle.cx_front.specs.Made.{branch_in}
use Rattle.cx_front.proofs.Statements.{step_stands, step_table, step_visible, stops}
use Rattle.cx_front.proofs.CycleTrees.{made-block}
use Rattle.cx_front.proofs.CycleArms.{arm-assert, arm-branch, arm-compound, arm-declare, arm-evaluate, arm-return, arm-while, stands-branch}
use Rattle.cx_front.proofs.CycleBranches.{alone_none, alone_stands, arm-branches, arm-branches-added, arm-branches-none, else_none, else_stands, loop_none, loop_stands, of_some}
use Rattle.cx_front.proofs.statement.+statement.Goals as goal

pub block_in-returns-clause-stands : goal.block_in-returns-clause-stands
block_in-returns-clause-stands t c =
    let at : c.len-base.result ≡ length c.args.names.now.items = omega (arith, c.len-base.ensures, c.args.names.now.ok.0) in
    c.in_ok-told.ensures.stands
    ∙ ap (λ (k : ℕ). stmts_in c.args.list.now (length c.args.assertions.now + 1) k c.args.names.now.items (stmts_of c.args.statements.now)) at

pub branch_in-returns-else-is_declaration-clause-stands : goal.branch_in-returns-else-is_declaration-clause-stands
branch_in-returns-else-is_declaration-clause-stands t c =
    let at : c.len-base.result ≡ length c.args.names.now.items = omega (arith, c.len-base.ensures, c.args.names.now.ok.0) in
    stands-branch c.args.list.now (length c.args.assertions.now + 1) c.len-base.result c.args.names.now.items c.args.tree.now c.statement_in.result
    (sym c.is_declaration.ensures ∙ c.if-is_declaration.false) at c.statement_in.ensures.stands

pub compound_in-returns-in-Some-clause-stands : goal.compound_in-returns-in-Some-clause-stands
compound_in-returns-in-Some-clause-stands t c =
    ap (λ (s : (core.Stmt ℕ)). Some s) (made-block c.in-Some.inside)
    ∙ ap (λ (o : Option (core.Stmts ℕ)). option_map core.block o) (ap (option_map (λ v. view.stmts_of v.items)) (sym c.in-Some.is) ∙ c.in_ok-told.ensures.stands)

pub compound_in-returns-in-None-clause-stands : goal.compound_in-returns-in-None-clause-stands
compound_in-returns-in-None-clause-stands t c =
    ap (λ (o : Option (core.Stmts ℕ)). option_map core.block o) (ap (option_map (λ v. view.stmts_of v.items)) (sym c.in-None.is) ∙ c.in_ok-told.ensures.stands)

pub if_alone_in-returns-in-Some-clause-stands : goal.if_alone_in-returns-in-Some-clause-stands
if_alone_in-returns-in-Some-clause-stands t c =
    alone_stands c.args.list.now (length c.args.assertions.now + 1) c.args.names.now.items (expr_of c.args.condition.now) (stmt_of c.args.body.now) c.in_ok-condition.condition c.in-Some.body c.if_alone.result
    c.as_slice.result.now c.in_ok-condition.ensures c.as_slice.ensures.value
    (ap (option_map view.stmt_of) (sym c.in-Some.is) ∙ c.in_ok-told.ensures.stands) c.if_alone.ensures

pub if_alone_in-returns-in-None-clause-stands : goal.if_alone_in-returns-in-None-clause-stands
if_alone_in-returns-in-None-clause-stands t c =
    alone_none (expr_in c.args.list.now c.args.names.now.items (expr_of c.args.condition.now)) (branch_in c.args.list.now (length c.args.assertions.now + 1) c.args.names.now.items (stmt_of c.args.body.now)) (Some core.empty)
    (ap (option_map view.stmt_of) (sym c.in-None.is) ∙ c.in_ok-told.ensures.stands)

pub while_in-returns-in-Some-clause-stands : goal.while_in-returns-in-Some-clause-stands
while_in-returns-in-Some-clause-stands t c =
    loop_stands c.args.list.now (length c.args.assertions.now + 1) c.args.names.now.items (expr_of c.args.condition.now) (stmt_of c.args.body.now) c.in_ok-condition.condition c.in-Some.body c.while_loop.result
    c.as_slice.result.now c.in_ok-condition.ensures c.as_slice.ensures.value
    (ap (option_map view.stmt_of) (sym c.in-Some.is) ∙ c.in_ok-told.ensures.stands) c.while_loop.ensures

pub while_in-returns-in-None-clause-stands : goal.while_in-returns-in-None-clause-stands
while_in-returns-in-None-clause-stands t c =
    loop_none (expr_in c.args.list.now c.args.names.now.items (expr_of c.args.condition.now)) (branch_in c.args.list.now (length c.args.assertions.now + 1) c.args.names.now.items (stmt_of c.args.body.now))
    (ap (option_map view.stmt_of) (sym c.in-None.is) ∙ c.in_ok-told.ensures.stands)

pub else_in-returns-in-Some-clause-stands : goal.else_in-returns-in-Some-clause-stands
else_in-returns-in-Some-clause-stands t c =
    else_stands c.args.list.now (length c.args.assertions.now + 1) c.args.names.now.items (expr_of c.args.condition.now) (stmt_of c.args.other.now) c.in_ok-condition.condition c.in-Some.other c.if_else.result
    c.args.body c.as_slice.result.now c.in_ok-condition.ensures c.as_slice.ensures.value
    (ap (option_map view.stmt_of) (sym c.in-Some.is) ∙ c.in_ok-told.ensures.stands) c.if_else.ensures

pub else_in-returns-in-None-clause-stands : goal.else_in-returns-in-None-clause-stands
else_in-returns-in-None-clause-stands t c =
    else_none (expr_in c.args.list.now c.args.names.now.items (expr_of c.args.condition.now)) (Some (view.stmt_of c.args.body)) (branch_in c.args.list.now (length c.args.assertions.now + 1) c.args.names.now.items (stmt_of c.args.other.now))
    (ap (option_map view.stmt_of) (sym c.in-None.is) ∙ c.in_ok-told.ensures.stands)

pub statement_in-returns-in-Compound-clause-stands : goal.statement_in-returns-in-Compound-clause-stands
statement_in-returns-in-Compound-clause-stands t c =
    arm-compound c.args.list.now (length c.args.assertions.now + 1) c.args.base c.args.names.now.items c.args.tree.now c.compound_in.result
    _ c.as_slice.result.now c.in-Compound.is c.as_slice.ensures.value c.compound_in.ensures.stands

pub statement_in-returns-in-Evaluate-clause-stands : goal.statement_in-returns-in-Evaluate-clause-stands
statement_in-returns-in-Evaluate-clause-stands t c =
    arm-evaluate c.args.list.now (length c.args.assertions.now + 1) c.args.base c.args.names.now.items c.args.tree.now c.discarded_in.result
    _ _ c.as_slice-in-Evaluate.result.now c.in-Evaluate.is c.as_slice-in-Evaluate.ensures.value c.discarded_in.ensures

pub statement_in-returns-in-Declare-clause-stands : goal.statement_in-returns-in-Declare-clause-stands
statement_in-returns-in-Declare-clause-stands t c =
    arm-declare c.args.list.now (length c.args.assertions.now + 1) c.args.base c.args.names.now.items c.args.tree.now c.declared_in.result
    _ _ c.in-Declare.is c.declared_in.ensures.told

pub statement_in-returns-in-Branch-clause-stands : goal.statement_in-returns-in-Branch-clause-stands
statement_in-returns-in-Branch-clause-stands t c =
    arm-branch c.args.list.now (length c.args.assertions.now + 1) c.args.base c.args.names.now.items c.args.tree.now c.if_alone_in.result
    _ _ _ _ _ c.deref.result.now c.in-Branch.is c.deref.ensures c.if_alone_in.ensures.stands

pub statement_in-returns-in-Some-clause-stands : goal.statement_in-returns-in-Some-clause-stands
statement_in-returns-in-Some-clause-stands t c =
    arm-branches c.args.list.now c.args.base c.args.names.now.items c.branch_in.new.names.items c.args.assertions.now c.branch_in.new.assertions c.else_in.new.assertions c.args.tree.now
    _ _ _ _ _ _ _ c.deref-in-Branches.result.now c.deref-in-Some.result.now c.else_in.result c.in-Some.body c.in-Branches.is c.deref-in-Branches.ensures c.deref-in-Some.ensures
    (of_some c.in_ok-body-in-Branches.field-0 c.in-Some.body c.in-Some.is c.in_ok-body-in-Branches.ensures.visible)
    (of_some c.in_ok-body-in-Branches.field-0 c.in-Some.body c.in-Some.is c.in_ok-body-in-Branches.ensures.added)
    (ap (option_map view.stmt_of) (sym c.in-Some.is) ∙ c.in_ok-body-in-Branches.ensures.stands) c.else_in.ensures.stands c.else_in.ensures.added

pub statement_in-returns-in-Some-clause-added : goal.statement_in-returns-in-Some-clause-added
statement_in-returns-in-Some-clause-added t c =
    arm-branches-added c.args.list.now c.args.base c.args.names.now.items c.branch_in.new.names.items c.args.assertions.now c.branch_in.new.assertions c.else_in.new.assertions c.args.tree.now
    _ _ _ _ _ _ _ c.deref-in-Branches.result.now c.deref-in-Some.result.now c.else_in.result c.in-Branches.is c.deref-in-Branches.ensures c.deref-in-Some.ensures
    (of_some c.in_ok-body-in-Branches.field-0 c.in-Some.body c.in-Some.is c.in_ok-body-in-Branches.ensures.added) c.else_in.ensures.added

pub statement_in-returns-in-None-clause-stands : goal.statement_in-returns-in-None-clause-stands
statement_in-returns-in-None-clause-stands t c =
    arm-branches-none c.args.list.now c.args.base c.args.names.now.items c.branch_in.new.names.items c.args.assertions.now c.branch_in.new.assertions c.branch_in.new.assertions c.args.tree.now
    _ _ _ _ _ _ _ c.deref-in-Branches.result.now c.in-Branches.other_body.value c.in-Branches.is c.deref-in-Branches.ensures refl
    (ap (option_map view.stmt_of) (sym c.in-None.is) ∙ c.in_ok-body-in-Branches.ensures.stands)

pub statement_in-returns-in-While-clause-stands : goal.statement_in-returns-in-While-clause-stands
statement_in-returns-in-While-clause-stands t c =
    arm-while c.args.list.now (length c.args.assertions.now + 1) c.args.base c.args.names.now.items c.args.tree.now c.while_in.result
    _ _ _ _ _ c.deref-in-While.result.now c.in-While.is c.deref-in-While.ensures c.while_in.ensures.stands

pub statement_in-returns-in-Return-clause-stands : goal.statement_in-returns-in-Return-clause-stands
statement_in-returns-in-Return-clause-stands t c =
    arm-return c.args.list.now (length c.args.assertions.now + 1) c.args.base c.args.names.now.items c.args.tree.now c.returned_in.result
    _ _ _ c.as_slice-in-Return.result.now c.in-Return.is c.as_slice-in-Return.ensures.value c.returned_in.ensures

pub statement_in-returns-in-Assert-clause-stands : goal.statement_in-returns-in-Assert-clause-stands
statement_in-returns-in-Assert-clause-stands t c =
    arm-assert c.args.list.now (length c.args.assertions.now + 1) c.args.base c.args.names.now.items c.args.tree.now c.asserted_in.result
    _ _ _ _ _ c.as_slice-in-Assert.result.now c.in-Assert.is c.as_slice-in-Assert.ensures.value c.asserted_in.ensures.stands

pub statements_in-loop-statement-init : goal.statements_in-loop-statement-init
unfolding stmts_in all_assertions_in
statements_in-loop-statement-init t c = record {
  stands = ap (λ (l : List Statement). Some (view.stmts_of l)) c.new-told.ensures.items;
  visible = refl;
  added = sym (append-nil c.args.assertions.now);
}

pub statements_in-loop-statement-preserved : goal.statements_in-loop-statement-preserved
statements_in-loop-statement-preserved t c =
    let l = c.loop-statement in
    let list = c.args.list.now in
    let x = c.statement-item.result in
    let behind = of_some c.in_ok-made.made c.in-Some.made c.in-Some.is c.in_ok-made.ensures.visible in
    let more = of_some c.in_ok-made.made c.in-Some.made c.in-Some.is c.in_ok-made.ensures.added in
    record {
      stands =
          step_stands list c.args.base c.args.names.now.items l.names.items c.args.assertions.now l.assertions c.args.statements.now l.statement-index x c.statement_in.new.assertions l.told.items c.push.new.self.items c.in-Some.made
          c.loop-statement-test.true c.statement-item.is l.invariant.added l.invariant.visible more c.in_ok-push-in-Some.ensures.items l.invariant.stands
          (ap (option_map view.stmt_of) (sym c.in-Some.is) ∙ c.in_ok-made.ensures.stands);
      visible = step_visible list c.args.base c.args.names.now.items l.names.items c.args.assertions.now l.assertions c.args.statements.now l.statement-index x c.statement_in.new.names.items c.loop-statement-test.true c.statement-item.is l.invariant.visible behind;
      added = step_table list c.args.base c.args.names.now.items l.names.items c.args.assertions.now l.assertions c.args.statements.now l.statement-index x c.statement_in.new.assertions c.loop-statement-test.true c.statement-item.is l.invariant.added more;
    }

pub statements_in-returns-in-None-clause-stands : goal.statements_in-returns-in-None-clause-stands
statements_in-returns-in-None-clause-stands t c =
    let l = c.loop-statement in
    stops c.args.list.now c.args.base c.args.names.now.items l.names.items c.args.assertions.now l.assertions c.args.statements.now l.statement-index c.statement-item.result
    c.loop-statement-test.true c.statement-item.is l.invariant.added l.invariant.visible (ap (option_map view.stmt_of) (sym c.in-None.is) ∙ c.in_ok-made.ensures.stands)

pub statements_in-returns-clause-stands : goal.statements_in-returns-clause-stands
statements_in-returns-clause-stands t c =
    c.loop-statement.invariant.stands
    ∙ ap (λ (s : List Stmt). stmts_in c.args.list.now (length c.args.assertions.now + 1) c.args.base c.args.names.now.items (stmts_of s)) (take_all c.loop-statement.statement-index c.args.statements.now c.loop-statement-test.false)
