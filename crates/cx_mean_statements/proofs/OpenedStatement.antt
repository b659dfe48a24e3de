-- What a statement of one layer and a handler stand for.
use Rattle.std.proofs.Common.{◌≡◌, ℕ, ap, sym, ◌∙◌}
use Rattle.cx_core.specs.declared.expression.Expression.{Expression}
use Rattle.cx_core.specs.declared.statement.Statement.{Statement}
use Rattle.cx_core.specs.declared.statement.Statement.TheVariants as rust
use Rattle.cx_core.specs.declared.statement.Statement.TheFolds.{fold-roll-Statement}
use Rattle.cx_core.specs.declared.statement.Statement.TheOpen.{Statement-F}
use Rattle.cx_core.specs.declared.statement.Handler.{Handler, Handler-F, fold-roll-Handler, rolls-Handler'}
use Rattle.cx_core.specs.Tree as tree
use Rattle.cx_core.specs.Tree.{Check, Stmt, Handlers}
use Rattle.cx_core.specs.View.{expr_of, parameter_of}
use Rattle.cx_mean_parts.specs.Seen.{Table, stmt_of, stmts_of, handler_for, handler_of, statement_layer, handler_layer}

pub opened-reference : (n : Table) → (slot : ℕ) → (e : Expression) → stmt_of n (rust.Reference slot e) ≡ tree.reference_declaration slot (expr_of e)
opened-reference n slot e =
    ap (stmt_of n) (sym (rust.rolls-Reference slot e))
    ∙ fold-roll-Statement (Stmt Check) (Handlers Check → Handlers Check) (statement_layer n) (handler_layer n) (Statement-F.Reference slot e)

pub opened-handler : (n : Table) → (h : Handler) → (rest : Handlers Check) →
    handler_of n h rest ≡ handler_for h.catches (parameter_of h.parameter) (stmts_of n h.body.items) rest
opened-handler n h rest =
    let x : Handler-F Statement Handler = record { catches = h.catches; parameter = h.parameter; body = h.body } in
    ap (λ y. handler_of n y rest) (sym (rolls-Handler' x))
    ∙ ap (λ f. f rest) (fold-roll-Handler (Stmt Check) (Handlers Check → Handlers Check) (statement_layer n) (handler_layer n) x)
