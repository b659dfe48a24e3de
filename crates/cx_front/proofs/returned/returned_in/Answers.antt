use Rattle.std.proofs.Common.{Option, sym, ap, ◌∙◌}
use Rattle.std.specs.Prelude.{option_map}
use Rattle.cx_syntax.specs.declared.tree.expression.Expr.{Expr}
use Rattle.cx_syntax.specs.View.{expr_of}
use Rattle.cx_front.specs.Front.{return_of}
use Rattle.cx_front.specs.Made.{returned_in}
use Rattle.cx_front.proofs.returned.returned_in.Goals as goal

pub returns-in_ok-value-in-Some : goal.returns-in_ok-value-in-Some
returns-in_ok-value-in-Some c =
    c.return_of.ensures ∙ ap (option_map return_of) c.in_ok-value-in-Some.ensures ∙ ap (λ (o : Option Expr). returned_in c.args.list.now c.args.names.now (option_map expr_of o)) (sym c.in-Some.is)
