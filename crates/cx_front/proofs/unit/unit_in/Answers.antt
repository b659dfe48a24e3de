use Rattle.std.proofs.Common.{sym, ◌∙◌}
use Rattle.cx_syntax.specs.View.{stmts_of, unit_of}
use Rattle.cx_front.proofs.Units.{long_tokens, no_statements, unit_answer}
use Rattle.cx_front.proofs.unit.unit_in.Goals as goal

pub returns-then-has_short_tokens : goal.returns-then-has_short_tokens
returns-then-has_short_tokens c =
    unit_answer c.args.list.now (unit_of c.args.tree.now) (stmts_of c.in-Some.statements.now) c.unit_of_statements.result c.in-Some.ensures (sym c.has_short_tokens.ensures ∙ c.if-has_short_tokens.true) c.unit_of_statements.ensures

pub returns-else-has_short_tokens : goal.returns-else-has_short_tokens
returns-else-has_short_tokens c = long_tokens c.args.list.now (unit_of c.args.tree.now) (stmts_of c.in-Some.statements.now) c.in-Some.ensures (sym c.has_short_tokens.ensures ∙ c.if-has_short_tokens.false)

pub returns-in-None : goal.returns-in-None
returns-in-None c = no_statements c.args.list.now (unit_of c.args.tree.now) c.in-None.ensures
