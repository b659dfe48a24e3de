use Rattle.std.proofs.Common.{sym, ap, ◌∙◌}
use Rattle.std.specs.Prelude.{option_map}
use Rattle.cx_syntax.specs.View.{stmts_of}
use Rattle.cx_core.specs.View as view
use Rattle.cx_front.proofs.Units.{given_some, made_of, none_of}
use Rattle.cx_front.proofs.unit.unit_of_statements.Goals as goal

pub returns-in-Some : goal.returns-in-Some
returns-in-Some c =
    made_of c.args.list.now (stmts_of c.args.statements.now) c.in_ok-unit-in-Some.unit c.in-Some.told.items c.new-assertions.result c.block_in.new.assertions c.new-names.result.items
    c.new-assertions.ensures c.new-names.ensures.items c.in_ok-unit-in-Some.ensures.assertions
    (ap (option_map (λ inside. view.stmts_of inside.items)) (sym c.in-Some.is) ∙ c.in_ok-told.ensures.stands)
    (given_some c.in_ok-told.told c.in-Some.told c.in-Some.is c.in_ok-told.ensures.added) c.in_ok-unit-in-Some.ensures.statements

pub returns : goal.returns
returns c =
    none_of c.args.list.now (stmts_of c.args.statements.now) c.block_in.new.assertions c.new-assertions.result c.new-names.result.items c.new-assertions.ensures c.new-names.ensures.items
    (ap (option_map (λ inside. view.stmts_of inside.items)) (sym c.in-None.is) ∙ c.in_ok-told.ensures.stands)
