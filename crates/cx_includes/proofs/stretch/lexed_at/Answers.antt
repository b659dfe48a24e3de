use Rattle.std.proofs.Common.{arith, ◌∙◌}
use Rattle.std.proofs.lemmas.List.{take_rest}
use Rattle.cx_includes.proofs.Stretches.{token_fits, holds_blank, holds_token, holds_fault, stands_fault}
use Rattle.cx_includes.proofs.stretch.lexed_at.Goals as goal

pub overflow_add-end : goal.overflow_add-end
overflow_add-end c = let fits = token_fits c.args.text.now c.args.at c.in-Token.length c.in-Token.kind (omega arith) (rw take_rest at c.in-Token.ensures) in omega arith

pub overflow_cast-token-in-Token : goal.overflow_cast-token-in-Token
overflow_cast-token-in-Token c = let fits = token_fits c.args.text.now c.args.at c.in-Token.length c.in-Token.kind (omega arith) (rw take_rest at c.in-Token.ensures) in omega arith

pub fault_at-requires-clause-begins : goal.fault_at-requires-clause-begins
fault_at-requires-clause-begins c = stands_fault c.args.text.now c.args.at c.in-Fault.fault (rw take_rest at c.in-Fault.ensures)

pub returns-in-Gap : goal.returns-in-Gap
returns-in-Gap c = holds_blank c.args.text.now c.args.at c.in-Gap.length (rw take_rest at c.in-Gap.ensures)

pub returns-in-Token : goal.returns-in-Token
returns-in-Token c =
    holds_token c.args.text.now c.args.at c.in-Token.length c.in-Token.kind c.spot.result (rw take_rest at c.in-Token.ensures)
    (c.spot.ensures.line ∙ c.requires.reached.line) (c.spot.ensures.column ∙ c.requires.reached.column)

pub returns-in-Fault : goal.returns-in-Fault
returns-in-Fault c =
    holds_fault c.args.text.now c.args.at c.in-Fault.fault c.fault_at.result c.requires.no_line (stands_fault c.args.text.now c.args.at c.in-Fault.fault (rw take_rest at c.in-Fault.ensures)) c.fault_at.ensures
