use Rattle.cx_mean_statements.proofs.statement.statement_task.Goals as goal

pub returns-in-Block : goal.returns-in-Block
returns-in-Block c = rw c.in-Block.is c.block.ensures

pub returns-in-Turns : goal.returns-in-Turns
returns-in-Turns c = rw c.in-Turns.is c.take_turns.ensures
