use Rattle.cx_mean_statements.proofs.statement.statement_given.Goals as goal

pub returns-in-Branch : goal.returns-in-Branch
returns-in-Branch c = rw c.in-Branch.is c.branch_given.ensures

pub returns-in-TurnTested : goal.returns-in-TurnTested
returns-in-TurnTested c = rw c.in-TurnTested.is c.test_given.ensures
