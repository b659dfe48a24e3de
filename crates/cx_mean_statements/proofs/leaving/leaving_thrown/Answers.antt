use Rattle.cx_mean_statements.proofs.leaving.leaving_thrown.Goals as goal

pub returns-in-Holding : goal.returns-in-Holding
returns-in-Holding c =
    let e = rw c.deref.ensures.value at c.is_among_with-among.ensures in
    rw (c.in-Holding.is, ← e) c.leave_handler.ensures
