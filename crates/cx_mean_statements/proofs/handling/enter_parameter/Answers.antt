use Rattle.cx_mean_statements.proofs.handling.enter_parameter.Goals as goal

pub returns-in-Object : goal.returns-in-Object
returns-in-Object c = rw c.in-Object.is (c.object_parameter.ensures c.in-Object.field-1)
