use Rattle.cx_mean_parts.specs.Seen.{table_of}
use Rattle.cx_mean_statements.proofs.OpenedStatement.{opened-reference}
use Rattle.cx_mean_statements.proofs.statement.statement.Goals as goal

pub returns-in-Reference : goal.returns-in-Reference
returns-in-Reference c = rw (c.in-Reference.is, opened-reference (table_of c.args.machine.now.program.now) c.in-Reference.slot c.in-Reference.e) c.reference_declared.ensures
