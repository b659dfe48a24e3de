use Rattle.cx_mean_parts.specs.Seen.{handlers_of, table_of}
use Rattle.cx_mean_statements.proofs.OpenedStatement.{opened-handler}
use Rattle.cx_mean_statements.proofs.handling.first_handler.Goals as goal

pub returns-in-Some : goal.returns-in-Some
returns-in-Some c =
    let n = table_of c.args.machine.now.program.now in
    let by_type = rw c.object_type-of.ensures at c.handled_by_type.ensures in
    rw (opened-handler n c.args.handler.now (handlers_of n c.args.rest.now), c.in-Some.is) by_type
