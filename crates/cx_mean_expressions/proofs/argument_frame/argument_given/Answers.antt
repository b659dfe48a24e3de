use Rattle.cx_core.specs.Outcome.{either}
use Rattle.cx_mean_parts.specs.Seen.{table_of}
use Rattle.cx_mean_expressions.proofs.argument_frame.argument_given.Goals as goal

pub returns-in-ReadResult : goal.returns-in-ReadResult
unfolding either
returns-in-ReadResult c = rw c.in-ReadResult.is (c.valued.ensures (table_of c.args.machine.now.program.now) _ _ c.read.ensures)
