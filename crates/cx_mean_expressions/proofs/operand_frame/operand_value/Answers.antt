use Rattle.cx_core.specs.Outcome.{either}
use Rattle.cx_mean_parts.specs.Seen.{table_of}
use Rattle.cx_mean_expressions.proofs.operand_frame.operand_value.Goals as goal

pub returns-in-Operate : goal.returns-in-Operate
unfolding either
returns-in-Operate c = rw c.in-Operate.is (c.valued.ensures (table_of c.args.machine.now.program.now) _ _ c.applied.ensures)
