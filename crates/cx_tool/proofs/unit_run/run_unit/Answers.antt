use Rattle.cx_tool.proofs.UnitRuns.{unit_run}
use Rattle.cx_tool.proofs.unit_run.run_unit.Goals as goal

pub returns-clause-outcome : goal.returns-clause-outcome
returns-clause-outcome g c = unit_run _ _ _ _ _ _ (c.unread_input_makes_no_difference.ensures c.args.valid.now c.requires.reads) c.requires.handler c.run.ensures.outcome
