use Rattle.cx_outside.specs.Told.{Appends-nothing}
use Rattle.cx_machine.specs.Advance.{stopped}
use Rattle.cx_machine.proofs.machine.write_out.Goals as goal

pub returns-in-Stopped-clause-wrote : goal.returns-in-Stopped-clause-wrote
returns-in-Stopped-clause-wrote g c = stopped c.in-Stopped.field-0 c.in-Stopped.is c.in-Stopped.is (Appends-nothing _)
