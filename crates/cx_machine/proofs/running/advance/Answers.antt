use Rattle.cx_machine.specs.States.{state_of}
use Rattle.cx_machine.proofs.Advances.{quiet}
use Rattle.cx_machine.proofs.running.advance.Goals as goal

pub returns-in-Ok-None-clause-ok : goal.returns-in-Ok-None-clause-ok
returns-in-Ok-None-clause-ok g c =
    quiet c.args.image.now (state_of c.args.machine.now (g.M.Memory.store c.args.memory.now)) (state_of c.step.new.self (g.M.Memory.store c.step.new.memory)) c.args.report.now (g.E.Sink.taken c.args.err.now) (rw c.in-Ok-None.field-0-is at c.in-Ok-None.ensures.ok)
