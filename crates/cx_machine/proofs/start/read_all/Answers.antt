use Rattle.cx_machine.proofs.Reading.{TakesAll-from_end}
use Rattle.cx_machine.proofs.start.read_all.Goals as goal

pub returns-in-End-clause-ok : goal.returns-in-End-clause-ok
returns-in-End-clause-ok g c = TakesAll-from_end (g.I.Source.left c.args.input.now) (g.I.Source.left c.loop-read.input) (g.I.Source.left c.next.new.self) c.loop-read.bytes.items c.loop-read.invariant.read c.in-End.ensures.gives.0 c.in-End.ensures.gives.1
