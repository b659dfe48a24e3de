use Rattle.cx_core.specs.Outcome.{either}
use Rattle.cx_mean_parts.specs.Seen.{table_of}
use Rattle.cx_mean.proofs.Stepping.{frames-popped}
use Rattle.cx_mean.proofs.run.pass_thrown.Goals as goal

pub returns-in-Some : goal.returns-in-Some
unfolding either
returns-in-Some c =
    rw (frames-popped (table_of c.args.machine.now.program.now) c.args.stack.now.items c.pop.new.self.items c.in-Some.frame c.in-Some.ensures.items)
    (c.settle.ensures (table_of c.args.machine.now.program.now) _ _ c.thrown_step-next.ensures)
