use Rattle.cx_mean_parts.specs.Seen.{table_of, program_of, class_of}
use Rattle.cx_mean_parts.proofs.Lookups.{found}
use Rattle.cx_mean_parts.proofs.machine.Machine.class_at.Goals as goal

pub returns : goal.returns
unfolding program_of
returns c =
    let h = rw c.deref.ensures.value at c.get.ensures.lookup in
    found class_of c.args.self.now.program.now.classes.items c.args.class c.get.result h.0 h.1
