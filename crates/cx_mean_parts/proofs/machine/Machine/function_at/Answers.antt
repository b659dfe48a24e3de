use Rattle.cx_mean_parts.specs.Seen.{table_of, program_of, function_of}
use Rattle.cx_mean_parts.proofs.Lookups.{found}
use Rattle.cx_mean_parts.proofs.machine.Machine.function_at.Goals as goal

pub returns : goal.returns
unfolding program_of
returns c =
    let h = rw c.deref.ensures.value at c.get.ensures.lookup in
    found (function_of (table_of c.args.self.now.program.now)) c.args.self.now.program.now.functions.items c.args.function c.get.result h.0 h.1
