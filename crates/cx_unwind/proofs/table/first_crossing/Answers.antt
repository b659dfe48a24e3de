use Rattle.std.proofs.Common.{arith}
use Rattle.cx_unwind.proofs.Fronts.{is_first}
use Rattle.cx_unwind.proofs.table.first_crossing.Goals as goal

pub returns : goal.returns
returns c = is_first c.args.regions.now c.halves.nested c.halves.crossing c.halves.invariant.order (omega arith) c.halves.invariant.nested c.halves.invariant.crossing
