use Rattle.std.proofs.Common.{arith}
use Rattle.cx_frame.proofs.Reversed.{low_of}
use Rattle.cx_frame.proofs.operands.Operands.cut.Goals as goal

pub returns-then-depth-self : goal.returns-then-depth-self
returns-then-depth-self c = rw (← c.self.view_is) (low_of c.args.depth c.self.inside.top c.self.inside.values.items (omega (arith, c.if-depth-self.true)))
