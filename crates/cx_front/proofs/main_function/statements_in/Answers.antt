use Rattle.std.proofs.Common.{length, ap, arith}
use Rattle.cx_front.proofs.Rows.{several}
use Rattle.cx_front.proofs.main_function.statements_in.Goals as goal

pub returns-in-len2-up : goal.returns-in-len2-up
returns-in-len2-up c = several c.args.list.now c.args.tree.now.items.items (omega (arith, ap length c.as_slice.ensures.value, c.in-len2-up.len_at_least))
