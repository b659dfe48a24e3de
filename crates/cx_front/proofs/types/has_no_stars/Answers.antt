use Rattle.std.proofs.Common.{sym, arith}
use Rattle.cx_front.proofs.Rows.{starred}
use Rattle.cx_front.proofs.types.has_no_stars.Goals as goal

pub returns-in-len1-up : goal.returns-in-len1-up
returns-in-len1-up c = sym (starred c.args.stars.now (omega (arith, c.in-len1-up.len_at_least)))
