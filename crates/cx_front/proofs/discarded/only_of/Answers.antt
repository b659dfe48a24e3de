use Rattle.std.proofs.Common.{length, sym, ap, arith}
use Rattle.cx_front.proofs.Rows.{more_than_one}
use Rattle.cx_front.proofs.discarded.only_of.Goals as goal

pub returns-in-len1-up : goal.returns-in-len1-up
returns-in-len1-up c = λ i j. sym (more_than_one c.args.list.now c.args.names.now i j c.args.several.now (omega (arith, ap length c.as_slice.ensures.value, c.in-len1-up.len_at_least)))
