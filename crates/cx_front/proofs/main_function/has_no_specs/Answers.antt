use Rattle.std.proofs.Common.{sym, arith}
use Rattle.cx_front.proofs.Rows.{specified}
use Rattle.cx_front.proofs.main_function.has_no_specs.Goals as goal

pub returns-in-len1-up : goal.returns-in-len1-up
returns-in-len1-up c = sym (specified c.args.specs.now (omega (arith, c.in-len1-up.len_at_least)))
