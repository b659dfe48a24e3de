use Rattle.std.proofs.Common.{Err, ap}
use Rattle.cx_image.proofs.validity.verify.Goals as goal

pub broken-requires-clause-first : goal.broken-requires-clause-first
broken-requires-clause-first c = c.in-Err-At.ensures.broken c.in-Err-At.item c.in-Err-At.rule (ap Err c.in-Err-At.field-0-is)
