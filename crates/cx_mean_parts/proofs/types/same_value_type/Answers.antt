use Rattle.std.proofs.Common.{sym, ◌∙◌}
use Rattle.cx_mean_parts.proofs.SameTypes.{as_many, not_as_many}
use Rattle.cx_mean_parts.proofs.types.same_value_type.Goals as goal

pub returns-then-a-b : goal.returns-then-a-b
returns-then-a-b c = c.same_base.ensures ∙ sym (as_many c.args.a.pointers c.args.b.pointers c.args.a.base c.args.b.base c.if-a-b.true)

pub returns-else-a-b : goal.returns-else-a-b
returns-else-a-b c = not_as_many c.args.a.pointers c.args.b.pointers c.args.a.base c.args.b.base c.if-a-b.false
