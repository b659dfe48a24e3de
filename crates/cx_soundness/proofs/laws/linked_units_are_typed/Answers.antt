use Rattle.cx_soundness.proofs.Linked.{linked_units}
use Rattle.cx_soundness.proofs.laws.linked_units_are_typed.Goals as goal

pub returns : goal.returns
returns c = linked_units c.linking_keeps_apart.ensures
