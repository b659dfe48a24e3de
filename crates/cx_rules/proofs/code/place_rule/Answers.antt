use Rattle.cx_rules.proofs.Passing.{stands}
use Rattle.cx_rules.proofs.code.place_rule.Goals as goal

pub returns : goal.returns
returns c = (_, stands _ _ _ _ c.items.ensures c.requires.place, c.instruction_rule.ensures)
