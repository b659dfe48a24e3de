use Rattle.cx_rules.proofs.Passing.{stands}
use Rattle.cx_rules.proofs.region.next_rule.Goals as goal

pub rule_of-requires-clause-region : goal.rule_of-requires-clause-region
rule_of-requires-clause-region c = stands _ _ _ _ c.items.ensures c.requires.index

pub rule_of-requires-clause-around : goal.rule_of-requires-clause-around
rule_of-requires-clause-around c = λ not. c.requires.around not _ (stands _ _ _ _ c.items.ensures c.requires.index)

pub returns-clause-rule : goal.returns-clause-rule
returns-clause-rule c = (_, stands _ _ _ _ c.items.ensures c.requires.index, c.rule_of.ensures.rule)
