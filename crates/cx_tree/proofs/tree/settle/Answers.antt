use Rattle.std.proofs.Common.{reverse}
use Rattle.cx_values.specs.View.{values_of}
use Rattle.cx_tree.proofs.Stands.{stuck}
use Rattle.cx_tree.proofs.tree.settle.Goals as goal

pub returns-in-Some-Stays : goal.returns-in-Some-Stays
returns-in-Some-Stays c =
    stuck c.args.marks.now c.args.at c.copied-look.result (reverse c.steps.symbols.items) (reverse c.one_step.new.symbols.items) (values_of c.steps.values.items) (values_of c.one_step.new.values.items) c.in_ok-one_step.field-0 (cc) c.in_ok-one_step.ensures c.requires.inside c.steps.invariant.0 c.steps.invariant.1
