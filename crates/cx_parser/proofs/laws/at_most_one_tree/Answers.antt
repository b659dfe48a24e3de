use Rattle.cx_parser.proofs.OneReading as law
use Rattle.cx_parser.proofs.laws.at_most_one_tree.Goals as goal

pub returns : goal.returns
returns c = law.at_most_one_tree
