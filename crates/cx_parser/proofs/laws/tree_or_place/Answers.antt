use Rattle.cx_parser.proofs.OneReading as law
use Rattle.cx_parser.proofs.laws.tree_or_place.Goals as goal

pub returns : goal.returns
returns c = law.tree_or_place
