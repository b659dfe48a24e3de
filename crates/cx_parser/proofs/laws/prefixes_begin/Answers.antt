use Rattle.cx_parser.proofs.OneReading as law
use Rattle.cx_parser.proofs.laws.prefixes_begin.Goals as goal

pub returns : goal.returns
returns c = law.prefixes_begin
