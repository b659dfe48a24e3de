use Rattle.cx_plan.proofs.Spells.{spelled_is_read, read_is_spelled}
use Rattle.cx_plan.proofs.laws.lines_spell_what_they_say.Goals as goal

pub returns-clause-read : goal.returns-clause-read
returns-clause-read c = spelled_is_read

pub returns-clause-spelled : goal.returns-clause-spelled
returns-clause-spelled c = read_is_spelled
