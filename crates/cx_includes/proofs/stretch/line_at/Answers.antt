use Rattle.std.proofs.lemmas.List.{take_rest}
use Rattle.cx_includes.proofs.Stretches.{holds_line, holds_bad}
use Rattle.cx_includes.proofs.stretch.line_at.Goals as goal

pub returns-in-Some : goal.returns-in-Some
returns-in-Some c = holds_line c.args.text.now c.args.at c.line_length-length.result c.args.reached.line c.in-Some.directive (rw take_rest at c.line_length-length.ensures) c.requires.reached.line c.requires.begins c.in-Some.ensures

pub returns-in-None : goal.returns-in-None
returns-in-None c = holds_bad c.args.text.now c.args.at c.line_length-length.result c.args.reached.line (rw take_rest at c.line_length-length.ensures) c.requires.reached.line c.requires.begins c.in-None.ensures
