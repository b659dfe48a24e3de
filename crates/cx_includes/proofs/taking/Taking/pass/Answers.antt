use Rattle.cx_outside.specs.Fault.{Rose}
use Rattle.cx_includes.specs.Taking.{PartTakes, taken, source_at}
use Rattle.cx_includes.proofs.Takings.{part_is, took, due_bad, due_lexical}
use Rattle.cx_includes.proofs.taking.Taking.pass.Goals as goal

pub returns-in_ok-take_token-in-Token-clause-passed : goal.returns-in_ok-take_token-in-Token-clause-passed
returns-in_ok-take_token-in-Token-clause-passed g c = λ folder agrees.
    took folder (source_at c.args.self.now c.args.file).file.name (source_at c.args.self.now c.args.file).file.text (taken c.args.self.now) _ _ _ c.in_ok-take_token-in-Token.ensures.taken
    (part_is folder (source_at c.args.self.now c.args.file).file.name (source_at c.args.self.now c.args.file).file.text (taken c.args.self.now) _ _ _ c.in-Token.is PartTakes.token)

pub returns-in_ok-name_of-in-BadLine-clause-fault : goal.returns-in_ok-name_of-in-BadLine-clause-fault
returns-in_ok-name_of-in-BadLine-clause-fault g c =
    due_bad (g.F.Files.content c.args.files.now) (Rose (g.F.Files.faults c.args.files.now) (g.F.Files.faults c.args.files.now)) c.args.self.now (source_at c.args.self.now c.args.file).file c.args.part c.in-BadLine.line c.args.depth c.in_ok-name_of-in-BadLine.field-0 c.requires.sound c.in-BadLine.is c.in_ok-name_of-in-BadLine.ensures

pub returns-in_ok-name_of-in-Fault-clause-fault : goal.returns-in_ok-name_of-in-Fault-clause-fault
returns-in_ok-name_of-in-Fault-clause-fault g c =
    due_lexical (g.F.Files.content c.args.files.now) (Rose (g.F.Files.faults c.args.files.now) (g.F.Files.faults c.args.files.now)) c.args.self.now (source_at c.args.self.now c.args.file).file c.args.part c.in-Fault.fault c.in-Fault.spot c.args.depth c.in_ok-name_of-in-Fault.field-0 c.requires.sound c.in-Fault.is c.in_ok-name_of-in-Fault.ensures
