use Rattle.cx_outside.specs.Fault.{Rose}
use Rattle.cx_includes.proofs.OneList.{only_list, only_fault}
use Rattle.cx_includes.proofs.assembly.assemble.Goals as goal

pub returns-clause-only_list : goal.returns-clause-only_list
returns-clause-only_list g c = λ folder unit is has.
    only_list (g.F.Files.content c.args.files.now) c.args.name.now (Rose (g.F.Files.faults c.args.files.now) (g.F.Files.faults c.take_unit.new.files)) folder is c.take_unit.result c.take_unit.ensures.list c.take_unit.ensures.fault unit has

pub returns-clause-only_fault : goal.returns-clause-only_fault
returns-clause-only_fault g c = λ folder fault is has.
    only_fault (g.F.Files.content c.args.files.now) c.args.name.now (Rose (g.F.Files.faults c.args.files.now) (g.F.Files.faults c.take_unit.new.files)) folder is c.take_unit.result c.take_unit.ensures.list c.take_unit.ensures.fault fault has
