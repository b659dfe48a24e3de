use Rattle.cx_outside.specs.Fault.{Rose}
use Rattle.cx_tool.proofs.Stops.{only_want}
use Rattle.cx_tool.proofs.exec.assembled.Goals as goal

pub returns-in-Ok-clause-list_comes : goal.returns-in-Ok-clause-list_comes
returns-in-Ok-clause-list_comes g c = λ folder list told is none. c.in-Ok.ensures.only_list folder list told is

pub returns-in-Err-clause-list_comes : goal.returns-in-Err-clause-list_comes
returns-in-Err-clause-list_comes g c =
    λ folder list told is none.
    only_want c.in-Err.fault (g.F.Files.content c.args.files.now) c.args.unit_name.now (Rose (g.F.Files.faults c.args.files.now) (g.F.Files.faults c.assemble.new.files)) c.fault_answer.result (c.in-Err.ensures.only_list folder list told is) c.in-Err.ensures.fault none c.fault_answer.ensures
