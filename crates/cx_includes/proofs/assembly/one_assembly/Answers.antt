use Rattle.cx_includes.proofs.OneAssembly.{one_fault}
use Rattle.cx_includes.proofs.OneList.{one_list, list_and_fault}
use Rattle.cx_includes.proofs.assembly.one_assembly.Goals as goal

pub returns : goal.returns
returns c = record { list = one_list; fault = one_fault; apart = list_and_fault }
