use Rattle.std.proofs.Common.{◌≡◌, ◌++◌, length, take}
use Rattle.std.specs.List.{flat_map}
use Rattle.cx_code.specs.Spelling.{number}
use Rattle.cx_code.specs.ObjectSpelling.{unit_function}
use Rattle.cx_object.proofs.encoding.put_functions.Given as goal

abbrev pub invariant-loop-item : goal.invariant-loop-item
invariant-loop-item l = l.out ≡ l.fn.out ++ number (length l.object.functions) ++ flat_map unit_function (take l.item-index l.object.functions)
