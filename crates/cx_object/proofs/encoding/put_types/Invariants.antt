use Rattle.std.proofs.Common.{◌≡◌, ◌++◌, length, take}
use Rattle.std.specs.List.{flat_map}
use Rattle.cx_code.specs.Spelling.{number}
use Rattle.cx_code.specs.ObjectSpelling.{unit_type}
use Rattle.cx_object.proofs.encoding.put_types.Given as goal

abbrev pub invariant-loop-item : goal.invariant-loop-item
invariant-loop-item l = l.out ≡ l.fn.out ++ number (length l.object.types) ++ flat_map unit_type (take l.item-index l.object.types)
