use Rattle.std.proofs.Common.{◌≡◌, map, take, Some}
use Rattle.cx_code.specs.Operation.{operation_of}
use Rattle.cx_machine.proofs.loading.decoded.Given as goal

abbrev pub invariant-loop-instruction : goal.invariant-loop-instruction
invariant-loop-instruction l = map Some l.operations.items ≡ map operation_of (take l.instruction-index l.code)
