use Rattle.std.proofs.Common.{◌≡◌, map, take}
use Rattle.cx_machine.specs.Loading.{known_of, meaning_of}
use Rattle.cx_machine.proofs.loading.load.Given as goal

abbrev pub invariant-loop-function : goal.invariant-loop-function
invariant-loop-function l = map known_of l.routines.items ≡ map meaning_of (take l.function-index l.functions)
