use Rattle.std.proofs.Common.{◌≡◌, take}
use Rattle.cx_machine_tests.proofs.images.code.Given as goal

abbrev pub invariant-loop-i : goal.invariant-loop-i
invariant-loop-i l = l.items ≡ take l.i-index l.code
