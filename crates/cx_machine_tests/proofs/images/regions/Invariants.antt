use Rattle.std.proofs.Common.{◌≡◌, take}
use Rattle.cx_machine_tests.proofs.images.regions.Given as goal

abbrev pub invariant-loop-region : goal.invariant-loop-region
invariant-loop-region l = l.items ≡ take l.region-index l.regions
