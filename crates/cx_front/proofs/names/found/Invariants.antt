use Rattle.std.proofs.Common.{◌≡◌, drop}
use Rattle.cx_front.specs.Front.{found, found_from, or_later}
use Rattle.cx_front.proofs.names.found.Given as goal

abbrev pub invariant-loop-at : goal.invariant-loop-at
invariant-loop-at l = or_later l.latest (found_from l.at l.name (drop l.at l.names)) ≡ found l.name l.names
