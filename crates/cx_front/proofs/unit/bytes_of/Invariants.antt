use Rattle.std.proofs.Common.{◌≡◌, take}
use Rattle.std.specs.Prelude.{min, sum_by}
use Rattle.cx_front.proofs.Sums.{size}
use Rattle.cx_front.proofs.unit.bytes_of.Given as goal

abbrev pub invariant-loop-file : goal.invariant-loop-file
invariant-loop-file l = l.bytes ≡ min (sum_by size (take l.file l.list.files)) 4294967295
