use Rattle.std.proofs.Common.{◌≡◌}
use Rattle.cx_includes.specs.Taking.{files_of}
use Rattle.cx_includes.proofs.taking.files_of.Given as goal

abbrev pub invariant-loop-source : goal.invariant-loop-source
invariant-loop-source l = l.files ≡ files_of l.yielded
