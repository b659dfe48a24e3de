use Rattle.std.proofs.Common.{◌≡◌, drop}
use Rattle.cx_includes.specs.Directive.{is_line_end}
use Rattle.cx_includes.proofs.directive.is_line_end.Given as goal

abbrev pub invariant-loop-at : goal.invariant-loop-at
invariant-loop-at l = is_line_end (drop l.at l.tail) ≡ is_line_end l.tail
