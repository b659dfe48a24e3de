use Rattle.std.proofs.Common.{◌≡◌, ◌+◌, ◌≤◌, length}
use Rattle.cx_plan.specs.Reading.{lines_from, lines_of, read_lines}
use Rattle.cx_plan.specs.Subjects.{AreSubjects}
use Rattle.cx_plan.proofs.reading.read_plan.Given as goal

abbrev pub invariant-loop-rest : goal.invariant-loop-rest
invariant-loop-rest l = record {
  numbered : l.number + length l.rest ≤ length l.text;
  read : lines_from (l.number + 1) l.lines (lines_of l.rest) ≡ read_lines l.text;
  subjects : AreSubjects l.subjects.keys l.lines;
}

abbrev pub decreases-loop-rest : goal.decreases-loop-rest
decreases-loop-rest l = length l.rest
