use Rattle.std.proofs.Common.{◌≡◌, take}
use Rattle.cx_marks.specs.Marks.{is_after_key, marks}
use Rattle.cx_marks.specs.Seen.{Knows}
use Rattle.cx_marks.proofs.scan.marks_of.Given as goal

abbrev pub invariant-loop-at : goal.invariant-loop-at
invariant-loop-at l = record {
  told : l.told.items ≡ take l.at (marks l.tokens);
  knows : Knows l.names l.tokens l.at;
  key : l.after_key ≡ is_after_key l.tokens l.at;
}
