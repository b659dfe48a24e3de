use Rattle.std.proofs.Common.{◌<◌, length, arith, sym, ◌∙◌}
use Rattle.cx_plan.proofs.Lines.{line_added, room_left}
use Rattle.cx_plan.proofs.reading.read_plan.Goals as goal

pub loop-rest-preserved : goal.loop-rest-preserved
loop-rest-preserved c =
    let some : 0 < length c.loop-rest.rest.now = grind (arith, c.loop-rest-test.ensures, c.loop-rest-test.true) in
    let behind = c.behind-rest.ensures in record {
      numbered = rw behind (room_left _ _ _ _ some c.loop-rest.invariant.numbered);
      read = rw behind (sym (line_added _ _ _ _ _ c.line_length-end.ensures.length some c.in_ok-add_line.ensures.read) ∙ c.loop-rest.invariant.read);
      subjects = c.in_ok-add_line.ensures.subjects;
    }
