use Rattle.std.specs.BTreeMap.{get}
use Rattle.std.specs.Ordering.{nat_cmp}
use Rattle.cx_unwind.proofs.Changes.{from_last, from_no_entry}
use Rattle.cx_unwind.proofs.paint.innermost_at.Goals as goal

pub returns-in-Some : goal.returns-in-Some
returns-in-Some c =
    let last = (c.range.ensures.in_range tt).3 _ _ c.in-Some.ensures.steps in
    from_last (get nat_cmp c.args.changes.now) c.in-Some.field-0-0.now c.args.place c.in-Some.innermost.now last.0.1 last.1 ((c.range.ensures.in_range tt).4 _ _ c.in-Some.ensures.steps)

pub returns-in-None : goal.returns-in-None
returns-in-None c =
    from_no_entry (get nat_cmp c.args.changes.now) c.args.place ((c.range.ensures.in_range tt).5 c.in-None.ensures.steps.0)
