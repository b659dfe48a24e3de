use Rattle.cx_reach.proofs.Begun.{searched_first}
use Rattle.cx_reach.proofs.search.begun.Goals as goal

pub returns : goal.returns
returns c =
    searched_first c.args.function.now c.in_ok-search.search.arrivals.items c.join.new.self.arrivals.items c.join_targets.new.self.arrivals.items
    c.in_ok-search.search.pending.items c.join.new.self.pending.items c.join_targets.new.self.pending.items
    (rw c.items.ensures at c.in_ok-search.ensures.arrivals) c.in_ok-search.ensures.pending (rw c.start.ensures at c.in_ok-join.ensures) (rw c.items-2.ensures at c.in_ok-join_targets.ensures)
