use Rattle.cx_reach.specs.Says.{IsSearched, work}
use Rattle.cx_reach.proofs.search.arrivals.Given as goal

abbrev pub invariant-loop-place : goal.invariant-loop-place
invariant-loop-place l = IsSearched l.image l.function l.search.arrivals.items l.search.pending.items

abbrev pub decreases-loop-place : goal.decreases-loop-place
decreases-loop-place l = work l.search.arrivals.items l.search.pending.items
