use Rattle.cx_reach.specs.Says.{HasTold}
use Rattle.cx_reach.proofs.search.Search.join_targets.Given as goal

abbrev pub invariant-loop-region : goal.invariant-loop-region
invariant-loop-region l = HasTold l.regions l.region-index l.initial.self.arrivals.items l.self.arrivals.items l.initial.self.pending.items l.self.pending.items
