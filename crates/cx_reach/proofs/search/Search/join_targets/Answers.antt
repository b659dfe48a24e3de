use Rattle.std.proofs.Common.{get_or}
use Rattle.std.proofs.lemmas.Option.{slice_get-get_or}
use Rattle.cx_code.specs.declared.code.Region.{Region}
use Rattle.cx_reach.proofs.Begun.{told_more}
use Rattle.cx_reach.proofs.search.Search.join_targets.Goals as goal

pub loop-region-preserved : goal.loop-region-preserved
loop-region-preserved c =
    let zero : Region = record { start = 0; end = 0; kind = 0; of = 0; target = 0; depth = 0 } in
    let region = get_or c.args.regions.now c.loop-region.region-index zero in
    told_more c.args.regions.now c.loop-region.region-index region c.target_of.result c.target_of.ensures.is
    c.args.self.now.arrivals.items c.loop-region.self.arrivals.items c.join.new.self.arrivals.items
    c.args.self.now.pending.items c.loop-region.self.pending.items c.join.new.self.pending.items
    (slice_get-get_or c.args.regions.now c.loop-region.region-index zero c.loop-region-test.true) c.target_of.ensures.small c.loop-region.invariant c.in_ok-join.ensures
