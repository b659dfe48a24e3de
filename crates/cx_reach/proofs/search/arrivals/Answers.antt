use Rattle.std.proofs.Common.{◌≡◌, length, arith}
use Rattle.cx_reach.proofs.Turns.{searched_on, finished}
use Rattle.cx_reach.proofs.search.arrivals.Goals as goal

pub loop-place-preserved : goal.loop-place-preserved
loop-place-preserved c =
    searched_on c.args.image.now c.args.function.now c.in-Some.place c.loop-place.search.arrivals.items c.look_at.new.self.arrivals.items
    c.loop-place.search.pending.items c.pop.new.self.items c.look_at.new.self.pending.items c.loop-place.invariant c.in-Some.ensures.items c.in_ok-look_at.ensures

pub returns : goal.returns
returns c =
    let none : length c.loop-place.search.pending.items ≡ 0 = omega (arith, c.in_default.ensures.cases.0, c.loop-place.search.pending.ok.0) in
    finished c.args.image.now c.args.function.now c.loop-place.search.arrivals.items c.loop-place.search.pending.items c.loop-place.invariant none
