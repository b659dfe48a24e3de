use Rattle.std.proofs.Common.{◌<◌, ◌^◌, rules, refl, length}
use Rattle.std.proofs.lemmas.Option.{slice_get_read}
use Rattle.cx_reach.proofs.Turns.{looked}
use Rattle.cx_reach.proofs.search.Search.look_at.Goals as goal

pub returns : goal.returns
returns c =
    let few : c.in-Some.effect.taken < 2 ^ 32 = search rules in
    let less : c.in-Some.effect.given < 2 ^ 32 = search rules in
    let found = slice_get_read c.args.self.now.arrivals.items (length c.args.self.now.arrivals.items) c.args.place c.index.result.now refl c.requires.place c.index.ensures in
    looked c.args.image.now c.args.function.now c.args.place c.in-Some.effect c.index.result.now c.behind-arrival.result
    c.args.self.now.arrivals.items c.join.new.self.arrivals.items c.join-2.new.self.arrivals.items
    c.args.self.now.pending.items c.join.new.self.pending.items c.join-2.new.self.pending.items
    few less found c.requires.code c.in_ok-join.ensures c.in_ok-join-2.ensures c.behind-arrival.ensures c.in-Some.ensures
