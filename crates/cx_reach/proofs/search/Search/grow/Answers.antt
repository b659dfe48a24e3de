use Rattle.std.proofs.Common.{◌≡◌, ◌≢◌, rules, refl, length}
use Rattle.std.proofs.lemmas.Option.{slice_get_read}
use Rattle.cx_reach.proofs.Grown.{joined_more, joined_same}
use Rattle.cx_reach.proofs.Joined.{join_less}
use Rattle.cx_reach.proofs.search.Search.grow.Goals as goal

pub returns-in_ok-push : goal.returns-in_ok-push
returns-in_ok-push c =
    let apart : c.joined-joined.result ≢ c.index.result.now = search rules in
    let found = slice_get_read c.args.self.now.arrivals.items (length c.args.self.now.arrivals.items) c.args.place c.index.result.now refl c.requires c.index.ensures in
    rw c.in_ok-push.ensures.items (joined_more c.args.place c.index.result.now c.args.arrival c.joined-joined.result c.args.self.now.arrivals.items c.args.self.now.pending.items found c.joined-joined.ensures
    (join_less c.index.result.now c.args.arrival c.joined-joined.result c.joined-joined.ensures apart))

pub returns-else-ne : goal.returns-else-ne
returns-else-ne c =
    let same : c.joined-joined.result ≡ c.index.result.now = search rules in
    let found = slice_get_read c.args.self.now.arrivals.items (length c.args.self.now.arrivals.items) c.args.place c.index.result.now refl c.requires c.index.ensures in
    joined_same c.args.place c.index.result.now c.args.arrival c.joined-joined.result c.args.self.now.arrivals.items c.args.self.now.pending.items found c.joined-joined.ensures same
