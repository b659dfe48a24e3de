use Rattle.std.proofs.Common.{ap}
use Rattle.std.proofs.lemmas.List.{map-set}
use Rattle.cx_plain_state.specs.Seen.{leaf_of}
use Rattle.cx_plain_state.proofs.store.set_leaf.Goals as goal

pub returns-clause-written : goal.returns-clause-written
returns-clause-written c =
    ap (λ leaves. record { number = c.args.object.now.number; leaves = leaves }) (map-set leaf_of c.args.object.now.leaves.items c.args.index c.args.leaf)
