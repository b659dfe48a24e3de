use Rattle.std.proofs.Common.{◌≡◌, suc, ◌∷◌, map, replicate, None, refl, ap, ◌∙◌, arith}
use Rattle.cx_core.specs.Outcome.{add}
use Rattle.cx_plain_state.specs.Seen.{state_of, object_of}
use Rattle.cx_plain_state.proofs.state.State.add.Goals as goal

pub returns : goal.returns
unfolding add state_of
returns c =
    let e : map object_of c.insert.new.self.items ≡ record { number = c.args.self.now.next; leaves = replicate c.args.leaves None } ∷ map object_of c.args.self.now.objects.items =
    ap (map object_of) c.in_ok-insert.ensures.items ∙ ap (λ leaves. record { number = c.args.self.now.next; leaves = leaves } ∷ map object_of c.args.self.now.objects.items) c.in_ok-leaves.ensures in
    let n : c.in-Some.next ≡ suc c.args.self.now.next = omega arith in
    record { comes = rw (e, n) refl }
