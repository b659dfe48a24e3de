use Rattle.std.proofs.Common.{refl, ap, get_or}
use Rattle.cx_plain_state.specs.Seen.{leaf_of, address_of}
use Rattle.cx_plain_state.proofs.Places.{leaves_nowhere, written_there, not_written_there}
use Rattle.cx_plain_state.proofs.store.written.Goals as goal

pub returns-in-None : goal.returns-in-None
returns-in-None c = rw (leaves_nowhere c.args.a.object c.args.objects.now c.in-None.ensures.value) refl

pub returns-then-set_leaf : goal.returns-then-set_leaf
returns-then-set_leaf c =
    written_there (address_of c.args.a) (leaf_of c.args.leaf) c.args.objects.now c.in-Some.i (get_or c.args.objects.now c.in-Some.i c.index-objects-i.result) c.set_leaf.new.object c.in-Some.ensures.value c.in-Some.ensures.within (ap (λ d. get_or c.args.objects.now c.in-Some.i d) c.index-objects-i.is) c.if-set_leaf.ensures.within c.if-set_leaf.ensures.written

pub returns-else-set_leaf : goal.returns-else-set_leaf
returns-else-set_leaf c =
    not_written_there (address_of c.args.a) (leaf_of c.args.leaf) c.args.objects.now c.in-Some.i (get_or c.args.objects.now c.in-Some.i c.index-objects-i.result) c.in-Some.ensures.value c.in-Some.ensures.within (ap (λ d. get_or c.args.objects.now c.in-Some.i d) c.index-objects-i.is) c.if-set_leaf.ensures.past
