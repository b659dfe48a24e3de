use Rattle.std.proofs.Common.{refl, sym, ap, get_or}
use Rattle.cx_plain_state.specs.Seen.{address_of}
use Rattle.cx_plain_state.proofs.Places.{leaves_nowhere, leaf_there, no_leaf_there}
use Rattle.cx_plain_state.proofs.store.leaf_at.Goals as goal

pub returns-in-None : goal.returns-in-None
returns-in-None c = rw (leaves_nowhere c.args.a.object c.args.objects.now c.in-None.ensures.value) refl

pub returns-in-None-nth : goal.returns-in-None-nth
returns-in-None-nth c =
    sym (no_leaf_there (address_of c.args.a) c.args.objects.now c.in-Some.i (get_or c.args.objects.now c.in-Some.i c.index-objects-i.result) c.in-Some.ensures.value c.in-Some.ensures.within (ap (λ d. get_or c.args.objects.now c.in-Some.i d) c.index-objects-i.is) (rw c.deref.ensures.value at c.in-None-nth.ensures))

pub returns-in-Some-nth : goal.returns-in-Some-nth
returns-in-Some-nth c =
    sym (leaf_there (address_of c.args.a) c.args.objects.now c.in-Some.i (get_or c.args.objects.now c.in-Some.i c.index-objects-i.result) c.in-Some-nth.leaf c.in-Some.ensures.value c.in-Some.ensures.within (ap (λ d. get_or c.args.objects.now c.in-Some.i d) c.index-objects-i.is) (rw c.deref.ensures.value at c.in-Some-nth.ensures))
