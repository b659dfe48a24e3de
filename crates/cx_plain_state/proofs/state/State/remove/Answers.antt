use Rattle.std.proofs.Common.{refl}
use Rattle.cx_core.specs.Outcome.{remove}
use Rattle.cx_plain_state.specs.Seen.{state_of}
use Rattle.cx_plain_state.proofs.Places.{left_where, left_nowhere}
use Rattle.cx_plain_state.proofs.state.State.remove.Goals as goal

pub returns-in-None : goal.returns-in-None
unfolding remove state_of
returns-in-None c =
    let e = rw c.deref.ensures.value at (left_nowhere c.args.number c.deref.result.now c.in-None.ensures.value) in
    record { comes = rw e refl }

pub returns-in-Some : goal.returns-in-Some
unfolding remove state_of
returns-in-Some c =
    let e = rw c.deref.ensures.value at (left_where c.args.number c.deref.result.now c.in-Some.i c.in-Some.ensures.value) in
    record { comes = rw (e, c.remove.ensures.items) refl }
