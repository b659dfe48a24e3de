use Rattle.std.proofs.Common.{◌≡◌, ◌∙◌, ◌<◌, ◌-◌, suc, length, map, Some, arith, sym, ap}
use Rattle.std.proofs.lemmas.Option.{slice_get-get_or}
use Rattle.std.specs.Prelude.{slice_get}
use Rattle.cx_plain_state.specs.Seen.{evaluation_of}
use Rattle.cx_mean_parts.specs.CallParts.{place_due}
use Rattle.cx_mean_parts.specs.Tasks.{due_of}
use Rattle.cx_mean_calls.proofs.Rows.{not_placed, not_owed, owed_less}
use Rattle.cx_mean_calls.proofs.row.go_on.Goals as goal

pub returns-in_err-i : goal.returns-in_err-i
returns-in_err-i c = rw c.from_residual.ensures (not_placed c.args.party (evaluation_of c.args.e.now) c.args.due.items (rw c.deref.ensures.value at c.in_err-i.ensures.value))

pub returns-in_err-left : goal.returns-in_err-left
returns-in_err-left c =
    let there : c.in_ok-i.i < length c.args.due.items = rw (← c.deref.ensures.value) c.in_ok-i.ensures.within in
    let held : slice_get c.args.due.items c.in_ok-i.i ≡ Some c.index.result.now = slice_get-get_or c.args.due.items c.in_ok-i.i c.index.result.now there ∙ ap Some (sym c.index.ensures) in
    let none : c.index.result.now.left ≡ 0 = omega (arith, c.in_err-left.ensures) in
    rw c.from_residual-in_err-left.ensures (not_owed c.args.party (evaluation_of c.args.e.now) c.args.due.items c.in_ok-i.i c.index.result.now (rw c.deref.ensures.value at c.in_ok-i.ensures.value) held none)

pub returns : goal.returns
returns c =
    let there : c.in_ok-i.i < length c.args.due.items = rw (← c.deref.ensures.value) c.in_ok-i.ensures.within in
    let held : slice_get c.args.due.items c.in_ok-i.i ≡ Some c.index.result.now = slice_get-get_or c.args.due.items c.in_ok-i.i c.index.result.now there ∙ ap Some (sym c.index.ensures) in
    let less : c.index.result.now.left ≡ suc c.in_ok-left.left = omega (arith, c.in_ok-left.ensures) in
    owed_less c.args.party (evaluation_of c.args.e.now) c.args.due.items c.in_ok-i.i c.index.result.now c.in_ok-left.left (rw c.deref.ensures.value at c.in_ok-i.ensures.value) held less
