use Rattle.std.proofs.Common.{◌≡◌, ◌==◌, false, arith}
use Rattle.std.proofs.lemmas.Bool.Decides.{nat_tests}
use Rattle.cx_machine.proofs.state.Machine.violate.Goals as goal

pub returns-clause-ok : goal.returns-clause-ok
returns-clause-ok c = λ store.
    let some : (c.args.image.now.handler == 0) ≡ false = grind (arith, nat_tests) in
    rw some (rw (c.in_ok-push.ensures.ok, c.number_after-argument.ensures, c.items.ensures) at (c.enter_with.ensures.ok store))

pub returns-clause-err : goal.returns-clause-err
returns-clause-err c = λ store.
    let some : (c.args.image.now.handler == 0) ≡ false = grind (arith, nat_tests) in
    rw some (rw (c.in_ok-push.ensures.ok, c.number_after-argument.ensures, c.items.ensures) at (c.enter_with.ensures.err store))
