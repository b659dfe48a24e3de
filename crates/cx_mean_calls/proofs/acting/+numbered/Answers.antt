use Rattle.std.proofs.Common.{◌≡◌, suc, refl, arith}
use Rattle.cx_mean_calls.proofs.acting.+numbered.Goals as goal

pub returns-clause-variables : goal.returns-clause-variables
returns-clause-variables t c = λ p.
    let next : c.in-Some-checked_add.next ≡ suc c.args.slot = omega (arith, c.in-Some-checked_add.ensures) in
    let rest = rw next at (c.in_ok-variables.ensures.variables p) in
    rw (c.in-Some.ensures.cases.0, c.in_ok-insert.ensures.items, rest) refl
