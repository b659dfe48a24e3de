use Rattle.std.proofs.Common.{refl}
use Rattle.std.proofs.lemmas.Result.{err_from_is_err_and}
use Rattle.cx_core.specs.Outcome.{either, gives, current_held, set_held, current_living, set_living}
use Rattle.cx_mean_statements.proofs.Passes.{passes}
use Rattle.cx_mean_statements.proofs.handling.caught.Goals as goal

pub returns : goal.returns
unfolding either gives current_held set_held current_living set_living
returns c = let h = rw c.type_name.ensures at c.in_ok-append.ensures.comes in
    let a = c.in_ok-holding.ensures in
    let b = c.enter_scope-scope.ensures in
    record { comes = rw (h, c.in_ok-vec.ensures.items, b.frame, a.frame, b.entered, a.entered) refl }

pub returns-in_err-append : goal.returns-in_err-append
unfolding either
returns-in_err-append c = let p = err_from_is_err_and c.from_residual.result c.from_residual.ensures.1 in
    let h = rw c.type_name.ensures at c.in_err-append.ensures in
    rw (p.1, p.2) (passes _ h)
