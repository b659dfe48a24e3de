use Rattle.std.proofs.lemmas.Result.{err_from_is_err_and}
use Rattle.cx_plain_state.proofs.Parts.{ran}
use Rattle.cx_mean_expressions.proofs.zero.zero_class.Goals as goal

pub returns-in_err-zero_leaves : goal.returns-in_err-zero_leaves
returns-in_err-zero_leaves c =
    let p = err_from_is_err_and c.from_residual.result c.from_residual.ensures.1 in
    let zeroed = rw c.items.ensures at c.in_err-zero_leaves.ensures in
    rw (p.1, p.2) (search (ran, zeroed) depth 12)
