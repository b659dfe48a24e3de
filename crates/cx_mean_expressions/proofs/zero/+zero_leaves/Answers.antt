use Rattle.std.proofs.lemmas.Result.{err_from_is_err_and}
use Rattle.cx_plain_state.proofs.Parts.{ran}
use Rattle.cx_mean_expressions.proofs.zero.+zero_leaves.Goals as goal

pub returns-in_err-zero_leaf-in-Some : goal.returns-in_err-zero_leaf-in-Some
returns-in_err-zero_leaf-in-Some t c =
    let p = err_from_is_err_and c.from_residual.result c.from_residual.ensures.1 in
    rw (p.1, p.2, c.in-Some.ensures.cases.0) (search (ran, c.in_err-zero_leaf-in-Some.ensures) depth 12)
