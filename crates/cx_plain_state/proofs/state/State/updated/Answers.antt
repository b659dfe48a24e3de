use Rattle.std.proofs.Common.{rules}
use Rattle.std.specs.Prelude.{FitsSigned}
use Rattle.std.specs.Int.{w128}
use Rattle.std.proofs.lemmas.Int.{to_z-of_z}
use Rattle.std.proofs.lemmas.Result.{err_from_is_err_and}
use Rattle.cx_plain_state.proofs.Parts.{ran, ran-halts, halts-then, halts-passes, halts-ran}
use Rattle.cx_plain_state.proofs.state.State.updated.Goals as goal

pub returns-in_err-old : goal.returns-in_err-old
returns-in_err-old c = let p = err_from_is_err_and c.from_residual-in_err-old.result c.from_residual-in_err-old.ensures.1 in rw (p.1, p.2) (search (ran, c.in_ok-a.ensures, c.in_err-old.ensures) depth 12)

pub returns-in_err-write : goal.returns-in_err-write
returns-in_err-write c =
    let p = err_from_is_err_and c.from_residual-in_err-write.result c.from_residual-in_err-write.ensures.1 in
    let fits : FitsSigned w128 c.in_ok-old.old = search rules in
    let x = rw (to_z-of_z w128 c.in_ok-old.old fits) at c.in_ok-x.ensures in
    rw (p.1, p.2) (ran-halts (halts-then _ _ _ c.in_ok-a.ensures (halts-then _ _ _ c.in_ok-old.ensures (halts-then _ _ _ x (halts-then _ _ _ c.in_ok-y.ensures (halts-then _ _ _ c.in_ok-z.ensures (halts-passes _ _ (halts-ran c.in_err-write.ensures))))))))
