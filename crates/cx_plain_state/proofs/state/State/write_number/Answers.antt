use Rattle.std.proofs.Common.{◌≡◌, ap, ◌∙◌}
use Rattle.std.specs.Int.{w128}
use Rattle.std.proofs.lemmas.Int.{to_z-of_z}
use Rattle.std.proofs.lemmas.Result.{err_from_is_err_and}
use Rattle.cx_core.specs.Library.{byte_of}
use Rattle.cx_plain_state.proofs.Parts.{ran}
use Rattle.cx_plain_state.proofs.state.State.write_number.Goals as goal

pub returns-in_err-write_byte : goal.returns-in_err-write_byte
returns-in_err-write_byte c =
    let p = err_from_is_err_and c.from_residual.result c.from_residual.ensures.1 in
    let b : c.byte_of.result ≡ byte_of c.args.n = c.byte_of.ensures ∙ ap byte_of (to_z-of_z w128 c.args.n c.ranges.n) in
    rw (p.1, p.2, ← b) (search (ran, c.in_err-write_byte.ensures) depth 12)
