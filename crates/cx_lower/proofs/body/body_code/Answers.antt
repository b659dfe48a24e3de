use Rattle.std.proofs.Common.{◌≡◌, ◌++◌, arith, ap, ◌∙◌}
use Rattle.std.proofs.lemmas.Result.{IfOk-weaker}
use Rattle.cx_core.specs.View.{stmts_of}
use Rattle.cx_lower.specs.Code.{stmts_code, exit_code, body_code}
use Rattle.cx_lower.specs.Emitted.{asserted_code}
use Rattle.cx_lower.proofs.Joined.{Code}
use Rattle.cx_lower.proofs.Lengths.{short_stmts, short_asserted}
use Rattle.cx_lower.proofs.body.body_code.Goals as goal

pub put_statements-requires-clause-room : goal.put_statements-requires-clause-room
put_statements-requires-clause-room c =
    rw c.new-code.ensures (omega (arith, short_stmts (asserted_code c.args.semantic c.args.unit.now.assertions) (short_asserted c.args.semantic c.args.unit.now.assertions) c.args.exit (stmts_of c.args.b.now) 0 0 0))

pub returns : goal.returns
unfolding body_code
returns c =
    let asserted = asserted_code c.args.semantic c.args.unit.now.assertions in
    let body = stmts_of c.args.b.now in
    let put = rw c.new-code.ensures at c.in_ok-put_statements.ensures in
    let whole : c.instructions.result.now ≡ stmts_code asserted c.args.exit 0 0 0 body ++ exit_code c.args.exit c.args.most =
    c.instructions.ensures ∙ c.in_ok-put_exit.ensures ∙ ap (λ (w : Code). w ++ exit_code c.args.exit c.args.most) put in
    rw (← c.requires.exit, ← c.requires.most)
    (IfOk-weaker c.items_of.result (λ items. items ≡ c.instructions.result.now) (λ items. items ≡ stmts_code asserted c.args.exit 0 0 0 body ++ exit_code c.args.exit c.args.most) (λ items is. is ∙ whole) c.items_of.ensures)
