use Rattle.std.proofs.Common.{arith, length, ap}
use Rattle.cx_core.specs.View.{stmts_of}
use Rattle.cx_lower.specs.Emitted.{asserted_code}
use Rattle.cx_lower.proofs.Lengths.{short_stmts, short_asserted}
use Rattle.cx_lower.proofs.body.exit_of.Goals as goal

pub put_statements-requires-clause-room : goal.put_statements-requires-clause-room
put_statements-requires-clause-room c =
    rw c.new-code.ensures (omega (arith, short_stmts (asserted_code c.args.semantic c.args.unit.now.assertions) (short_asserted c.args.semantic c.args.unit.now.assertions) 0 (stmts_of c.args.b.now) 0 0 0))

pub place-requires : goal.place-requires
place-requires c =
    let put = rw c.new-code.ensures at c.in_ok-put_statements.ensures in
    omega (arith, ap length put, short_stmts (asserted_code c.args.semantic c.args.unit.now.assertions) (short_asserted c.args.semantic c.args.unit.now.assertions) 0 (stmts_of c.args.b.now) 0 0 0)

pub overflow_add-result : goal.overflow_add-result
overflow_add-result c =
    let put = rw c.new-code.ensures at c.in_ok-put_statements.ensures in
    omega (arith, ap length put, c.place.ensures, short_stmts (asserted_code c.args.semantic c.args.unit.now.assertions) (short_asserted c.args.semantic c.args.unit.now.assertions) 0 (stmts_of c.args.b.now) 0 0 0)

pub overflow_add-result-2 : goal.overflow_add-result-2
overflow_add-result-2 c =
    let put = rw c.new-code.ensures at c.in_ok-put_statements.ensures in
    omega (arith, ap length put, c.place.ensures, short_stmts (asserted_code c.args.semantic c.args.unit.now.assertions) (short_asserted c.args.semantic c.args.unit.now.assertions) 0 (stmts_of c.args.b.now) 0 0 0)
