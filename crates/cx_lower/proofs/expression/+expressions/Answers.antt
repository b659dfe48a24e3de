use Rattle.std.proofs.Common.{append_assoc}
use Rattle.cx_lower.specs.Literals.{ExprFits, OperandFits}
use Rattle.cx_lower.specs.Code.{expr_code, operand_code}
use Rattle.cx_lower.proofs.Opened.{opened-unary, opened-binary, opened-operand}
use Rattle.cx_lower.proofs.expression.+expressions.Goals as goal

pub put_expression-returns-in_ok-put_operand-in-Unary : goal.put_expression-returns-in_ok-put_operand-in-Unary
unfolding expr_code ExprFits
put_expression-returns-in_ok-put_operand-in-Unary t c = λ fits.
    let opened = opened-unary c.in-Unary.operator c.in-Unary.of c.in-Unary.a in
    let inner = rw (c.in-Unary.is, opened, ← c.deref.ensures) at fits in
    rw (c.in-Unary.is, opened, ← c.unary_instruction.ensures, ← c.deref.ensures, ← append_assoc, ← c.in_ok-put_operand-in-Unary.ensures inner)
    c.push-in-Unary.ensures

pub put_expression-returns-in_ok-put_operand-in-Binary-2 : goal.put_expression-returns-in_ok-put_operand-in-Binary-2
unfolding expr_code ExprFits
put_expression-returns-in_ok-put_operand-in-Binary-2 t c = λ fits.
    let opened = opened-binary c.in-Binary.operator c.in-Binary.of c.in-Binary.a c.in-Binary.b in
    let both = rw (c.in-Binary.is, opened, ← c.deref-in-Binary.ensures, ← c.deref-in-Binary-2.ensures) at fits in
    rw (
      c.in-Binary.is,
      opened,
      ← c.binary_instruction.ensures,
      ← c.deref-in-Binary.ensures,
      ← c.deref-in-Binary-2.ensures,
      ← append_assoc,
      ← c.in_ok-put_operand-in-Binary.ensures both.0,
      ← append_assoc,
      ← c.in_ok-put_operand-in-Binary-2.ensures both.1,
    )
    c.push-in-Binary.ensures

pub put_operand-returns : goal.put_operand-returns
unfolding operand_code OperandFits
put_operand-returns t c = λ fits.
    let opened = opened-operand c.args.a.now in
    let inner = rw opened at fits in
    rw (opened, ← append_assoc, ← c.in_ok-put_expression.ensures inner, ← append_assoc, ← c.in_ok-put_read.ensures)
    c.put_conversion.ensures
