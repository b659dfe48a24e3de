use Rattle.std.proofs.Common.{rules, arith, ap, length, length-append, append_assoc}
use Rattle.std.proofs.lemmas.Result.{IfOk-equal}
use Rattle.cx_lower.specs.Emitted.{code_of_operand}
use Rattle.cx_lower.proofs.emitter.Emitter.put_putchar.Goals as goal

pub place-next-requires : goal.place-next-requires
place-next-requires c =
    omega (arith, ap length (c.in_ok-put_operand.ensures c.requires.fits), length-append c.args.code.now (code_of_operand c.args.a.now))

pub overflow_add-next : goal.overflow_add-next
overflow_add-next c =
    omega (arith, ap length (c.in_ok-put_operand.ensures c.requires.fits), length-append c.args.code.now (code_of_operand c.args.a.now))

pub returns : goal.returns
returns c = let e = c.in_ok-put_operand.ensures c.requires.fits in let l = length-append c.args.code.now (code_of_operand c.args.a.now) in search (rules, IfOk-equal, append_assoc)
