use Rattle.std.proofs.Common.{rules, arith, ap, length, length-append, append_assoc}
use Rattle.cx_lower.specs.Emitted.{code_of_truth}
use Rattle.cx_lower.proofs.emitter.Emitter.open_branch.Goals as goal

pub place-place-requires : goal.place-place-requires
place-place-requires c =
    omega (arith, ap length (c.in_ok-put_truth.ensures c.requires.fits), length-append c.args.code.now (code_of_truth c.args.c.now))

pub returns-clause-place : goal.returns-clause-place
returns-clause-place c =
    omega (arith, ap length (c.in_ok-put_truth.ensures c.requires.fits), length-append c.args.code.now (code_of_truth c.args.c.now))

pub returns-clause-code : goal.returns-clause-code
returns-clause-code c = let e = c.in_ok-put_truth.ensures c.requires.fits in search (rules, append_assoc)
