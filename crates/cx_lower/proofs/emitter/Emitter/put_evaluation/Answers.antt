use Rattle.std.proofs.Common.{◌≡◌, ◌+◌, [], ◌∷◌, ◌++◌, arith, ap, length, length-append, append_assoc}
use Rattle.cx_lower.specs.Code.{begin, verdict_code}
use Rattle.cx_lower.specs.Emitted.{code_of_truth}
use Rattle.cx_lower.proofs.Joined.{pushed}
use Rattle.cx_lower.proofs.emitter.Emitter.put_evaluation.Goals as goal

pub put_verdict-requires : goal.put_verdict-requires
put_verdict-requires c =
    let truth = code_of_truth c.args.predicate.now in
    let behind = verdict_code c.args.self.now.semantic (length c.args.code.now + 1 + length truth) c.args.index in
    omega (
      arith,
      ap length (c.in_ok-put_truth.ensures c.requires.fits),
      ap length c.in_ok-push.ensures,
      length-append c.push.new.self truth,
      length-append c.args.code.now (c.begin.result ∷ []),
      length-append truth behind,
    )

pub returns : goal.returns
returns c =
    let truth = code_of_truth c.args.predicate.now in
    let place : length c.args.code.now + 1 + length truth ≡ length c.put_truth.new.code =
    omega (arith, ap length (c.in_ok-put_truth.ensures c.requires.fits), ap length c.in_ok-push.ensures, length-append c.push.new.self truth, length-append c.args.code.now (c.begin.result ∷ [])) in
    rw (
      place,
      pushed c.args.code.now (begin c.args.self.now.semantic c.args.index) (truth ++ verdict_code c.args.self.now.semantic (length c.put_truth.new.code) c.args.index),
      ← c.begin.ensures,
      ← c.in_ok-push.ensures,
      ← append_assoc,
      ← c.in_ok-put_truth.ensures c.requires.fits,
    )
    c.put_verdict.ensures
