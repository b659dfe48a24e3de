use Rattle.std.proofs.Common.{◌≡◌, ◌+◌, drop, arith, length-drop}
use Rattle.std.proofs.lemmas.List.{take_rest}
use Rattle.cx_lexer.specs.Scan.{suffix_length}
use Rattle.cx_lexer.proofs.Numbers.{tail_more, tail_ends}
use Rattle.cx_lexer.proofs.number.tail_length.Goals as goal

pub loop-step-init : goal.loop-step-init
loop-step-init c = record { within = omega (arith, c.digit_length-step.ensures.within); step = c.digit_length-step.ensures.length; tail = omega arith }

pub loop-step-preserved : goal.loop-step-preserved
loop-step-preserved c =
    let at = c.loop-step.at + c.loop-step.step in
    record {
      within = omega (arith, rw take_rest at c.digit_length-step-in-loop-step.ensures.within, length-drop at c.args.rest.now);
      step = rw take_rest at c.digit_length-step-in-loop-step.ensures.length;
      tail = tail_more c.args.base c.args.rest.now c.loop-step.at c.loop-step.step c.loop-step.invariant.step (omega arith) c.loop-step.invariant.tail;
    }

pub returns-clause-length : goal.returns-clause-length
returns-clause-length c =
    let ends = tail_ends c.args.base c.args.rest.now c.loop-step.at c.loop-step.step c.loop-step.invariant.step (omega arith) c.loop-step.invariant.tail in
    let suffix : c.suffix_length.result ≡ suffix_length (drop c.loop-step.at c.args.rest.now) = rw take_rest at c.suffix_length.ensures.length in
    omega arith

pub returns-clause-within : goal.returns-clause-within
returns-clause-within c = omega (arith, rw take_rest at c.suffix_length.ensures.within, length-drop c.loop-step.at c.args.rest.now)

pub overflow_add-result : goal.overflow_add-result
overflow_add-result c = omega (arith, rw take_rest at c.suffix_length.ensures.within, length-drop c.loop-step.at c.args.rest.now)
