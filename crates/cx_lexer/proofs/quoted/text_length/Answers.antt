use Rattle.std.proofs.Common.{◌+◌, arith, length-drop}
use Rattle.std.proofs.lemmas.List.{take_rest}
use Rattle.cx_lexer.proofs.Quotes.{text_more, text_ends}
use Rattle.cx_lexer.proofs.quoted.text_length.Goals as goal

pub loop-step-init : goal.loop-step-init
loop-step-init c = record { within = omega (arith, c.text_step-step.ensures.within); step = c.text_step-step.ensures.length; tail = omega arith }

pub loop-step-preserved : goal.loop-step-preserved
loop-step-preserved c =
    let at = c.loop-step.at + c.loop-step.step in
    record {
      within = omega (arith, rw take_rest at c.text_step-step-in-loop-step.ensures.within, length-drop at c.args.rest.now);
      step = rw take_rest at c.text_step-step-in-loop-step.ensures.length;
      tail = text_more c.args.rest.now c.loop-step.at c.loop-step.step c.loop-step.invariant.step (omega arith) c.loop-step.invariant.tail;
    }

pub returns-clause-length : goal.returns-clause-length
returns-clause-length c = text_ends c.args.rest.now c.loop-step.at c.loop-step.step c.loop-step.invariant.step (omega arith) c.loop-step.invariant.tail
