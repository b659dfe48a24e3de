use Rattle.std.proofs.Common.{refl, arith}
use Rattle.std.proofs.lemmas.Grind.{common_steps}
use Rattle.cx_code.specs.State.{initial}
use Rattle.cx_machine.specs.Kept.{counts_in}
use Rattle.cx_machine.proofs.Told.{nothing_due}
use Rattle.cx_machine.proofs.start.started.Goals as goal

pub function_at-function-requires : goal.function_at-function-requires
function_at-function-requires g c = c.requires.valid.storable.main

pub returns-clause-started : goal.returns-clause-started
unfolding initial
returns-clause-started g c = record {
  state = rw (c.in_ok-make_globals.ensures.store, c.items.ensures, c.function_at-function.ensures, c.in_ok-slots.ensures.slots, c.new.ensures, c.new-2.ensures, c.new-3.ensures, c.new-4.ensures, c.new-6.ensures) refl;
  counted = rw (c.new-3.ensures, c.function_at-function.ensures) (grind (arith, common_steps));
  told = rw (c.new-2.ensures, c.new-3.ensures, c.new-4.ensures) (nothing_due (counts_in c.new-5.result) c.new-5.ensures);
  small = c.in_ok-make_globals.ensures.small;
  next = rw c.items.ensures at c.in_ok-make_globals.ensures.next;
  thrown = refl;
}
