use Rattle.std.proofs.Common.{◌≡◌, true, false, refl, sym, ◌∙◌}
use Rattle.cx_code.specs.Act.{is_too_deep}
use Rattle.cx_machine.specs.States.{state_of}
use Rattle.cx_frame.specs.Frames.{frame_in}
use Rattle.cx_machine.proofs.Told.{due_after_call}
use Rattle.cx_machine.proofs.state.Machine.enter.Goals as goal

pub returns-then-is_too_deep-clause-err : goal.returns-then-is_too_deep-clause-err
returns-then-is_too_deep-clause-err c = λ store.
    let deep : is_too_deep c.args.image.now (state_of c.args.self.now store) c.function_at-function.result.now ≡ true = sym (c.is_too_deep.ensures.value c.args.image.now store c.requires.counted) ∙ c.if-is_too_deep.true in
    (rw (c.function_at-function.ensures, deep) refl, tt)

pub returns-clause-ok : goal.returns-clause-ok
returns-clause-ok c = λ store.
    let deep : is_too_deep c.args.image.now (state_of c.args.self.now store) c.function_at-function.result.now ≡ false = sym (c.is_too_deep.ensures.value c.args.image.now store c.requires.counted) ∙ c.if-is_too_deep.false in
    rw (c.in_ok-cover.ensures.ok, c.function_at-function.ensures, deep, c.in_ok-slots.ensures.slots, c.in_ok-slots.ensures.rest, c.new.ensures, c.new-2.ensures) refl

pub returns-clause-told : goal.returns-clause-told
returns-clause-told c = λ told.
    rw (c.in_ok-cover.ensures.ok, c.new-2.ensures) (told ∙ sym (due_after_call c.args.self.now.held (frame_in (record c.args.self.now.frame { operands = c.take_arguments.new.self })) c.args.self.now.below))
