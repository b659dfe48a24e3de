use Rattle.cx_machine.proofs.state.Machine.enter_with.Goals as goal

pub returns-clause-ok : goal.returns-clause-ok
returns-clause-ok c = λ store. rw c.in_ok-push.ensures.ok at (c.enter.ensures.ok store)

pub returns-clause-err : goal.returns-clause-err
returns-clause-err c = λ store. rw c.in_ok-push.ensures.ok at (c.enter.ensures.err store)
