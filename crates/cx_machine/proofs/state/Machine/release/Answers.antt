use Rattle.std.proofs.Common.{sym, ◌∙◌}
use Rattle.cx_machine.specs.States.{state_of}
use Rattle.cx_machine.proofs.Steps.{drops}
use Rattle.cx_machine.proofs.state.Machine.release.Goals as goal

pub returns-clause-ok : goal.returns-clause-ok
returns-clause-ok c = λ store.
    let gone = sym c.let_go.ensures.kept ∙ c.if-let_go.false in
    let drop = drops c.args.image.now (state_of c.args.self.now store) c.in-Some.exception c.pop.new.self c.dropper_of-dropper.result c.in-Some.ensures gone c.dropper_of-dropper.ensures.some c.dropper_of-dropper.ensures.dropper in
    rw (drop, ← c.exception.view_is) (rw c.let_go.ensures.others at (c.enter_with.ensures.ok store))

pub returns-clause-err : goal.returns-clause-err
returns-clause-err c = λ store.
    let gone = sym c.let_go.ensures.kept ∙ c.if-let_go.false in
    let drop = drops c.args.image.now (state_of c.args.self.now store) c.in-Some.exception c.pop.new.self c.dropper_of-dropper.result c.in-Some.ensures gone c.dropper_of-dropper.ensures.some c.dropper_of-dropper.ensures.dropper in
    rw (drop, ← c.exception.view_is) (rw c.let_go.ensures.others at (c.enter_with.ensures.err store))
