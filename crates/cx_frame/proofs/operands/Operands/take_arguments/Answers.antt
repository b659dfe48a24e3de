use Rattle.std.proofs.Common.{◌≡◌, ◌≤◌, length, take, ap, ◌∙◌, arith}
use Rattle.std.proofs.lemmas.List.{length-reverse, length-take-le}
use Rattle.cx_code.specs.State.{slots_of}
use Rattle.cx_frame.proofs.Reversed.{last_of, rest_of}
use Rattle.cx_frame.proofs.operands.Operands.take_arguments.Goals as goal

pub returns-clause-slots : goal.returns-clause-slots
returns-clause-slots c =
    let items = c.self.inside.values.items in
    let top = c.self.inside.top in
    let within : top ≤ length items = omega (arith, c.self.invariant, c.self.inside.values.ok.0) in
    let size : length (take top items) ≡ top = length-take-le top items within in
    let enough : c.args.count ≤ length (take top items) = rw (← c.self.view_is, length-reverse) at c.requires.enough in
    rw (← c.self.view_is) (c.in_ok-made.ensures ∙ ap (slots_of c.args.slots) (last_of c.args.count top items c.deref.result.now c.deref.ensures.value within (omega (arith, size, enough))))

pub returns-clause-rest : goal.returns-clause-rest
returns-clause-rest c =
    let items = c.self.inside.values.items in
    let top = c.self.inside.top in
    let within : top ≤ length items = omega (arith, c.self.invariant, c.self.inside.values.ok.0) in
    let size : length (take top items) ≡ top = length-take-le top items within in
    let enough : c.args.count ≤ length (take top items) = rw (← c.self.view_is, length-reverse) at c.requires.enough in
    rw (← c.self.view_is) (rest_of c.args.count top items within (omega (arith, size, enough)))
