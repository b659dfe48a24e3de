use Rattle.std.proofs.Common.{◌≡◌, ◌<◌, ◌≤◌, length, ap, sym, arith}
use Rattle.std.proofs.lemmas.List.{append-nil}
use Rattle.cx_core.specs.View.{operand_of}
use Rattle.cx_lower.specs.Emitted.{code_of_check, code_of_evaluations}
use Rattle.cx_lower.proofs.Evaluated.{listed_code, unlisted_code}
use Rattle.cx_lower.proofs.emitter.Emitter.put_check.Goals as goal

pub returns-then-index-items : goal.returns-then-index-items
returns-then-index-items c =
    let emitter = c.args.self.now in
    let past : length emitter.unit.now.assertions ≤ c.args.index = omega (arith, ap length c.items.ensures) in
    rw (unlisted_code emitter.semantic emitter.unit.now.assertions (length c.args.code.now) c.args.index (operand_of c.args.predicate.now) past)
    (sym (append-nil c.args.code.now))

pub put_evaluations-requires-clause-room : goal.put_evaluations-requires-clause-room
put_evaluations-requires-clause-room c =
    let emitter = c.args.self.now in
    let within : c.args.index < length emitter.unit.now.assertions = omega (arith, ap length c.items.ensures) in
    let same : code_of_check emitter (length c.args.code.now) c.args.index c.args.predicate.now ≡ code_of_evaluations emitter (length c.args.code.now) c.args.index c.args.predicate.now =
    listed_code emitter.semantic emitter.unit.now.assertions (length c.args.code.now) c.args.index (operand_of c.args.predicate.now) within in
    omega (arith, c.requires.room, ap length same)

pub returns : goal.returns
returns c =
    let emitter = c.args.self.now in
    let within : c.args.index < length emitter.unit.now.assertions = omega (arith, ap length c.items.ensures) in
    rw (listed_code emitter.semantic emitter.unit.now.assertions (length c.args.code.now) c.args.index (operand_of c.args.predicate.now) within)
    c.put_evaluations.ensures
