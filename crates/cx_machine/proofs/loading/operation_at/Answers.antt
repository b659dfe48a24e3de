use Rattle.std.proofs.Common.{length, slice_get, refl, arith}
use Rattle.std.proofs.lemmas.Option.{slice_get_read}
use Rattle.cx_machine.proofs.Loaded.{operation_within, operation_is}
use Rattle.cx_machine.proofs.loading.operation_at.Goals as goal

pub index-requires : goal.index-requires
index-requires c =
    let within = operation_within (slice_get c.args.image.now.functions c.args.function) c.routine_at-routine.result.now c.args.place c.routine_at-routine.ensures c.requires.place in
    omega (arith, within, c.routine_at-routine.result.now.operations.ok.0)

pub returns : goal.returns
returns c =
    let within = operation_within (slice_get c.args.image.now.functions c.args.function) c.routine_at-routine.result.now c.args.place c.routine_at-routine.ensures c.requires.place in
    let items = c.routine_at-routine.result.now.operations.items in
    operation_is (slice_get c.args.image.now.functions c.args.function) c.routine_at-routine.result.now c.args.place c.index.result.now c.routine_at-routine.ensures
    (slice_get_read items (length items) c.args.place c.index.result.now refl within c.index.ensures)
