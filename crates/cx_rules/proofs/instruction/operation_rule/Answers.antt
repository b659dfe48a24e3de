use Rattle.std.proofs.Common.{◌≢◌, Some}
use Rattle.cx_code.specs.Rules.{HasPlaces, PassesArguments}
use Rattle.cx_reach.specs.declared.arriving.Depths.TheVariants as depths
use Rattle.cx_rules.specs.Judged.{AreBadDepths, LeadsOff, IsBadArrival}
use Rattle.cx_rules.proofs.Judging.{denied, after_first, after_second, after_third, after_fifth, second, third, fifth, sixth, none}
use Rattle.cx_rules.proofs.instruction.operation_rule.Goals as goal
use Rattle.cx_rules.proofs.instruction.operation_rule.Goals.{then-runs_off-via-then-runs_off, then-runs_off-via-else-runs_off+then-is_bad_arrival}

pub returns-then-not-has_places : goal.returns-then-not-has_places
returns-then-not-has_places c = λ instruction o. (
  second c.args.image.now c.args.function.now c.args.place instruction c.args.operation o c.args.arrival c.requires.arrival
      (denied c.has_places.result (HasPlaces c.args.function.now (Some c.args.operation)) c.if-not-has_places.true c.has_places.ensures),
  after_first c.args.image.now c.args.function.now c.args.place instruction c.args.operation o c.args.arrival c.requires.arrival c.requires.indices,
)

pub returns-then-are_bad_depths : goal.returns-then-are_bad_depths
returns-then-are_bad_depths c = λ instruction o. (
  third c.args.image.now c.args.function.now c.args.place instruction c.args.operation o c.args.arrival c.requires.arrival (c.are_bad_depths.ensures.0 c.if-are_bad_depths.true),
  after_second c.args.image.now c.args.function.now c.args.place instruction c.args.operation o c.args.arrival c.requires.arrival c.requires.indices
      (c.has_places.ensures.0 c.if-not-has_places.false),
)

pub returns-then-not-passes_arguments : goal.returns-then-not-passes_arguments
returns-then-not-passes_arguments c = λ instruction o. (
  fifth c.args.image.now c.args.function.now c.args.place instruction c.args.operation o c.args.arrival c.requires.arrival
      (denied c.passes_arguments.result (PassesArguments c.args.image.now (Some c.args.operation)) c.if-not-passes_arguments.true c.passes_arguments.ensures),
  after_third c.args.image.now c.args.function.now c.args.place instruction c.args.operation o c.args.arrival c.requires.arrival c.requires.indices
      (c.has_places.ensures.0 c.if-not-has_places.false)
      (denied c.are_bad_depths.result (AreBadDepths c.args.function.now c.args.operation c.args.arrival.depths) c.if-are_bad_depths.false c.are_bad_depths.ensures),
)

pub returns-then-runs_off : goal.returns-then-runs_off
returns-then-runs_off c = λ instruction o. (
  (let known = sixth c.args.image.now c.args.function.now c.args.place instruction c.args.operation o c.args.arrival c.requires.arrival c.requires.indices in
      elim c.then-runs_off.branch [
        | then-runs_off-via-then-runs_off w ↦ known.0 (c.runs_off.ensures.0 w.if-runs_off.true)
        | then-runs_off-via-else-runs_off+then-is_bad_arrival w ↦ known.1 (w.is_bad_arrival.ensures.0 w.if-is_bad_arrival.true)
      ]),
  after_fifth c.args.image.now c.args.function.now c.args.place instruction c.args.operation o c.args.arrival c.requires.arrival c.requires.indices
      (c.has_places.ensures.0 c.if-not-has_places.false)
      (denied c.are_bad_depths.result (AreBadDepths c.args.function.now c.args.operation c.args.arrival.depths) c.if-are_bad_depths.false c.are_bad_depths.ensures)
      (c.passes_arguments.ensures.0 c.if-not-passes_arguments.false),
)

pub returns : goal.returns
returns c = λ instruction o.
    none c.args.image.now c.args.function.now c.args.place instruction c.args.operation o c.args.arrival c.requires.arrival c.requires.indices
    (c.has_places.ensures.0 c.if-not-has_places.false)
    (denied c.are_bad_depths.result (AreBadDepths c.args.function.now c.args.operation c.args.arrival.depths) c.if-are_bad_depths.false c.are_bad_depths.ensures)
    (c.passes_arguments.ensures.0 c.if-not-passes_arguments.false)
    (denied c.runs_off.result ((c.args.arrival.depths ≢ depths.None) × LeadsOff c.args.function.now c.args.place c.args.operation) c.if-runs_off.false c.runs_off.ensures)
    (denied c.is_bad_arrival.result (IsBadArrival c.args.operation c.args.arrival) c.if-is_bad_arrival.false c.is_bad_arrival.ensures)
