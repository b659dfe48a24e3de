use Rattle.std.proofs.Common.{◌≡◌, List, sym, ap, ◌∙◌}
use Rattle.cx_code.specs.declared.code.Region.{Region}
use Rattle.cx_code.specs.Unwind.{next_region}
use Rattle.cx_machine.specs.States.{state_of}
use Rattle.cx_machine.proofs.Loaded.{regions_at}
use Rattle.cx_machine.proofs.Steps.{next_within, gone_from, tried_from}
use Rattle.cx_machine.proofs.state.Machine.unwind.Goals as goal
use Rattle.cx_machine.proofs.state.Machine.unwind.Goals.{After-find}

-- what was found is the next region of the function
found : (c : After-find) → next_region c.function_at-function.result.now.regions c.args.self.now.frame.place c.args.after ≡ c.find.result
found c =
    let regions = regions_at _ c.function_at-function.result.now c.routine_at-routine.result.now c.function_at-function.ensures c.routine_at-routine.ensures in
    ap (λ (all : List Region). next_region all c.args.self.now.frame.place c.args.after) regions ∙ sym c.find.ensures

pub region_at-region-requires : goal.region_at-region-requires
region_at-region-requires c = next_within c.function_at-function.result.now.regions c.args.self.now.frame.place c.args.after c.in-Some.index (found (goal.at.region_at-region-requires c).After-find ∙ c.in-Some.is)

pub returns-in_default-clause-ok : goal.returns-in_default-clause-ok
returns-in_default-clause-ok c = λ store.
    rw (gone_from c.args.image.now (state_of c.args.self.now store) c.args.exception c.args.after c.function_at-function.result.now c.function_at-function.ensures (found (goal.at.returns-in_default-clause-ok c).After-find ∙ c.in_default.is)) (c.give_up.ensures.ok store)

pub returns-in_default-clause-err : goal.returns-in_default-clause-err
returns-in_default-clause-err c = λ store.
    rw (gone_from c.args.image.now (state_of c.args.self.now store) c.args.exception c.args.after c.function_at-function.result.now c.function_at-function.ensures (found (goal.at.returns-in_default-clause-err c).After-find ∙ c.in_default.is)) (c.give_up.ensures.err store)

pub returns-clause-ok : goal.returns-clause-ok
returns-clause-ok c = λ store.
    rw (tried_from c.args.image.now (state_of c.args.self.now store) c.args.exception c.args.after c.function_at-function.result.now c.in-Some.index c.region_at-region.result c.function_at-function.ensures (found (goal.at.returns-clause-ok c).After-find ∙ c.in-Some.is) c.region_at-region.ensures) (c.try_region.ensures.ok store)

pub returns-clause-err : goal.returns-clause-err
returns-clause-err c = λ store.
    rw (tried_from c.args.image.now (state_of c.args.self.now store) c.args.exception c.args.after c.function_at-function.result.now c.in-Some.index c.region_at-region.result c.function_at-function.ensures (found (goal.at.returns-clause-err c).After-find ∙ c.in-Some.is) c.region_at-region.ensures) (c.try_region.ensures.err store)
