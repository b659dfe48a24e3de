-- That a step of this program comes to what the machine's step does; this project's own.
use Rattle.std.specs.Prelude.{◌≡◌, Result}
use Rattle.cx_core.specs.Store as store
use Rattle.cx_core.specs.Outcome as outcome
use Rattle.cx_core.specs.Outcome.{Does, Outcome, Nothing, after, gives, throws}
use Rattle.cx_plain.specs.Task as task
use Rattle.cx_plain_state.specs.declared.answer.Halt.{Halt}
use Rattle.cx_plain_state.specs.declared.state.State.{State}
use Rattle.cx_plain_state.specs.declared.value.Value.{Value}
use Rattle.cx_plain_state.specs.Seen.{state_of, value_of}
use Rattle.cx_plain_state.specs.Ran.{Ran, unit_of}
use Rattle.cx_mean_parts.specs.declared.program.Program.{Program}
use Rattle.cx_mean_parts.specs.declared.waiting.Next.{Next}
use Rattle.cx_mean_parts.specs.Seen.{Table, table_of}
use Rattle.cx_mean_parts.specs.Frames.{next_of}

abbrev pub Steps : Program → Does task.Next → Result Next Halt → (old new : State) → Type 0
Steps p m result old new = Ran (next_of (table_of p)) (m (state_of old)) result (state_of new)

-- whatever comes to the first answer, the step that gives its value comes to the second
abbrev pub GivesValue : Result Value Halt → Result Next Halt → Type 0
GivesValue v result = (n : Table) (o : Outcome store.Value) (s : outcome.State) →
    Ran value_of o v s → Ran (next_of n) (after o (λ a. gives (task.give (task.value a))) throws) result s

abbrev pub GivesNothing : {T : Type 0} → Result T Halt → Result Next Halt → Type 0
GivesNothing done result = (n : Table) (o : Outcome Nothing) (s : outcome.State) →
    Ran unit_of o done s → Ran (next_of n) (after o (λ _. gives (task.give task.nothing)) throws) result s
