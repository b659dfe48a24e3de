-- Where a run of this program stands in the machine for the meaning, and what a step of it comes to; this project's own.
use Rattle.std.specs.Prelude.{◌≡◌, ℕ, List, [], map, reverse, Result, Ok, Err}
use Rattle.cx_core.specs.Program as program
use Rattle.cx_core.specs.Event as event
use Rattle.cx_core.specs.Event.{Evaluation}
use Rattle.cx_core.specs.Outcome as outcome
use Rattle.cx_core.specs.Store.{Value}
use Rattle.cx_core.specs.Outcome.{Outcome, Does, on, over, after, gives, throws}
use Rattle.cx_mean_parts.specs.Seen.{Table}
use Rattle.cx_core.specs.Meaning as meaning
use Rattle.cx_core.specs.Meaning.{mean, start}
use Rattle.cx_plain.specs.Task as task
use Rattle.cx_plain.specs.Step.{on_value}
use Rattle.cx_plain.specs.Run.{Config, running, passing, placed}
use Rattle.cx_plain_state.specs.declared.answer.Answer.{Answer}
use Rattle.cx_plain_state.specs.declared.state.State.{State}
use Rattle.cx_plain_state.specs.Seen.{state_of, exception_of, answer_of, event_of}
use Rattle.cx_mean_parts.specs.declared.waiting.Waiting.{Waiting}
use Rattle.cx_mean.specs.declared.run.Standing.{Standing}
use Rattle.cx_mean.specs.declared.run.Standing.TheVariants as standings
use Rattle.cx_mean.specs.declared.run.Stop.{Stop}
use Rattle.cx_mean.specs.declared.run.Stop.TheVariants as stops
use Rattle.cx_mean.specs.declared.run.Meaning.{Meaning}
use Rattle.cx_mean_parts.specs.Tasks.{task_of}
use Rattle.cx_mean_parts.specs.Frames.{given_of, left_of, frames_of}

abbrev pub config_of : Table → Standing → List Waiting → Config
config_of n (standings.Task t) stack = running (task_of n t) (frames_of n stack)
config_of n (standings.Left left) stack = passing (left_of left) (frames_of n stack)

abbrev pub Comes : Table → Outcome Config → Result Standing Stop → List Waiting → outcome.State → Type 0
Comes n o (Ok at) stack s = o ≡ on (config_of n at stack) s
Comes n o (Err (stops.Over answer)) stack s = o ≡ over (answer_of answer) s.trace
Comes n o (Err (stops.Left left)) stack s = o ≡ on (passing (left_of left) []) s
Comes n o (Err stops.Want) stack s = Unit {0}

-- a step comes to where the run stands next, or ends it
pub record Stands (n : Table) (o : Outcome Config) (r : Result Standing Stop) (stack : List Waiting) (s : outcome.State) : Type 0 where
  pub comes : Comes n o r stack s

abbrev pub meaning_of : Meaning → meaning.Meaning
meaning_of m = record { trace = map event_of m.trace.items; answer = answer_of m.answer }

-- the answer with the events is what the program means, where the run began in this state
abbrev pub Means : program.Program → (first : outcome.State) → event.Answer → (last : outcome.State) → Type 0
Means p first answer last = (begins : List Evaluation) (input : List ℕ) (budget : ℕ) →
    first ≡ start p begins input budget → mean p begins input budget ≡ record { trace = reverse last.trace; answer = answer }

abbrev pub settled_from : List task.Frame → Outcome task.Next → Outcome Config
settled_from frames o = after o (λ n. gives (placed frames n)) (λ e. gives (passing (task.thrown e) frames))

-- what a run without frames has come to
abbrev pub left_outcome : task.Left → Does Value
left_outcome (task.given g) = on_value g gives
left_outcome (task.thrown e) = throws e
