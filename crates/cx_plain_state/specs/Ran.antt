-- That what a function of this program answers is what a part of the meaning comes to; this project's own.
use Rattle.std.specs.Prelude.{◌≡◌, List, map, Result, Ok, Err}
use Rattle.cx_core.specs.Store as store
use Rattle.cx_core.specs.Outcome.{Outcome, on, thrown, over, State, Nothing, nothing}
use Rattle.cx_plain_state.specs.declared.value.Value.{Value}
use Rattle.cx_plain_state.specs.declared.answer.Halt.{Halt}
use Rattle.cx_plain_state.specs.declared.answer.Halt.TheVariants.{Thrown, Over, Want}
use Rattle.cx_core.specs.Words.{Kind, Undefined}
use Rattle.cx_plain_state.specs.declared.answer.Answer.TheVariants.{Ended}
use Rattle.cx_plain_state.specs.Seen.{value_of, exception_of, answer_of}

-- how a part is left without a value; nothing is claimed where memory or the native stack was wanting
abbrev pub Stops : {A : Type 0} → Outcome A → Halt → State → Type 0
Stops o (Thrown e) s = o ≡ thrown (exception_of e) s
Stops o (Over answer) s = o ≡ over (answer_of answer) s.trace
Stops o Want s = Unit {0}

abbrev pub Comes : {T A : Type 0} → (T → A) → Outcome A → Result T Halt → State → Type 0
Comes seen o (Ok v) s = o ≡ on (seen v) s
Comes seen o (Err halt) s = Stops o halt s

-- a part of the meaning comes to this answer in this state
pub record Ran {T A : Type 0} (seen : T → A) (o : Outcome A) (r : Result T Halt) (s : State) : Type 0 where
  pub comes : Comes seen o r s

abbrev pub itself : {T : Type 0} → T → T
itself v = v

abbrev pub unit_of : {T : Type 0} → T → Nothing
unit_of v = nothing

abbrev pub values_of : List Value → List store.Value
values_of vs = map value_of vs

abbrev pub undefined_halt : Kind → Halt
undefined_halt kind = Over (Ended (Undefined kind))
