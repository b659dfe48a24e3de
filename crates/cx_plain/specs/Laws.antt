-- What the machine for the meaning comes to is what the program means; this project's own.
use Rattle.std.specs.Prelude.{◌≡◌, ℕ, List, []}
use Rattle.cx_core.specs.Program.{Program}
use Rattle.cx_core.specs.Store.{Value}
use Rattle.cx_core.specs.Event.{Evaluation, Event, Answer}
use Rattle.cx_core.specs.Outcome.{State, Exception, on, thrown as thrown', over}
use Rattle.cx_core.specs.Meaning.{mean, meaning_of, start}
use Rattle.cx_plain.specs.Task as task
use Rattle.cx_plain.specs.Task.{given, thrown}
use Rattle.cx_plain.specs.Run.{passing, steps_from, first}

-- after some steps from the call of `main` the value of `main` is left, and no frame
abbrev pub ValueIsTheMeaning : Type 0
ValueIsTheMeaning =
    (program : Program) (begins : List Evaluation) (input : List ℕ) (budget n : ℕ) (v : Value) (s : State) →
    steps_from program n (first program) (start program begins input budget) ≡ on (passing (given (task.value v)) []) s →
    mean program begins input budget ≡ meaning_of (on v s)

-- an exception that left `main` is left, and no frame
abbrev pub ExceptionIsTheMeaning : Type 0
ExceptionIsTheMeaning =
    (program : Program) (begins : List Evaluation) (input : List ℕ) (budget n : ℕ) (e : Exception) (s : State) →
    steps_from program n (first program) (start program begins input budget) ≡ on (passing (thrown e) []) s →
    mean program begins input budget ≡ meaning_of (thrown' e s)

-- a step has ended the run
abbrev pub EndIsTheMeaning : Type 0
EndIsTheMeaning =
    (program : Program) (begins : List Evaluation) (input : List ℕ) (budget n : ℕ) (answer : Answer) (trace : List Event) →
    steps_from program n (first program) (start program begins input budget) ≡ over answer trace →
    mean program begins input budget ≡ meaning_of (over answer trace)
