-- Laws that the meaning of every program has: this project's own.
use Rattle.std.specs.Prelude.{◌≡◌, ◌≢◌, ℕ, ◌+◌, ◌<◌, List, [], ◌∷◌, ◌++◌}
use Rattle.cx_core.specs.Program.{Program}
use Rattle.cx_core.specs.Store.{Value, Store}
use Rattle.cx_core.specs.Event.{Evaluation, Event, going, begins_of, inputs_of}
use Rattle.cx_core.specs.Outcome.{State, Outcome, on, thrown, over}
use Rattle.cx_core.specs.Leaving.{Call}
use Rattle.cx_core.specs.Meaning.{mean, calls_within, start}

-- the evaluations that a run begins are the first of those that are told
abbrev pub BeginsAreTheFirstTold : Type 0
BeginsAreTheFirstTold =
    (program : Program) (begins : List Evaluation) (input : List ℕ) (budget : ℕ) →
    (rest : List Evaluation) × (begins_of (mean program begins input budget).trace ++ rest ≡ begins)

-- the bytes that a run reads are the first of the input
abbrev pub InputIsReadInOrder : Type 0
InputIsReadInOrder =
    (program : Program) (begins : List Evaluation) (input : List ℕ) (budget : ℕ) →
    (rest : List ℕ) × (inputs_of (mean program begins input budget).trace ++ rest ≡ input)

-- without budget nothing is said
abbrev pub NoBudgetSaysNothing : Type 0
NoBudgetSaysNothing =
    (program : Program) (begins : List Evaluation) (input : List ℕ) → mean program begins input 0 ≡ record { trace = []; answer = going }

-- an answer that isn't for want of budget stays under a larger one, and the events with it
abbrev pub LargerBudgetChangesNoEnding : Type 0
LargerBudgetChangesNoEnding =
    (program : Program) (begins : List Evaluation) (input : List ℕ) (budget more : ℕ) →
    (mean program begins input budget).answer ≢ going →
    mean program begins input (budget + more) ≡ mean program begins input budget

-- under a larger budget the events go on
abbrev pub LargerBudgetOnlyAddsEvents : Type 0
LargerBudgetOnlyAddsEvents =
    (program : Program) (begins : List Evaluation) (input : List ℕ) (budget more : ℕ) →
    (rest : List Event) × ((mean program begins input budget).trace ++ rest ≡ (mean program begins input (budget + more)).trace)

-- no object of the store has this number
abbrev pub IsFree : ℕ → Store → Type 0
IsFree n [] = Unit {0}
IsFree n (object ∷ store) = (object.number ≢ n) × IsFree n store

-- the numbers of the objects differ, and are below the next one
abbrev pub IsNumbered : ℕ → Store → Type 0
IsNumbered next [] = Unit {0}
IsNumbered next (object ∷ store) = (object.number < next) × (IsFree object.number store × IsNumbered next store)

-- of the state where a part of a run goes on or throws
abbrev pub LeavesNumbered : Outcome Value → Type 0
LeavesNumbered (on v s) = IsNumbered s.next s.store
LeavesNumbered (thrown e s) = IsNumbered s.next s.store
LeavesNumbered (over answer trace) = Unit {0}

-- a run starts with its objects numbered so, and every call leaves them so
abbrev pub ObjectsStayNumbered : Type 0
ObjectsStayNumbered =
    ((program : Program) (begins : List Evaluation) (input : List ℕ) (budget : ℕ) →
    IsNumbered (start program begins input budget).next (start program begins input budget).store)
    × ((program : Program) (depth : ℕ) (call : Call) (s : State) → IsNumbered s.next s.store → LeavesNumbered (calls_within program depth call s))
