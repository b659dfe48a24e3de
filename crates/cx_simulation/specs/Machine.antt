-- A machine as far as a simulation sees it: configurations, and a step that appends at most one event. This is this project's own.
use Rattle.std.specs.Prelude.{◌≡◌, ℕ, zero, suc, ◌+◌, List, [], ◌∷◌, reverse, Option, Some, None}
use Rattle.cx_core.specs.Words.{Ending, StepsSpent}
use Rattle.cx_core.specs.Event.{Evaluation, Event, begin}
use Rattle.cx_core.specs.Runs.{MachineRun}

-- what a step comes to, with the event that it appends
pub data Progress (C : Type 0) : Type 0 where
  goes : C → Option Event → Progress C
  halts : Ending → Option Event → Progress C

-- the events so far, the latest first
abbrev pub noted : Option Event → List Event → List Event
noted None trace = trace
noted (Some event) trace = event ∷ trace

abbrev pub begun : Option Event → List Evaluation → List Evaluation
begun (Some (begin e)) more = e ∷ more
begun event more = more

-- what several steps come to
pub data Came (C : Type 0) : Type 0 where
  spent : C → List Event → Came C
  halted : Ending → List Event → Came C

module _ {C : Type 0} (step : C → Progress C) where
  abbrev pub onwards : {A : Type 0} → Progress C → List Event → (C → List Event → A) → (Ending → List Event → A) → A
  onwards (goes d event) trace more end = more d (noted event trace)
  onwards (halts ending event) trace more end = end ending (noted event trace)

  -- so many steps, or fewer where the machine halts
  unfoldable pub exec : ℕ → C → List Event → Came C
  exec zero c trace = spent c trace
  exec (suc n) c trace = onwards (step c) trace (exec n) halted

  -- so many steps lead from the one configuration to the other, with what was appended
  abbrev pub Takes : C → List Event → ℕ → C → List Event → Type 0
  Takes c trace j d after = (k : ℕ) → exec (j + k) c trace ≡ exec k d after

  abbrev pub ahead : Progress C → (C → List Evaluation) → List Evaluation
  ahead (goes d event) more = begun event (more d)
  ahead (halts ending event) more = begun event []

  -- the evaluations that the next steps begin
  unfoldable pub begins_ahead : ℕ → C → List Evaluation
  begins_ahead zero c = []
  begins_ahead (suc n) c = ahead (step c) (begins_ahead n)

  -- the run of at most so many steps, behind so many that were taken
  unfoldable pub run_from : ℕ → C → List Event → ℕ → MachineRun
  run_from zero c trace taken = record { journal = reverse trace; ending = StepsSpent; steps = taken }
  run_from (suc n) c trace taken =
      onwards (step c) trace (λ d after. run_from n d after (suc taken)) (λ ending after. record { journal = reverse after; ending = ending; steps = suc taken })
