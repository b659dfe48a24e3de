-- Which runs a program permits, whole or cut at a limit of steps: this project's own, as is the factor between the steps of a machine and the units of the budget.
use Rattle.std.specs.Prelude.{◌≡◌, ◌≢◌, ℕ, ◌+◌, ◌-◌, ◌*◌, ◌/◌, ◌<◌, ◌≤◌, List, ◌++◌, take, length}
use Rattle.std.specs.List.{All}
use Rattle.cx_core.specs.Words.{Ending, StepsSpent}
use Rattle.cx_core.specs.Program.{Program}
use Rattle.cx_core.specs.Event.{Event, ended, going, not_a_run, begins_of}
use Rattle.cx_core.specs.Meaning.{Meaning, mean}

abbrev pub IsPrefix : List Event → List Event → Type 0
IsPrefix events of = (rest : List Event) × (events ++ rest ≡ of)

abbrev pub factor : ℕ
factor = 64

-- what the evaluations of a journal mean under a budget
abbrev pub meant : Program → List ℕ → List Event → ℕ → Meaning
meant program input journal budget = mean program (begins_of journal) input budget

-- a run of n steps that ended
abbrev pub IsRun : Program → List ℕ → List Event → Ending → ℕ → Type 0
IsRun program input journal ending n =
    meant program input journal (factor * (n + 1)) ≡ record { trace = journal; answer = ended ending }

-- a run came to this journal within n steps, or sooner
abbrev pub IsBegun : Program → List ℕ → List Event → ℕ → Type 0
IsBegun program input journal n =
    let m = meant program input journal (factor * (n + 1)) in
    IsPrefix journal m.trace × (m.answer ≢ not_a_run)

-- a run of n steps that was cut: it is begun, and it really got that far
abbrev pub IsCutRun : Program → List ℕ → List Event → ℕ → Type 0
IsCutRun program input journal n =
    let m = meant program input journal (n / factor - 1) in
    IsBegun program input journal n × (m.answer ≡ going) × IsPrefix m.trace journal

-- the first k events of a journal are those that a run of n steps may have
abbrev pub IsRightUpTo : Program → List ℕ → List Event → ℕ → ℕ → Type 0
IsRightUpTo program input journal n k = IsPrefix (take k journal) (meant program input journal (factor * (n + 1))).trace

-- the length of a journal's longest prefix that a run of n steps may have
abbrev pub IsLongestRight : Program → List ℕ → List Event → ℕ → ℕ → Type 0
IsLongestRight program input journal n k =
    (k ≤ length journal) × IsRightUpTo program input journal n k
    × ((more : ℕ) → k < more → more ≤ length journal → IsRightUpTo program input journal n more → ⊥)

-- what a machine answers on an input within a limit of steps
pub record MachineRun : Type 0 where
  pub journal : List Event
  pub ending : Ending
  pub steps : ℕ

abbrev pub IsPermitted : Program → List ℕ → ℕ → List Event → ℕ → Ending → Type 0
IsPermitted program input limit journal steps StepsSpent = IsCutRun program input journal limit
IsPermitted program input limit journal steps ending = IsRun program input journal ending steps

abbrev pub AreBytes : List ℕ → Type 0
AreBytes input = All (λ b. b < 256) input

-- whatever the bytes of the input and the limit, the machine's run is one that the program permits
abbrev pub IsFaithful : (List ℕ → ℕ → MachineRun) → Program → Type 0
IsFaithful machine program =
    (input : List ℕ) (limit : ℕ) → AreBytes input → 0 < limit →
    let run = machine input limit in
    IsPermitted program input limit run.journal run.steps run.ending
