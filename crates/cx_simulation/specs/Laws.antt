-- A machine that is followed by a program has only runs that the program permits; this project's own.
use Rattle.std.specs.Prelude.{◌≡◌, ℕ, ◌+◌, ◌*◌, ◌≤◌, List, [], reverse}
use Rattle.cx_core.specs.Program.{Program}
use Rattle.cx_core.specs.Event.{Event, Answer, ended, going, waiting, not_a_run}
use Rattle.cx_core.specs.Meaning.{mean}
use Rattle.cx_core.specs.Runs.{AreBytes, IsFaithful}
use Rattle.cx_code.specs.declared.image.Image.{Image}
use Rattle.cx_code.specs.State.{initial}
use Rattle.cx_simulation.specs.Machine.{Progress, halted, exec, Takes, begins_ahead}
use Rattle.cx_simulation.specs.ImageMachine.{image_step, image_run}

-- a unit of the budget pays for so many steps, half of what a run may take
abbrev pub pay : ℕ
pay = 32

-- how much later than its last unit a run may end
abbrev pub lag : ℕ
lag = 63

module _ {C : Type 0} (step : C → Progress C) where
  -- a whole run from c, told the evaluations of its next n steps, against what the meaning says of it under a budget
  abbrev pub Whole : ℕ → C → ℕ → List Event → Answer → Type 0
  Whole n c budget trace (ended ending) = (j : ℕ) × (exec step j c [] ≡ halted ending trace) × (j ≤ pay * budget + lag)
  Whole n c budget trace going = (j : ℕ) × (d : C) × Takes step c [] j d trace × (budget ≤ j + 1) × (j ≤ pay * budget + lag)
  Whole n c budget trace waiting = (j : ℕ) × (d : C) × Takes step c [] j d trace × (n ≤ j) × (j ≤ pay * budget + lag)
  Whole n c budget trace not_a_run = ⊥

  -- the machine at c is followed by the program on an input, under each budget and for each number of steps that are told
  abbrev pub IsFollowed : Program → List ℕ → C → Type 0
  IsFollowed program input c =
      (n budget : ℕ) → let m = mean program (begins_ahead step n c) input budget in
      (trace : List Event) × (m.trace ≡ reverse trace) × Whole n c budget trace m.answer

-- an image whose machine is followed on each input is faithful to the program
abbrev pub FollowedRunsArePermitted : Type 0
FollowedRunsArePermitted =
    (image : Image) (program : Program)
    → ((input : List ℕ) → AreBytes input → IsFollowed (image_step image) program input (initial image input))
    → IsFaithful (image_run image) program
