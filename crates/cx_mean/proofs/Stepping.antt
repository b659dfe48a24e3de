-- How the steps of this program follow the machine's, and keep what is left to come to the meaning.
use Rattle.std.proofs.Common.{◌≡◌, List, [], ◌∷◌, ◌++◌, map, reverse, refl, ap, ◌∙◌}
use Rattle.std.proofs.lemmas.List.{map-append, reverse-append}
use Rattle.cx_core.specs.Program.{Program}
use Rattle.cx_core.specs.Event.{Event, Answer}
use Rattle.cx_core.specs.Outcome.{State, on, over}
use Rattle.cx_core.specs.Meaning.{Meaning, meaning_of}
use Rattle.cx_mean_parts.specs.Seen.{Table}
use Rattle.cx_plain.specs.Task as task
use Rattle.cx_plain.specs.Run.{Config, passing, step_config}
use Rattle.cx_plain.proofs.Runs.{config_means, step_means, step_is_over}
use Rattle.cx_mean_parts.specs.declared.waiting.Waiting.{Waiting}
use Rattle.cx_mean_parts.specs.Frames.{frames_of, waiting_of}
use Rattle.cx_mean.specs.Runs.{left_outcome}

-- the last of the frames is the innermost
pub frames-popped : (n : Table) (frames rest : List Waiting) (f : Waiting) → frames ≡ rest ++ f ∷ [] → frames_of n frames ≡ waiting_of n f ∷ frames_of n rest
frames-popped n frames rest f h =
    ap (frames_of n) h ∙ ap reverse (map-append (waiting_of n) rest (f ∷ [])) ∙ reverse-append (map (waiting_of n) rest) (waiting_of n f ∷ [])

pub mean_goes_on : (p : Program) (m : Meaning) (c d : Config) (s t : State) →
    m ≡ meaning_of (config_means p c s) → step_config p c s ≡ on d t → m ≡ meaning_of (config_means p d t)
mean_goes_on p m c d s t q h = q ∙ ap meaning_of (step_means p c d s t h)

pub mean_is_over : (p : Program) (m : Meaning) (c : Config) (s : State) (answer : Answer) (trace : List Event) →
    m ≡ meaning_of (config_means p c s) → step_config p c s ≡ over answer trace → m ≡ record { trace = reverse trace; answer = answer }
mean_is_over p m c s answer trace q h = q ∙ ap meaning_of (step_is_over p c answer s trace h)

left_is : (p : Program) (left : task.Left) (s : State) → config_means p (passing left []) s ≡ left_outcome left s
left_is p (task.given g) s = refl
left_is p (task.thrown e) s = refl

pub mean_is_left : (p : Program) (m : Meaning) (c : Config) (s t : State) (left : task.Left) →
    m ≡ meaning_of (config_means p c s) → step_config p c s ≡ on (passing left []) t → m ≡ meaning_of (left_outcome left t)
mean_is_left p m c s t left q h = mean_goes_on p m c (passing left []) s t q h ∙ ap meaning_of (left_is p left t)
