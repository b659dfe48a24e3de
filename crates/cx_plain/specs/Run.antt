-- A run of the machine for the meaning: steps from the call of `main` on.
use Rattle.std.specs.Prelude.{ℕ, zero, suc, List, [], ◌∷◌, ◌++◌}
use Rattle.cx_core.specs.Program.{Program}
use Rattle.cx_core.specs.Store.{Value}
use Rattle.cx_core.specs.Event.{Evaluation}
use Rattle.cx_core.specs.Outcome.{Exception, Does, either, ◌>>=◌, gives, throws}
use Rattle.cx_core.specs.Meaning.{main_call, depth_limit}
use Rattle.cx_plain.specs.Task as task
use Rattle.cx_plain.specs.Task.{Left, given, thrown, Task, Frame, Next, go}
use Rattle.cx_plain.specs.Step.{on_value, step_task, step_given, step_thrown}

-- where a run stands: a task is done, or what one gave or threw is passed on, under these frames
pub data Config : Type 0 where
  running : Task → List Frame → Config
  passing : Left → List Frame → Config

abbrev pub placed : List Frame → Next → Config
placed frames (task.give g) = passing (given g) frames
placed frames (go t more) = running t (more ++ frames)

abbrev pub settled : List Frame → Does Next → Does Config
settled frames m = either m (λ n. gives (placed frames n)) (λ e. gives (passing (thrown e) frames))

module _ (program : Program) where
  abbrev pub step_config : Config → Does Config
  step_config (running t frames) = settled frames (step_task program t)
  step_config (passing left []) = gives (passing left [])
  step_config (passing (given g) (f ∷ frames)) = settled frames (step_given program f g)
  step_config (passing (thrown e) (f ∷ frames)) = settled frames (step_thrown program f e)

  unfoldable pub steps_from : ℕ → Config → Does Config
  steps_from zero c = gives c
  steps_from (suc n) c = step_config c >>= steps_from n

  abbrev pub first : Config
  first = running (task.counted depth_limit (main_call program)) []

  -- what a run without frames has come to; nothing is said of one that goes on
  abbrev pub value_of : Config → Does Value
  value_of (passing (given g) []) = on_value g gives
  value_of (passing (thrown e) []) = throws e
  value_of c = Rattle.cx_core.specs.Outcome.ends Rattle.cx_core.specs.Event.going
