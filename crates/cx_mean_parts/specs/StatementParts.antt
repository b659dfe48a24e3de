-- Parts of the steps of statements and handlers that have functions of their own here.
use Rattle.std.specs.Prelude.{ℕ, List, [], ◌∷◌}
use Rattle.cx_core.specs.Program.{Program}
use Rattle.cx_core.specs.Event as event
use Rattle.cx_core.specs.Outcome.{Exception, Does, ◌>>=◌, ◌>>◌, gives, throws, current_living, set_living, current_held, set_held, append}
use Rattle.cx_core.specs.Statements.{type_name, rethrow_of, rethrown}
use Rattle.cx_plain.specs.Task as task
use Rattle.cx_plain.specs.Task.{Level, Loop, Frame, Next}
use Rattle.cx_plain.specs.Step.{answered, no_calls, after_turn_task}

abbrev pub after_turn : Level → Loop → ℕ → Does Next
after_turn level loop n = gives (after_turn_task level loop n loop.step)

module _ (program : Program) where
  -- a handler takes an exception: the frames that leave its scope and let go of the exception
  abbrev pub caught : Level → Exception → Does (List Frame)
  caught level e = do
    append (event.catch (type_name program e.type))
    held ← current_held
    set_held (e ∷ held)
    outer ← current_living
    set_living []
    gives (task.leaving_scope level outer ∷ task.holding level e held ∷ [])

  -- an exception that is held flies again
  abbrev pub flown : Exception → Does Next
  flown e = answered task.completion (append (event.throw (type_name program e.type)) >> throws e)

  abbrev pub innermost_flown : Does Next
  innermost_flown = answered task.completion (current_held >>= rethrow_of program no_calls)

  abbrev pub flown_again : Does Next
  flown_again = answered task.completion (rethrown program no_calls)
