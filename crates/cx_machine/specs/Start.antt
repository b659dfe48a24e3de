-- This defines what is there before the first step of a run; it is this project's own.
use Rattle.std.specs.Prelude.{◌≡◌, ◌+◌, length, ⊤}
use Rattle.cx_code.specs.declared.image.Image.{Image}
use Rattle.cx_code.specs.declared.run.Cause.{Cause}
use Rattle.cx_code.specs.declared.run.Cause.TheVariants as causes
use Rattle.cx_code.specs.Store.{Store}
use Rattle.cx_code.specs.State.{initial}
use Rattle.cx_frame.specs.Stores.{IsSmall}
use Rattle.cx_machine.specs.declared.state.Machine.{Machine}
use Rattle.cx_machine.specs.States.{state_of, IsCounted, IsTold}

-- the input isn't read for want of memory, or where a read failed
abbrev pub IsReadCause : Cause → Type 0 → Type 0
IsReadCause causes.NoMemory input_rose = ⊤
IsReadCause causes.Read input_rose = input_rose
IsReadCause causes.Out input_rose = ⊥
IsReadCause causes.Err input_rose = ⊥

-- the machine and its memory before the first step
pub record IsStarted (image : Image) (machine : Machine) (store : Store) : Type 0 where
  pub state : state_of machine store ≡ initial image machine.input
  pub counted : IsCounted image machine
  pub told : IsTold machine
  pub small : IsSmall store
  pub next : store.next ≡ 1 + length image.globals
  pub thrown : machine.thrown ≡ 0
