-- A part that is left without a value leaves what it is a part of.
use Rattle.std.proofs.Common.{Err, refl}
use Rattle.cx_core.specs.Outcome.{Outcome, Does, after, throws}
use Rattle.cx_plain_state.specs.declared.answer.Halt.{Halt}
use Rattle.cx_plain_state.specs.declared.answer.Halt.TheVariants.{Thrown, Over, Want}
use Rattle.cx_core.specs.Outcome as outcome
use Rattle.cx_plain_state.specs.Ran.{Ran}

pub passes : {T U A B : Type 0} {f : T → A} {g : U → B} {o : Outcome A} (next : A → Does B) {halt : Halt} {s : outcome.State} →
    Ran f o (Err halt) s → Ran g (after o next throws) (Err halt) s
unfolding throws
passes next {halt = Thrown e} p = record { comes = rw p.comes refl }
passes next {halt = Over answer} p = record { comes = rw p.comes refl }
passes next {halt = Want} p = record { comes = tt {0} }
