-- How parts that follow each other come to an answer.
use Rattle.std.proofs.Common.{◌≡◌, Result, Ok, Err, refl}
use Rattle.cx_core.specs.Outcome.{Outcome, State, Exception, Does, either, gives, throws, ends}
use Rattle.cx_plain_state.specs.declared.answer.Halt.{Halt}
use Rattle.cx_plain_state.specs.declared.answer.Halt.TheVariants.{Thrown, Over, Want}
use Rattle.cx_plain_state.specs.declared.answer.Exception as rust
use Rattle.cx_plain_state.specs.declared.answer.Answer as rust_answer
use Rattle.cx_plain_state.specs.Seen.{exception_of, answer_of}
use Rattle.cx_plain_state.specs.Ran.{Ran, Stops}

pub ran-then : {T U A B : Type 0} {f : T → A} {g : U → B} (m : Does A) (next : A → Does B) (h : Exception → Does B) {a : T} {r : Result U Halt} {s s1 s2 : State} →
    Ran f (m s) (Ok a) s1 → Ran g (next (f a) s1) r s2 → Ran g (either m next h s) r s2
unfolding either
ran-then m next h p q = record { comes = rw p.comes q.comes }

pub ran-want : {U B : Type 0} {g : U → B} {o : Outcome B} {s : State} → Ran g o (Err Want) s
ran-want = record { comes = tt {0} }

-- ---- a part is left without a value, whatever its values stand for

pub record Halts {A : Type 0} (o : Outcome A) (halt : Halt) (s : State) : Type 0 where
  pub stops : Stops o halt s

pub ran-halts : {U B : Type 0} {g : U → B} {o : Outcome B} {halt : Halt} {s : State} → Halts o halt s → Ran g o (Err halt) s
ran-halts p = record { comes = p.stops }

pub halts-ran : {T A : Type 0} {f : T → A} {o : Outcome A} {halt : Halt} {s : State} → Ran f o (Err halt) s → Halts o halt s
halts-ran p = record { stops = p.comes }

pub halts-then : {T A B : Type 0} {f : T → A} (m : Does A) (next : A → Does B) (h : Exception → Does B) {a : T} {halt : Halt} {s s1 s2 : State} →
    Ran f (m s) (Ok a) s1 → Halts (next (f a) s1) halt s2 → Halts (either m next h s) halt s2
unfolding either
halts-then m next h p q = record { stops = rw p.comes q.stops }

-- where no handler waits it passes by
pub halts-passes : {A B : Type 0} (m : Does A) (next : A → Does B) {halt : Halt} {s s1 : State} →
    Halts (m s) halt s1 → Halts (either m next throws s) halt s1
unfolding either throws
halts-passes m next {halt = Thrown e} p = record { stops = rw p.stops refl }
halts-passes m next {halt = Over answer} p = record { stops = rw p.stops refl }
halts-passes m next {halt = Want} p = record { stops = tt {0} }

-- ----

pub ran-gives : {T A : Type 0} {f : T → A} {a : T} {s : State} (b : A) → b ≡ f a → Ran f (gives b s) (Ok a) s
unfolding gives
ran-gives b p = record { comes = rw p refl }

pub ran-throws : {T A : Type 0} {f : T → A} {e : rust.Exception} {s : State} → Ran f (throws (exception_of e) s) (Err (Thrown e)) s
unfolding throws
ran-throws = record { comes = refl }

pub ran-ends : {T A : Type 0} {f : T → A} {answer : rust_answer.Answer} {s : State} → Ran f (ends (answer_of answer) s) (Err (Over answer)) s
unfolding ends
ran-ends = record { comes = refl }

pub ruleset ran = (ran-then, ran-halts, halts-ran, halts-then, halts-passes, ran-want, ran-gives, ran-throws, ran-ends)
