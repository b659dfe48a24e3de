-- What is opened and left again: scopes, full-expressions, constructions, units, handlers; each with the frame that leaves it.
use Rattle.std.proofs.Common.{◌≡◌, refl, sym, ◌∙◌, ℕ, List, [], ◌∷◌, Option, Some, None}
use Rattle.cx_core.specs.Program.{Program}
use Rattle.cx_core.specs.Store.{Value, number, address, null, function, violation}
use Rattle.cx_core.specs.Outcome.{Exception, Living, Frame as ActiveFrame, Does, Nothing, Outcome, on, thrown, over, after, either, ◌>>=◌, ◌>>◌, gives, throws, ends, some, undone_by, current_frame, set_frame, current_living, set_living, current_temporaries, set_temporaries, current_held, set_held, place_of}
use Rattle.cx_core.specs.Leaving.{end_each, scope, full_expression, constructing, within, holding, end_unless_among}
use Rattle.cx_core.specs.Operators.{named}
use Rattle.cx_core.specs.Calls.{function_held}
use Rattle.cx_plain.specs.Task as task
use Rattle.cx_plain.specs.Task.{Level, Frame, Next}
use Rattle.cx_plain.specs.Step as step
use Rattle.cx_plain.proofs.Flow.{flow, finally_flow, undone_flow}
use Rattle.cx_plain.proofs.Denoted.{Rest, at, leaves_full, leaves_scope, next_means}

-- a part that no exception leaves: what would follow one makes no difference
abbrev pub IsSteady : {A : Type 0} → Does A → Type 0
IsSteady {A} m = (F : A → Does Value) (H J : Exception → Does Value) → either m F H ≡ either m F J

pub steady_some : {A : Type 0} (o : Option A) → IsSteady (some o)
unfolding either gives ends
steady_some (Some a) F H J = refl
steady_some None F H J = refl

pub steady_place_of : (v : Value) → IsSteady (place_of v)
unfolding either gives ends
steady_place_of (number n) F H J = refl
steady_place_of (address a) F H J = refl
steady_place_of null F H J = refl
steady_place_of (function f) F H J = refl
steady_place_of (violation v) F H J = refl

pub steady_function_held : (v : Value) → IsSteady (function_held v)
unfolding either gives ends
steady_function_held (number n) F H J = refl
steady_function_held (address a) F H J = refl
steady_function_held null F H J = refl
steady_function_held (function f) F H J = refl
steady_function_held (violation v) F H J = refl

pub steady_then : {A B : Type 0} (m : Does A) (f : A → Does B) → IsSteady m → ((a : A) → IsSteady (f a)) → IsSteady (m >>= f)
steady_then m f h g F H J =
    flow m f F H ∙ (λ i. either m (λ a. g a F H J i) H) ∙ h (λ a. either (f a) F J) H J ∙ sym (flow m f F J)

pub steady_frame : IsSteady current_frame
unfolding either current_frame
steady_frame F H J = refl

pub steady_named : (slot : ℕ) → IsSteady (named slot)
steady_named slot = steady_then current_frame _ steady_frame (λ frame. steady_some _)

-- where the same steady part comes first and what follows is the same, all is the same
pub both_steady : {A B D : Type 0} (m : Does A) → IsSteady m
    → (f : A → Does B) (f' : A → Does D) (N : B → Does Value) (M : D → Does Value) (H J : Exception → Does Value)
    → ((a : A) → either (f a) N H ≡ either (f' a) M J) → either (m >>= f) N H ≡ either (m >>= f') M J
both_steady m st f f' N M H J h = flow m f N H ∙ (λ i. either m (λ a. h a i) H) ∙ st _ H J ∙ sym (flow m f' M J)

leaving_after : {A : Type 0} (o : Outcome A) (l1 : Does Nothing) (l2 : Exception → Does Nothing) (N : A → Does Value) (H : Exception → Does Value)
    → after (after o (λ a. l1 >> gives a) (λ e. l2 e >> throws e)) N H ≡ after o (λ a. either l1 (λ _. N a) H) (λ e. either (l2 e) (λ _. H e) H)
unfolding either gives throws
leaving_after (on a s) l1 l2 N H = λ i. flow l1 (λ _. gives a) N H i s
leaving_after (thrown e s) l1 l2 N H = λ i. flow (l2 e) (λ _. throws e) N H i s
leaving_after (over answer trace) l1 l2 N H = refl

module _ (program : Program) (level : Level) {A : Type 0} (m : Does A) (N : A → Does Value) (H : Exception → Does Value)
    (next : Frame → Does Next) (k : Rest) where
  pub open_scope : ((outer : List Living)
      → either m (λ a. either (leaves_scope program level outer) (λ _. N a) H) (λ e. either (leaves_scope program level outer) (λ _. H e) H)
      ≡ either (next (task.leaving_scope level outer)) (λ n. next_means program n k) k.on_thrown)
      → either (scope program (at program level) m) N H ≡ either (step.in_scope program level next) (λ n. next_means program n k) k.on_thrown
  unfolding either gives throws current_living set_living
  open_scope h = λ i s. (finally_flow m (leaves_scope program level s.living) N H ∙ h s.living) i (record s { living = [] })

  pub open_full : ((outer : List Living)
      → either m (λ a. either (leaves_full program level outer) (λ _. N a) H) (λ e. either (leaves_full program level outer) (λ _. H e) H)
      ≡ either (next (task.leaving_full level outer)) (λ n. next_means program n k) k.on_thrown)
      → either (full_expression program (at program level) m) N H ≡ either (step.in_full_expression program level next) (λ n. next_means program n k) k.on_thrown
  unfolding either gives throws current_temporaries set_temporaries
  open_full h = λ i s. (finally_flow m (leaves_full program level s.temporaries) N H ∙ h s.temporaries) i (record s { temporaries = [] })

  abbrev pub ends_fields : Does Nothing
  ends_fields = current_living >>= end_each program (at program level)

  pub open_construction : ((outer : List Living)
      → either m (λ a. either (set_living outer) (λ _. N a) H)
      (λ e. either ends_fields (λ _. either (set_living outer) (λ _. H e) H) (λ x. either (set_living outer) (λ _. H x) H))
      ≡ either (next (task.constructing level outer)) (λ n. next_means program n k) k.on_thrown)
      → either (constructing program (at program level) m) N H ≡ either (step.in_construction program level next) (λ n. next_means program n k) k.on_thrown
  unfolding either gives throws current_living set_living
  open_construction h = λ i s.
      (finally_flow (undone_by m ends_fields) (set_living s.living) N H ∙ undone_flow m ends_fields _ _ ∙ h s.living) i (record s { living = [] })

  pub open_unit : (unit : ℕ) → ((frame : ActiveFrame)
      → either m (λ a. either (set_frame frame) (λ _. N a) H) (λ e. either (set_frame frame) (λ _. H e) H) ≡ either (next (task.within frame)) (λ n. next_means program n k) k.on_thrown)
      → either (current_frame >>= (λ frame. within (record frame { unit = unit }) m)) N H ≡ either (step.in_unit program unit next) (λ n. next_means program n k) k.on_thrown
  unfolding either gives throws current_frame set_frame
  open_unit unit h = λ i s. (finally_flow m (set_frame s.frame) N H ∙ h s.frame) i (record s { frame = record s.frame { unit = unit } })

  pub open_holding : (e : Exception) → ((held : List Exception)
      → either m (λ a. either (set_held held >> end_unless_among program (at program level) e held) (λ _. N a) H)
      (λ x. either (set_held held >> end_unless_among program (at program level) e (x ∷ held)) (λ _. H x) H)
      ≡ either (next (task.holding level e held)) (λ n. next_means program n k) k.on_thrown)
      → either (holding program (at program level) e m) N H ≡ either (step.in_handler program level e next) (λ n. next_means program n k) k.on_thrown
  unfolding either gives throws current_held set_held
  open_holding e h = λ i s. (holding_flow m s.held ∙ h s.held) i (record s { held = e ∷ s.held })
    where
      holding_flow : (m : Does A) (held : List Exception)
          → either (either m (λ a. set_held held >> end_unless_among program (at program level) e held >> gives a)
          (λ x. set_held held >> end_unless_among program (at program level) e (x ∷ held) >> throws x)) N H
          ≡ either m (λ a. either (set_held held >> end_unless_among program (at program level) e held) (λ _. N a) H)
          (λ x. either (set_held held >> end_unless_among program (at program level) e (x ∷ held)) (λ _. H x) H)
      holding_flow m held = λ i s. leaving_after (m s) (set_held held >> end_unless_among program (at program level) e held)
          (λ x. set_held held >> end_unless_among program (at program level) e (x ∷ held)) N H i
