-- Each step of a task keeps what the task means: calls, and all tasks together.
use Rattle.std.proofs.Common.{◌≡◌, refl, ◌∙◌, ℕ, zero, suc, ◌+◌, Bool, true, false, if◌then◌else◌, List, [], ◌∷◌, length}
use Rattle.std.specs.Prelude.{slice_get}
use Rattle.cx_core.specs.Words.{Definer}
use Rattle.cx_core.specs.Tree.{Check, Stmts, done}
use Rattle.cx_core.specs.Program.{Program, Function, FieldInit, Field, Body, ResultKind, void}
use Rattle.cx_core.specs.Program as parts
use Rattle.cx_core.specs.Store.{Value, null}
use Rattle.cx_core.specs.Event as event
use Rattle.cx_core.specs.Event.{destroyed}
use Rattle.cx_core.specs.Outcome.{State, Exception, Frame as ActiveFrame, Does, Nothing, either, ◌>>=◌, ◌>>◌, gives, throws, ends, some, edge, spend, append, current_frame, set_frame, current_living, set_living, place_of}
use Rattle.cx_core.specs.Leaving.{Call, scope, class_at, edge_if, destroy_fields}
use Rattle.cx_core.specs.Operators.{named}
use Rattle.cx_core.specs.Statements.{this_place}
use Rattle.cx_core.specs.Calls.{body, naming_result, destroy_result}
use Rattle.cx_core.specs.Meaning.{checked, evaluated, used, stmts, preconditions, postconditions, field_inits, function_call, constructor_call, destructor_call, reported, acting, active, numbered, unit_of, is_implicit_at, implicit_within, calls_within}
use Rattle.cx_plain.specs.Task as task
use Rattle.cx_plain.specs.Task.{Level, value, Task, Frame, Next, go}
use Rattle.cx_plain.specs.Step.{site_of, no_calls, step_task, step_acting, step_destructor, step_active, step_calling, step_counted, doing, in_construction}
use Rattle.cx_plain.proofs.Flow.{flow, both, edge_flow, edge_if_flow, finally_flow}
use Rattle.cx_plain.proofs.Denoted.{Rest, with_rest, valued_rest, at, task_means, under, next_means, Steps}
use Rattle.cx_plain.proofs.Opened.{open_scope, open_construction, IsSteady, steady_some, steady_place_of, steady_named, both_steady, steady_then}
use Rattle.cx_plain.proofs.ExpressionSteps.{expression_steps}
use Rattle.cx_plain.proofs.StatementSteps.{used_steps, initialise_steps, arguments_steps, call_of_steps, call_into_steps, evaluated_steps, declaring_steps, statement_steps, statements_steps, block_steps, handling_steps, testing_steps, looping_steps, turns_steps}
use Rattle.cx_plain.proofs.ObjectSteps.{evaluations_steps, checks_steps, edged_checks_steps, handling_violation_steps, before_steps, after_steps, caller_steps, construct_at_steps, destroying_steps, destroying_fields_steps, destroying_each_steps, ending_steps, ending_each_steps, making_steps, field_inits_steps, default_fields_steps, copying_fields_steps, copying_members_steps, copying_object_steps}

module _ (program : Program) where
  pub body_steps : (level : Level) (kind : ResultKind) (b : Stmts Check) (k : Rest)
      → Steps program (task_means program (task.body level kind b) k) (step_task program (task.body level kind b)) k
  unfolding either gives throws ends
  body_steps level kind b k = flow (scope program (at program level) (stmts program (at program level) b)) _ _ _
      ∙ open_scope program level _ _ _ (λ scope. doing (task.statements level b) (scope ∷ task.value_given kind ∷ [])) k (λ outer. refl)

  steady_this : IsSteady (this_place program no_calls)
  steady_this = steady_then (named 0) _ (steady_named 0) (λ v. steady_place_of v)

  -- ---- bodies

  -- what an acting body means, with the frames that are left behind it
  abbrev Acts : (level : Level) → Does Value → List Frame → Does Next → Rest → Type 0
  Acts level m frames next k = with_rest value m (under program frames k) ≡ either next (λ n. next_means program n k) k.on_thrown

  function_steps : (level : Level) (f : Function) (c : Call) (b : Stmts Check) (frames : List Frame) (k : Rest)
      → Acts level (edge_if f.noexcept (function_call program (at program level) f c b)) frames (step_acting program level (parts.function b) f c frames) k
  unfolding either gives throws ends
  function_steps level f c b frames k =
      edge_if_flow f.noexcept (function_call program (at program level) f c b) _ _
      ∙ flow (preconditions program (at program level) f c) _ _ _
      ∙ (λ i. either (preconditions program (at program level) f c) (λ _. flow (body program (at program level) f.result (stmts program (at program level) b)) (λ v.
      undone_by' v >> gives v) (λ v. (under program (task.edge_if f.noexcept ∷ frames) k).on_given (value v)) (under program (task.edge_if f.noexcept ∷ frames) k).on_thrown i)
      (under program (task.edge_if f.noexcept ∷ frames) k).on_thrown)
    where
      undone_by' : Value → Does Nothing
      undone_by' v = Rattle.cx_core.specs.Outcome.undone_by
          (naming_result program (at program level) f.result v (postconditions program (at program level) f c))
          (destroy_result program (at program level) f.result c.result)

  constructor_steps : (level : Level) (f : Function) (c : Call) (fields : List FieldInit) (b : Stmts Check) (frames : List Frame) (k : Rest)
      → Acts level (edge_if f.noexcept (constructor_call program (at program level) f c fields b)) frames (step_acting program level (parts.constructor fields b) f c frames) k
  unfolding either gives throws ends
  constructor_steps level f c fields b frames k =
      edge_if_flow f.noexcept (constructor_call program (at program level) f c fields b) _ _
      ∙ open_construction program level (preconditions program (at program level) f c >> after_it) _ _
      (λ constructing. doing (task.before level f (site_of c)) (
      task.then_next (task.field_inits level fields)
      ∷ task.then_next (task.block level b)
      ∷ task.then_next (task.after level f (site_of c))
      ∷ task.replace (value null)
      ∷ constructing
      ∷ task.edge_if f.noexcept
      ∷ frames)) k (λ outer. chain (under program (task.constructing level outer ∷ task.edge_if f.noexcept ∷ frames) k))
    where
      after_it : Does Value
      after_it = field_inits program (at program level) fields >> (scope program (at program level) (stmts program (at program level) b) >> (postconditions program (at program level) f c >> gives null))

      chain : (k : Rest) → with_rest value (preconditions program (at program level) f c >> after_it) k
          ≡ task_means program (task.before level f (site_of c)) (under program (
          task.then_next (task.field_inits level fields) ∷ task.then_next (task.block level b) ∷ task.then_next (task.after level f (site_of c)) ∷ task.replace (value null) ∷ []) k)
      chain k = flow (preconditions program (at program level) f c) _ _ _
          ∙ (λ i. either (preconditions program (at program level) f c) (λ _.
          (flow (field_inits program (at program level) fields)
          (λ _. scope program (at program level) (stmts program (at program level) b) >> (postconditions program (at program level) f c >> gives null))
          (λ v. k.on_given (value v)) k.on_thrown
          ∙ (λ i. either (field_inits program (at program level) fields) (λ _.
          (flow (scope program (at program level) (stmts program (at program level) b)) (λ _. postconditions program (at program level) f c >> gives null) (λ v. k.on_given (value v)) k.on_thrown
          ∙ (λ i. either (scope program (at program level) (stmts program (at program level) b)) (λ _.
          flow (postconditions program (at program level) f c) (λ _. gives null) (λ v. k.on_given (value v)) k.on_thrown i) k.on_thrown)) i) k.on_thrown)) i) k.on_thrown)

  destructor_steps : (level : Level) (f : Function) (t : ℕ) (b : Stmts Check) (frames : List Frame) (k : Rest)
      → Acts level (destructor_call program (at program level) f t b) frames (step_destructor program level f t b frames) k
  unfolding either gives throws ends
  destructor_steps level f t b frames k = both_steady (this_place program no_calls) steady_this _ _ _ _ _ _ (λ a.
      both_steady (class_at program no_calls t) (steady_some _) _ _ _ _ _ _ (λ definition.
      flow (edge (checked program (at program level) Definer f.checks.preconditions >> scope program (at program level) (stmts program (at program level) b))) _ _ _
      ∙ edge_flow (checked program (at program level) Definer f.checks.preconditions >> scope program (at program level) (stmts program (at program level) b)) _ _
      ∙ flow (checked program (at program level) Definer f.checks.preconditions) _ _ _
      ∙ (λ i. either (checked program (at program level) Definer f.checks.preconditions) (λ _. either (scope program (at program level) (stmts program (at program level) b)) (λ _.
      (flow (destroy_fields program (at program level) t a)
      (λ _. edge (checked program (at program level) Definer f.checks.postconditions) >> (append (destroyed definition.name a.object a.leaf) >> gives null))
      (λ v. (under program frames k).on_given (value v)) (under program frames k).on_thrown
      ∙ (λ i. either (destroy_fields program (at program level) t a) (λ _. flow (edge (checked program (at program level) Definer f.checks.postconditions))
      (λ _. append (destroyed definition.name a.object a.leaf) >> gives null) (λ v. (under program frames k).on_given (value v)) (under program frames k).on_thrown i)
      (under program frames k).on_thrown)) i) (λ e. ends (event.ended Rattle.cx_core.specs.Words.Terminated))) (λ e. ends (event.ended Rattle.cx_core.specs.Words.Terminated)))))

  implicit_constructor_steps : (level : Level) (t : ℕ) (frames : List Frame) (k : Rest)
      → Acts level (Rattle.cx_core.specs.Meaning.implicit_default program (at program level) t) frames
      (in_construction program level (λ constructing. class_at program no_calls t >>= (λ definition.
      doing (task.default_fields level definition.fields) (task.replace (value null) ∷ constructing ∷ frames)))) k
  unfolding either gives throws ends
  implicit_constructor_steps level t frames k = open_construction program level _ _ _
      (λ constructing. class_at program no_calls t >>= (λ definition.
      doing (task.default_fields level definition.fields) (task.replace (value null) ∷ constructing ∷ frames))) k (λ outer.
      both_steady (class_at program no_calls t) (steady_some _) _ _ _ _ _ _ (λ definition.
      flow (Rattle.cx_core.specs.Meaning.default_fields program (at program level) definition.fields) _ _ _))

  implicit_copy_steps : (level : Level) (t : ℕ) (frames : List Frame) (k : Rest)
      → Acts level (Rattle.cx_core.specs.Meaning.implicit_copy program (at program level) t) frames
      (in_construction program level (λ constructing. class_at program no_calls t >>= (λ definition.
      this_place program no_calls >>= (λ to. named 1 >>= place_of >>= (λ source.
      doing (task.copying_members level definition.fields source to) (task.replace (value null) ∷ constructing ∷ frames)))))) k
  unfolding either gives throws ends
  implicit_copy_steps level t frames k = open_construction program level _ _ _
      (λ constructing. class_at program no_calls t >>= (λ definition.
      this_place program no_calls >>= (λ to. named 1 >>= place_of >>= (λ source.
      doing (task.copying_members level definition.fields source to) (task.replace (value null) ∷ constructing ∷ frames))))) k (λ outer.
      both_steady (class_at program no_calls t) (steady_some _) _ _ _ _ _ _ (λ definition.
      both_steady (this_place program no_calls) steady_this _ _ _ _ _ _ (λ to.
      both_steady (named 1 >>= place_of) (steady_then (named 1) _ (steady_named 1) (λ v. steady_place_of v)) _ _ _ _ _ _ (λ source.
      flow (Rattle.cx_core.specs.Meaning.copy_members program (at program level) definition.fields source to) _ _ _))))

  acting_steps : (level : Level) (b : Body Check) (f : Function) (c : Call) (frames : List Frame) (k : Rest)
      → Acts level (acting program (at program level) b f c) frames (step_acting program level b f c frames) k
  acting_steps level (parts.function b) f c frames k = function_steps level f c b frames k
  acting_steps level (parts.constructor fields b) f c frames k = constructor_steps level f c fields b frames k
  acting_steps level (parts.destructor t b) f c frames k = destructor_steps level f t b frames k
  acting_steps level (parts.implicit_constructor t) f c frames k = implicit_constructor_steps level t frames k
  acting_steps level (parts.implicit_copy_constructor t) f c frames k = implicit_copy_steps level t frames k
  acting_steps level (parts.implicit_destructor t) f c frames k = destructor_steps level f t done frames k

  -- ---- calls

  active_steps : (level : Level) (c : Call) (k : Rest) → Steps program (valued_rest (active program (at program level) c) k) (step_active program level c) k
  unfolding either gives throws ends current_frame set_frame
  active_steps level c k = both spend _ _ _ _ _ (λ _. both (some (slice_get program.functions c.function)) _ _ _ _ _ (λ f.
      both (reported program no_calls c.reports) _ _ _ _ _ (λ _. λ i s.
      (finally_flow (acting program (at program level) f.body f c) (set_frame s.frame) (λ v. k.on_given (value v)) k.on_thrown
      ∙ acting_steps level f.body f c (task.within s.frame ∷ []) k) i
      (record s { frame = record { unit = unit_of program no_calls f c; variables = numbered program no_calls 0 c.arguments; result = c.result } }))))

  implicit_steps : (implicit : Bool) (n depth : ℕ) (c : Call) (k : Rest)
      → Steps program
      (valued_rest (if implicit then active program (implicit_within program n (calls_within program depth)) c else calls_within program depth c) k)
      (if implicit then step_active program (record { counted = depth; implicit = n }) c else doing (task.counted depth c) []) k
  unfolding either gives throws ends
  implicit_steps true n depth c k = active_steps (record { counted = depth; implicit = n }) c k
  implicit_steps false n depth c k = refl

  if_applied : (b : Bool) (m n : Does Value) (N : Value → Does Value) (H : Exception → Does Value)
      → either (λ s. if b then m s else n s) N H ≡ either (if b then m else n) N H
  unfolding either
  if_applied true m n N H = refl
  if_applied false m n N H = refl

  pub calling_steps : (implicit depth : ℕ) (c : Call) (k : Rest)
      → Steps program (task_means program (task.calling implicit depth c) k) (step_calling program implicit depth c) k
  unfolding either gives throws ends implicit_within
  calling_steps zero depth c k = refl
  calling_steps (suc n) depth c k = implicit_steps (is_implicit_at program c.function) n depth c k

  pub counted_steps : (depth : ℕ) (c : Call) (k : Rest) → Steps program (task_means program (task.counted depth c) k) (step_counted program depth c) k
  unfolding either gives throws ends calls_within
  counted_steps zero c k = refl
  counted_steps (suc n) c k = active_steps (record { counted = n; implicit = length program.classes + 1 }) c k

  -- ---- all tasks

  pub task_steps : (t : Task) (k : Rest) → Steps program (task_means program t k) (step_task program t) k
  unfolding either gives throws ends
  task_steps (task.expression level e) k = expression_steps program level e k
  task_steps (task.used level a) k = used_steps program level a k
  task_steps (task.evaluated level a) k = evaluated_steps program level a k
  task_steps (task.used_truth level a) k = flow (used program (at program level) a) _ _ _
  task_steps (task.evaluated_truth level a) k = flow (evaluated program (at program level) a) _ _ _
  task_steps (task.initialise level i p) k = initialise_steps program level i p k
  task_steps (task.arguments level a) k = arguments_steps program level a k
  task_steps (task.statement level s) k = statement_steps program level s k
  task_steps (task.statements level b) k = statements_steps program level b k
  task_steps (task.block level b) k = block_steps program level b k
  task_steps (task.handling level h e) k = handling_steps program level h e k
  task_steps (task.calling implicit depth c) k = calling_steps implicit depth c k
  task_steps (task.counted depth c) k = counted_steps depth c k
  task_steps (task.call_of level callee this a result) k = call_of_steps program level callee this a result k
  task_steps (task.call_into level callee a n) k = call_into_steps program level callee a n k
  task_steps (task.construct_at level f a arguments) k = construct_at_steps program level f a arguments k
  task_steps (task.destroying level c a) k = destroying_steps program level c a k
  task_steps (task.destroying_each level a fields) k = destroying_each_steps program level a fields k
  task_steps (task.destroying_fields level c a) k = destroying_fields_steps program level c a k
  task_steps (task.ending level l) k = ending_steps program level l k
  task_steps (task.ending_each level living) k = ending_each_steps program level living k
  task_steps (task.making level keeper type slot i) k = making_steps program level keeper type slot i k
  task_steps (task.declaring level slot type i) k = declaring_steps program level slot type i k
  task_steps (task.testing level c) k = testing_steps program level c k
  task_steps (task.looping level l) k = looping_steps program level l k
  task_steps (task.turns level l n) k = turns_steps program level l n k
  task_steps (task.evaluations level party n due) k = evaluations_steps program level party n due k
  task_steps (task.checks level party checks) k = checks_steps program level party checks k
  task_steps (task.edged_checks level checks) k = edged_checks_steps program level checks k
  task_steps (task.handling_violation level v) k = handling_violation_steps program level v k
  task_steps (task.before level f c) k = before_steps program level f c k
  task_steps (task.after level f c) k = after_steps program level f c k
  task_steps (task.caller_before level c) k = caller_steps program level (λ checks. checks.preconditions) c.caller c.function k
  task_steps (task.caller_after level c) k = caller_steps program level (λ checks. checks.postconditions) c.caller c.function k
  task_steps (task.body level kind b) k = body_steps level kind b k
  task_steps (task.field_inits level fields) k = field_inits_steps program level fields k
  task_steps (task.default_fields level fields) k = default_fields_steps program level fields k
  task_steps (task.copying_fields level source fields) k = copying_fields_steps program level source fields k
  task_steps (task.copying_members level fields source to) k = copying_members_steps program level fields source to k
  task_steps (task.copying_object level type source to) k = copying_object_steps program level type source to k
