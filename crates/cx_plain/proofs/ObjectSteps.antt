-- Each step of a task keeps what the task means: checks, objects and their ends, fields.
use Rattle.std.proofs.Common.{◌≡◌, refl, sym, ap, ◌∙◌, ℕ, zero, suc, ◌+◌, Bool, true, false, if◌then◌else◌, List, [], ◌∷◌, Option, Some, None}
use Rattle.std.specs.Prelude.{map}
use Rattle.cx_core.specs.Words.{Party, Definer, Caller, Violation}
use Rattle.cx_core.specs.Tree.{ObjectType, scalar, pointer, function_pointer, class, Init, Check, Specifier}
use Rattle.cx_core.specs.Program.{Program, Checks, Function, FieldInit, Field}
use Rattle.cx_core.specs.Store.{Address, Value, address, null, place_in}
use Rattle.cx_core.specs.Store as store
use Rattle.cx_core.specs.Event as event
use Rattle.cx_core.specs.Event.{Evaluation, same_evaluation}
use Rattle.cx_core.specs.Outcome.{Exception, Living, whole, field, Does, Nothing, either, ◌>>=◌, ◌>>◌, gives, throws, ends, some, spend, append, current_frame, set_frame, make, end_lifetime, undone_by}
use Rattle.cx_core.specs.Leaving.{Call, scope, full_expression, in_unit, leaves_of_type, class_at, construct_at, destroy}
use Rattle.cx_core.specs.Leaving as leaving
use Rattle.cx_core.specs.Block.{Owed, total, evaluations, next_told, begin_told}
use Rattle.cx_core.specs.Block as block
use Rattle.cx_core.specs.Check.{truth, verdict_on, verdict_threw, handle_by}
use Rattle.cx_core.specs.Statements.{this_place, field_of}
use Rattle.cx_core.specs.Meaning.{init, evaluated, owed, checked, caller_checks, caller_row, default_field, copy_object, copy_leaf}
use Rattle.cx_plain.specs.Task as task
use Rattle.cx_plain.specs.Task.{Level, Given, value, nothing, values, number, completion, Due, Keeper, Task, Frame, Next, go}
use Rattle.cx_plain.specs.Step.{no_calls, bind_object, step_task, step_evaluations, step_handling_violation, step_caller, step_ending, step_ending_each, step_destroying_each, step_field_inits, step_default_field, step_default_fields, step_copying_fields, step_copying_members, step_copying_object, first_due, due_in_all, continued, Continued, behind, once_less, has_stood, if_permitted, evaluation_of, doing, in_full_expression}
use Rattle.cx_plain.proofs.Flow.{flow, flow_either, both, edge_flow, undone_flow}
use Rattle.cx_plain.proofs.Denoted.{Rest, silent_rest, at, owed_of, task_means, under, next_means, Steps}
use Rattle.cx_plain.proofs.Opened.{open_full, open_unit}
use Rattle.cx_plain.proofs.ExpressionSteps.{answered_steps}

module _ (program : Program) where
  -- ---- rows

  abbrev check_of : Level → Specifier Check → Does Nothing
  check_of level c = Rattle.cx_core.specs.Check.evaluation program (at program level) c.of (evaluated program (at program level) c.predicate)

  abbrev owes : Level → Party → Option Continued → Option block.Continued
  owes level party None = None
  owes level party (Some c) = Some (check_of level c.0, map (owed_of program level party) c.1)

  once_less_same : (level : Level) (party : Party) (left : ℕ) (d : Due) (due : List Due)
      → block.once_less left (owed_of program level party d) (map (owed_of program level party) due) ≡ owes level party (once_less left d due)
  once_less_same level party zero d due = refl
  once_less_same level party (suc left) d due = refl

  behind_same : (level : Level) (party : Party) (d : Due) (o : Option Continued)
      → block.behind (owed_of program level party d) (owes level party o) ≡ owes level party (behind d o)
  behind_same level party d None = refl
  behind_same level party d (Some c) = refl

  continued_same : (level : Level) (party : Party) (e : Evaluation) (due : List Due)
      → block.continued e (map (owed_of program level party) due) ≡ owes level party (continued party e due)
  continued_same level party e [] = refl
  continued_same level party e (d ∷ due) = by_cases (same_evaluation e (evaluation_of party d.check.of)) (has_stood d) (continued_same level party e due)
    where
      by_cases : (same stood : Bool) → block.continued e (map (owed_of program level party) due) ≡ owes level party (continued party e due)
          → (if same then block.once_less d.left (owed_of program level party d) (map (owed_of program level party) due)
          else (if stood then block.behind (owed_of program level party d) (block.continued e (map (owed_of program level party) due)) else None))
          ≡ owes level party (if same then once_less d.left d due else (if stood then behind d (continued party e due) else None))
      by_cases true stood h = once_less_same level party d.left d due
      by_cases false true h = ap (block.behind (owed_of program level party d)) h ∙ behind_same level party d (continued party e due)
      by_cases false false h = refl

  permitted_steps : (level : Level) (party : Party) (n : ℕ) (o : Option Continued) (k : Rest)
      → Steps program
      (silent_rest (block.if_permitted (owes level party o) (λ check more. spend >> begin_told >> check >> evaluations n more)) k)
      (if_permitted o (λ c more. spend >> (begin_told >>
      doing (task.evaluated_truth level c.predicate) (task.verdict level c.of.assertion c.of.semantic ∷ task.then_next (task.evaluations level party n more) ∷ [])))) k
  unfolding either gives throws ends
  permitted_steps level party n None k = refl
  permitted_steps level party n (Some c) k =
      flow (spend >> begin_told >> check_of level c.0) _ _ _
      ∙ flow (spend >> begin_told) _ _ _
      ∙ flow spend _ _ _
      ∙ (λ i. either spend (λ _. either begin_told (λ _.
      flow_either (evaluated program (at program level) c.0.predicate >>= truth) (verdict_on program (at program level) c.0.of.assertion c.0.of.semantic)
      (verdict_threw program (at program level) c.0.of.assertion c.0.of.semantic)
      (λ _. silent_rest (evaluations n (map (owed_of program level party) c.1)) k) k.on_thrown i) k.on_thrown) k.on_thrown)
      ∙ sym (flow spend (λ _. begin_told >> doing (task.evaluated_truth level c.0.predicate)
      (task.verdict level c.0.of.assertion c.0.of.semantic ∷ task.then_next (task.evaluations level party n c.1) ∷ [])) (λ n. next_means program n k) k.on_thrown
      ∙ (λ i. either spend (λ _. flow begin_told (λ _. doing (task.evaluated_truth level c.0.predicate)
      (task.verdict level c.0.of.assertion c.0.of.semantic ∷ task.then_next (task.evaluations level party n c.1) ∷ [])) (λ n. next_means program n k) k.on_thrown i) k.on_thrown))

  pub evaluations_steps : (level : Level) (party : Party) (n : ℕ) (due : List Due) (k : Rest)
      → Steps program (task_means program (task.evaluations level party n due) k) (step_evaluations program level party n due) k
  unfolding evaluations either gives throws ends
  evaluations_steps level party zero due k = refl
  evaluations_steps level party (suc n) due k = both next_told _ _ _ _ _ (λ e.
      ap (λ o. silent_rest (block.if_permitted o (λ check more. spend >> begin_told >> check >> evaluations n more)) k) (continued_same level party e due)
      ∙ permitted_steps level party n (continued party e due) k)

  total_same : (level : Level) (party : Party) (checks : List (Specifier Check)) → total (map (owed program (at program level) party) checks) ≡ due_in_all checks
  total_same level party [] = refl
  total_same level party (c ∷ checks) = ap (λ n. c.of.times + n) (total_same level party checks)

  owed_same : (level : Level) (party : Party) (checks : List (Specifier Check))
      → map (owed program (at program level) party) checks ≡ map (owed_of program level party) (map first_due checks)
  owed_same level party [] = refl
  owed_same level party (c ∷ checks) = ap (λ more. owed program (at program level) party c ∷ more) (owed_same level party checks)

  pub checks_steps : (level : Level) (party : Party) (checks : List (Specifier Check)) (k : Rest)
      → Steps program (task_means program (task.checks level party checks) k) (step_task program (task.checks level party checks)) k
  unfolding either gives
  checks_steps level party checks k =
      λ i. silent_rest (evaluations (total_same level party checks i) (owed_same level party checks i)) k

  pub edged_checks_steps : (level : Level) (checks : List (Specifier Check)) (k : Rest)
      → Steps program (task_means program (task.edged_checks level checks) k) (step_task program (task.edged_checks level checks)) k
  unfolding either gives throws ends
  edged_checks_steps level checks k = edge_flow (checked program (at program level) Definer checks) _ _

  handler_steps : (level : Level) (o : Option ℕ) (v : Violation) (k : Rest)
      → Steps program (silent_rest (handle_by program (at program level) o v) k) (step_handling_violation program level o v) k
  unfolding either gives throws ends
  handler_steps level None v k = answered_steps program (λ _. nothing) (spend >> append (event.handler v)) k
  handler_steps level (Some f) v k = both current_frame _ _ _ _ _ (λ frame. flow (at program level (record { function = f; caller = None; unit = frame.unit; reports = Some v; arguments = store.violation v ∷ []; result = None })) _ _ _)

  pub handling_violation_steps : (level : Level) (v : Violation) (k : Rest)
      → Steps program (task_means program (task.handling_violation level v) k) (step_task program (task.handling_violation level v)) k
  handling_violation_steps level v k = handler_steps level program.handler v k

  pub before_steps : (level : Level) (f : Function) (c : Call) (k : Rest)
      → Steps program (task_means program (task.before level f c) k) (step_task program (task.before level f c)) k
  unfolding either gives throws ends
  before_steps level f c k = flow (caller_row program (at program level) (λ checks. checks.preconditions) c.caller c.function) _ _ _

  pub after_steps : (level : Level) (f : Function) (c : Call) (k : Rest)
      → Steps program (task_means program (task.after level f c) k) (step_task program (task.after level f c)) k
  unfolding either gives throws ends
  after_steps level f c k = flow (checked program (at program level) Definer f.checks.postconditions) _ _ _

  pub caller_steps : (level : Level) (of : Checks → List (Specifier Check)) (caller : Option ℕ) (f : ℕ) (k : Rest)
      → Steps program (silent_rest (caller_row program (at program level) of caller f) k) (step_caller program level of caller f) k
  unfolding either gives throws ends
  caller_steps level of None f k = refl
  caller_steps level of (Some unit) f k =
      open_unit program level _ _ _ (λ within. doing (task.checks level Caller (of (caller_checks program no_calls unit f))) (within ∷ [])) k unit (λ frame. refl)

  -- ---- the ends of objects

  pub construct_at_steps : (level : Level) (f : ℕ) (a : Address) (arguments : List Value) (k : Rest)
      → Steps program (task_means program (task.construct_at level f a arguments) k) (step_task program (task.construct_at level f a arguments)) k
  unfolding either gives throws ends
  construct_at_steps level f a arguments k = both current_frame _ _ _ _ _ (λ frame.
      flow (at program level (record { function = f; caller = Some frame.unit; unit = frame.unit; reports = None; arguments = address a ∷ arguments; result = None })) _ _ _)

  pub destroying_steps : (level : Level) (c : ℕ) (a : Address) (k : Rest)
      → Steps program (task_means program (task.destroying level c a) k) (step_task program (task.destroying level c a)) k
  unfolding either gives throws ends
  destroying_steps level c a k = both (class_at program (at program level) c) _ _ _ _ _ (λ definition. both current_frame _ _ _ _ _ (λ frame.
      flow (at program level (record { function = definition.destructor; caller = None; unit = frame.unit; reports = None; arguments = address a ∷ []; result = None })) _ _ _))

  pub destroying_fields_steps : (level : Level) (c : ℕ) (a : Address) (k : Rest)
      → Steps program (task_means program (task.destroying_fields level c a) k) (step_task program (task.destroying_fields level c a)) k
  unfolding either gives throws ends
  destroying_fields_steps level c a k = both (class_at program (at program level) c) _ _ _ _ _ (λ definition. refl)

  pub destroying_each_steps : (level : Level) (a : Address) (fields : List (ℕ × ℕ)) (k : Rest)
      → Steps program (task_means program (task.destroying_each level a fields) k) (step_destroying_each program level a fields) k
  unfolding either gives throws ends
  destroying_each_steps level a [] k = refl
  destroying_each_steps level a (f ∷ fields) k = flow (destroy program (at program level) f.1 (place_in a f.0)) _ _ _

  pub ending_steps : (level : Level) (l : Living) (k : Rest) → Steps program (task_means program (task.ending level l) k) (step_ending program level l) k
  unfolding either gives throws ends
  ending_steps level (whole n (class c)) k = flow (destroy program (at program level) c (record { object = n; leaf = 0 })) _ _ _
  ending_steps level (whole n (scalar s)) k = answered_steps program (λ _. nothing) (end_lifetime n) k
  ending_steps level (whole n (pointer t)) k = answered_steps program (λ _. nothing) (end_lifetime n) k
  ending_steps level (whole n (function_pointer t)) k = answered_steps program (λ _. nothing) (end_lifetime n) k
  ending_steps level (field a c) k = refl

  pub ending_each_steps : (level : Level) (living : List Living) (k : Rest)
      → Steps program (task_means program (task.ending_each level living) k) (step_ending_each program level living) k
  unfolding either gives throws ends
  ending_each_steps level [] k = refl
  ending_each_steps level (l ∷ living) k = flow (leaving.end program (at program level) l) _ _ _

  -- ---- objects that are made

  bound_steps : (level : Level) (slot : Option ℕ) (i : Init) (a : Address) (frames : List Frame) (k : Rest) (N : Nothing → Does Value) (H : Exception → Does Value)
      → either (init program (at program level) i a) N H ≡ silent_rest (init program (at program level) i a) (under program frames k)
      → either (bind_object slot a >> init program (at program level) i a) N H
      ≡ either (bind_object slot a >> doing (task.initialise level i a) frames) (λ n. next_means program n k) k.on_thrown
  unfolding either gives throws ends current_frame set_frame
  bound_steps level None i a frames k N H h = h
  bound_steps level (Some slot) i a frames k N H h = λ j s. h j (record s { frame = record s.frame { variables = (slot, address a) ∷ s.frame.variables } })

  pub making_steps : (level : Level) (keeper : Keeper) (type : ObjectType) (slot : Option ℕ) (i : Init) (k : Rest)
      → Steps program (task_means program (task.making level keeper type slot i) k) (step_task program (task.making level keeper type slot i)) k
  unfolding either gives throws ends
  making_steps level keeper type slot i k = both (leaves_of_type program (at program level) type) _ _ _ _ _ (λ leaves. both (make leaves) _ _ _ _ _ (λ n.
      flow (undone_by (bind_object slot (record { object = n; leaf = 0 }) >> init program (at program level) i (record { object = n; leaf = 0 })) (end_lifetime n)) _ _ _
      ∙ undone_flow (bind_object slot (record { object = n; leaf = 0 }) >> init program (at program level) i (record { object = n; leaf = 0 })) (end_lifetime n) _ _
      ∙ bound_steps level slot i (record { object = n; leaf = 0 }) (task.made keeper n type ∷ []) k _ _ refl))

  -- ---- fields

  field_steps : (level : Level) (leaf : ℕ) (type : ObjectType) (initial : Address → Does Nothing) (t : Address → Task) (rest : Task) (k : Rest)
      → ((a : Address) (k : Rest) → silent_rest (initial a) k ≡ task_means program (t a) k)
      → either (field_of program (at program level) leaf type initial) (λ _. task_means program rest k) k.on_thrown
      ≡ either (this_place program no_calls >>= (λ this. in_full_expression program level (λ full.
      doing (t (place_in this leaf)) (full ∷ task.keeping_field (place_in this leaf) type ∷ task.then_next rest ∷ [])))) (λ n. next_means program n k) k.on_thrown
  unfolding either gives throws ends
  field_steps level leaf type initial t rest k h = both (this_place program (at program level)) _ _ _ _ _ (λ this.
      flow (full_expression program (at program level) (initial (place_in this leaf))) _ _ _
      ∙ open_full program level (initial (place_in this leaf)) _ _
      (λ full. doing (t (place_in this leaf)) (full ∷ task.keeping_field (place_in this leaf) type ∷ task.then_next rest ∷ [])) k
      (λ outer. h (place_in this leaf) (under program (task.leaving_full level outer ∷ task.keeping_field (place_in this leaf) type ∷ task.then_next rest ∷ []) k)))

  pub field_inits_steps : (level : Level) (fields : List FieldInit) (k : Rest)
      → Steps program (task_means program (task.field_inits level fields) k) (step_field_inits program level fields) k
  unfolding either gives throws ends
  field_inits_steps level [] k = refl
  field_inits_steps level (f ∷ fields) k = flow (field_of program (at program level) f.leaf f.type (init program (at program level) f.init)) _ _ _
      ∙ field_steps level f.leaf f.type (init program (at program level) f.init) (task.initialise level f.init) (task.field_inits level fields) k (λ a k. refl)

  default_field_steps : (level : Level) (leaf : ℕ) (type : ObjectType) (fields : List Field) (k : Rest)
      → either (default_field program (at program level) leaf type) (λ _. task_means program (task.default_fields level fields) k) k.on_thrown
      ≡ either (step_default_field program level leaf type fields) (λ n. next_means program n k) k.on_thrown
  unfolding either gives throws ends
  default_field_steps level leaf (scalar s) fields k = refl
  default_field_steps level leaf (pointer t) fields k = refl
  default_field_steps level leaf (function_pointer t) fields k = refl
  default_field_steps level leaf (class t) fields k = both (class_at program (at program level) t) _ _ _ _ _ (λ definition.
      both (some definition.default_constructor) _ _ _ _ _ (λ default.
      field_steps level leaf (class t) (λ a. construct_at program (at program level) default a []) (λ a. task.construct_at level default a []) (task.default_fields level fields) k (λ a k. refl)))

  pub default_fields_steps : (level : Level) (fields : List Field) (k : Rest)
      → Steps program (task_means program (task.default_fields level fields) k) (step_default_fields program level fields) k
  unfolding either gives throws ends
  default_fields_steps level [] k = refl
  default_fields_steps level (f ∷ fields) k = flow (default_field program (at program level) f.leaf f.type) _ _ _
      ∙ default_field_steps level f.leaf f.type fields k

  pub copying_fields_steps : (level : Level) (source : Address) (fields : List Field) (k : Rest)
      → Steps program (task_means program (task.copying_fields level source fields) k) (step_copying_fields program level source fields) k
  unfolding either gives throws ends
  copying_fields_steps level source [] k = refl
  copying_fields_steps level source (f ∷ fields) k =
      flow (field_of program (at program level) f.leaf f.type (copy_object program (at program level) f.type (place_in source f.leaf))) _ _ _
      ∙ field_steps level f.leaf f.type (copy_object program (at program level) f.type (place_in source f.leaf))
      (task.copying_object level f.type (place_in source f.leaf)) (task.copying_fields level source fields) k (λ a k. refl)

  pub copying_members_steps : (level : Level) (fields : List Field) (source to : Address) (k : Rest)
      → Steps program (task_means program (task.copying_members level fields source to) k) (step_copying_members program level fields source to) k
  unfolding either gives throws ends
  copying_members_steps level [] source to k = answered_steps program (λ _. nothing) (copy_leaf program (at program level) source to) k
  copying_members_steps level (f ∷ fields) source to k = refl

  pub copying_object_steps : (level : Level) (type : ObjectType) (source to : Address) (k : Rest)
      → Steps program (task_means program (task.copying_object level type source to) k) (step_copying_object program level type source to) k
  unfolding either gives throws ends
  copying_object_steps level (scalar s) source to k = answered_steps program (λ _. nothing) (copy_leaf program (at program level) source to) k
  copying_object_steps level (pointer t) source to k = answered_steps program (λ _. nothing) (copy_leaf program (at program level) source to) k
  copying_object_steps level (function_pointer t) source to k = answered_steps program (λ _. nothing) (copy_leaf program (at program level) source to) k
  copying_object_steps level (class t) source to k = both (class_at program (at program level) t) _ _ _ _ _ (λ definition. refl)
