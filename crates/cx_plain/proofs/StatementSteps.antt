-- Each step of a task keeps what the task means: initialisers, arguments, statements and checks.
use Rattle.std.proofs.Common.{◌≡◌, refl, ◌∙◌, ℕ, zero, suc, Bool, true, false, if◌then◌else◌, List, [], ◌∷◌, Option, Some, None}
use Rattle.cx_core.specs.Words.{Definer}
use Rattle.cx_core.specs.Tree as tree
use Rattle.cx_core.specs.Tree.{ObjectType, scalar, pointer, class, Expr, Operand, operand, Init, Args, no_more, by_reference, by_value, Check, Specifier, Condition, always, CatchParameter, unnamed, reference, object, Stmt, Stmts, done, Handlers, none, catch_all, catch}
use Rattle.cx_core.specs.Program.{Program}
use Rattle.cx_core.specs.Store.{Address, Value, address, null}
use Rattle.cx_core.specs.Event as event
use Rattle.cx_core.specs.Event.{Evaluation, same_evaluation}
use Rattle.cx_core.specs.Outcome.{Exception, Does, Nothing, either, ◌>>=◌, ◌>>◌, gives, throws, ends, some, skip, edge, spend, append, current_frame, set_frame, place_of, keep}
use Rattle.cx_core.specs.Leaving.{Call, scope, full_expression, in_unit, end_unless_among}
use Rattle.cx_core.specs.Leaving as leaving
use Rattle.cx_core.specs.Check.{truth}
use Rattle.cx_core.specs.Operators.{bind}
use Rattle.cx_core.specs.Calls.{Callee, by_name, call_of, returned, returned_object}
use Rattle.cx_core.specs.Statements.{Completion, on_to_next, return, loop, turns, zero_object, rethrown, variable_of, reference_of, throw_of, handled, same_type}
use Rattle.cx_core.specs.Meaning.{expr, used, init, args, evaluated, condition, checked, stmt, stmts, handlers, catch_parameter}
use Rattle.cx_plain.specs.Task as task
use Rattle.cx_plain.specs.Task.{Level, Given, value, nothing, values, number, completion, Loop, Due, Task, Frame, Next, go}
use Rattle.cx_plain.specs.Step.{step_task, step_used, step_initialise, step_arguments, step_statement, step_statements, step_handling, step_handled, step_parameter, step_testing, step_turns, step_evaluations, step_handling_violation, first_due, due_in_all, continued, Continued, behind, once_less, has_stood, if_permitted, evaluation_of, doing, calls}
use Rattle.cx_plain.proofs.Flow.{flow, flow_either, both, edge_flow}
use Rattle.cx_plain.proofs.Denoted.{Rest, silent_rest, completed_rest, at, task_means, under, next_means, Steps}
use Rattle.cx_plain.proofs.Opened.{open_scope, open_full, open_holding, steady_frame, steady_some, steady_place_of, both_steady}
use Rattle.cx_plain.proofs.ExpressionSteps.{answered_steps}

module _ (program : Program) where
  pub used_steps : (level : Level) (a : Operand) (k : Rest) → Steps program (task_means program (task.used level a) k) (step_used program level a) k
  unfolding expr either gives throws ends
  used_steps level (operand read to e) k =
      flow (expr program (at program level) e >>= Rattle.cx_core.specs.Operators.read_as read) _ _ _ ∙ flow (expr program (at program level) e) _ _ _

  pub initialise_steps : (level : Level) (i : Init) (p : Address) (k : Rest)
      → Steps program (task_means program (task.initialise level i p) k) (step_initialise program level i p) k
  unfolding expr either gives throws ends
  initialise_steps level (tree.value a) p k = flow (used program (at program level) a) _ _ _
  initialise_steps level (tree.construct f a) p k =
      flow (call_of program (at program level) (by_name f) (args program (at program level) a >>= (λ vs. gives (address p ∷ vs))) None) _ _ _
  initialise_steps level (tree.zero_first c i) p k = both (zero_object program (at program level) c p) _ _ _ _ _ (λ _. refl)
  initialise_steps level (tree.result_of f a) p k = flow (call_of program (at program level) (by_name f) (args program (at program level) a) (Some (address p))) _ _ _
  initialise_steps level (tree.result_through q a) p k = flow (used program (at program level) q) _ _ _

  pub arguments_steps : (level : Level) (a : Args) (k : Rest) → Steps program (task_means program (task.arguments level a) k) (step_arguments program level a) k
  unfolding expr either gives throws ends
  arguments_steps level no_more k = refl
  arguments_steps level (by_reference e rest) k = flow (expr program (at program level) e) _ _ _
  arguments_steps level (by_value type i rest) k =
      flow (leaving.object program (at program level) keep type (init program (at program level) i)) _ _ _

  -- ---- calls with arguments

  pub call_of_steps : (level : Level) (callee : Callee) (this : Option Address) (a : Args) (result : Option Value) (k : Rest)
      → Steps program (task_means program (task.call_of level callee this a result) k) (step_task program (task.call_of level callee this a result)) k
  unfolding either gives throws ends
  call_of_steps level callee None a result k = open_scope program level _ _ _ (λ scope. doing (task.arguments level a) (task.call_with level callee result ∷ scope ∷ [])) k (λ outer. flow (args program (at program level) a) _ _ _)
  call_of_steps level callee (Some p) a result k = open_scope program level _ _ _
      (λ scope. doing (task.arguments level a) (task.first_argument (address p) ∷ task.call_with level callee result ∷ scope ∷ [])) k (λ outer.
      flow (args program (at program level) a >>= (λ vs. gives (address p ∷ vs))) _ _ _ ∙ flow (args program (at program level) a) _ _ _)

  pub call_into_steps : (level : Level) (callee : Callee) (a : Args) (n : ℕ) (k : Rest)
      → Steps program (task_means program (task.call_into level callee a n) k) (step_task program (task.call_into level callee a n)) k
  unfolding either gives throws ends
  call_into_steps level callee a n k = open_scope program level _ _ _ (λ scope. doing (task.arguments level a) (task.call_into_object level callee n ∷ scope ∷ [])) k (λ outer. flow (args program (at program level) a) _ _ _)

  pub evaluated_steps : (level : Level) (a : Operand) (k : Rest)
      → Steps program (task_means program (task.evaluated level a) k) (step_task program (task.evaluated level a)) k
  unfolding either gives throws ends
  evaluated_steps level a k = open_full program level _ _ _ (λ full. doing (task.used level a) (full ∷ [])) k (λ outer. refl)

  pub declaring_steps : (level : Level) (slot : ℕ) (type : ObjectType) (i : Init) (k : Rest)
      → Steps program (task_means program (task.declaring level slot type i) k) (step_task program (task.declaring level slot type i)) k
  unfolding either gives throws ends
  declaring_steps level slot type i k = open_full program level _ _ _
      (λ full. doing (task.making level task.innermost_scope type (Some slot) i) (task.discard ∷ full ∷ [])) k (λ outer.
      flow (leaving.object program (at program level) keep type (λ a. bind slot (address a) >> init program (at program level) i a)) _ _ _)

  -- ---- statements

  result_place_steps : (level : Level) (i : Init) (result : Option Value) (N : Nothing → Does Value) (H : Exception → Does Value) (frames : List Frame) (k : Rest)
      → ((a : Address) → either (init program (at program level) i a) N H ≡ silent_rest (init program (at program level) i a) (under program frames k))
      → either (some result >>= (λ place. place_of place >>= init program (at program level) i)) N H
      ≡ either (some result >>= (λ place. place_of place >>= (λ a. doing (task.initialise level i a) frames))) (λ n. next_means program n k) k.on_thrown
  unfolding either gives throws ends
  result_place_steps level i result N H frames k h = both_steady (some result) (steady_some result) _ _ _ _ _ _ (λ place.
      both_steady (place_of place) (steady_place_of place) _ _ _ _ _ _ h)

  pub statement_steps : (level : Level) (s : Stmt Check) (k : Rest)
      → Steps program (task_means program (task.statement level s) k) (step_statement program level s) k
  unfolding stmt either gives throws ends
  statement_steps level tree.empty k = refl
  statement_steps level (tree.expression a) k =
      flow (evaluated program (at program level) a >> skip) _ _ _ ∙ flow (evaluated program (at program level) a) _ _ _
  statement_steps level (tree.variable_declaration slot type i) k =
      flow (variable_of program (at program level) slot type (init program (at program level) i)) _ _ _
  statement_steps level (tree.reference_declaration slot e) k =
      flow (reference_of program (at program level) slot (expr program (at program level) e)) _ _ _
      ∙ both (bind slot null) _ _ _ _ _ (λ _. flow (full_expression program (at program level) (expr program (at program level) e)) _ _ _
      ∙ open_full program level (expr program (at program level) e) _ _
      (λ full. doing (task.expression level e) (full ∷ task.bound slot ∷ task.completed ∷ [])) k (λ outer. refl))
  statement_steps level (tree.block b) k = refl
  statement_steps level (tree.if_else c a b) k = flow (evaluated program (at program level) c >>= truth) _ _ _
  statement_steps level (tree.while_loop c b) k = refl
  statement_steps level (tree.for_loop first c after b) k =
      open_scope program level _ _ _ (λ scope. doing (task.statement level first)
      (task.then_next (task.looping level (record { condition = c; step = Some after; body = b })) ∷ scope ∷ [])) k
      (λ outer. flow (stmt program (at program level) first) _ _ _)
  statement_steps level tree.break k = refl
  statement_steps level tree.continue k = refl
  statement_steps level tree.return k = refl
  statement_steps level (tree.return_value a) k = flow (returned program (at program level) (used program (at program level) a)) _ _ _
      ∙ open_full program level _ _ _ (λ full. doing (task.used level a) (task.operate task.store_result ∷ full ∷ task.returning ∷ [])) k
      (λ outer. flow (used program (at program level) a) _ _ _)
  statement_steps level (tree.return_reference e) k = flow (full_expression program (at program level) (expr program (at program level) e)) _ _ _
      ∙ open_full program level (expr program (at program level) e) _ _ (λ full. doing (task.expression level e) (full ∷ task.returning ∷ [])) k (λ outer. refl)
  statement_steps level (tree.return_object i) k = flow (returned_object program (at program level) (init program (at program level) i)) _ _ _
      ∙ open_full program level _ _ _ (λ full. current_frame >>= (λ frame. some frame.result >>= (λ place. place_of place >>= (λ a.
      doing (task.initialise level i a) (full ∷ task.replace (completion (return null)) ∷ []))))) k (λ outer.
      both_steady current_frame steady_frame _ _ _ _ _ _ (λ frame.
      result_place_steps level i frame.result _ _ (task.leaving_full level outer ∷ task.replace (completion (return null)) ∷ []) k (λ a. refl)))
  statement_steps level (tree.contract_assert c predicate) k = flow (checked program (at program level) Definer (record { of = c; predicate = predicate } ∷ [])) _ _ _
  statement_steps level (tree.throw type i) k = open_full program level _ _ _
      (λ full. doing (task.making level task.nobody type None i) (task.throwing type ∷ full ∷ [])) k (λ outer.
      flow (leaving.object program (at program level) (λ _. skip) type (init program (at program level) i)) _ _ _)
  statement_steps level tree.rethrow k = answered_steps program completion (rethrown program (at program level)) k
  statement_steps level (tree.try b h) k =
      flow_either (scope program (at program level) (stmts program (at program level) b)) gives (handlers program (at program level) h) _ _

  pub statements_steps : (level : Level) (b : Stmts Check) (k : Rest)
      → Steps program (task_means program (task.statements level b) k) (step_statements program level b) k
  unfolding stmt either gives throws ends
  statements_steps level done k = refl
  statements_steps level (tree.next a rest) k = flow (stmt program (at program level) a) _ _ _

  pub block_steps : (level : Level) (b : Stmts Check) (k : Rest)
      → Steps program (task_means program (task.block level b) k) (step_task program (task.block level b)) k
  unfolding either gives throws ends
  block_steps level b k = open_scope program level _ _ _ (λ scope. doing (task.statements level b) (scope ∷ [])) k (λ outer. refl)

  -- ---- handlers

  parameter_steps : (level : Level) (parameter : CatchParameter) (e : Exception) (b : Stmts Check) (frames : List Frame) (k : Rest)
      → either (edge (catch_parameter program (at program level) parameter e) >> stmts program (at program level) b) (λ c. (under program frames k).on_given (completion c)) (under program frames k).on_thrown
      ≡ either (step_parameter program level parameter e b frames) (λ n. next_means program n k) k.on_thrown
  unfolding either gives throws ends current_frame set_frame
  parameter_steps level unnamed e b frames k = refl
  parameter_steps level (reference slot) e b frames k = refl
  parameter_steps level (object slot is_named i) e b frames k =
      flow (edge (variable_of program (at program level) slot e.type (init program (at program level) i))) (λ _. stmts program (at program level) b) _ _
      ∙ edge_flow (variable_of program (at program level) slot e.type (init program (at program level) i)) _ _

  handled_steps : (level : Level) (e : Exception) (parameter : CatchParameter) (b : Stmts Check) (k : Rest)
      → Steps program (completed_rest (handled program (at program level) e (catch_parameter program (at program level) parameter e) (stmts program (at program level) b)) k) (step_handled program level e parameter b) k
  unfolding either gives throws ends
  handled_steps level e parameter b k = both (append (event.catch (Rattle.cx_core.specs.Statements.type_name program e.type))) _ _ _ _ _ (λ _.
      open_holding program level _ _ _
      (λ holding. Rattle.cx_plain.specs.Step.in_scope program level (λ scope. step_parameter program level parameter e b (scope ∷ holding ∷ []))) k e (λ held.
      open_scope program level _ _ _ (λ scope. step_parameter program level parameter e b (scope ∷ task.holding level e held ∷ [])) k (λ outer.
      parameter_steps level parameter e b (task.leaving_scope level outer ∷ task.holding level e held ∷ []) k)))

  catch_steps : (level : Level) (same : Bool) (e : Exception) (parameter : CatchParameter) (b : Stmts Check) (rest : Handlers Check) (k : Rest)
      → Steps program
      (completed_rest (if same then handled program (at program level) e (catch_parameter program (at program level) parameter e) (stmts program (at program level) b) else handlers program (at program level) rest e) k)
      (if same then step_handled program level e parameter b else doing (task.handling level rest e) []) k
  unfolding either gives throws ends
  catch_steps level true e parameter b rest k = handled_steps level e parameter b k
  catch_steps level false e parameter b rest k = refl

  pub handling_steps : (level : Level) (h : Handlers Check) (e : Exception) (k : Rest)
      → Steps program (task_means program (task.handling level h e) k) (step_handling program level h e) k
  unfolding stmt either gives throws ends
  handling_steps level none e k = refl
  handling_steps level (catch_all b rest) e k = both spend _ _ _ _ _ (λ _. handled_steps level e unnamed b k)
  handling_steps level (catch type parameter b rest) e k = both spend _ _ _ _ _ (λ _. catch_steps level (same_type e.type type) e parameter b rest k)

  -- ---- loops

  pub testing_steps : (level : Level) (c : Condition) (k : Rest)
      → Steps program (task_means program (task.testing level c) k) (step_testing program level c) k
  unfolding either gives throws ends
  testing_steps level always k = refl
  testing_steps level (tree.while a) k = refl

  pub looping_steps : (level : Level) (l : Loop) (k : Rest)
      → Steps program (task_means program (task.looping level l) k) (step_task program (task.looping level l)) k
  unfolding either gives throws ends loop
  looping_steps level l k = refl

  pub turns_steps : (level : Level) (l : Loop) (n : ℕ) (k : Rest)
      → Steps program (task_means program (task.turns level l n) k) (step_turns program level l n) k
  unfolding either gives throws ends turns
  turns_steps level l zero k = refl
  turns_steps level l (suc n) k = both spend _ _ _ _ _ (λ _. flow (condition program (at program level) l.condition) _ _ _)
