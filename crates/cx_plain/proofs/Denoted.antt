-- What a task and a frame mean: the part of the meaning that they stand for.
use Rattle.std.proofs.Common.{◌≡◌, ℕ, not, if◌then◌else◌, List, [], ◌∷◌, Option, Some, None}
use Rattle.std.specs.Prelude.{map}
use Rattle.cx_core.specs.Words.{Mixed, Party, Definer, Terminated, ContractTerminated}
use Rattle.cx_core.specs.Tree.{Check, Stmt}
use Rattle.cx_core.specs.Program.{Program, Function}
use Rattle.cx_core.specs.Store.{Address, Value, address, null}
use Rattle.cx_core.specs.Event as event
use Rattle.cx_core.specs.Event.{ended}
use Rattle.cx_core.specs.Outcome.{State, Outcome, Exception, Does, Nothing, either, ◌>>=◌, ◌>>◌, gives, throws, ends, undefined, some, skip, edge, spend, current_frame, set_frame, current_living, set_living, current_temporaries, set_temporaries, current_held, set_held, append, end_lifetime, read, write, place_of}
use Rattle.cx_core.specs.Leaving.{Call, Calls, construct_at, destroy, destroy_each, destroy_fields, end, end_each, scope, object, end_unless_among}
use Rattle.cx_core.specs.Block.{Owed, evaluations}
use Rattle.cx_core.specs.Check.{truth, handle, verdict_on, verdict_threw}
use Rattle.cx_core.specs.Operators.{truth_value, operated, bind, stored, updated}
use Rattle.cx_core.specs.Statements.{Completion, on_to_next, return, sequence, after_turn, turns, loop, variable_of, keep_field, type_name}
use Rattle.cx_core.specs.Calls.{by_pointer, call_to, call_of, call_into, call_through_giving, temporary_of_call, body, destroy_result, naming_result, value_given}
use Rattle.cx_core.specs.Meaning.{expr, used, init, args, evaluated, condition, owed, checked, stmt, stmts, handlers, preconditions, postconditions, caller_row, field_inits, default_fields, copy_fields, copy_members, copy_object, object_place, implicit_within, calls_within}
use Rattle.cx_plain.specs.Task as task
use Rattle.cx_plain.specs.Task.{Level, Given, value, nothing, values, number, completion, Left, given, thrown, Operation, Keeper, Loop, Due, Task, Frame, Next, go}
use Rattle.cx_plain.specs.Step.{on_value, on_truth, on_values, on_number, on_completion, applied, keeps, bind_object}

-- what comes after a task
pub record Rest : Type 0 where
  pub on_given : Given → Does Value
  pub on_thrown : Exception → Does Value

abbrev pub with_rest : {A : Type 0} → (A → Given) → Does A → Rest → Does Value
with_rest f m k = either m (λ a. k.on_given (f a)) k.on_thrown

abbrev pub valued_rest : Does Value → Rest → Does Value
valued_rest m k = with_rest value m k

abbrev pub silent_rest : Does Nothing → Rest → Does Value
silent_rest m k = with_rest (λ _. nothing) m k

abbrev pub completed_rest : Does Completion → Rest → Does Value
completed_rest m k = with_rest completion m k

abbrev pub this_then : Option Address → Does (List Value) → Does (List Value)
this_then None m = m
this_then (Some a) m = m >>= (λ vs. gives (address a ∷ vs))

abbrev pub left_means : Left → Rest → Does Value
left_means (given g) k = k.on_given g
left_means (thrown e) k = k.on_thrown e

module _ (program : Program) where
  abbrev pub at : Level → Calls
  at level = implicit_within program level.implicit (calls_within program level.counted)

  abbrev pub owed_of : Level → Party → Due → Owed
  owed_of level party d = record (owed program (at level) party d.check) { left = d.left }

  abbrev pub step_of : Level → Option (Stmt Check) → Does Completion
  step_of level None = gives on_to_next
  step_of level (Some s) = stmt program (at level) s

  abbrev pub turns_of : Level → Loop → ℕ → Does Completion
  turns_of level l n = turns n (condition program (at level) l.condition) (step_of level l.step) (stmt program (at level) l.body)

  abbrev pub loop_of : Level → Loop → Does Completion
  loop_of level l = loop (condition program (at level) l.condition) (step_of level l.step) (stmt program (at level) l.body)

  abbrev pub leaves_scope : Level → List Rattle.cx_core.specs.Outcome.Living → Does Nothing
  leaves_scope level outer = current_living >>= end_each program (at level) >> set_living outer

  abbrev pub leaves_full : Level → List Rattle.cx_core.specs.Outcome.Living → Does Nothing
  leaves_full level outer = current_temporaries >>= end_each program (at level) >> set_temporaries outer

  abbrev pub task_means : Task → Rest → Does Value
  task_means (task.expression level e) k = valued_rest (expr program (at level) e) k
  task_means (task.used level a) k = valued_rest (used program (at level) a) k
  task_means (task.evaluated level a) k = valued_rest (evaluated program (at level) a) k
  task_means (task.used_truth level a) k = with_rest task.truth (used program (at level) a >>= truth) k
  task_means (task.evaluated_truth level a) k = with_rest task.truth (evaluated program (at level) a >>= truth) k
  task_means (task.initialise level i p) k = silent_rest (init program (at level) i p) k
  task_means (task.arguments level a) k = with_rest values (args program (at level) a) k
  task_means (task.statement level s) k = completed_rest (stmt program (at level) s) k
  task_means (task.statements level b) k = completed_rest (stmts program (at level) b) k
  task_means (task.block level b) k = completed_rest (scope program (at level) (stmts program (at level) b)) k
  task_means (task.handling level h e) k = completed_rest (handlers program (at level) h e) k
  task_means (task.calling implicit depth c) k = valued_rest (implicit_within program implicit (calls_within program depth) c) k
  task_means (task.counted depth c) k = valued_rest (calls_within program depth c) k
  task_means (task.call_of level callee this a result) k = valued_rest (call_of program (at level) callee (this_then this (args program (at level) a)) result) k
  task_means (task.call_into level callee a n) k = valued_rest (call_into program (at level) callee (args program (at level) a) n) k
  task_means (task.construct_at level f a arguments) k = silent_rest (construct_at program (at level) f a arguments) k
  task_means (task.destroying level c a) k = silent_rest (destroy program (at level) c a) k
  task_means (task.destroying_each level a fields) k = silent_rest (destroy_each program (at level) a fields) k
  task_means (task.destroying_fields level c a) k = silent_rest (destroy_fields program (at level) c a) k
  task_means (task.ending level l) k = silent_rest (end program (at level) l) k
  task_means (task.ending_each level living) k = silent_rest (end_each program (at level) living) k
  task_means (task.making level keeper type slot i) k =
      with_rest number (object program (at level) (keeps keeper) type (λ a. bind_object slot a >> init program (at level) i a)) k
  task_means (task.declaring level slot type i) k = silent_rest (variable_of program (at level) slot type (init program (at level) i)) k
  task_means (task.testing level c) k = with_rest task.truth (condition program (at level) c) k
  task_means (task.looping level l) k = completed_rest (loop_of level l) k
  task_means (task.turns level l n) k = completed_rest (turns_of level l n) k
  task_means (task.evaluations level party n due) k = silent_rest (evaluations n (map (owed_of level party) due)) k
  task_means (task.checks level party checks) k = silent_rest (checked program (at level) party checks) k
  task_means (task.edged_checks level checks) k = silent_rest (edge (checked program (at level) Definer checks)) k
  task_means (task.handling_violation level v) k = silent_rest (handle program (at level) v) k
  task_means (task.before level f c) k = silent_rest (preconditions program (at level) f c) k
  task_means (task.after level f c) k = silent_rest (postconditions program (at level) f c) k
  task_means (task.caller_before level c) k = silent_rest (caller_row program (at level) (λ checks. checks.preconditions) c.caller c.function) k
  task_means (task.caller_after level c) k = silent_rest (caller_row program (at level) (λ checks. checks.postconditions) c.caller c.function) k
  task_means (task.body level kind b) k = valued_rest (body program (at level) kind (stmts program (at level) b)) k
  task_means (task.field_inits level fields) k = silent_rest (field_inits program (at level) fields) k
  task_means (task.default_fields level fields) k = silent_rest (default_fields program (at level) fields) k
  task_means (task.copying_fields level source fields) k = silent_rest (copy_fields program (at level) source fields) k
  task_means (task.copying_members level fields source to) k = silent_rest (copy_members program (at level) fields source to) k
  task_means (task.copying_object level type source to) k = silent_rest (copy_object program (at level) type source to) k

  -- what a frame makes of what is given to it
  abbrev pub given_means : Frame → Given → Rest → Does Value
  given_means (task.operate operation) g k = on_value g (λ v. valued_rest (applied program operation v) k)
  given_means (task.right_operand level operator type b) g k =
      on_value g (λ x. valued_rest (used program (at level) b >>= (λ y. spend >> operated operator type x y)) k)
  given_means (task.left_place level a) g k = on_value g (λ v. valued_rest (do
    place ← expr program (at level) a
    spend
    stored place v
    gives place) k)
  given_means (task.compound_place level operator computed kept a) g k = on_value g (λ v. valued_rest (do
    place ← expr program (at level) a
    spend
    updated operator computed kept place v
    gives place) k)
  given_means task.to_truth g k = on_value g (λ v. with_rest task.truth (truth v) k)
  given_means (task.decide level decides b) g k = on_truth g (λ x. valued_rest (spend >>
      (if (if decides then x else not x) then gives (truth_value decides) else (used program (at level) b >>= truth >>= (λ y. gives (truth_value y))))) k)
  given_means (task.choose level b c) g k = on_truth g (λ x. valued_rest (spend >> (if x then used program (at level) b else used program (at level) c)) k)
  given_means task.truth_as_value g k = on_truth g (λ y. k.on_given (value (truth_value y)))
  given_means task.place_of_object g k = on_number g (λ n. k.on_given (value (object_place n)))
  given_means (task.reference_argument level rest) g k = on_value g (λ v. with_rest values (args program (at level) rest >>= (λ vs. gives (v ∷ vs))) k)
  given_means (task.object_argument level rest) g k =
      on_number g (λ n. with_rest values (args program (at level) rest >>= (λ vs. gives (object_place n ∷ vs))) k)
  given_means (task.first_argument v) g k = on_values g (λ vs. k.on_given (values (v ∷ vs)))
  given_means (task.call_through level kind a) g k =
      on_value g (λ p. valued_rest (call_through_giving program (at level) kind p (args program (at level) a)) k)
  given_means (task.result_through level a place) g k =
      on_value g (λ p. silent_rest (call_of program (at level) (by_pointer p) (args program (at level) a) (Some (address place)) >> skip) k)
  given_means (task.temporary_through level c a) g k =
      on_value g (λ p. valued_rest (temporary_of_call program (at level) c p (args program (at level) a)) k)
  given_means (task.call_with level callee result) g k = on_values g (λ vs. valued_rest (call_to program (at level) callee vs result) k)
  given_means (task.call_into_object level callee n) g k = on_values g (λ vs. valued_rest (do
    call_to program (at level) callee vs (Some (object_place n))
    read (record { object = n; leaf = 0 })) k)
  given_means (task.read_result n) g k = valued_rest (read (record { object = n; leaf = 0 })) k
  given_means (task.end_result n) g k = on_value g (λ v. valued_rest (end_lifetime n >> gives v) k)
  given_means (task.end_object n) g k = silent_rest (end_lifetime n) k
  given_means task.discard g k = k.on_given nothing
  given_means (task.then_next t) g k = task_means t k
  given_means (task.replace other) g k = k.on_given other
  given_means task.completed g k = k.on_given (completion on_to_next)
  given_means task.returning g k = on_value g (λ v. k.on_given (completion (return v)))
  given_means (task.write_value p) g k = on_value g (λ v. silent_rest (write p (Some v)) k)
  given_means (task.made keeper n type) g k = with_rest number (keeps keeper (Rattle.cx_core.specs.Outcome.whole n type) >> gives n) k
  given_means (task.keeping_field a type) g k = silent_rest (keep_field program (λ c. undefined Mixed) a type) k
  given_means (task.bound slot) g k = on_value g (λ place. silent_rest (bind slot place) k)
  given_means (task.throwing type) g k = on_number g (λ n. completed_rest (do
    spend
    append (event.throw (type_name program type))
    throws (record { object = n; type = type })) k)
  given_means (task.leaving_scope level outer) g k = either (leaves_scope level outer) (λ _. k.on_given g) k.on_thrown
  given_means (task.leaving_full level outer) g k = either (leaves_full level outer) (λ _. k.on_given g) k.on_thrown
  given_means (task.restore_living outer left) g k = either (set_living outer) (λ _. left_means left k) k.on_thrown
  given_means (task.restore_temporaries outer left) g k = either (set_temporaries outer) (λ _. left_means left k) k.on_thrown
  given_means (task.constructing level outer) g k = either (set_living outer) (λ _. k.on_given g) k.on_thrown
  given_means (task.undone_fields outer e) g k = either (set_living outer) (λ _. k.on_thrown e) k.on_thrown
  given_means (task.holding level e held) g k =
      either (set_held held >> end_unless_among program (at level) e held) (λ _. k.on_given g) k.on_thrown
  given_means (task.as_left left) g k = left_means left k
  given_means (task.within frame) g k = either (set_frame frame) (λ _. k.on_given g) k.on_thrown
  given_means (task.edge_if noexcept) g k = k.on_given g
  given_means (task.branch level a b) g k = on_truth g (λ x. completed_rest (if x then stmt program (at level) a else stmt program (at level) b) k)
  given_means (task.sequence level rest) g k = on_completion g (λ c. completed_rest (sequence (stmts program (at level) rest) c) k)
  given_means (task.catching level h) g k = k.on_given g
  given_means (task.turn_tested level l n) g k = on_truth g (λ b. completed_rest (
      if b then stmt program (at level) l.body >>= after_turn (step_of level l.step) (turns_of level l n) else gives on_to_next) k)
  given_means (task.turn_done level l n) g k = on_completion g (λ c. completed_rest (after_turn (step_of level l.step) (turns_of level l n) c) k)
  given_means (task.verdict level a semantic) g k = on_truth g (λ b. silent_rest (verdict_on program (at level) a semantic b) k)
  given_means task.terminate g k = ends (ended ContractTerminated)
  given_means (task.value_given kind) g k = on_completion g (λ c. valued_rest (value_given program (λ c. undefined Mixed) kind c) k)
  given_means (task.postconditions level f c) g k = on_value g (λ v. valued_rest (
      undone_by' level f c v >> gives v) k)
    where
      undone_by' : Level → Function → Call → Value → Does Nothing
      undone_by' level f c v = Rattle.cx_core.specs.Outcome.undone_by
          (naming_result program (at level) f.result v (postconditions program (at level) f c)) (destroy_result program (at level) f.result c.result)
  given_means (task.posted level kind place v) g k = k.on_given (value v)
  given_means (task.destroyed name a) g k = valued_rest (append (event.destroyed name a.object a.leaf) >> gives null) k

  -- what it makes of an exception that passes it
  abbrev pub thrown_means : Frame → Exception → Rest → Does Value
  thrown_means (task.end_result n) e k = either (end_lifetime n) (λ _. k.on_thrown e) k.on_thrown
  thrown_means (task.made keeper n type) e k = either (end_lifetime n) (λ _. k.on_thrown e) k.on_thrown
  thrown_means (task.leaving_scope level outer) e k = either (leaves_scope level outer) (λ _. k.on_thrown e) k.on_thrown
  thrown_means (task.leaving_full level outer) e k = either (leaves_full level outer) (λ _. k.on_thrown e) k.on_thrown
  thrown_means (task.constructing level outer) e k =
      either (current_living >>= end_each program (at level))
      (λ _. either (set_living outer) (λ _. k.on_thrown e) k.on_thrown)
      (λ x. either (set_living outer) (λ _. k.on_thrown x) k.on_thrown)
  thrown_means (task.undone_fields outer x) e k = either (set_living outer) (λ _. k.on_thrown e) k.on_thrown
  thrown_means (task.holding level x held) e k =
      either (set_held held >> end_unless_among program (at level) x (e ∷ held)) (λ _. k.on_thrown e) k.on_thrown
  thrown_means (task.within frame) e k = either (set_frame frame) (λ _. k.on_thrown e) k.on_thrown
  thrown_means (task.edge_if noexcept) e k = if noexcept then ends (ended Terminated) else k.on_thrown e
  thrown_means (task.catching level h) e k = completed_rest (handlers program (at level) h e) k
  thrown_means (task.verdict level a semantic) e k = silent_rest (verdict_threw program (at level) a semantic e) k
  thrown_means (task.posted level kind place v) e k = either (destroy_result program (at level) kind place) (λ _. k.on_thrown e) k.on_thrown
  thrown_means f e k = k.on_thrown e

  abbrev pub under : List Frame → Rest → Rest
  under [] k = k
  under (f ∷ frames) k = record {
    on_given = λ g. given_means f g (under frames k);
    on_thrown = λ e. thrown_means f e (under frames k);
  }

  abbrev pub next_means : Next → Rest → Does Value
  next_means (task.give g) k = k.on_given g
  next_means (go t frames) k = task_means t (under frames k)

  -- a step keeps what a part of a run means
  abbrev pub Steps : Does Value → Does Next → Rest → Type 0
  Steps m next k = m ≡ either next (λ n. next_means n k) k.on_thrown
