-- Each step of a frame keeps what the frame makes of what is given to it, and of an exception that passes it.
use Rattle.std.proofs.Common.{◌≡◌, refl, sym, ◌∙◌, ℕ, Bool, true, false, not, if◌then◌else◌, List, [], ◌∷◌, Option, Some, None}
use Rattle.cx_core.specs.Words.{Semantic, Ignore, Observe, Enforce, QuickEnforce, Holds, False, Threw, PredicateFalse, EvaluationException, Violation}
use Rattle.cx_core.specs.Tree as tree
use Rattle.cx_core.specs.Tree.{Operand, Args, Assertion, Check, Stmt}
use Rattle.cx_core.specs.Program.{Program, Function, ResultKind, void, scalar_value, scalar_object, class_object, reference, exit_status}
use Rattle.cx_core.specs.Store.{Value, address}
use Rattle.cx_core.specs.Event as event
use Rattle.cx_core.specs.Outcome.{State, Exception, Living, whole, Does, Nothing, either, ◌>>=◌, ◌>>◌, gives, throws, ends, some, spend, append, current_frame, set_frame, current_living, set_living, current_temporaries, set_temporaries, current_held, set_held, end_lifetime, read, place_of, undone_by, keep_temporary, write}
use Rattle.cx_core.specs.Leaving.{Call, end, end_each, is_among, end_unless_among, holding}
use Rattle.cx_core.specs.Check.{truth, verdict_on, verdict_threw, handle, violation_of}
use Rattle.cx_core.specs.Operators.{truth_value, bind}
use Rattle.cx_core.specs.Statements.{Completion, on_to_next, break, continue, return, after_turn, keep_field}
use Rattle.cx_core.specs.Calls.{Callee, by_name, by_pointer, function_held, call_to, call_of, naming_result, destroy_result, value_given}
use Rattle.cx_core.specs.Meaning.{expr, used, args, stmt, stmts, evaluated, checked, preconditions, postconditions}
use Rattle.cx_plain.specs.Task as task
use Rattle.cx_plain.specs.Task.{Level, Given, value, nothing, values, number, completion, Left, given, thrown, Loop, Task, Frame, Next, go}
use Rattle.cx_plain.specs.Step.{site_of, answered, valued, silent, no_calls, on_value, on_truth, on_values, on_number, on_completion, applied, keeps, doing, giving, left_by, step_given, step_thrown, step_holding, step_verdict, step_violated, step_threw, step_postconditions, step_posted, step_call_to, step_turn_done, step_sequence}
use Rattle.cx_plain.proofs.Flow.{flow, both, finally_flow, undone_flow}
use Rattle.cx_plain.proofs.Denoted.{Rest, valued_rest, silent_rest, completed_rest, left_means, at, step_of, turns_of, given_means, thrown_means, under, next_means, Steps, leaves_scope, leaves_full}
use Rattle.cx_plain.proofs.Opened.{open_holding, both_steady, steady_frame, steady_function_held}
use Rattle.cx_plain.proofs.ExpressionSteps.{answered_steps, through_steps, temporary_through_steps}

module _ (program : Program) where
  -- ---- what is given is of one sort

  on_value_steps : (g : Given) (f : Value → Does Value) (f' : Value → Does Next) (k : Rest)
      → ((v : Value) → Steps program (f v) (f' v) k) → Steps program (on_value g f) (on_value g f') k
  unfolding either ends
  on_value_steps (value v) f f' k h = h v
  on_value_steps nothing f f' k h = refl
  on_value_steps (task.truth b) f f' k h = refl
  on_value_steps (values vs) f f' k h = refl
  on_value_steps (number n) f f' k h = refl
  on_value_steps (completion c) f f' k h = refl

  on_truth_steps : (g : Given) (f : Bool → Does Value) (f' : Bool → Does Next) (k : Rest)
      → ((b : Bool) → Steps program (f b) (f' b) k) → Steps program (on_truth g f) (on_truth g f') k
  unfolding either ends
  on_truth_steps (value v) f f' k h = refl
  on_truth_steps nothing f f' k h = refl
  on_truth_steps (task.truth b) f f' k h = h b
  on_truth_steps (values vs) f f' k h = refl
  on_truth_steps (number n) f f' k h = refl
  on_truth_steps (completion c) f f' k h = refl

  on_values_steps : (g : Given) (f : List Value → Does Value) (f' : List Value → Does Next) (k : Rest)
      → ((vs : List Value) → Steps program (f vs) (f' vs) k) → Steps program (on_values g f) (on_values g f') k
  unfolding either ends
  on_values_steps (value v) f f' k h = refl
  on_values_steps nothing f f' k h = refl
  on_values_steps (task.truth b) f f' k h = refl
  on_values_steps (values vs) f f' k h = h vs
  on_values_steps (number n) f f' k h = refl
  on_values_steps (completion c) f f' k h = refl

  on_number_steps : (g : Given) (f : ℕ → Does Value) (f' : ℕ → Does Next) (k : Rest)
      → ((n : ℕ) → Steps program (f n) (f' n) k) → Steps program (on_number g f) (on_number g f') k
  unfolding either ends
  on_number_steps (value v) f f' k h = refl
  on_number_steps nothing f f' k h = refl
  on_number_steps (task.truth b) f f' k h = refl
  on_number_steps (values vs) f f' k h = refl
  on_number_steps (number n) f f' k h = h n
  on_number_steps (completion c) f f' k h = refl

  on_completion_steps : (g : Given) (f : Completion → Does Value) (f' : Completion → Does Next) (k : Rest)
      → ((c : Completion) → Steps program (f c) (f' c) k) → Steps program (on_completion g f) (on_completion g f') k
  unfolding either ends
  on_completion_steps (value v) f f' k h = refl
  on_completion_steps nothing f f' k h = refl
  on_completion_steps (task.truth b) f f' k h = refl
  on_completion_steps (values vs) f f' k h = refl
  on_completion_steps (number n) f f' k h = refl
  on_completion_steps (completion c) f f' k h = h c

  -- ---- frames of operators and statements

  decided_steps : (level : Level) (decides stays : Bool) (b : Operand) (k : Rest)
      → Steps program (valued_rest (if stays then gives (truth_value decides) else (used program (at program level) b >>= truth >>= (λ y. gives (truth_value y)))) k)
      (if stays then giving (value (truth_value decides)) else doing (task.used_truth level b) (task.truth_as_value ∷ [])) k
  unfolding either gives throws ends
  decided_steps level decides true b k = refl
  decided_steps level decides false b k = flow (used program (at program level) b >>= truth) _ _ _

  chosen_steps : (level : Level) (x : Bool) (b c : Operand) (k : Rest)
      → Steps program (valued_rest (if x then used program (at program level) b else used program (at program level) c) k)
      (if x then doing (task.used level b) [] else doing (task.used level c) []) k
  unfolding either gives
  chosen_steps level true b c k = refl
  chosen_steps level false b c k = refl

  branch_steps : (level : Level) (x : Bool) (a b : Stmt Check) (k : Rest)
      → Steps program (completed_rest (if x then stmt program (at program level) a else stmt program (at program level) b) k)
      (if x then doing (task.statement level a) [] else doing (task.statement level b) []) k
  unfolding either gives
  branch_steps level true a b k = refl
  branch_steps level false a b k = refl

  tested_steps : (level : Level) (l : Loop) (n : ℕ) (b : Bool) (k : Rest)
      → Steps program (completed_rest (if b then stmt program (at program level) l.body >>= after_turn (step_of program level l.step) (turns_of program level l n) else gives on_to_next) k)
      (if b then doing (task.statement level l.body) (task.turn_done level l n ∷ []) else giving (completion on_to_next)) k
  unfolding either gives throws ends
  tested_steps level l n true k = flow (stmt program (at program level) l.body) _ _ _
  tested_steps level l n false k = refl

  stepped_steps : (level : Level) (l : Loop) (n : ℕ) (step : Option (Stmt Check)) (k : Rest)
      → Steps program (completed_rest (step_of program level step >> turns_of program level l n) k)
      (gives (Rattle.cx_plain.specs.Step.after_turn_task level l n step)) k
  unfolding either gives throws ends
  stepped_steps level l n None k = refl
  stepped_steps level l n (Some s) k = flow (stmt program (at program level) s) _ _ _

  turn_done_steps : (level : Level) (l : Loop) (n : ℕ) (c : Completion) (k : Rest)
      → Steps program (completed_rest (after_turn (step_of program level l.step) (turns_of program level l n) c) k) (step_turn_done program level l n c) k
  unfolding either gives throws ends
  turn_done_steps level l n on_to_next k = stepped_steps level l n l.step k
  turn_done_steps level l n continue k = stepped_steps level l n l.step k
  turn_done_steps level l n break k = refl
  turn_done_steps level l n (return v) k = refl

  sequence_steps : (level : Level) (rest : tree.Stmts Check) (c : Completion) (k : Rest)
      → Steps program (completed_rest (Rattle.cx_core.specs.Statements.sequence (stmts program (at program level) rest) c) k) (step_sequence program level rest c) k
  unfolding either gives
  sequence_steps level rest on_to_next k = refl
  sequence_steps level rest break k = refl
  sequence_steps level rest continue k = refl
  sequence_steps level rest (return v) k = refl

  -- ---- verdicts

  violated_steps : (level : Level) (semantic : Semantic) (v : Violation) (k : Rest)
      → Steps program (silent_rest (Rattle.cx_core.specs.Check.violated program (at program level) semantic (handle program (at program level) v)) k) (step_violated program level semantic v) k
  unfolding either gives throws ends
  violated_steps level Ignore v k = refl
  violated_steps level Observe v k = refl
  violated_steps level Enforce v k = flow (handle program (at program level) v) _ _ _
  violated_steps level QuickEnforce v k = refl

  verdict_steps : (level : Level) (a : Assertion) (semantic : Semantic) (b : Bool) (k : Rest)
      → Steps program (silent_rest (verdict_on program (at program level) a semantic b) k) (step_verdict program level a semantic b) k
  unfolding either gives throws ends
  verdict_steps level a semantic true k = answered_steps program (λ _. nothing) (append (event.verdict Holds)) k
  verdict_steps level a semantic false k = both (append (event.verdict False)) _ _ _ _ _ (λ _. violated_steps level semantic (violation_of a PredicateFalse semantic) k)

  threw_steps : (level : Level) (semantic : Semantic) (e : Exception) (v : Violation) (k : Rest)
      → Steps program
      (silent_rest (Rattle.cx_core.specs.Check.violated program (at program level) semantic (holding program (at program level) e (handle program (at program level) v))) k)
      (step_threw program level semantic e v) k
  unfolding either gives throws ends
  threw_steps level Ignore e v k = refl
  threw_steps level Observe e v k =
      open_holding program level (handle program (at program level) v) _ _ (λ holding. doing (task.handling_violation level v) (holding ∷ [])) k e (λ held. refl)
  threw_steps level Enforce e v k = flow (holding program (at program level) e (handle program (at program level) v)) _ _ _
      ∙ open_holding program level (handle program (at program level) v) _ _ (λ holding. doing (task.handling_violation level v) (holding ∷ task.terminate ∷ [])) k e (λ held. refl)
  threw_steps level QuickEnforce e v k = refl

  -- ---- what is left

  left_steps : (left : Left) (k : Rest) → Steps program (left_means left k) (left_by left) k
  unfolding either gives throws
  left_steps (given g) k = refl
  left_steps (thrown e) k = refl

  held_steps : (level : Level) (e : Exception) (among : Bool) (left : Left) (k : Rest)
      → either (if among then Rattle.cx_core.specs.Outcome.skip else end program (at program level) (whole e.object e.type)) (λ _. left_means left k) k.on_thrown
      ≡ either (if among then left_by left else doing (task.ending level (whole e.object e.type)) (task.as_left left ∷ [])) (λ n. next_means program n k) k.on_thrown
  unfolding either gives throws
  held_steps level e true left k = left_steps left k
  held_steps level e false left k = refl

  holding_steps : (level : Level) (e : Exception) (held others : List Exception) (left : Left) (k : Rest)
      → either (set_held held >> end_unless_among program (at program level) e others) (λ _. left_means left k) k.on_thrown
      ≡ either (set_held held >> step_holding program level e others left) (λ n. next_means program n k) k.on_thrown
  unfolding either gives throws
  holding_steps level e held others left k = both (set_held held) _ _ _ _ _ (λ _. held_steps level e (is_among program no_calls e others) left k)

  leaving_scope_steps : (level : Level) (outer : List Living) (left : Left) (k : Rest)
      → either (leaves_scope program level outer) (λ _. left_means left k) k.on_thrown
      ≡ either (current_living >>= (λ living. doing (task.ending_each level living) (task.restore_living outer left ∷ []))) (λ n. next_means program n k) k.on_thrown
  unfolding either gives throws
  leaving_scope_steps level outer left k = flow (current_living >>= end_each program (at program level)) _ _ _
      ∙ both current_living _ _ _ _ _ (λ living. refl)

  leaving_full_steps : (level : Level) (outer : List Living) (left : Left) (k : Rest)
      → either (leaves_full program level outer) (λ _. left_means left k) k.on_thrown
      ≡ either (current_temporaries >>= (λ living. doing (task.ending_each level living) (task.restore_temporaries outer left ∷ []))) (λ n. next_means program n k) k.on_thrown
  unfolding either gives throws
  leaving_full_steps level outer left k = flow (current_temporaries >>= end_each program (at program level)) _ _ _
      ∙ both current_temporaries _ _ _ _ _ (λ living. refl)

  -- what only gives on or throws on after a part
  passed : {A : Type 0} (m : Does A) (left : Left) (k : Rest)
      → either m (λ _. left_means left k) k.on_thrown ≡ either (m >> left_by left) (λ n. next_means program n k) k.on_thrown
  passed m left k = (λ i. either m (λ _. left_steps left k i) k.on_thrown) ∙ sym (flow m (λ _. left_by left) (λ n. next_means program n k) k.on_thrown)

  -- ---- after a body

  plain_steps : (level : Level) (f : Function) (c : Call) (v : Value) (k : Rest)
      → Steps program (valued_rest (
      undone_by (postconditions program (at program level) f c) (destroy_result program (at program level) f.result c.result) >> gives v) k)
      (doing (task.after level f (site_of c)) (task.posted level f.result c.result v ∷ [])) k
  unfolding either gives throws ends
  plain_steps level f c v k = flow (undone_by (postconditions program (at program level) f c) (destroy_result program (at program level) f.result c.result)) _ _ _
      ∙ undone_flow (postconditions program (at program level) f c) (destroy_result program (at program level) f.result c.result) _ _

  named_steps : (level : Level) (f : Function) (c : Call) (v : Value) (k : Rest)
      → Steps program (valued_rest (
      undone_by (naming_result program (at program level) reference v (postconditions program (at program level) f c)) (destroy_result program (at program level) f.result c.result) >> gives v) k)
      (step_postconditions program level reference f c v) k
  unfolding either gives throws ends current_frame set_frame
  named_steps level f c v k =
      flow (undone_by (naming_result program (at program level) reference v (postconditions program (at program level) f c)) (destroy_result program (at program level) f.result c.result)) _ _ _
      ∙ undone_flow (naming_result program (at program level) reference v (postconditions program (at program level) f c)) (destroy_result program (at program level) f.result c.result) _ _
      ∙ (λ i s. finally_flow (postconditions program (at program level) f c) (set_frame s.frame) (λ _. k.on_given (value v))
      (λ e. either (destroy_result program (at program level) f.result c.result) (λ _. k.on_thrown e) k.on_thrown) i (record s { frame = record s.frame { result = Some v } }))

  postconditions_steps : (level : Level) (kind : ResultKind) (f : Function) (c : Call) (v : Value) (k : Rest)
      → Steps program (valued_rest (
      undone_by (naming_result program (at program level) kind v (postconditions program (at program level) f c)) (destroy_result program (at program level) f.result c.result) >> gives v) k)
      (step_postconditions program level kind f c v) k
  postconditions_steps level void f c v k = plain_steps level f c v k
  postconditions_steps level scalar_value f c v k = plain_steps level f c v k
  postconditions_steps level scalar_object f c v k = plain_steps level f c v k
  postconditions_steps level (class_object t) f c v k = plain_steps level f c v k
  postconditions_steps level reference f c v k = named_steps level f c v k
  postconditions_steps level exit_status f c v k = plain_steps level f c v k

  posted_steps : (level : Level) (kind : ResultKind) (place : Option Value) (e : Exception) (k : Rest)
      → either (destroy_result program (at program level) kind place) (λ _. k.on_thrown e) k.on_thrown ≡ either (step_posted program level kind place e) (λ n. next_means program n k) k.on_thrown
  unfolding either gives throws ends
  posted_steps level void place e k = refl
  posted_steps level scalar_value place e k = refl
  posted_steps level scalar_object place e k = refl
  posted_steps level reference place e k = refl
  posted_steps level exit_status place e k = refl
  posted_steps level (class_object t) place e k = both (some place >>= place_of) _ _ _ _ _ (λ a. refl)

  -- ---- calls

  call_to_steps : (level : Level) (callee : Callee) (arguments : List Value) (result : Option Value) (frames : List Frame) (k : Rest)
      → Steps program (valued_rest (call_to program (at program level) callee arguments result) (under program frames k)) (step_call_to program level callee arguments result frames) k
  unfolding either gives throws ends
  call_to_steps level (by_name f) arguments result frames k = both_steady current_frame steady_frame _ _ _ _ _ _ (λ frame. refl)
  call_to_steps level (by_pointer p) arguments result frames k = both_steady (function_held p) (steady_function_held p) _ _ _ _ _ _ (λ f.
      both_steady current_frame steady_frame _ _ _ _ _ _ (λ frame. refl))

  -- ---- all frames

  pub given_steps : (f : Frame) (g : Given) (k : Rest) → Steps program (given_means program f g k) (step_given program f g) k
  unfolding either gives throws ends
  given_steps (task.operate operation) g k = on_value_steps g _ _ k (λ v. answered_steps program value (applied program operation v) k)
  given_steps (task.right_operand level operator type b) g k = on_value_steps g _ _ k (λ x. flow (used program (at program level) b) _ _ _)
  given_steps (task.left_place level a) g k = on_value_steps g _ _ k (λ v. flow (expr program (at program level) a) _ _ _)
  given_steps (task.compound_place level operator computed kept a) g k = on_value_steps g _ _ k (λ v. flow (expr program (at program level) a) _ _ _)
  given_steps task.to_truth g k = on_value_steps g _ _ k (λ v. answered_steps program task.truth (truth v) k)
  given_steps (task.decide level decides b) g k = on_truth_steps g _ _ k (λ x. both spend _ _ _ _ _ (λ _. decided_steps level decides (if decides then x else not x) b k))
  given_steps (task.choose level b c) g k = on_truth_steps g _ _ k (λ x. both spend _ _ _ _ _ (λ _. chosen_steps level x b c k))
  given_steps task.truth_as_value g k = on_truth_steps g _ _ k (λ y. refl)
  given_steps task.place_of_object g k = on_number_steps g _ _ k (λ n. refl)
  given_steps (task.reference_argument level rest) g k = on_value_steps g _ _ k (λ v. flow (args program (at program level) rest) _ _ _)
  given_steps (task.object_argument level rest) g k = on_number_steps g _ _ k (λ n. flow (args program (at program level) rest) _ _ _)
  given_steps (task.first_argument v) g k = on_values_steps g _ _ k (λ vs. refl)
  given_steps (task.call_through level kind a) g k = on_value_steps g _ _ k (λ p. through_steps program level kind p a k)
  given_steps (task.result_through level a place) g k = on_value_steps g _ _ k (λ p.
      flow (call_of program (at program level) (by_pointer p) (args program (at program level) a) (Some (address place))) _ _ _)
  given_steps (task.temporary_through level c a) g k = on_value_steps g _ _ k (λ p. temporary_through_steps program level c p a k)
  given_steps (task.call_with level callee result) g k = on_values_steps g _ _ k (λ vs. call_to_steps level callee vs result [] k)
  given_steps (task.call_into_object level callee n) g k = on_values_steps g _ _ k (λ vs.
      flow (call_to program (at program level) callee vs (Some (Rattle.cx_core.specs.Meaning.object_place n))) _ _ _
      ∙ call_to_steps level callee vs (Some (Rattle.cx_core.specs.Meaning.object_place n)) (task.read_result n ∷ []) k)
  given_steps (task.read_result n) g k = answered_steps program value (read (record { object = n; leaf = 0 })) k
  given_steps (task.end_result n) g k = on_value_steps g _ _ k (λ v. answered_steps program value (end_lifetime n >> gives v) k)
  given_steps (task.end_object n) g k = answered_steps program (λ _. nothing) (end_lifetime n) k
  given_steps task.discard g k = refl
  given_steps (task.then_next t) g k = refl
  given_steps (task.replace other) g k = refl
  given_steps task.completed g k = refl
  given_steps task.returning g k = on_value_steps g _ _ k (λ v. refl)
  given_steps (task.write_value p) g k = on_value_steps g _ _ k (λ v. answered_steps program (λ _. nothing) (write p (Some v)) k)
  given_steps (task.made keeper n type) g k = answered_steps program number (keeps keeper (whole n type) >> gives n) k
  given_steps (task.keeping_field a type) g k = answered_steps program (λ _. nothing) (keep_field program no_calls a type) k
  given_steps (task.bound slot) g k = on_value_steps g _ _ k (λ place. answered_steps program (λ _. nothing) (bind slot place) k)
  given_steps (task.throwing type) g k = on_number_steps g _ _ k (λ n. both spend _ _ _ _ _ (λ _.
      both (append (event.throw (Rattle.cx_core.specs.Statements.type_name program type))) _ _ _ _ _ (λ _. refl)))
  given_steps (task.leaving_scope level outer) g k = leaving_scope_steps level outer (given g) k
  given_steps (task.leaving_full level outer) g k = leaving_full_steps level outer (given g) k
  given_steps (task.restore_living outer left) g k = passed (set_living outer) left k
  given_steps (task.restore_temporaries outer left) g k = passed (set_temporaries outer) left k
  given_steps (task.constructing level outer) g k = passed (set_living outer) (given g) k
  given_steps (task.undone_fields outer e) g k = passed (set_living outer) (thrown e) k
  given_steps (task.holding level e held) g k = holding_steps level e held held (given g) k
  given_steps (task.as_left left) g k = left_steps left k
  given_steps (task.within frame) g k = passed (set_frame frame) (given g) k
  given_steps (task.edge_if noexcept) g k = refl
  given_steps (task.branch level a b) g k = on_truth_steps g _ _ k (λ x. branch_steps level x a b k)
  given_steps (task.sequence level rest) g k = on_completion_steps g _ _ k (λ c. sequence_steps level rest c k)
  given_steps (task.catching level h) g k = refl
  given_steps (task.turn_tested level l n) g k = on_truth_steps g _ _ k (λ b. tested_steps level l n b k)
  given_steps (task.turn_done level l n) g k = on_completion_steps g _ _ k (λ c. turn_done_steps level l n c k)
  given_steps (task.verdict level a semantic) g k = on_truth_steps g _ _ k (λ b. verdict_steps level a semantic b k)
  given_steps task.terminate g k = refl
  given_steps (task.value_given kind) g k = on_completion_steps g _ _ k (λ c. answered_steps program value (value_given program no_calls kind c) k)
  given_steps (task.postconditions level f c) g k = on_value_steps g _ _ k (λ v. postconditions_steps level f.result f c v k)
  given_steps (task.posted level kind place v) g k = refl
  given_steps (task.destroyed name a) g k = answered_steps program value _ k

  undone_steps : (level : Level) (outer : List Living) (e : Exception) (k : Rest)
      → Steps program (thrown_means program (task.constructing level outer) e k) (step_thrown program (task.constructing level outer) e) k
  unfolding either gives throws ends current_living
  undone_steps level outer e k = refl

  raised : (e : Exception) (k : Rest) → Steps program (k.on_thrown e) (throws e) k
  unfolding either throws
  raised e k = refl

  edge_steps : (noexcept : Bool) (e : Exception) (k : Rest)
      → Steps program (if noexcept then ends (event.ended Rattle.cx_core.specs.Words.Terminated) else k.on_thrown e)
      (if noexcept then ends (event.ended Rattle.cx_core.specs.Words.Terminated) else throws e) k
  unfolding either throws ends
  edge_steps true e k = refl
  edge_steps false e k = refl

  pub thrown_steps : (f : Frame) (e : Exception) (k : Rest) → Steps program (thrown_means program f e k) (step_thrown program f e) k
  unfolding either gives throws ends
  thrown_steps (task.end_result n) e k = passed (end_lifetime n) (thrown e) k
  thrown_steps (task.made keeper n type) e k = passed (end_lifetime n) (thrown e) k
  thrown_steps (task.leaving_scope level outer) e k = leaving_scope_steps level outer (thrown e) k
  thrown_steps (task.leaving_full level outer) e k = leaving_full_steps level outer (thrown e) k
  thrown_steps (task.constructing level outer) e k = undone_steps level outer e k
  thrown_steps (task.undone_fields outer x) e k = passed (set_living outer) (thrown e) k
  thrown_steps (task.holding level x held) e k = holding_steps level x held (e ∷ held) (thrown e) k
  thrown_steps (task.within frame) e k = passed (set_frame frame) (thrown e) k
  thrown_steps (task.edge_if noexcept) e k = edge_steps noexcept e k
  thrown_steps (task.catching level h) e k = refl
  thrown_steps (task.verdict level a semantic) e k = both (append (event.verdict Threw)) _ _ _ _ _ (λ _. threw_steps level semantic e (violation_of a EvaluationException semantic) k)
  thrown_steps (task.posted level kind place v) e k = posted_steps level kind place e k
  thrown_steps f e k = raised e k
