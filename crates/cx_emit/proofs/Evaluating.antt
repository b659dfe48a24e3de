-- Where code stands for a contract assertion the machine follows its evaluation.
use Rattle.std.proofs.Common.{◌≡◌, ℕ, zero, ◌+◌, List, [], ◌∷◌, Some, Bool, true, ◌&&◌, inl, inr, refl, sym, ap, ◌∙◌, subst, arith}
use Rattle.std.specs.Prelude.{nat_eq, bytes_eq}
use Rattle.std.proofs.lemmas.Slice.Eq.{bytes_eq-Decides}
use Rattle.cx_code.specs.declared.image.Image.{Image}
use Rattle.cx_code.specs.declared.operation.Operation.TheVariants as does
use Rattle.cx_code.specs.declared.run.Value.{Value}
use Rattle.cx_code.specs.declared.run.Value.TheVariants as values
use Rattle.cx_code.specs.State.{State}
use Rattle.cx_core.specs.Words.{Party, Definer, Caller, Semantic, Ignore, Observe, Enforce, QuickEnforce}
use Rattle.cx_core.specs.Number.{truth_number}
use Rattle.cx_core.specs.Event.{Evaluation, begin, same_evaluation, party_number, semantic_number}
use Rattle.cx_core.specs.Tree.{Check, Operand, Specifier}
use Rattle.cx_core.specs.Program.{Program}
use Rattle.cx_core.specs.Store as store
use Rattle.cx_core.specs.Store.{number, address, null, violation}
use Rattle.cx_core.specs.Outcome as source
use Rattle.cx_core.specs.Outcome.{on, over, Does, Nothing, nothing, after, either, gives, throws, ends, spend, current_temporaries, set_temporaries}
use Rattle.cx_core.specs.Leaving.{Calls, end_each, full_expression}
use Rattle.cx_core.specs.Block.{Owed, evaluations, next_told, next_of, begin_told, begin_of, continued, if_permitted}
use Rattle.cx_core.specs.Check.{truth, verdict_on, verdict_threw, evaluation}
use Rattle.cx_core.specs.Meaning.{used, evaluated, owed, checked}
use Rattle.cx_simulation.specs.Machine.{goes, begins_ahead}
use Rattle.cx_simulation.specs.ImageMachine.{image_step}
use Rattle.cx_simulation.specs.Parts.{Follows, Steps}
use Rattle.cx_simulation.proofs.Parts.{follows_then, follows_either, follows_unit, follows_gives, follows_from, follows_nothing, follows_waiting, none_told, first_told}
use Rattle.cx_emit.specs.Configuration.{running_at, Has, Agrees, AreKept, IsAt, Gives}
use Rattle.cx_emit.specs.Checks.{IsAssertion, HaveDefaultHandler, StandsTruth, StandsViolated, StandsEvaluation, StandsCheck}
use Rattle.cx_emit.specs.Laws.{of_operand, of_statement}
use Rattle.cx_emit.proofs.Places.{all_kept, Valued}
use Rattle.cx_emit.proofs.Valuing.{account}
use Rattle.cx_emit.proofs.Expressions.{used_follows}
use Rattle.cx_emit.proofs.Deciding.{Judges, judges_follows}
use Rattle.cx_emit.proofs.Asserting.{Never, never_on, is_at_on, step_to, at, from_place, verdict_follows}

module _ (image : Image) (function : ℕ) (program : Program) (calls : Calls) where
  -- ---- full-expressions that make no temporary

  restored : (outer : List source.Living) (v : store.Value) (t : source.State) → t.temporaries ≡ []
      → either (either (either current_temporaries (end_each program calls) throws) (λ _. set_temporaries outer) throws) (λ _. gives v) throws t ≡ on v (record t { temporaries = outer })
  unfolding either gives throws current_temporaries set_temporaries
  restored outer v t e = ap (λ l. after (after (end_each program calls l t) (λ _. set_temporaries outer) throws) (λ _. gives v) throws) e

  -- the temporaries around are as before
  pub full_follows_at : (part : Does store.Value) (from to n : ℕ) (operands : List Value) (s : source.State) (m : State)
      → Follows (image_step image) n (record s { temporaries = [] }) (running_at m from operands) of_operand (Gives function to operands (record s { temporaries = [] }) m) (Never s m) (part (record s { temporaries = [] }))
      → Follows (image_step image) n s (running_at m from operands) of_operand (Gives function to operands s m) (Never s m) (full_expression program calls part s)
  unfolding either current_temporaries set_temporaries
  full_follows_at part from to n operands s m follows =
      follows_from (image_step image) n s inner (running_at m from operands) of_operand (Gives function to operands s m) (Never s m) _ refl refl
      (follows_either (image_step image) n inner (running_at m from operands) of_operand (account 0 0 0) of_operand of_operand (Gives function to operands inner m) (Gives function to operands s m) (Never inner m) (Never s m) part
      (λ v. either last (λ _. gives v) throws) (λ e. either last (λ _. throws e) throws)
      (record { goes_on = omega arith; left_first = omega arith; left_second = omega arith; in_hand = omega arith }) (record { goes_on = omega arith; left = omega arith; in_hand = omega arith })
      follows
      (λ v t d k g told. restores v t d k g told) (λ e t d k x told. absurd x))
    where
      inner : source.State
      inner = record s { temporaries = [] }

      last : Does Nothing
      last = either (either current_temporaries (end_each program calls) throws) (λ _. set_temporaries s.temporaries) throws

      restores : (v : store.Value) (t : source.State) (d : State) (k : ℕ) → Gives function to operands inner m v d t → t.begins ≡ begins_ahead (image_step image) k d
          → Follows (image_step image) k t d (account 0 0 0) (Gives function to operands s m) (Never s m) (either last (λ _. gives v) throws t)
      restores v t d k g told =
          subst (λ r. Follows (image_step image) k t d (account 0 0 0) (Gives function to operands s m) (Never s m) r) (sym (restored s.temporaries v t (g.kept).same_temporaries))
          (follows_nothing (image_step image) k t (record t { temporaries = s.temporaries }) d (account 0 0 0) (Gives function to operands s m) (Never s m) v (omega arith) refl refl refl
          (record {
            machine = g.machine;
            value = g.value;
            is_there = g.is_there;
            same_value = g.same_value;
            agrees = record { in_function = (g.agrees).in_function; same_store = (g.agrees).same_store; same_next = (g.agrees).same_next; same_input = (g.agrees).same_input; same_names = (g.agrees).same_names };
            kept = record {
              same_frame = (g.kept).same_frame;
              same_store = (g.kept).same_store;
              same_number = (g.kept).same_number;
              same_living = (g.kept).same_living;
              same_temporaries = refl;
              same_held = (g.kept).same_held;
              same_slots = (g.kept).same_slots;
              same_pending = (g.kept).same_pending;
              same_below = (g.kept).same_below;
              same_exceptions = (g.kept).same_exceptions;
            };
          }) told)

  pub full_follows : (part : Does store.Value) (from to : ℕ) → Valued image function Never of_operand part from to → Valued image function Never of_operand (full_expression program calls part) from to
  full_follows part from to follows n operands s m a told =
      full_follows_at part from to n operands s m (follows n operands (record s { temporaries = [] }) m (record { in_function = a.in_function; same_store = a.same_store; same_next = a.same_next; same_input = a.same_input; same_names = a.same_names }) told)

  -- ---- a value that is converted to `bool`

  pub truth_follows : (a : Operand) (from to : ℕ) → StandsTruth image function a from to → (n : ℕ) (operands : List Value) (s : source.State) (m : State) → Agrees function s m → s.begins ≡ begins_ahead (image_step image) n (running_at m from operands)
      → Follows (image_step image) n s (running_at m from operands) (account 11 0 0) (Judges image function Never never_on to operands s m) (Never s m) (either (evaluated program calls a) truth throws s)
  truth_follows a from to st n operands =
      judges_follows image function Never never_on (evaluated program calls a) from st.0 to (full_follows (used program calls a) from st.0 (used_follows image function Never never_on program calls a from st.0 st.1)) st.2 n operands

  -- ---- an evaluation

  module _ (default : HaveDefaultHandler image program) (party : Party) (c : Check) (predicate : Operand) (index : ℕ) (is : IsAssertion image index c.assertion) where
    abbrev Effect : ℕ → List Value → source.State → State → Nothing → State → source.State → Type 0
    Effect to operands s m _ d t = IsAt function to operands s m d t

    effect_on : (to : ℕ) (operands : List Value) (s t : source.State) (m d : State) → AreKept s m t d → (v : Nothing) (e : State) (u : source.State) → Effect to operands t d v e u → Effect to operands s m v e u
    effect_on to operands s t m d kept v e u x = is_at_on function to operands s t m d kept e u x

    -- behind its beginning
    evaluation_follows : (from p r v to : ℕ) → StandsTruth image function predicate from p → Has image function p (does.Verdict index) r → Has image function r (does.JumpNonzero to) v → StandsViolated image function index c.semantic v to
        → (n : ℕ) (operands : List Value) (s : source.State) (m : State) → Agrees function s m → s.begins ≡ begins_ahead (image_step image) n (running_at m from operands)
        → Follows (image_step image) n s (running_at m from operands) of_statement (Effect to operands s m) (Never s m) (evaluation program calls c (evaluated program calls predicate) s)
    evaluation_follows from p r v to first second third fourth n operands s m a told =
        follows_either (image_step image) n s (running_at m from operands) (account 11 0 0) (account 0 4 4) of_statement of_statement (Judges image function Never never_on p operands s m) (Effect to operands s m) (Never s m) (Never s m)
        (either (evaluated program calls predicate) truth throws) (verdict_on program calls c.assertion c.semantic) (verdict_threw program calls c.assertion c.semantic)
        (record { goes_on = omega arith; left_first = omega arith; left_second = omega arith; in_hand = omega arith }) (record { goes_on = omega arith; left = omega arith; in_hand = omega arith })
        (truth_follows predicate from p first n operands s m a told)
        (λ b t d k g told. from_place image function (Effect to operands) (effect_on to operands) p (values.Number (truth_number b) ∷ operands) s t m d k (account 0 4 4) (verdict_on program calls c.assertion c.semantic b t) g told
        (λ agrees told. verdict_follows image function program calls default index c.assertion is c.semantic b p r v to second third fourth k operands t g.machine agrees told))
        (λ e t d k x told. absurd x)

    abbrev the_specifier : Specifier Check
    the_specifier = record { of = c; predicate = predicate }

    the_evaluation : Evaluation
    the_evaluation = record { assertion = c.assertion.name; party = party; semantic = c.semantic }

    same_party : (party : Party) → nat_eq (party_number party) (party_number party) ≡ true
    same_party Definer = refl
    same_party Caller = refl

    same_semantic : (semantic : Semantic) → nat_eq (semantic_number semantic) (semantic_number semantic) ≡ true
    same_semantic Ignore = refl
    same_semantic Observe = refl
    same_semantic Enforce = refl
    same_semantic QuickEnforce = refl

    all_same : (x y z : Bool) → x ≡ true → y ≡ true → z ≡ true → (x && y && z) ≡ true
    all_same x y z p q r = rw (p, q, r) refl

    is_itself : same_evaluation the_evaluation the_evaluation ≡ true
    unfolding the_evaluation
    is_itself = all_same (bytes_eq c.assertion.name c.assertion.name) (nat_eq (party_number party) (party_number party)) (nat_eq (semantic_number c.semantic) (semantic_number c.semantic)) ((bytes_eq-Decides c.assertion.name c.assertion.name).1 refl) (same_party party) (same_semantic c.semantic)

    -- it may stand, as it is owed once
    may_stand : c.times ≡ 1 → continued the_evaluation (owed program calls party the_specifier ∷ []) ≡ Some (evaluation program calls c (evaluated program calls predicate), record (owed program calls party the_specifier) { left = 0 } ∷ [])
    unfolding the_evaluation
    may_stand once = rw (is_itself, once) refl

    -- the machine begins it
    begins_so : (from to : ℕ) → Has image function from (does.Begin index party c.semantic) to → (operands : List Value) (s : source.State) (m : State) → Agrees function s m
        → image_step image (running_at m from operands) ≡ goes (running_at m (from + 1) operands) (Some (begin the_evaluation))
    unfolding the_evaluation
    begins_so from to h operands s m a =
        at image function s m from operands (does.Begin index party c.semantic) a h.here
        ∙ ap (λ (name : List ℕ). goes (running_at m (from + 1) operands) (Some (begin (record { assertion = name; party = party; semantic = c.semantic })))) is.same_name

    begin_steps : (from to : ℕ) → Has image function from (does.Begin index party c.semantic) to → (operands : List Value) (s : source.State) (m : State) → Agrees function s m → (rest : List Evaluation) → s.begins ≡ the_evaluation ∷ rest → (budget : ℕ)
        → Steps (image_step image) (record s { budget = budget }) (running_at m from operands) (Effect to operands s m) (Never s m) (begin_told (record s { budget = budget }))
    unfolding begin_told
    begin_steps from to h operands s m a rest e budget =
        subst (λ r. Steps (image_step image) (record s { budget = budget }) (running_at m from operands) (Effect to operands s m) (Never s m) r) (ap (λ begins. begin_of begins (record s { budget = budget })) (sym e))
        (step_to image function (record s { budget = budget }) (record s { budget = budget; begins = rest; trace = begin the_evaluation ∷ s.trace }) m m from (from + 1) to operands operands (Some (begin the_evaluation)) h.next
        (begins_so from to h operands s m a) refl e refl (record { in_function = a.in_function; same_store = a.same_store; same_next = a.same_next; same_input = a.same_input; same_names = a.same_names }) s
        (record { same_frame = refl; same_store = refl; same_number = refl; same_living = refl; same_temporaries = refl; same_held = refl; same_slots = refl; same_pending = refl; same_below = refl; same_exceptions = refl }))

    -- ---- the row of the one assertion

    module _ (from to : ℕ) (st : StandsEvaluation image function party index c.semantic predicate from to) (once : c.times ≡ 1) (n : ℕ) (operands : List Value) (s : source.State) (m : State) (a : Agrees function s m) (told : s.begins ≡ begins_ahead (image_step image) n (running_at m from operands)) where
      abbrev Evaluates : source.Outcome Nothing → Type 0
      Evaluates r = Follows (image_step image) n s (running_at m from operands) of_statement (Effect to operands s m) (Never s m) r

      -- it begins, the predicate is evaluated, and the row is at its end
      begun_follows : (rest : List Evaluation) → s.begins ≡ the_evaluation ∷ rest → (more : List Owed)
          → Evaluates (either (either (either spend (λ _. begin_told) throws) (λ _. evaluation program calls c (evaluated program calls predicate)) throws) (λ _. evaluations zero more) throws s)
      unfolding evaluations
      begun_follows rest e more =
          follows_then (image_step image) n s (running_at m from operands) of_statement of_statement of_statement (Effect to operands s m) (Effect to operands s m) (Never s m)
          (either (either spend (λ _. begin_told) throws) (λ _. evaluation program calls c (evaluated program calls predicate)) throws) (λ _. gives nothing)
          (record { goes_on = omega arith; left_first = omega arith; left_second = omega arith; in_hand = omega arith })
          (follows_then (image_step image) n s (running_at m from operands) (account 31 0 0) of_statement of_statement (Effect st.0 operands s m) (Effect to operands s m) (Never s m)
          (either spend (λ _. begin_told) throws) (λ _. evaluation program calls c (evaluated program calls predicate))
          (record { goes_on = omega arith; left_first = omega arith; left_second = omega arith; in_hand = omega arith })
          (follows_unit (image_step image) n s (running_at m from operands) (account 31 0 0) (Effect st.0 operands s m) (Never s m) begin_told (omega arith) told (begin_steps from st.0 st.4 operands s m a rest e))
          (λ _ t d k g told. from_place image function (Effect to operands) (effect_on to operands) st.0 operands s t m d k of_statement (evaluation program calls c (evaluated program calls predicate) t) g told
          (λ agrees told. evaluation_follows st.0 st.1 st.2 st.3 to st.5 st.6 st.7 st.8 k operands t g.machine agrees told)))
          (λ _ t d k g told. follows_gives (image_step image) k t d of_statement (Effect to operands s m) (Never s m) nothing (omega arith) g told)

      abbrev row_after : Evaluation → Does Nothing
      row_after e = if_permitted (continued e (owed program calls party the_specifier ∷ [])) (λ check more. either (either (either spend (λ _. begin_told) throws) (λ _. check) throws) (λ _. evaluations zero more) throws)

      asked : (begins : List Evaluation) → s.begins ≡ begins → Evaluates (after (next_of begins s) row_after throws)
      asked [] e = follows_waiting (image_step image) n s (running_at m from operands) of_statement (Effect to operands s m) (Never s m) (none_told (image_step image) n (running_at m from operands) (running_at m (from + 1) operands) the_evaluation (begins_so from st.0 st.4 operands s m a) (sym e ∙ told))
      asked (x ∷ rest) e =
          let same : x ≡ the_evaluation = first_told (image_step image) n (running_at m from operands) (running_at m (from + 1) operands) the_evaluation x rest (begins_so from st.0 st.4 operands s m a) (sym e ∙ told) in
          subst (λ y. Evaluates (row_after y s)) (sym same)
          (subst (λ o. Evaluates (if_permitted o (λ check more. either (either (either spend (λ _. begin_told) throws) (λ _. check) throws) (λ _. evaluations zero more) throws) s)) (sym (may_stand once))
          (begun_follows rest (e ∙ ap (λ y. y ∷ rest) same) _))

      row_follows : Evaluates (evaluations 1 (owed program calls party the_specifier ∷ []) s)
      unfolding evaluations either next_told
      row_follows = asked s.begins refl

  pub check_follows : HaveDefaultHandler image program → (party : Party) (c : Check) (predicate : Operand) (from to : ℕ) → StandsCheck image function party c predicate from to
      → (n : ℕ) (operands : List Value) (s : source.State) (m : State) → Agrees function s m → s.begins ≡ begins_ahead (image_step image) n (running_at m from operands)
      → Follows (image_step image) n s (running_at m from operands) of_statement (λ (_ : Nothing) d t. IsAt function to operands s m d t) (Never s m) (checked program calls party (record { of = c; predicate = predicate } ∷ []) s)
  unfolding evaluations
  check_follows default party c predicate from to (inl st) n operands s m a told =
      let none : c.times + 0 ≡ 0 = omega (arith, st.0) in
      subst (λ k. Follows (image_step image) n s (running_at m from operands) of_statement (λ (_ : Nothing) d t. IsAt function to operands s m d t) (Never s m) (evaluations k (owed program calls party (record { of = c; predicate = predicate }) ∷ []) s)) (sym none)
      (follows_gives (image_step image) n s (running_at m from operands) of_statement (λ (_ : Nothing) d t. IsAt function to operands s m d t) (Never s m) nothing (omega arith)
      (record { machine = m; is_there = ap (λ p. running_at m p operands) (sym st.1); agrees = a; kept = all_kept s m }) told)
  check_follows default party c predicate from to (inr st) n operands s m a told =
      let one : c.times + 0 ≡ 1 = omega (arith, st.0) in
      subst (λ k. Follows (image_step image) n s (running_at m from operands) of_statement (λ (_ : Nothing) d t. IsAt function to operands s m d t) (Never s m) (evaluations k (owed program calls party (record { of = c; predicate = predicate }) ∷ []) s)) (sym one)
      (row_follows default party c predicate st.1 st.2 from to st.3 st.0 n operands s m a told)
