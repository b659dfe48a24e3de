-- Where code stands for statements the machine follows them.
use Rattle.std.proofs.Common.{◌≡◌, ℕ, suc, ◌+◌, length, List, [], ◌∷◌, Some, None, true, inl, inr, refl, sym, ap, ◌∙◌, subst, arith}
use Rattle.cx_code.specs.declared.image.Image.{Image}
use Rattle.cx_code.specs.declared.operation.Operation.TheVariants as does
use Rattle.cx_code.specs.declared.run.Value.{Value}
use Rattle.cx_code.specs.State.{State}
use Rattle.cx_core.specs.Words.{Definer}
use Rattle.cx_core.specs.Tree.{ObjectType, scalar, pointer, Check, Expr, assign, prefix_step, postfix_step, Operand, operand, value, Stmt, empty, expression, variable_declaration, reference_declaration}
use Rattle.cx_core.specs.Program.{Program}
use Rattle.cx_core.specs.Store as store
use Rattle.cx_core.specs.Outcome as source
use Rattle.cx_core.specs.Outcome.{on, over, Does, Nothing, nothing, after, either, gives, throws, current_frame, current_temporaries, set_temporaries}
use Rattle.cx_core.specs.Leaving.{Calls, end_each, scope, full_expression}
use Rattle.cx_core.specs.Operators.{converted, assignment, prefix_operation, postfix_operation}
use Rattle.cx_core.specs.Statements.{Completion, on_to_next, return, completed, variable_of, reference_of}
use Rattle.cx_core.specs.Meaning.{expr, used, init, checked, stmt}
use Rattle.cx_core.specs.Calls.{result_stored}
use Rattle.cx_simulation.specs.Machine.{begins_ahead}
use Rattle.cx_simulation.specs.ImageMachine.{image_step}
use Rattle.cx_simulation.specs.Parts.{Follows}
use Rattle.cx_simulation.proofs.Parts.{follows_less, follows_one, follows_gives}
use Rattle.cx_simulation.proofs.Changes.{follows_changes, follows_more}
use Rattle.cx_emit.specs.Configuration.{running_at, Has, Agrees, IsAt, Gives}
use Rattle.cx_emit.specs.Checks.{GoesOn, HaveDefaultHandler, StandsCheck}
use Rattle.cx_emit.specs.Stands.{StandsExpr, StandsOperand}
use Rattle.cx_emit.specs.Scopes.{Surroundings, inside, StandsExit}
use Rattle.cx_emit.specs.Statements.{behind, goes_on, StandsDiscarded, StandsDropped, StandsDeclaration, StandsStmt}
use Rattle.cx_emit.specs.Laws.{of_expression, of_operand, of_statement}
use Rattle.cx_emit.proofs.Places.{Valued, all_kept, jumps_to}
use Rattle.cx_emit.proofs.Valuing.{account, value_then}
use Rattle.cx_emit.proofs.Expressions.{expr_follows, used_follows}
use Rattle.cx_emit.proofs.Asserting.{Never, never_on, is_at_on, step_to, at}
use Rattle.cx_emit.proofs.Evaluating.{check_follows, full_follows}
use Rattle.cx_emit.proofs.Scopes.{IsSimple, IsReady, IsIn, all_left, Reaches, Departs, departs_so, Carries, Completed, Departed, departed_in}
use Rattle.cx_emit.proofs.Ending.{of_completion, scope_follows}
use Rattle.cx_emit.proofs.Storing.{full_changes, with_temporaries, Written, assign_follows}
use Rattle.cx_emit.proofs.Stepping.{prefix_follows, postfix_follows}
use Rattle.cx_emit.proofs.Declaring.{declaration_follows}
use Rattle.cx_emit.proofs.Referring.{reference_follows}
use Rattle.cx_emit.proofs.Completing.{Stated, AllStated, completed_so, placed, written_there, given_there}

module _ (image : Image) (function : ℕ) (program : Program) (calls : Calls) (default : HaveDefaultHandler image program) where
  -- ---- statements that always go on

  module _ (around : Surroundings) (now : List ℕ) where
    -- where it went on
    abbrev pub Gone : ℕ → List ℕ → ℕ → source.State → State → Completion → State → source.State → Type 0
    Gone first later to s m c d t = (c ≡ on_to_next) × Completed image function first (now ∷ around.scopes) later (λ c p. p ≡ to) s m on_to_next d t

    abbrev pub GoesOnTo : List ℕ → Does Completion → ℕ → ℕ → Type 0
    GoesOnTo later part from to =
        (first n : ℕ) (s : source.State) (m : State) → IsIn image function first now s m → s.begins ≡ begins_ahead (image_step image) n (running_at m from [])
        → Follows (image_step image) n s (running_at m from []) of_completion (Gone first later to s m) (Never s m) (part s)

    pub stated_so : (later : List ℕ) (part : Does Completion) (from to : ℕ) → GoesOnTo later part from to → Stated image function around now later part from to
    stated_so later part from to follows first n s m i told =
        follows_less (image_step image) n s (running_at m from []) of_completion of_completion (Gone first later to s m) (Completed image function first (now ∷ around.scopes) later (Reaches image function around later to) s m) (Never s m) (Never s m) (part s)
        (record { goes_on = omega arith; left = omega arith; in_hand = omega arith })
        (λ c d t g. subst (λ c. Completed image function first (now ∷ around.scopes) later (Reaches image function around later to) s m c d t) (sym g.0)
        (completed_so image function around first (now ∷ around.scopes) later (λ c p. p ≡ to) (Reaches image function around later to) s m d t on_to_next (λ p e. e) g.1))
        (λ e d t f. f) (follows first n s m i told)

    -- a part that gives nothing, and then the statement is complete
    completed_follows : (later : List ℕ) (part : Does Nothing) (from to : ℕ)
        → ((first n : ℕ) (s : source.State) (m : State) → IsIn image function first now s m → s.begins ≡ begins_ahead (image_step image) n (running_at m from [])
        → Follows (image_step image) n s (running_at m from []) of_completion (λ (_ : Nothing) d t. Completed image function first (now ∷ around.scopes) later (λ c p. p ≡ to) s m on_to_next d t) (Never s m) (part s))
        → GoesOnTo later (completed part) from to
    unfolding either gives
    completed_follows later part from to follows first n s m i told =
        follows_changes (image_step image) n s (running_at m from []) of_completion (λ (_ : Nothing) d t. Completed image function first (now ∷ around.scopes) later (λ c p. p ≡ to) s m on_to_next d t) (Gone first later to s m)
        (λ o. after o (λ _. gives on_to_next) throws) (part s) (λ answer trace. refl) (λ v t d g. (on_to_next, t, refl, refl, refl, refl, (refl, g))) (follows first n s m i told)

    empty_follows : (from to : ℕ) → to ≡ from → GoesOnTo now (gives on_to_next) from to
    empty_follows from to e first n s m i told =
        follows_gives (image_step image) n s (running_at m from []) of_completion (Gone first now to s m) (Never s m) on_to_next (omega arith)
        (refl, record { machine = m; place = from; operands = []; is_there = refl; carried = refl; wanted = sym e; is_in = i; left = all_left (now ∷ around.scopes) s m }) told

    -- a value is dropped
    dropped : (p to : ℕ) → Has image function p does.Discard to → (w : Value) (k : ℕ) (s : source.State) (m : State) → Agrees function s m → s.begins ≡ begins_ahead (image_step image) k (running_at m p (w ∷ []))
        → Follows (image_step image) k s (running_at m p (w ∷ [])) (account 0 1 1) (λ (_ : Nothing) d t. IsAt function to [] s m d t) (Never s m) (gives nothing s)
    unfolding gives
    dropped p to h w k s m a told =
        follows_one (image_step image) k s (running_at m p (w ∷ [])) (account 0 1 1) (λ (_ : Nothing) d t. IsAt function to [] s m d t) (Never s m) (on nothing s) (omega arith) (omega arith) told
        (step_to image function s s m m p (p + 1) to (w ∷ []) [] None h.next (at image function s m p (w ∷ []) does.Discard a h.here) refl refl refl a s (all_kept s m))

    dropped_follows : (part : Does store.Value) (from p to : ℕ) → Valued image function Never of_operand part from p → Has image function p does.Discard to
        → (first n : ℕ) (s : source.State) (m : State) → IsIn image function first now s m → s.begins ≡ begins_ahead (image_step image) n (running_at m from [])
        → Follows (image_step image) n s (running_at m from []) of_completion (λ (_ : Nothing) d t. Completed image function first (now ∷ around.scopes) now (λ c p. p ≡ to) s m on_to_next d t) (Never s m)
        (either (full_expression program calls part) (λ _. gives nothing) throws s)
    dropped_follows part from p to follows h first n s m i told =
        follows_less (image_step image) n s (running_at m from []) (account 0 0 0) of_completion (λ (_ : Nothing) d t. IsAt function to [] s m d t) (λ (_ : Nothing) d t. Completed image function first (now ∷ around.scopes) now (λ c p. p ≡ to) s m on_to_next d t) (Never s m) (Never s m) _
        (record { goes_on = omega arith; left = omega arith; in_hand = omega arith }) (λ _ d t g. placed image function first around.scopes now to s m d t i g) (λ e d t f. f)
        (value_then image function Never never_on of_operand (account 0 1 1) (account 0 0 0) (full_expression program calls part) (λ _. gives nothing) from p (λ s m (_ : Nothing) d t. IsAt function to [] s m d t)
        (record { goes_on = omega arith; left_first = omega arith; left_second = omega arith; in_hand = omega arith })
        (λ s t m d kept _ x u g. is_at_on function to [] s t m d kept x u g)
        (full_follows image function program calls part from p follows)
        []
        (λ v w is k s m a told. dropped p to h w k s m a told) n s m (i.ready).agrees told)

    -- an expression gives what its operand does
    expression_gives : (e : Expr) (from to : ℕ) → StandsExpr image function e from to → Valued image function Never of_operand (expr program calls e) from to
    expression_gives e from to st n operands s m a told =
        follows_less (image_step image) n s (running_at m from operands) of_expression of_operand (Gives function to operands s m) (Gives function to operands s m) (Never s m) (Never s m) (expr program calls e s)
        (record { goes_on = omega arith; left = omega arith; in_hand = omega arith }) (λ v d t g. g) (λ x d t f. f) (expr_follows image function Never never_on program calls e from to st n operands s m a told)

    -- the value of what stores one is dropped without an instruction
    stored_follows : (part : Does store.Value) (from to : ℕ)
        → ((n : ℕ) (s : source.State) (m : State) → IsReady image function s m → s.begins ≡ begins_ahead (image_step image) n (running_at m from [])
        → Follows (image_step image) n s (running_at m from []) of_completion (λ (_ : store.Value) d t. Written image function to s m d t) (Never s m) (part s))
        → (first n : ℕ) (s : source.State) (m : State) → IsIn image function first now s m → s.begins ≡ begins_ahead (image_step image) n (running_at m from [])
        → Follows (image_step image) n s (running_at m from []) of_completion (λ (_ : Nothing) d t. Completed image function first (now ∷ around.scopes) now (λ c p. p ≡ to) s m on_to_next d t) (Never s m)
        (either (full_expression program calls part) (λ _. gives nothing) throws s)
    unfolding either gives
    stored_follows part from to follows first n s m i told =
        follows_changes (image_step image) n s (running_at m from []) of_completion (λ (_ : store.Value) d t. Completed image function first (now ∷ around.scopes) now (λ c p. p ≡ to) s m on_to_next d t)
        (λ (_ : Nothing) d t. Completed image function first (now ∷ around.scopes) now (λ c p. p ≡ to) s m on_to_next d t) (λ o. after o (λ _. gives nothing) throws) (full_expression program calls part s)
        (λ answer trace. refl) (λ v t d g. (nothing, t, refl, refl, refl, refl, g))
        (full_changes (image_step image) program calls part n s (running_at m from []) of_completion (λ (_ : store.Value) d t. Written image function to (record s { temporaries = [] }) m d t)
        (λ (_ : store.Value) d t. Completed image function first (now ∷ around.scopes) now (λ c p. p ≡ to) s m on_to_next d t)
        (λ _ t d g. (g.same_temporaries, written_there image function first around.scopes now to s [] m d t i g))
        (follows n (record s { temporaries = [] }) m (with_temporaries image function s m [] i.ready) told))

    discarded_follows : (e : Expr) (from to : ℕ) → StandsDiscarded image function e from to
        → (first n : ℕ) (s : source.State) (m : State) → IsIn image function first now s m → s.begins ≡ begins_ahead (image_step image) n (running_at m from [])
        → Follows (image_step image) n s (running_at m from []) of_completion (λ (_ : Nothing) d t. Completed image function first (now ∷ around.scopes) now (λ c p. p ≡ to) s m on_to_next d t) (Never s m)
        (either (full_expression program calls (expr program calls e)) (λ _. gives nothing) throws s)
    unfolding expr
    discarded_follows (assign a b) from to st = stored_follows (assignment (expr program calls a) (used program calls b)) from to (λ n s m r told. assign_follows image function program calls a b from to st n s m r told)
    discarded_follows (prefix_step operator type a) from to st =
        stored_follows (prefix_operation operator type (expr program calls a)) from to (λ n s m r told. prefix_follows image function operator type st.0 to st.2 program calls a from st.1 n s m r told)
    discarded_follows (postfix_step operator type a) from to st =
        stored_follows (postfix_operation operator type (expr program calls a)) from to (λ n s m r told. postfix_follows image function operator type st.0 to st.2 program calls a from st.1 n s m r told)
    discarded_follows e from to st = dropped_follows (expr program calls e) from st.0 to (expression_gives e from st.0 st.1) st.2

    -- an operand that is neither read nor converted is its expression
    plain_value : (part : Does store.Value) (s : source.State) → converted None None part s ≡ part s
    unfolding either gives throws
    plain_value part s = same (part s)
      where
        same : (r : source.Outcome store.Value) → after (after r gives throws) gives throws ≡ r
        same (on v t) = refl
        same (source.thrown e t) = refl
        same (over answer trace) = refl

    plain_full : (part : Does store.Value) (s : source.State) → full_expression program calls (converted None None part) s ≡ full_expression program calls part s
    unfolding either current_temporaries set_temporaries
    plain_full part s = ap (λ r. after r (λ v. either last (λ _. gives v) throws) (λ e. either last (λ _. throws e) throws)) (plain_value part (record s { temporaries = [] }))
      where
        last : Does Nothing
        last = either (either current_temporaries (end_each program calls) throws) (λ _. set_temporaries s.temporaries) throws

    expression_follows : (a : Operand) (from to : ℕ) → StandsDropped image function a from to
        → (first n : ℕ) (s : source.State) (m : State) → IsIn image function first now s m → s.begins ≡ begins_ahead (image_step image) n (running_at m from [])
        → Follows (image_step image) n s (running_at m from []) of_completion (λ (_ : Nothing) d t. Completed image function first (now ∷ around.scopes) now (λ c p. p ≡ to) s m on_to_next d t) (Never s m)
        (either (full_expression program calls (used program calls a)) (λ _. gives nothing) throws s)
    unfolding expr either
    expression_follows (operand None None e) from to st first n s m i told =
        subst (λ r. Follows (image_step image) n s (running_at m from []) of_completion (λ (_ : Nothing) d t. Completed image function first (now ∷ around.scopes) now (λ c p. p ≡ to) s m on_to_next d t) (Never s m) r)
        (ap (λ r. after r (λ _. gives nothing) throws) (sym (plain_full (expr program calls e) s))) (discarded_follows e from to st first n s m i told)
    expression_follows (operand None (Some type) e) from to st first n s m i told =
        dropped_follows (used program calls (operand None (Some type) e)) from st.0 to (used_follows image function Never never_on program calls (operand None (Some type) e) from st.0 st.1) st.2 first n s m i told
    expression_follows (operand (Some type) conversion e) from to st first n s m i told =
        dropped_follows (used program calls (operand (Some type) conversion e)) from st.0 to (used_follows image function Never never_on program calls (operand (Some type) conversion e) from st.0 st.1) st.2 first n s m i told

    declared_follows : (slot : ℕ) (type : ObjectType) → IsSimple type → (a : Operand) (from to : ℕ) → StandsDeclaration image function (now ∷ around.scopes) slot a from to
        → GoesOnTo (slot ∷ now) (completed (variable_of program calls slot type (init program calls (value a)))) from to
    declared_follows slot type simple a from to st =
        completed_follows (slot ∷ now) (variable_of program calls slot type (init program calls (value a))) from to
        (λ first n s m i told. declaration_follows image function program calls (now ∷ around.scopes) slot type simple a from to st s m i.ready first now around.scopes refl i (λ c p. p ≡ to) refl n told)

    pub simple_follows : (a : Stmt Check) (from to : ℕ) → goes_on a ≡ true → StandsStmt image function around now a from to → GoesOnTo (behind a now) (stmt program calls a) from to
    unfolding stmt StandsStmt
    simple_follows empty from to e st = empty_follows from to st
    simple_follows (expression x) from to e st = completed_follows now (either (full_expression program calls (used program calls x)) (λ _. gives nothing) throws) from to (expression_follows x from to st)
    simple_follows (variable_declaration slot (scalar type) (value a)) from to e st = declared_follows slot (scalar type) (tt {0}) a from to st
    simple_follows (variable_declaration slot (pointer t) (value a)) from to e st = declared_follows slot (pointer t) (tt {0}) a from to st
    simple_follows (variable_declaration slot type init) from to e st = absurd st
    simple_follows (reference_declaration slot e) from to g st =
        completed_follows now (reference_of program calls slot (expr program calls e)) from to
        (λ first n s m i told. reference_follows image function program calls (now ∷ around.scopes) slot e from to st first now around.scopes refl (λ c p. p ≡ to) refl n s m i told)
    simple_follows other from to e st = absurd cc

    -- ---- contract assertions and returned values

    pub assert_follows : (c : Check) (predicate : Operand) (from to : ℕ) → StandsCheck image function Definer c predicate from to → GoesOnTo now (completed (checked program calls Definer (record { of = c; predicate = predicate } ∷ []))) from to
    assert_follows c predicate from to st =
        completed_follows now (checked program calls Definer (record { of = c; predicate = predicate } ∷ [])) from to
        (λ first n s m i told. follows_less (image_step image) n s (running_at m from []) of_statement of_completion (λ (_ : Nothing) d t. IsAt function to [] s m d t) (λ (_ : Nothing) d t. Completed image function first (now ∷ around.scopes) now (λ c p. p ≡ to) s m on_to_next d t)
        (Never s m) (Never s m) _ (record { goes_on = omega arith; left = omega arith; in_hand = omega arith }) (λ _ d t g. placed image function first around.scopes now to s m d t i g) (λ e d t f. f)
        (check_follows image function program calls default Definer c predicate from to st n [] s m (i.ready).agrees told))

    -- the value stays on the operands where the machine goes on to the code that ends the objects
    given_goes_on : (v : store.Value) (p q k : ℕ) (s t : source.State) (m d : State) → GoesOn image function p q → Gives function p [] s m v d t → t.begins ≡ begins_ahead (image_step image) k d
        → Follows (image_step image) k t d (account 0 1 1) (Gives function q [] s m) (Never s m) (gives v t)
    unfolding gives
    given_goes_on v p q k s t m d (inl e) g told =
        follows_gives (image_step image) k t d (account 0 1 1) (Gives function q [] s m) (Never s m) v (omega arith)
        (record { machine = g.machine; value = g.value; is_there = g.is_there ∙ ap (λ r. running_at g.machine r (g.value ∷ [])) (sym e); same_value = g.same_value; agrees = g.agrees; kept = g.kept }) told
    given_goes_on v p q k s t m d (inr h) g told =
        follows_one (image_step image) k t d (account 0 1 1) (Gives function q [] s m) (Never s m) (on v t) (omega arith) (omega arith) told
        (record {
          to = running_at g.machine q (g.value ∷ []);
          event = None;
          goes_so = ap (image_step image) g.is_there ∙ jumps_to image function Never t g.machine p q (g.value ∷ []) g.agrees h;
          noted_so = refl;
          begun_so = refl;
          same_budget = refl;
          stands = record { machine = g.machine; value = g.value; is_there = refl; same_value = g.same_value; agrees = g.agrees; kept = g.kept };
        })

    pub return_follows : (a : Operand) (from p q to : ℕ) → StandsOperand image function a from p → GoesOn image function p q → StandsExit image function (suc (length around.scopes)) (now ∷ around.scopes) q around.exit
        → Stated image function around now now (either (full_expression program calls (either (used program calls a) (λ v. either current_frame (λ frame. result_stored program calls frame.result v) throws) throws)) (λ v. gives (return v)) throws) from to
    unfolding either current_frame gives
    return_follows a from p q to st onwards h first n s m i told =
        follows_less (image_step image) n s (running_at m from []) (account 11 0 0) of_completion Goal Goal (Never s m) (Never s m) _ (record { goes_on = omega arith; left = omega arith; in_hand = omega arith }) (λ c d t g. g) (λ e d t f. f)
        (follows_changes (image_step image) n s (running_at m from []) (account 11 0 0) (λ v. Goal (return v)) Goal (λ o. after o (λ v. gives (return v)) throws) (full_expression program calls valued s) (λ answer trace. refl)
        (λ v t d g. (return v, t, refl, refl, refl, refl, g))
        (full_changes (image_step image) program calls valued n s (running_at m from []) (account 11 0 0) (λ v d t. (t.temporaries ≡ []) × Goal (return v) d (record t { temporaries = s.temporaries })) (λ v. Goal (return v)) (λ v t d g. g)
        (follows_changes (image_step image) n inner (running_at m from []) (account 11 0 0) (Gives function q [] inner m) (λ v d t. (t.temporaries ≡ []) × Goal (return v) d (record t { temporaries = s.temporaries }))
        (λ o. after o (λ v. either current_frame (λ frame. result_stored program calls frame.result v) throws) throws) (used program calls a inner) (λ answer trace. refl)
        (λ v t d g. (v, t, stays v t (g.kept).same_frame, refl, refl, refl, ((g.kept).same_temporaries, given_there image function first around.scopes now (Reaches image function around now to) q s [] m d t v i h g)))
        given)))
      where
        inner : source.State
        inner = record s { temporaries = [] }

        valued : Does store.Value
        valued = either (used program calls a) (λ v. either current_frame (λ frame. result_stored program calls frame.result v) throws) throws

        given : Follows (image_step image) n inner (running_at m from []) (account 11 0 0) (Gives function q [] inner m) (Never inner m) (used program calls a inner)
        given =
            follows_more (image_step image) n inner (running_at m from []) of_operand (account 0 1 1) (account 11 0 0) (Gives function p [] inner m) (Gives function q [] inner m) (Never inner m) (used program calls a inner)
            (record { goes_on = omega arith; left_first = omega arith; left_second = omega arith; in_hand = omega arith })
            (used_follows image function Never never_on program calls a from p st n [] inner m ((with_temporaries image function s m [] i.ready).agrees) told)
            (λ v t d k g told. given_goes_on v p q k inner t m d onwards g told)

        Goal : Completion → State → source.State → Type 0
        Goal = Completed image function first (now ∷ around.scopes) now (Reaches image function around now to) s m

        stays : (v : store.Value) (t : source.State) → t.frame ≡ s.frame → either current_frame (λ frame. result_stored program calls frame.result v) throws t ≡ on v t
        stays v t e = ap (λ r. result_stored program calls r v t) (ap (λ (f : source.Frame). f.result) e ∙ (i.ready).no_result)

    -- ---- exits

    pub left_follows : (c : Completion) (from to : ℕ) → Carries image function c [] → Reaches image function around now to c from → Stated image function around now now (gives c) from to
    left_follows c from to carried wanted first n s m i told =
        follows_gives (image_step image) n s (running_at m from []) of_completion (Completed image function first (now ∷ around.scopes) now (Reaches image function around now to) s m) (Never s m) c (omega arith)
        (record { machine = m; place = from; operands = []; is_there = refl; carried = carried; wanted = wanted; is_in = i; left = all_left (now ∷ around.scopes) s m }) told

    -- ---- scopes

    pub block_follows : (part : Does Completion) (from to : ℕ) → AllStated image function (inside around now) [] part from to → Stated image function around now now (scope program calls part) from to
    block_follows part from to follows first n s m i told =
        follows_less (image_step image) n s (running_at m from []) of_completion of_completion (Departed image function (now ∷ around.scopes) (Reaches image function around now to) s m) (Completed image function first (now ∷ around.scopes) now (Reaches image function around now to) s m) (Never s m) (Never s m) _
        (record { goes_on = omega arith; left = omega arith; in_hand = omega arith }) (λ c d t g. departed_in image function first now around.scopes (Reaches image function around now to) s t m d c i g) (λ e d t f. f)
        (scope_follows image function program calls (now ∷ around.scopes) (λ last. Departs image function (inside around now) last to) (Reaches image function around now to) (λ last c place h. departs_so image function around now last to c place h) s m i.ready part from follows n told)
