-- The evaluations of typed contract assertions keep a state typed, given that calls do.
use Rattle.std.proofs.Common.{◌≡◌, refl, sym, subst, ℕ, zero, suc, pos, Bool, true, false, if◌then◌else◌, List, [], ◌∷◌, map, Option, Some, None}
use Rattle.std.specs.List.{All}
use Rattle.std.proofs.lemmas.List.Elements.{All-nil, All-cons, All-head, All-tail}
use Rattle.cx_core.specs.declared.number.IntegerType.TheVariants as integers
use Rattle.cx_core.specs.Number.{in_range}
use Rattle.cx_core.specs.Words.{Party, Semantic, Ignore, Observe, Enforce, QuickEnforce, False, Holds, Threw, DetectionMode, PredicateFalse, EvaluationException, Violation, ContractTerminated}
use Rattle.cx_core.specs.Tree.{ObjectType, Check, Specifier, Assertion, Operand}
use Rattle.cx_core.specs.Event.{Evaluation, Event, same_evaluation, verdict, handler, Answer, ended, not_a_run}
use Rattle.cx_core.specs.Outcome.{Exception, Does, Nothing, nothing, skip, ◌>>=◌, ◌>>◌, spend, append, ends}
use Rattle.cx_core.specs.Block.{Owed, Continued, has_stood, once_less, behind, continued, if_permitted, begin_told, evaluations}
use Rattle.cx_core.specs.Check.{truth, handle_by, handle, violated, verdict_on, verdict_threw, evaluation, violation_of}
use Rattle.cx_core.specs.Program.{Program}
use Rattle.cx_core.specs.Store.{Value, violation}
use Rattle.cx_core.specs.Leaving.{Calls, full_expression, holding}
use Rattle.cx_core.specs.Meaning.{used, evaluated, owed, checked}
use Rattle.cx_soundness.specs.Types as types
use Rattle.cx_soundness.specs.Types.{no_result, Signature, Declared, Given, Context}
use Rattle.cx_soundness.specs.Given.{where_given, is_truth}
use Rattle.cx_soundness.specs.Expressions.{used_given}
use Rattle.cx_soundness.specs.Statements.{is_placed, is_condition, is_typed_check, are_typed_checks}
use Rattle.cx_soundness.proofs.Same.{both_left, both_right}
use Rattle.cx_soundness.proofs.Worlds.{World, IsPlaced, IsGiven, given_more}
use Rattle.cx_soundness.proofs.Comes.{IsEnd, Always, Stays, append_stays, next_told_stays, begin_told_stays, Family}
use Rattle.cx_soundness.proofs.Comes as parts
use Rattle.cx_soundness.proofs.States.{Around, IsException, IsFrame, Typed, of_objects, spending, frame_now}
use Rattle.cx_soundness.proofs.Operators.{truth_keeps}
use Rattle.cx_soundness.proofs.Lives.{Keeps, Any, any_stable, Facts, most, below_most, CallsKeep}
use Rattle.cx_soundness.proofs.Leaving.{full_goes}
use Rattle.cx_soundness.proofs.Objects.{holding_keeps}
use Rattle.cx_soundness.proofs.Called.{all_callable}
use Rattle.cx_soundness.proofs.Operations.{Covers, Sound}
use Rattle.cx_soundness.proofs.Trees.{used_keeps}

module _ (declared : Declared) (program : Program) (facts : Facts declared program) (calls : Calls) (keep : CallsKeep declared program (most declared program) calls) where
  module _ (around : Around) (context : Context) where
    abbrev I : Family
    I = Typed declared around context

    abbrev Kept : Does Nothing → Type 0
    Kept m = (W : World) → Keeps declared around context W Any m

    stay : (m : Does Nothing) → ((W : World) → Stays (I W) (I W) Always m) → Kept m
    stay m h W = parts.stays_comes (IsException declared) W (I W) I I Any m (h W)

    then_kept : (m n : Does Nothing) → Kept m → Kept n → Kept (m >> n)
    then_kept m n h k W = parts.then_comes (IsException declared) I Any (h W) (λ V _ _ _. k V)

    skip_kept : Kept skip
    skip_kept W = parts.gives_comes (IsException declared) W I I Any nothing (tt {0})

    append_kept : (event : Event) → Kept (append event)
    append_kept event = stay (append event) (λ W. append_stays (I W) (of_objects declared W around context) event)

    end_kept : (answer : Answer) → IsEnd answer → Kept (ends {A = Nothing} answer)
    end_kept answer h W = parts.ends_comes (IsException declared) W (I W) I I Any answer h

    -- ---- rows

    abbrev IsKept : Owed → Type 0
    IsKept o = Kept o.check

    abbrev AreKept : Option Continued → Type 0
    AreKept None = Unit {0}
    AreKept (Some c) = Kept c.0 × All IsKept c.1

    once_less_kept : (left : ℕ) (o : Owed) (owed : List Owed) → IsKept o → All IsKept owed → AreKept (once_less left o owed)
    once_less_kept zero o owed h all = tt {0}
    once_less_kept (suc left) o owed h all = (h, All-cons IsKept (record o { left = left }) owed h all)

    behind_kept : (o : Owed) (c : Option Continued) → IsKept o → AreKept c → AreKept (behind o c)
    behind_kept o None h k = tt {0}
    behind_kept o (Some c) h k = (k.0, All-cons IsKept o c.1 h k.1)

    chosen_kept : (b : Bool) (c d : Option Continued) → AreKept c → AreKept d → AreKept (if b then c else d)
    chosen_kept true c d h k = h
    chosen_kept false c d h k = k

    continued_kept : (e : Evaluation) (owed : List Owed) → All IsKept owed → AreKept (continued e owed)
    continued_kept e [] all = tt {0}
    continued_kept e (o ∷ owed) all =
        let h = All-head IsKept o owed all in
        let others = All-tail IsKept o owed all in
        chosen_kept (same_evaluation e o.evaluation) (once_less o.left o owed) _ (once_less_kept o.left o owed h others)
        (chosen_kept (has_stood o) (behind o (continued e owed)) None (behind_kept o (continued e owed) h (continued_kept e owed others)) (tt {0}))

    permitted_kept : (n : ℕ) → ((more : List Owed) → All IsKept more → Kept (evaluations n more)) → (c : Option Continued) → AreKept c
        → Kept (if_permitted c (λ check more. spend >> begin_told >> check >> evaluations n more))
    permitted_kept n more None are = end_kept not_a_run (tt {0})
    permitted_kept n more (Some c) are =
        then_kept _ _
        (then_kept _ _ (then_kept _ _ (stay spend (λ W. spending declared W around context)) (stay begin_told (λ W. begin_told_stays (I W) (of_objects declared W around context)))) are.0)
        (more c.1 are.1)

    evaluations_kept : (n : ℕ) (owed : List Owed) → All IsKept owed → Kept (evaluations n owed)
    unfolding evaluations
    evaluations_kept zero owed all W = skip_kept W
    evaluations_kept (suc n) owed all W =
        parts.first_comes (IsException declared) (I W) Always (next_told_stays (I W) (of_objects declared W around context))
        (λ e _. permitted_kept n (evaluations_kept n) (continued e owed) (continued_kept e owed all) W)

    -- ---- evaluations

    handler_kept : (f : Option ℕ) (v : Violation) → program.handler ≡ f → IsPlaced v → Kept (handle_by program calls f v)
    handler_kept None v e h W = then_kept _ _ (stay spend (λ V. spending declared V around context)) (append_kept (handler v)) W
    handler_kept (Some f) v e h W =
        let signature : Signature = record { parameters = types.report ∷ []; result = no_result } in
        parts.first_comes (IsException declared) (I W) (IsFrame declared W context) (frame_now declared W around context)
        (λ frame _. parts.then_comes (IsException declared) I _
        (keep.keep around context W (record { function = f; caller = None; unit = frame.unit; reports = Some v; arguments = violation v ∷ []; result = None })
        (record { signature = signature; declares = facts.handler f e; arguments = (h, tt {0}); result = λ definition found. refl }) (all_callable declared program facts f signature (facts.handler f e)))
        (λ V _ x _. skip_kept V))

    violated_kept : (semantic : Semantic) (response : Does Nothing) → Kept response → Kept (violated program calls semantic response)
    violated_kept Ignore response h = skip_kept
    violated_kept Observe response h = h
    violated_kept Enforce response h = then_kept _ _ h (end_kept (ended ContractTerminated) (tt {0}))
    violated_kept QuickEnforce response h = end_kept (ended ContractTerminated) (tt {0})

    placed : (a : Assertion) (mode : DetectionMode) (semantic : Semantic) → is_placed a ≡ true → IsPlaced (violation_of a mode semantic)
    placed a mode semantic h = record { line = both_left _ _ h; column = both_right (in_range integers.Unsigned (pos a.line)) _ h }

  abbrev while_held : Around → ObjectType → Around
  while_held around type = record around { innermost = Some type }

  module _ (around : Around) (context : Context) (plain : context.caught ≡ None) where
    covered : Covers context.caught around.innermost
    covered = subst (λ c. Covers c around.innermost) (sym plain) (tt {0})

    verdict_kept : (a : Assertion) (semantic : Semantic) (holds : Bool) → is_placed a ≡ true → Kept around context (verdict_on program calls a semantic holds)
    verdict_kept a semantic true h = append_kept around context (verdict Holds)
    verdict_kept a semantic false h =
        then_kept around context _ _ (append_kept around context (verdict False)) (violated_kept around context semantic _ (handler_kept around context program.handler _ refl (placed around context a PredicateFalse semantic h)))

    threw_keeps : (a : Assertion) (semantic : Semantic) (e : Exception) (W : World) → is_placed a ≡ true → IsException declared W e → Keeps declared around context W Any (verdict_threw program calls a semantic e)
    threw_keeps a semantic e W h k =
        parts.first_comes (IsException declared) (Typed declared around context W) Always (append_stays (Typed declared around context W) (of_objects declared W around context) (verdict Threw))
        (λ _ _. by_semantic semantic)
      where
        responding : (m : Semantic) → Keeps declared around context W Any (holding program calls e (handle program calls (violation_of a EvaluationException m)))
        responding m = holding_keeps declared program facts (most declared program) calls keep around context W Any e _ any_stable k (below_most declared program facts e.type k.defined)
            (handler_kept (while_held around e.type) context program.handler _ refl (placed around context a EvaluationException m h) W)

        by_semantic : (m : Semantic) → Keeps declared around context W Any (violated program calls m (holding program calls e (handle program calls (violation_of a EvaluationException m))))
        by_semantic Ignore = skip_kept around context W
        by_semantic Observe = responding Observe
        by_semantic Enforce = parts.then_comes (IsException declared) (Typed declared around context) Any (responding Enforce) (λ V _ _ _. end_kept around context (ended ContractTerminated) (tt {0}) V)
        by_semantic QuickEnforce = end_kept around context (ended ContractTerminated) (tt {0}) W

    -- a full-expression that gives a value
    pub evaluated_keeps : (v : Given) (m : Does Value) → Sound declared program context (Some v) m → (W : World) → Keeps declared around context W (λ V x. IsGiven declared V v x) (full_expression program calls m)
    evaluated_keeps v m h W =
        full_goes declared program facts (most declared program) calls keep around context context context W (λ V x. IsGiven declared V v x) m (λ V U e x p. given_more declared V U v x e p) (h around.living around.innermost covered W)

    condition_by : (v : Option Given) (m : Does Value) → where_given v is_truth ≡ true → Sound declared program context v m → (W : World) → Keeps declared around context W Any (full_expression program calls m >>= truth)
    condition_by None m e h W = absurd cc
    condition_by (Some v) m e h W =
        parts.then_comes (IsException declared) (Typed declared around context) (λ V x. IsGiven declared V v x) (evaluated_keeps v m h W)
        (λ V f x is. parts.stays_comes (IsException declared) V _ _ _ Any (truth x) (truth_keeps declared V around context v x e is))

    pub condition_keeps : (a : Operand) → is_condition declared context a ≡ true → (W : World) → Keeps declared around context W Any (evaluated program calls a >>= truth)
    condition_keeps a e W = condition_by (used_given declared context a) (used program calls a) e (used_keeps declared program facts calls keep context a) W

    evaluation_kept : (s : Specifier Check) → is_typed_check declared context s ≡ true → Kept around context (evaluation program calls s.of (evaluated program calls s.predicate))
    evaluation_kept s h W =
        let placed = both_left _ _ h in
        parts.either_comes (IsException declared) W _ (Typed declared around context) (Typed declared around context) (Typed declared around context) (Typed declared around context) Any Any _ _ _
        (condition_keeps s.predicate (both_right (is_placed s.of.assertion) _ h) W)
        (λ V _ holds _. verdict_kept s.of.assertion s.of.semantic holds placed V)
        (λ V _ e flies. threw_keeps s.of.assertion s.of.semantic e V placed flies)

    all_kept : (party : Party) (checks : List (Specifier Check)) → are_typed_checks declared context checks ≡ true → All (IsKept around context) (map (owed program calls party) checks)
    all_kept party [] h = All-nil (IsKept around context)
    all_kept party (s ∷ checks) h = All-cons (IsKept around context) (owed program calls party s) (map (owed program calls party) checks) (evaluation_kept s (both_left _ _ h)) (all_kept party checks (both_right (is_typed_check declared context s) _ h))

    pub checked_keeps : (party : Party) (checks : List (Specifier Check)) → are_typed_checks declared context checks ≡ true → (W : World) → Keeps declared around context W Any (checked program calls party checks)
    checked_keeps party checks h W = evaluations_kept around context _ (map (owed program calls party) checks) (all_kept party checks h) W
