-- The bodies of functions and constructors that the source defines keep a state typed between the checks of their calls, and no exception leaves a destructor, given that calls keep it typed.
use Rattle.std.proofs.Common.{◌≡◌, refl, sym, subst, arith, ℕ, pos, nat_eq, true, ◌&&◌, List, [], ◌∷◌, map, drop, Option, Some, None}
use Rattle.std.specs.Prelude.{slice_get}
use Rattle.cx_core.specs.declared.number.IntegerType.TheVariants as integers
use Rattle.cx_core.specs.Words.{Definer, Caller}
use Rattle.cx_core.specs.Tree.{ObjectType, class, Check, Specifier, Stmts}
use Rattle.cx_core.specs.Program as source
use Rattle.cx_core.specs.Program.{Program, Checks, FieldInit, Function, Class, Body, ResultKind}
use Rattle.cx_core.specs.Store.{Value, null}
use Rattle.cx_core.specs.Outcome.{Does, Nothing, nothing, ◌>>=◌, some, place_of}
use Rattle.cx_core.specs.Leaving.{Call, Calls, destroy, scope}
use Rattle.cx_core.specs.Statements.{Completion, on_to_next, break, continue, return}
use Rattle.cx_core.specs.Calls.{value_given, body, destroy_result, naming_result}
use Rattle.cx_core.specs.Meaning.{checked, stmts, caller_row, preconditions, postconditions, function_call, field_inits, constructor_call, destructor_call}
use Rattle.cx_soundness.specs.Types as types
use Rattle.cx_soundness.specs.Types.{LeafType, Parameter, report, Result, no_result, scalar_result, class_result, reference_result, status, Signature, Declared, Given, refers, ResultName, no_name, unnamed, named, Context}
use Rattle.cx_soundness.specs.Given.{signature_at, begins, leaf_types, is_whole, parameter_given}
use Rattle.cx_soundness.specs.Statements.{are_typed_checks, are_typed_stmts}
use Rattle.cx_soundness.specs.Programs.{all_are, result_name_of, result_name_behind, context_of, context_behind, is_kind, are_checks_typed, is_of, has_field, is_field_typed}
use Rattle.cx_soundness.proofs.Same.{both_left, both_right, equal_numbers}
use Rattle.cx_soundness.proofs.Ranges.{of_type_alone}
use Rattle.cx_soundness.proofs.Worlds.{World, longer, IsAt, IsReference, IsNull}
use Rattle.cx_soundness.proofs.Comes.{IsEnd, Always, Stays, then_stays, gives_stays, append_stays, Family}
use Rattle.cx_soundness.proofs.Comes as parts
use Rattle.cx_soundness.proofs.States.{Around, IsDenoted, IsResult, IsFrame, IsException, Typed, frame_now, placing, result_more}
use Rattle.cx_soundness.proofs.Lives.{checks_of, IsReturned, returned_more, Keeps, Any, any_stable, undone_comes, within_keeps, in_unit_keeps, Facts, most, below_most, CallsKeep}
use Rattle.cx_soundness.proofs.Leaving.{destroys, scope_keeps, constructing_keeps}
use Rattle.cx_soundness.proofs.Trees.{init_keeps}
use Rattle.cx_soundness.proofs.Checks.{checked_keeps}
use Rattle.cx_soundness.proofs.Returns.{IsLeft, left_stable}
use Rattle.cx_soundness.proofs.Bodies.{IsOf, stmts_go}
use Rattle.cx_soundness.proofs.Fields.{field_keeps, destructor_goes}

module _ (declared : Declared) (program : Program) (facts : Facts declared program) (calls : Calls) (keep : CallsKeep declared program (most declared program) calls) where
  module _ (signature : Signature) (f : Function) (made : Call) (declares : signature_at declared.functions made.function ≡ Some signature) (found : slice_get program.functions made.function ≡ Some f)
      (kinded : is_kind declared signature.result f.result ≡ true) (checks_typed : are_checks_typed declared signature f.result f.checks ≡ true) where
    abbrev during : Context
    during = context_of declared signature f.result

    abbrev later : Context
    later = context_behind declared signature f.result

    -- ---- checks

    caller_keeps : (around : Around) (context : Context) → context.caught ≡ None → (of : Checks → List (Specifier Check)) → ((unit : ℕ) → are_typed_checks declared context (of (checks_of program unit made.function)) ≡ true)
        → (caller : Option ℕ) (W : World) → Keeps declared around context W Any (caller_row program calls of caller made.function)
    caller_keeps around context plain of h None W = parts.gives_comes (IsException declared) W (Typed declared around context) (Typed declared around context) Any nothing (tt {0})
    caller_keeps around context plain of h (Some unit) W = in_unit_keeps declared around context W unit _ (checked_keeps declared program facts calls keep around context plain Caller (of (checks_of program unit made.function)) (h unit) W)

    preconditions_keep : (around : Around) (W : World) → Keeps declared around during W Any (preconditions program calls f made)
    preconditions_keep around W =
        parts.then_comes (IsException declared) (Typed declared around during) Any
        (caller_keeps around during refl (λ (c : Checks). c.preconditions) (λ unit. both_left _ _ (facts.callers unit made.function signature f declares found)) made.caller W)
        (λ V _ _ _. checked_keeps declared program facts calls keep around during refl Definer f.checks.preconditions (both_left _ _ checks_typed) V)

    postconditions_keep : (around : Around) (W : World) → Keeps declared around later W Any (postconditions program calls f made)
    postconditions_keep around W =
        parts.then_comes (IsException declared) (Typed declared around later) Any
        (checked_keeps declared program facts calls keep around later refl Definer f.checks.postconditions (both_right (are_typed_checks declared during f.checks.preconditions) _ checks_typed) W)
        (λ V _ _ _. caller_keeps around later refl (λ (c : Checks). c.postconditions)
        (λ unit. both_right (are_typed_checks declared during (checks_of program unit made.function).preconditions) _ (facts.callers unit made.function signature f declares found)) made.caller V)

    -- ---- bodies

    abbrev block_around : Around → Around
    block_around around = record around { living = most declared program }

    body_of : IsOf declared program facts calls keep signature.result f.result during
    body_of = record { plain = refl; names = refl }

    block_keeps : (around : Around) (W : World) (b : Stmts Check) → are_typed_stmts declared signature.result during b ≡ true → Keeps declared around during W (λ V c. IsLeft declared signature.result V c) (scope program calls (stmts program calls b))
    block_keeps around W b typed =
        scope_keeps declared program facts (most declared program) calls keep around during W (λ V c. IsLeft declared signature.result V c) _ (left_stable declared signature.result)
        (stmts_go declared program facts calls keep signature.result f.result b during body_of typed around.temporaries around.innermost W)

    abbrev Returned : Result → World → Value → Type 0
    Returned result V x = IsReturned declared V result x

    given_back : (around : Around) (W : World) (result : Result) (kind : ResultKind) (c : Completion) → is_kind declared result kind ≡ true → IsLeft declared result W c → Keeps declared around during W (Returned result) (value_given program calls kind c)
    given_back around W result kind (return x) e h = parts.gives_comes (IsException declared) W (Typed declared around during) (Typed declared around during) (Returned result) x h
    given_back around W no_result source.void on_to_next e h = parts.gives_comes (IsException declared) W (Typed declared around during) (Typed declared around during) (Returned no_result) null (tt {0})
    given_back around W no_result source.void break e h = parts.gives_comes (IsException declared) W (Typed declared around during) (Typed declared around during) (Returned no_result) null (tt {0})
    given_back around W no_result source.void continue e h = parts.gives_comes (IsException declared) W (Typed declared around during) (Typed declared around during) (Returned no_result) null (tt {0})
    given_back around W status source.exit_status on_to_next e h = parts.gives_comes (IsException declared) W (Typed declared around during) (Typed declared around during) (Returned status) _ (of_type_alone integers.Int (pos 0) refl)
    given_back around W status source.exit_status break e h = parts.gives_comes (IsException declared) W (Typed declared around during) (Typed declared around during) (Returned status) _ (of_type_alone integers.Int (pos 0) refl)
    given_back around W status source.exit_status continue e h = parts.gives_comes (IsException declared) W (Typed declared around during) (Typed declared around during) (Returned status) _ (of_type_alone integers.Int (pos 0) refl)
    given_back around W (scalar_result t) source.void c e h = absurd cc
    given_back around W (class_result t) source.void c e h = absurd cc
    given_back around W (reference_result t) source.void c e h = absurd cc
    given_back around W status source.void c e h = absurd cc
    given_back around W no_result source.exit_status c e h = absurd cc
    given_back around W (scalar_result t) source.exit_status c e h = absurd cc
    given_back around W (class_result t) source.exit_status c e h = absurd cc
    given_back around W (reference_result t) source.exit_status c e h = absurd cc
    given_back around W result source.scalar_value on_to_next e h = parts.ends_comes (IsException declared) W _ (Typed declared around during) (Typed declared around during) (Returned result) _ (tt {0})
    given_back around W result source.scalar_value break e h = parts.ends_comes (IsException declared) W _ (Typed declared around during) (Typed declared around during) (Returned result) _ (tt {0})
    given_back around W result source.scalar_value continue e h = parts.ends_comes (IsException declared) W _ (Typed declared around during) (Typed declared around during) (Returned result) _ (tt {0})
    given_back around W result source.scalar_object on_to_next e h = parts.ends_comes (IsException declared) W _ (Typed declared around during) (Typed declared around during) (Returned result) _ (tt {0})
    given_back around W result source.scalar_object break e h = parts.ends_comes (IsException declared) W _ (Typed declared around during) (Typed declared around during) (Returned result) _ (tt {0})
    given_back around W result source.scalar_object continue e h = parts.ends_comes (IsException declared) W _ (Typed declared around during) (Typed declared around during) (Returned result) _ (tt {0})
    given_back around W result (source.class_object d) on_to_next e h = parts.ends_comes (IsException declared) W _ (Typed declared around during) (Typed declared around during) (Returned result) _ (tt {0})
    given_back around W result (source.class_object d) break e h = parts.ends_comes (IsException declared) W _ (Typed declared around during) (Typed declared around during) (Returned result) _ (tt {0})
    given_back around W result (source.class_object d) continue e h = parts.ends_comes (IsException declared) W _ (Typed declared around during) (Typed declared around during) (Returned result) _ (tt {0})
    given_back around W result source.reference on_to_next e h = parts.ends_comes (IsException declared) W _ (Typed declared around during) (Typed declared around during) (Returned result) _ (tt {0})
    given_back around W result source.reference break e h = parts.ends_comes (IsException declared) W _ (Typed declared around during) (Typed declared around during) (Returned result) _ (tt {0})
    given_back around W result source.reference continue e h = parts.ends_comes (IsException declared) W _ (Typed declared around during) (Typed declared around during) (Returned result) _ (tt {0})

    body_keeps : (around : Around) (W : World) (b : Stmts Check) → are_typed_stmts declared signature.result during b ≡ true → Keeps declared around during W (Returned signature.result) (body program calls f.result (stmts program calls b))
    body_keeps around W b typed = parts.then_comes (IsException declared) (Typed declared around during) _ (block_keeps around W b typed) (λ V _ c is. given_back around V signature.result f.result c kinded is)

    -- ---- the result, while the postconditions are evaluated

    -- behind a function whose result is no reference its postconditions see what its body saw
    naming_by : (around : Around) (result : Result) (kind : ResultKind) (W : World) (v : Value) (m : Does Nothing) → is_kind declared result kind ≡ true → IsReturned declared W result v
        → ((V : World) → Keeps declared around (record later { result = result_name_behind declared kind result }) V Any m)
        → Keeps declared around (record during { result = result_name_of declared kind result }) W Any (naming_result program calls kind v m)
    naming_by around (reference_result to) source.reference W v m e h k =
        let now : Context = record during { result = no_name } in
        let behind : Context = record later { result = named (refers (leaf_types declared to)) } in
        parts.first_comes (IsException declared) (Typed declared around now W) (IsFrame declared W now) (frame_now declared W around now)
        (λ frame f. within_keeps declared around now behind W Any (record frame { result = Some v }) m (record { variables = f.variables; result = h }) (k W) any_stable)
    naming_by around no_result source.void W v m e h k = k W
    naming_by around (scalar_result t) source.scalar_value W v m e h k = k W
    naming_by around (scalar_result t) source.scalar_object W v m e h k = k W
    naming_by around (class_result c) (source.class_object d) W v m e h k = k W
    naming_by around status source.exit_status W v m e h k = k W
    naming_by around no_result source.scalar_value W v m e h k = absurd cc
    naming_by around no_result source.scalar_object W v m e h k = absurd cc
    naming_by around no_result (source.class_object d) W v m e h k = absurd cc
    naming_by around no_result source.reference W v m e h k = absurd cc
    naming_by around no_result source.exit_status W v m e h k = absurd cc
    naming_by around (scalar_result t) source.void W v m e h k = absurd cc
    naming_by around (scalar_result t) (source.class_object d) W v m e h k = absurd cc
    naming_by around (scalar_result t) source.reference W v m e h k = absurd cc
    naming_by around (scalar_result t) source.exit_status W v m e h k = absurd cc
    naming_by around (class_result c) source.void W v m e h k = absurd cc
    naming_by around (class_result c) source.scalar_value W v m e h k = absurd cc
    naming_by around (class_result c) source.scalar_object W v m e h k = absurd cc
    naming_by around (class_result c) source.reference W v m e h k = absurd cc
    naming_by around (class_result c) source.exit_status W v m e h k = absurd cc
    naming_by around (reference_result t) source.void W v m e h k = absurd cc
    naming_by around (reference_result t) source.scalar_value W v m e h k = absurd cc
    naming_by around (reference_result t) source.scalar_object W v m e h k = absurd cc
    naming_by around (reference_result t) (source.class_object d) W v m e h k = absurd cc
    naming_by around (reference_result t) source.exit_status W v m e h k = absurd cc
    naming_by around status source.void W v m e h k = absurd cc
    naming_by around status source.scalar_value W v m e h k = absurd cc
    naming_by around status source.scalar_object W v m e h k = absurd cc
    naming_by around status (source.class_object d) W v m e h k = absurd cc
    naming_by around status source.reference W v m e h k = absurd cc

    naming_keeps : (around : Around) (W : World) (v : Value) → IsReturned declared W signature.result v → Keeps declared around during W Any (naming_result program calls f.result v (postconditions program calls f made))
    naming_keeps around W v h = naming_by around signature.result f.result W v (postconditions program calls f made) kinded h (λ V. postconditions_keep around V)

    destroyed_at : (around : Around) (W : World) (c : ℕ) (place : Option Value) → is_whole declared (class c) ≡ true → IsDenoted declared W (refers (leaf_types declared (class c))) place
        → Keeps declared around during W Any (some place >>= place_of >>= destroy program calls c)
    destroyed_at around W c None w h = absurd h
    destroyed_at around W c (Some x) w h =
        parts.first_comes (IsException declared) (Typed declared around during W) (λ a. IsAt W a (leaf_types declared (class c)))
        (then_stays (Typed declared around during W) (λ y. y ≡ x) (gives_stays (Typed declared around during W) (λ y. y ≡ x) x refl)
        (λ y e. placing declared W around during (leaf_types declared (class c)) y (subst (λ z. IsReference declared W (leaf_types declared (class c)) z) (sym e) h)))
        (λ a at. destroys declared program facts (most declared program) calls keep around during W (Typed declared around during) c a (record { at = at; defined = w }) (below_most declared program facts (class c) w))

    destroying : (around : Around) (W : World) (result : Result) (kind : ResultKind) → is_kind declared result kind ≡ true → IsResult declared W (result_name_of declared kind result) made.result
        → Keeps declared around during W Any (destroy_result program calls kind made.result)
    destroying around W (class_result c) (source.class_object d) e h =
        subst (λ k. Keeps declared around during W Any (destroy_result program calls (source.class_object k) made.result)) (equal_numbers c d (both_left _ _ e)) (destroyed_at around W c made.result (both_right (nat_eq c d) _ e) h)
    destroying around W r source.void e h = parts.gives_comes (IsException declared) W (Typed declared around during) (Typed declared around during) Any nothing (tt {0})
    destroying around W r source.scalar_value e h = parts.gives_comes (IsException declared) W (Typed declared around during) (Typed declared around during) Any nothing (tt {0})
    destroying around W r source.scalar_object e h = parts.gives_comes (IsException declared) W (Typed declared around during) (Typed declared around during) Any nothing (tt {0})
    destroying around W r source.reference e h = parts.gives_comes (IsException declared) W (Typed declared around during) (Typed declared around during) Any nothing (tt {0})
    destroying around W r source.exit_status e h = parts.gives_comes (IsException declared) W (Typed declared around during) (Typed declared around during) Any nothing (tt {0})
    destroying around W no_result (source.class_object d) e h = absurd cc
    destroying around W (scalar_result t) (source.class_object d) e h = absurd cc
    destroying around W (reference_result t) (source.class_object d) e h = absurd cc
    destroying around W status (source.class_object d) e h = absurd cc

    -- ---- functions

    pub function_keeps : (around : Around) (W : World) (b : Stmts Check) → are_typed_stmts declared signature.result during b ≡ true → IsResult declared W (result_name_of declared f.result signature.result) made.result
        → Keeps declared around during W (Returned signature.result) (function_call program calls f made b)
    function_keeps around W b typed place =
        parts.then_comes (IsException declared) (Typed declared around during) Any (preconditions_keep around W)
        (λ V e _ _. parts.then_comes (IsException declared) (Typed declared around during) (Returned signature.result) (body_keeps around V b typed)
        (λ U g v is. parts.then_comes (IsException declared) (Typed declared around during) Any
        (undone_comes declared U _ (Typed declared around during) (Typed declared around during) (Typed declared around during) Any _ _ (naming_keeps around U v is)
        (λ X k. destroying around X signature.result f.result kinded
        (result_more declared W X (result_name_of declared f.result signature.result) made.result (longer W U X (longer W V U e g) k) place)))
        (λ X k _ _. parts.gives_comes (IsException declared) X (Typed declared around during) (Typed declared around during) (Returned signature.result) v (returned_more declared U X signature.result v k is))))

    -- ---- constructors

    first_slot : (parameters : List Parameter) (leaf : ℕ) (type : ObjectType) → has_field declared parameters leaf type ≡ true
        → (ts : List LeafType) × (slice_get (map (parameter_given declared) parameters) 0 ≡ Some (refers ts)) × (begins (leaf_types declared type) (drop leaf ts) ≡ true)
    first_slot [] leaf type h = absurd cc
    first_slot (report ∷ parameters) leaf type h = absurd cc
    first_slot (types.object o ∷ parameters) leaf type h = (leaf_types declared o, refl, h)

    inits_keep : (around : Around) (fields : List FieldInit) (W : World) → all_are (is_field_typed declared signature f.result) fields ≡ true
        → Keeps declared (block_around around) during W Any (field_inits program calls fields)
    inits_keep around [] W h = parts.gives_comes (IsException declared) W (Typed declared (block_around around) during) (Typed declared (block_around around) during) Any nothing (tt {0})
    inits_keep around (i ∷ fields) W h =
        let one = both_left _ _ h in
        let two = both_left _ _ one in
        let slot = first_slot signature.parameters i.leaf i.type (both_left _ _ two) in
        let w = both_right (has_field declared signature.parameters i.leaf i.type) _ two in
        parts.then_comes (IsException declared) (Typed declared (block_around around) during) Any
        (field_keeps declared program facts (most declared program) calls keep (block_around around) during W slot.0 i.leaf i.type _ slot.1 slot.2 w (below_most declared program facts i.type w)
        (λ V a e at. init_keeps declared program facts calls keep during i.init i.type (both_right (has_field declared signature.parameters i.leaf i.type && is_whole declared i.type) _ one) (most declared program) around.innermost (tt {0}) V a at))
        (λ V _ _ _. inits_keep around fields V (both_right (is_field_typed declared signature f.result i) _ h))

    abbrev behind_by : Result → Context
    behind_by r = record { slots = map (parameter_given declared) signature.parameters; result = result_name_behind declared f.result r; caught = None }

    abbrev during_by : Result → Context
    during_by r = record { slots = map (parameter_given declared) signature.parameters; result = result_name_of declared f.result r; caught = None }

    -- a constructor gives nothing, so its postconditions see what its body saw
    pub constructor_keeps : (around : Around) (W : World) (fields : List FieldInit) (b : Stmts Check) → signature.result ≡ no_result → all_are (is_field_typed declared signature f.result) fields ≡ true → are_typed_stmts declared signature.result during b ≡ true
        → Keeps declared around during W (Returned signature.result) (constructor_call program calls f made fields b)
    constructor_keeps around W fields b e h typed =
        constructing_keeps declared program facts (most declared program) calls keep around during W (Returned signature.result) _ (λ V U g x p. returned_more declared V U signature.result x g p)
        (parts.then_comes (IsException declared) (Typed declared inner during) Any (preconditions_keep inner W)
        (λ V _ _ _. parts.then_comes (IsException declared) (Typed declared inner during) Any (inits_keep around fields V h)
        (λ U _ _ _. parts.then_comes (IsException declared) (Typed declared inner during) _ (block_keeps inner U b typed)
        (λ X _ _ _. parts.then_comes (IsException declared) (Typed declared inner during) Any (posts X)
        (λ Y _ _ _. parts.gives_comes (IsException declared) Y (Typed declared inner during) (Typed declared inner during) (Returned signature.result) null (subst (λ r. IsReturned declared Y r null) (sym e) (tt {0})))))))
      where
        inner : Around
        inner = record around { living = most declared program }

        posts : (X : World) → Keeps declared inner during X Any (postconditions program calls f made)
        posts X = subst (λ r. Keeps declared inner (during_by r) X Any (postconditions program calls f made)) (sym e) (subst (λ r. Keeps declared inner (behind_by r) X Any (postconditions program calls f made)) e (postconditions_keep inner X))

    -- ---- destructors

    object_slot : (parameters : List Parameter) (type : ObjectType) → is_of declared parameters type ≡ true
        → (ts : List LeafType) × (slice_get (map (parameter_given declared) parameters) 0 ≡ Some (refers ts)) × (begins (leaf_types declared type) ts ≡ true)
    object_slot [] type h = absurd cc
    object_slot (report ∷ parameters) type h = absurd cc
    object_slot (types.object o ∷ parameters) type h = (leaf_types declared o, refl, h)

    posts_of : signature.result ≡ no_result → (around : Around) (W : World) → Keeps declared around during W Any (checked program calls Definer f.checks.postconditions)
    posts_of e around W =
        subst (λ r. Keeps declared around (during_by r) W Any (checked program calls Definer f.checks.postconditions)) (sym e)
        (subst (λ r. Keeps declared around (behind_by r) W Any (checked program calls Definer f.checks.postconditions)) e
        (checked_keeps declared program facts calls keep around later refl Definer f.checks.postconditions (both_right (are_typed_checks declared during f.checks.preconditions) _ checks_typed) W))

    pub destructor_quiet : (around : Around) (T : Family) (W : World) (c : ℕ) (b : Stmts Check) → signature.result ≡ no_result → is_whole declared (class c) ≡ true → is_of declared signature.parameters (class c) ≡ true
        → are_typed_stmts declared signature.result during b ≡ true
        → parts.Comes (IsException declared) W (Typed declared around during W) T (Typed declared around during) (λ V x. IsNull declared x) (destructor_call program calls f c b)
    destructor_quiet around T W c b e w of typed =
        let slot = object_slot signature.parameters (class c) of in
        let l = facts.low c w in
        destructor_goes declared program facts (most declared program) calls keep around during T W c slot.0 _ _ _ slot.1 slot.2 w (omega arith)
        (λ V. parts.then_comes (IsException declared) (Typed declared around during) Any (checked_keeps declared program facts calls keep around during refl Definer f.checks.preconditions (both_left _ _ checks_typed) V)
        (λ U _ _ _. block_keeps around U b typed))
        (posts_of e around)
