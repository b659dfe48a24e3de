-- Each typed statement keeps a state typed, and what it returns is what the function gives.
use Rattle.std.proofs.Common.{◌≡◌, refl, sym, subst, ℕ, nat_eq, Bool, true, false, ◌&&◌, if◌then◌else◌, [], ◌∷◌, length, Option, Some, None}
use Rattle.cx_core.specs.Words.{Definer}
use Rattle.cx_core.specs.Tree as tree
use Rattle.cx_core.specs.Tree.{ObjectType, class, Operand, Init, Check, Specifier, CatchParameter, unnamed, reference, object, Condition, always, while, Stmt, empty, expression, variable_declaration, reference_declaration, block, if_else, while_loop, for_loop, contract_assert, try, return_value, return_reference, return_object, rethrow, Stmts, done, next, Handlers, none, catch_all}
use Rattle.cx_core.specs.Program.{Program, ResultKind}
use Rattle.cx_core.specs.Store.{Value, null}
use Rattle.cx_core.specs.Outcome.{Exception, Does, nothing, ◌>>◌, skip, gives, spend}
use Rattle.cx_core.specs.Leaving.{Calls, full_expression, scope}
use Rattle.cx_core.specs.Calls.{returned_object}
use Rattle.cx_core.specs.Statements.{reference_of, Completion, break, continue, return, same_type, handled}
use Rattle.cx_core.specs.Meaning.{init, condition, catch_parameter, stmt, stmts, handlers}
use Rattle.cx_soundness.specs.Types.{Result, no_result, scalar_result, class_result, reference_result, status, Declared, Given, null_reference, Context}
use Rattle.cx_soundness.specs.Given.{where_given, is_whole}
use Rattle.cx_soundness.specs.Expressions.{expr_given, used_given}
use Rattle.cx_soundness.specs.Statements.{with_slot, with_place, is_given, is_place, is_caught, object_slot, is_condition, is_condition_or_absent, is_typed_check, returns_object, returns_none, behind, is_typed_parameter, behind_parameter, is_typed_stmt_by, is_typed_stmt, are_typed_stmts, are_typed_handlers}
use Rattle.cx_soundness.specs.Programs.{result_name_of}
use Rattle.cx_soundness.proofs.Same.{both_left, both_right, equal_numbers}
use Rattle.cx_soundness.proofs.Worlds.{World}
use Rattle.cx_soundness.proofs.Comes.{Always, Stays, Family}
use Rattle.cx_soundness.proofs.Comes as parts
use Rattle.cx_soundness.proofs.States.{Around, IsException, Typed, spending}
use Rattle.cx_soundness.proofs.Lives.{IsReturned, Goes, Keeps, Any, Facts, most, CallsKeep}
use Rattle.cx_soundness.proofs.Leaving.{scope_keeps}
use Rattle.cx_soundness.proofs.Operations.{Covers, Sound}
use Rattle.cx_soundness.proofs.Trees.{expr_keeps, used_keeps, init_keeps}
use Rattle.cx_soundness.proofs.Checks.{evaluated_keeps, condition_keeps, checked_keeps}
use Rattle.cx_soundness.proofs.Slots.{of_block, fewer_behind, variable_goes, reference_goes}
use Rattle.cx_soundness.proofs.Returns.{IsLeft, left_stable, goes_on, completed_goes, sequence_goes, loop_keeps, return_value_keeps, return_reference_keeps, return_object_keeps}
use Rattle.cx_soundness.proofs.Thrown.{throw_keeps, rethrow_keeps, handled_keeps, caught_keeps}

module _ (declared : Declared) (program : Program) (facts : Facts declared program) (calls : Calls) (keep : CallsKeep declared program (most declared program) calls) (result : Result) (kind : ResultKind) where
  -- a place in the body of a function with the result
  pub record IsOf (context : Context) : Type 0 where
    pub plain : context.caught ≡ None
    pub names : context.result ≡ result_name_of declared kind result

  with_place_of : (context : Context) (v : Option Given) → IsOf context → IsOf (with_place context v)
  with_place_of context None h = h
  with_place_of context (Some v) h = record { plain = h.plain; names = h.names }

  of_behind : (s : Stmt Check) (context : Context) → IsOf context → IsOf (behind declared context s)
  of_behind (variable_declaration slot type i) context h = record { plain = h.plain; names = h.names }
  of_behind (reference_declaration slot e) context h = with_place_of context (expr_given declared (with_slot context null_reference) e) h
  of_behind empty context h = h
  of_behind (expression a) context h = h
  of_behind (block b) context h = h
  of_behind (if_else c a b) context h = h
  of_behind (while_loop c body) context h = h
  of_behind (for_loop first c step body) context h = h
  of_behind tree.break context h = h
  of_behind tree.continue context h = h
  of_behind tree.return context h = h
  of_behind (return_value a) context h = h
  of_behind (return_reference e) context h = h
  of_behind (return_object i) context h = h
  of_behind (contract_assert c predicate) context h = h
  of_behind (tree.throw type i) context h = h
  of_behind rethrow context h = h
  of_behind (try b handler) context h = h

  of_parameter : (context : Context) (type : ObjectType) (p : CatchParameter) → IsOf context → IsOf (behind_parameter declared context type p)
  of_parameter context type unnamed h = h
  of_parameter context type (reference slot) h = record { plain = h.plain; names = h.names }
  of_parameter context type (object slot is_named i) h = record { plain = h.plain; names = h.names }

  abbrev Left : World → Completion → Type 0
  Left W c = IsLeft declared result W c

  module _ (temporaries : ℕ) (innermost : Option ObjectType) where
    abbrev around : Around
    around = of_block declared program facts calls keep temporaries innermost

    abbrev Moves : (now flying later : Context) → World → Does Completion → Type 0
    Moves now flying later W m = Goes declared around now flying later W Left m

    -- what a statement declares isn't visible behind what it is a part of
    inside : (s : Stmt Check) (context : Context) (W : World) (m : Does Completion) → Moves context context (behind declared context s) W m → Moves context context context W m
    inside s context W m h =
        parts.comes_less (IsException declared) W _ _ (Typed declared around context) (Typed declared around context) (Typed declared around (behind declared context s)) (Typed declared around context) Left Left m (λ t i. i) (λ V t i. i) (λ V t i. fewer_behind declared around context s V t i) (λ V c p. p) h

    after_first : (s : Stmt Check) (context : Context) (W : World) (m : Does Completion) → Moves (behind declared context s) (behind declared context s) (behind declared context s) W m → Moves (behind declared context s) context context W m
    after_first s context W m h =
        parts.comes_less (IsException declared) W _ _ (Typed declared around (behind declared context s)) (Typed declared around context) (Typed declared around (behind declared context s)) (Typed declared around context) Left Left m
        (λ t i. i) (λ V t i. fewer_behind declared around context s V t i) (λ V t i. fewer_behind declared around context s V t i) (λ V c p. p) h

    in_scope : (context : Context) (W : World) (m : Does Completion) → Moves context context context W m → Moves context context context W (scope program calls m)
    in_scope context W m h = scope_keeps declared program facts (most declared program) calls keep around context W Left m (left_stable declared result) h

    discarded : (context : Context) (h : IsOf context) (v : Option Given) (m : Does Value) → is_given v ≡ true → Sound declared program context v m → (W : World) → Keeps declared around context W Any (full_expression program calls m >> skip)
    discarded context h None m e s W = absurd cc
    discarded context h (Some v) m e s W =
        parts.then_comes (IsException declared) (Typed declared around context) _ (evaluated_keeps declared program facts calls keep around context h.plain v m s W)
        (λ V _ x _. parts.gives_comes (IsException declared) V (Typed declared around context) (Typed declared around context) Any nothing (tt {0}))

    referred : (context : Context) (h : IsOf context) (slot : ℕ) (v : Option Given) (m : Does Value) → slot ≡ length context.slots → where_given v is_place ≡ true → Sound declared program (with_slot context null_reference) v m → (W : World)
        → Goes declared around context context (with_place context v) W Any (reference_of program calls slot m)
    referred context h slot None m e p s W = absurd cc
    referred context h slot (Some v) m e p s W =
        reference_goes declared program facts calls keep temporaries innermost context W slot v m e (λ V. s (most declared program) innermost (subst (λ c. Covers c innermost) (sym h.plain) (tt {0})) V)

    nothing_returned : (r : Result) (W : World) → returns_none declared r ≡ true → IsReturned declared W r null
    nothing_returned no_result W e = tt {0}
    nothing_returned (scalar_result type) W e = absurd cc
    nothing_returned (class_result c) W e = absurd cc
    nothing_returned (reference_result to) W e = absurd cc
    nothing_returned status W e = absurd cc

    returned_at : (context : Context) (h : IsOf context) (r : Result) (i : Init) → result ≡ r → returns_object declared context r i ≡ true → (W : World) → Moves context context context W (returned_object program calls (init program calls i) >> gives (return null))
    returned_at context h (class_result c) i e typed W = return_object_keeps declared result program facts calls keep kind around context h.plain h.names c (init program calls i) e (init_keeps declared program facts calls keep context i (class c) typed) W
    returned_at context h no_result i e typed W = absurd cc
    returned_at context h (scalar_result type) i e typed W = absurd cc
    returned_at context h (reference_result to) i e typed W = absurd cc
    returned_at context h status i e typed W = absurd cc

    conditions : (context : Context) (h : IsOf context) (c : Condition) → is_condition_or_absent declared context c ≡ true → (W : World) → Keeps declared around context W Any (condition program calls c)
    conditions context h always e W = parts.gives_comes (IsException declared) W (Typed declared around context) (Typed declared around context) Any true (tt {0})
    conditions context h (while a) e W = condition_keeps declared program facts calls keep around context h.plain a e W

    one_check : (context : Context) (s : Specifier Check) → is_typed_check declared context s ≡ true → (is_typed_check declared context s && true) ≡ true
    one_check context s h = rw h refl

    -- a handler takes the exception, or a later one is tried
    handler_if : (context : Context) (h : IsOf context) (W : World) (type : ObjectType) (p : CatchParameter) (x : Exception) → IsException declared W x → is_caught type ≡ true → is_typed_parameter declared context type p ≡ true
        → (b : Does Completion) (rest : Does Completion)
        → ((V : World) → Keeps declared (of_block declared program facts calls keep temporaries (Some x.type)) (behind_parameter declared context type p) V Left b)
        → Moves context context context W rest
        → (same : Bool) → same_type x.type type ≡ same
        → Moves context context context W (if same then handled program calls x (catch_parameter program calls p x) b else rest)
    handler_if context h W type p x flies caught typed b rest k l true found = caught_keeps declared program facts calls keep result temporaries innermost context W type p x b h.plain flies found caught typed k
    handler_if context h W type p x flies caught typed b rest k l false found = l

    handler_by : (context : Context) (h : IsOf context) (W : World) (type : ObjectType) (p : CatchParameter) (x : Exception) → IsException declared W x → is_caught type ≡ true → is_typed_parameter declared context type p ≡ true
        → (b : Does Completion) (rest : Does Completion)
        → ((V : World) → Keeps declared (of_block declared program facts calls keep temporaries (Some x.type)) (behind_parameter declared context type p) V Left b)
        → Moves context context context W rest
        → Moves context context context W (spend >> (if same_type x.type type then handled program calls x (catch_parameter program calls p x) b else rest))
    handler_by context h W type p x flies caught typed b rest k l =
        parts.first_comes (IsException declared) (Typed declared around context W) Always (spending declared W around context)
        (λ _ _. handler_if context h W type p x flies caught typed b rest k l (same_type x.type type) refl)

  mutual
    unfolding stmt is_typed_stmt_by

    pub stmt_goes : (s : Stmt Check) (context : Context) → IsOf context → is_typed_stmt declared result context s ≡ true → (t : ℕ) (i : Option ObjectType) (W : World) → Moves t i context context (behind declared context s) W (stmt program calls s)
    stmt_goes empty context h e t i W = goes_on declared result (around t i) context context W
    stmt_goes (expression a) context h e t i W = completed_goes declared result (around t i) context context context W _ (discarded t i context h (used_given declared context a) _ e (used_keeps declared program facts calls keep context a) W)
    stmt_goes (variable_declaration slot type init_of) context h e t i W =
        let first = both_left _ _ e in
        completed_goes declared result (around t i) context context (object_slot declared context type) W _
        (variable_goes declared program facts calls keep t i context W slot type _ (equal_numbers slot (length context.slots) (both_left _ _ first)) (both_right (nat_eq slot (length context.slots)) _ first)
        (λ V a at. init_keeps declared program facts calls keep (object_slot declared context type) init_of type (both_right _ _ e) (most declared program) i (subst (λ c. Covers c i) (sym h.plain) (tt {0})) V a at))
    stmt_goes (reference_declaration slot r) context h e t i W =
        completed_goes declared result (around t i) context context (with_place context (expr_given declared (with_slot context null_reference) r)) W _
        (referred t i context h slot (expr_given declared (with_slot context null_reference) r) _ (equal_numbers slot (length context.slots) (both_left _ _ e)) (both_right (nat_eq slot (length context.slots)) _ e) (expr_keeps declared program facts calls keep (with_slot context null_reference) r) W)
    stmt_goes (block b) context h e t i W = in_scope t i context W _ (stmts_go b context h e t i W)
    stmt_goes (if_else c a b) context h e t i W =
        let first = both_left _ _ e in
        parts.then_comes (IsException declared) (Typed declared (around t i) context) Any (condition_keeps declared program facts calls keep (around t i) context h.plain c (both_left _ _ first) W)
        (λ V _ x _. parts.if_comes (IsException declared) V _ (Typed declared (around t i) context) (Typed declared (around t i) context) Left x _ _
        (inside t i a context V _ (stmt_goes a context h (both_right _ _ first) t i V)) (inside t i b context V _ (stmt_goes b context h (both_right _ _ e) t i V)))
    stmt_goes (while_loop c body) context h e t i W =
        loop_keeps declared result (around t i) context _ _ _ (condition_keeps declared program facts calls keep (around t i) context h.plain c (both_left _ _ e)) (λ V. goes_on declared result (around t i) context context V)
        (λ V. inside t i body context V _ (stmt_goes body context h (both_right (is_condition declared context c) _ e) t i V)) W
    stmt_goes (for_loop first c step body) context h e t i W =
        let inner = behind declared context first in
        let of_inner = of_behind first context h in
        let one = both_left _ _ e in
        let two = both_left _ _ one in
        in_scope t i context W _
        (parts.then_comes (IsException declared) (Typed declared (around t i) inner) Left (stmt_goes first context h (both_left _ _ two) t i W)
        (λ V _ _ _. after_first t i first context V _
        (loop_keeps declared result (around t i) inner _ _ _ (conditions t i inner of_inner c (both_right (is_typed_stmt declared result context first) _ two))
        (λ U. inside t i step inner U _ (stmt_goes step inner of_inner (both_right _ _ one) t i U)) (λ U. inside t i body inner U _ (stmt_goes body inner of_inner (both_right _ _ e) t i U)) V)))
    stmt_goes tree.break context h e t i W = parts.gives_comes (IsException declared) W (Typed declared (around t i) context) (Typed declared (around t i) context) Left break (tt {0})
    stmt_goes tree.continue context h e t i W = parts.gives_comes (IsException declared) W (Typed declared (around t i) context) (Typed declared (around t i) context) Left continue (tt {0})
    stmt_goes tree.return context h e t i W = parts.gives_comes (IsException declared) W (Typed declared (around t i) context) (Typed declared (around t i) context) Left (return null) (nothing_returned t i result W e)
    stmt_goes (return_value a) context h e t i W = return_value_keeps declared result program facts calls keep kind (around t i) context h.plain h.names (used_given declared context a) _ e (used_keeps declared program facts calls keep context a) W
    stmt_goes (return_reference r) context h e t i W = return_reference_keeps declared result program facts calls keep kind (around t i) context h.plain h.names (expr_given declared context r) _ e (expr_keeps declared program facts calls keep context r) W
    stmt_goes (return_object init_of) context h e t i W = returned_at t i context h result init_of refl e W
    stmt_goes (contract_assert c predicate) context h e t i W =
        completed_goes declared result (around t i) context context context W _
        (checked_keeps declared program facts calls keep (around t i) context h.plain Definer (record { of = c; predicate = predicate } ∷ []) (one_check t i context (record { of = c; predicate = predicate }) e) W)
    stmt_goes (tree.throw type init_of) context h e t i W =
        throw_keeps declared program facts calls keep result (around t i) context W type _ h.plain (both_left _ _ e) (init_keeps declared program facts calls keep context init_of type (both_right (is_whole declared type) _ e))
    stmt_goes rethrow context h e t i W = rethrow_keeps declared program facts calls keep result (around t i) context W
    stmt_goes (try b handler) context h e t i W =
        parts.either_comes (IsException declared) W _ (Typed declared (around t i) context) (Typed declared (around t i) context) (Typed declared (around t i) context) (Typed declared (around t i) context) Left Left _ _ _
        (in_scope t i context W _ (stmts_go b context h (both_left _ _ e) t i W))
        (λ V _ c is. parts.gives_comes (IsException declared) V (Typed declared (around t i) context) (Typed declared (around t i) context) Left c is)
        (λ V _ x flies. handlers_go handler context h (both_right (are_typed_stmts declared result context b) _ e) t i V x flies)

    pub stmts_go : (b : Stmts Check) (context : Context) → IsOf context → are_typed_stmts declared result context b ≡ true → (t : ℕ) (i : Option ObjectType) (W : World) → Moves t i context context context W (stmts program calls b)
    stmts_go done context h e t i W = goes_on declared result (around t i) context context W
    stmts_go (next s rest) context h e t i W =
        let later = behind declared context s in
        parts.then_comes (IsException declared) (Typed declared (around t i) later) Left (stmt_goes s context h (both_left _ _ e) t i W)
        (λ V _ c is. after_first t i s context V _
        (sequence_goes declared result (around t i) later later V _ c is (stmts_go rest later (of_behind s context h) (both_right (is_typed_stmt declared result context s) _ e) t i V)))

    pub handlers_go : (handler : Handlers Check) (context : Context) → IsOf context → are_typed_handlers declared result context handler ≡ true → (t : ℕ) (i : Option ObjectType) (W : World) (x : Exception) → IsException declared W x
        → Moves t i context context context W (handlers program calls handler x)
    handlers_go none context h e t i W x flies = parts.throws_comes (IsException declared) W (Typed declared (around t i) context) (Typed declared (around t i) context) Left x flies
    handlers_go (catch_all b rest) context h e t i W x flies =
        parts.first_comes (IsException declared) (Typed declared (around t i) context W) Always (spending declared W (around t i) context)
        (λ _ _. handled_keeps declared program facts calls keep result t i context context W x skip _ flies (λ V s j. j)
        (parts.gives_comes (IsException declared) W (Typed declared (around t (Some x.type)) context) (Typed declared (around t (Some x.type)) context) Any nothing (tt {0}))
        (λ V. stmts_go b context h (both_left _ _ e) t (Some x.type) V))
    handlers_go (tree.catch type p b rest) context h e t i W x flies =
        let one = both_left _ _ e in
        let two = both_left _ _ one in
        handler_by t i context h W type p x flies (both_left _ _ two) (both_right (is_caught type) _ two) _ _ (λ V. stmts_go b (behind_parameter declared context type p) (of_parameter context type p h) (both_right _ _ one) t (Some x.type) V)
        (handlers_go rest context h (both_right _ _ e) t i W x flies)
