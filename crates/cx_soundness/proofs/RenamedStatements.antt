-- Statements, checks and bodies are typed alike under other numbers of functions, classes and globals, if the declarations agree.
use Rattle.std.proofs.Common.{◌≡◌, refl, sym, ap, ◌∙◌, ℕ, suc, Bool, ◌&&◌, nat_eq, List, [], ◌∷◌, ◌++◌, map, length, Option, Some, None}
use Rattle.cx_types.specs.declared.value_type.Scalar.TheVariants as scalars
use Rattle.cx_core.specs.Tree as tree
use Rattle.cx_core.specs.Tree.{ObjectType, scalar, pointer, function_pointer, class, Expr, Operand, Init, Specifier, CatchParameter, unnamed, reference, object, Condition, always, while, Stmt, empty, expression, variable_declaration, reference_declaration, block, if_else, while_loop, for_loop, contract_assert, try, return_value, return_reference, return_object, rethrow, Stmts, done, next, Handlers, none, catch_all}
use Rattle.cx_core.specs.Renamed.{Names, renamed_type, renamed_operand, renamed_expr, renamed_init, renamed_condition, renamed_stmt, renamed_stmts, renamed_handlers, renamed_specifier}
use Rattle.cx_core.specs.Renamed as core
use Rattle.cx_soundness.specs.Types.{Result, no_result, scalar_result, class_result, reference_result, status, Declared, Given, numbers, refers, null_reference, functions, a_report, Context}
use Rattle.cx_soundness.specs.Given.{where_given, leaf_types, denotes, is_truth}
use Rattle.cx_soundness.specs.Expressions.{expr_given, used_given, is_typed}
use Rattle.cx_soundness.specs.Statements.{with_slot, with_place, is_given, is_place, is_caught, object_slot, is_condition, is_condition_or_absent, returns_value, returns_reference, returns_object, returns_none, behind, is_typed_parameter, behind_parameter, is_typed_check_by, are_typed_checks_by, is_typed_stmt_by, are_typed_stmts_by, are_typed_handlers_by}
use Rattle.cx_soundness.specs.Units.{renamed_result, renamed_given, renamed_given_or_none, renamed_context, Agrees}
use Rattle.cx_soundness.proofs.RenamedTypes.{types_same, whole_same, accepts_same, denotes_same, where_same, and_same}
use Rattle.cx_soundness.proofs.RenamedOperators.{truth_same}
use Rattle.cx_soundness.proofs.Renamed.{expr_same, used_same, init_same}

module _ (names : Names) (unit program : Declared) (agrees : Agrees names unit program) where
  abbrev rg : Given → Given
  rg v = renamed_given names v

  abbrev ro : Option Given → Option Given
  ro v = renamed_given_or_none names v

  abbrev rt : ObjectType → ObjectType
  rt type = renamed_type names type

  abbrev there : Context → Context
  there context = renamed_context names context

  both : (a b c d : Bool) → a ≡ c → b ≡ d → (a && b) ≡ (c && d)
  both a b c d p q = and_same names unit program agrees a b c d p q

  given_where : (v w : Option Given) (f g : Given → Bool) → w ≡ ro v → ((u : Given) → g (rg u) ≡ f u) → where_given w g ≡ where_given v f
  given_where v w f g e h = where_same names unit program agrees v w f g e h

  -- ---- contexts

  slots_appended : (slots : List Given) (v : Given) → map rg (slots ++ v ∷ []) ≡ map rg slots ++ rg v ∷ []
  slots_appended [] v = refl
  slots_appended (u ∷ slots) v = ap (λ xs. rg u ∷ xs) (slots_appended slots v)

  slots_length : (slots : List Given) → length (map rg slots) ≡ length slots
  slots_length [] = refl
  slots_length (u ∷ slots) = ap suc (slots_length slots)

  slot_same : (context : Context) (v : Given) → with_slot (there context) (rg v) ≡ there (with_slot context v)
  slot_same context v = ap (λ (slots : List Given). context_with slots) (sym (slots_appended context.slots v))
    where
      context_with : List Given → Context
      context_with slots = record (there context) { slots = slots }

  object_slot_same : (context : Context) (type : ObjectType) → object_slot program (there context) (rt type) ≡ there (object_slot unit context type)
  object_slot_same context type = ap (λ ts. with_slot (there context) (refers ts)) (types_same names unit program agrees type) ∙ slot_same context (refers (leaf_types unit type))

  place_same : (context : Context) (v : Option Given) → with_place (there context) (ro v) ≡ there (with_place context v)
  place_same context None = refl
  place_same context (Some v) = slot_same context v

  is_last : (context : Context) (slot : ℕ) → nat_eq slot (length (there context).slots) ≡ nat_eq slot (length context.slots)
  is_last context slot = ap (λ n. nat_eq slot n) (slots_length context.slots)

  -- in a context that is equal to a renamed one
  pub init_at : (context other : Context) → other ≡ there context → (type : ObjectType) (i : Init) → is_typed program other (rt type) (renamed_init names i) ≡ is_typed unit context type i
  init_at context other e type i = ap (λ c. is_typed program c (rt type) (renamed_init names i)) e ∙ init_same names unit program agrees context i type

  expr_at : (context other : Context) → other ≡ there context → (e : Expr) → expr_given program other (renamed_expr names e) ≡ ro (expr_given unit context e)
  expr_at context other e x = ap (λ c. expr_given program c (renamed_expr names x)) e ∙ expr_same names unit program agrees context x

  null_slot : (context : Context) → with_slot (there context) null_reference ≡ there (with_slot context null_reference)
  null_slot context = slot_same context null_reference

  condition_same : (context : Context) (a : Operand) → is_condition program (there context) (renamed_operand names a) ≡ is_condition unit context a
  condition_same context a = given_where (used_given unit context a) _ is_truth is_truth (used_same names unit program agrees context a) (truth_same names unit program agrees)

  condition_or_absent_same : (context : Context) (c : Condition) → is_condition_or_absent program (there context) (renamed_condition names c) ≡ is_condition_or_absent unit context c
  condition_or_absent_same context always = refl
  condition_or_absent_same context (while a) = condition_same context a

  -- ---- results

  value_same : (r : Result) (v : Given) → returns_value program (renamed_result names r) (rg v) ≡ returns_value unit r v
  value_same (scalar_result type) v = accepts_same names unit program agrees type v
  value_same status v = accepts_same names unit program agrees (scalar scalars.Int) v
  value_same no_result v = refl
  value_same (class_result c) v = refl
  value_same (reference_result to) v = refl

  reference_same : (r : Result) (v : Given) → returns_reference program (renamed_result names r) (rg v) ≡ returns_reference unit r v
  reference_same (reference_result to) v = ap (λ ts. denotes (refers ts) (rg v)) (types_same names unit program agrees to) ∙ denotes_same names unit program agrees (refers (leaf_types unit to)) v
  reference_same no_result v = refl
  reference_same (scalar_result type) v = refl
  reference_same (class_result c) v = refl
  reference_same status v = refl

  object_same : (context : Context) (r : Result) (i : Init) → returns_object program (there context) (renamed_result names r) (renamed_init names i) ≡ returns_object unit context r i
  object_same context (class_result c) i = init_same names unit program agrees context i (class c)
  object_same context no_result i = refl
  object_same context (scalar_result type) i = refl
  object_same context (reference_result to) i = refl
  object_same context status i = refl

  pub none_same : (r : Result) → returns_none program (renamed_result names r) ≡ returns_none unit r
  none_same no_result = refl
  none_same (scalar_result type) = refl
  none_same (class_result c) = refl
  none_same (reference_result to) = refl
  none_same status = refl

  given_same : (v w : Option Given) → w ≡ ro v → is_given w ≡ is_given v
  given_same None w e = ap is_given e
  given_same (Some v) w e = ap is_given e

  is_place_same : (v : Given) → is_place (rg v) ≡ is_place v
  is_place_same (numbers f) = refl
  is_place_same (refers ts) = refl
  is_place_same null_reference = refl
  is_place_same (functions s) = refl
  is_place_same a_report = refl

  caught_same : (type : ObjectType) → is_caught (rt type) ≡ is_caught type
  caught_same (scalar s) = refl
  caught_same (pointer to) = refl
  caught_same (function_pointer k) = refl
  caught_same (class c) = refl

  -- ---- the parameters of handlers

  behind_parameter_same : (context : Context) (type : ObjectType) (p : CatchParameter) → behind_parameter program (there context) (rt type) (core.renamed_parameter names p) ≡ there (behind_parameter unit context type p)
  behind_parameter_same context type unnamed = refl
  behind_parameter_same context type (reference slot) = object_slot_same context type
  behind_parameter_same context type (object slot is_named i) = object_slot_same context type

  parameter_same : (context : Context) (type : ObjectType) (p : CatchParameter) → is_typed_parameter program (there context) (rt type) (core.renamed_parameter names p) ≡ is_typed_parameter unit context type p
  parameter_same context type unnamed = refl
  parameter_same context type (reference slot) = is_last context slot
  parameter_same context type (object slot is_named i) =
      both _ _ _ _ (both _ _ _ _ (is_last context slot) (whole_same names unit program agrees type))
      (init_at (record (object_slot unit context type) { caught = Some type }) (record (object_slot program (there context) (rt type)) { caught = Some (rt type) }) (ap (λ (c : Context). caught_in c) (object_slot_same context type)) type i)
    where
      caught_in : Context → Context
      caught_in c = record c { caught = Some (rt type) }

  -- ---- statements

  module _ {A B : Type 0} (placed : A → Bool) (placed_there : B → Bool) (assertion : A → B) (alike : (a : A) → placed_there (assertion a) ≡ placed a) where
    check_same : (context : Context) (s : Specifier A) → is_typed_check_by program placed_there (there context) (renamed_specifier names assertion s) ≡ is_typed_check_by unit placed context s
    check_same context s = both _ _ _ _ (alike s.of) (condition_same context s.predicate)

    pub checks_same : (context : Context) (checks : List (Specifier A)) → are_typed_checks_by program placed_there (there context) (map (renamed_specifier names assertion) checks) ≡ are_typed_checks_by unit placed context checks
    checks_same context [] = refl
    checks_same context (s ∷ checks) = both _ _ _ _ (check_same context s) (checks_same context checks)

    behind_same : (s : Stmt A) (context : Context) → behind program (there context) (renamed_stmt names assertion s) ≡ there (behind unit context s)
    unfolding renamed_stmt
    behind_same (variable_declaration slot type i) context = object_slot_same context type
    behind_same (reference_declaration slot e) context =
        ap (λ v. with_place (there context) v) (expr_at (with_slot context null_reference) (with_slot (there context) null_reference) (null_slot context) e) ∙ place_same context (expr_given unit (with_slot context null_reference) e)
    behind_same empty context = refl
    behind_same (expression a) context = refl
    behind_same (block b) context = refl
    behind_same (if_else c a b) context = refl
    behind_same (while_loop c body) context = refl
    behind_same (for_loop first c step body) context = refl
    behind_same tree.break context = refl
    behind_same tree.continue context = refl
    behind_same tree.return context = refl
    behind_same (return_value a) context = refl
    behind_same (return_reference e) context = refl
    behind_same (return_object i) context = refl
    behind_same (contract_assert c predicate) context = refl
    behind_same (tree.throw type i) context = refl
    behind_same rethrow context = refl
    behind_same (try b h) context = refl

    module _ (r : Result) where
      abbrev rr : Result
      rr = renamed_result names r

      -- what is asked in a context that is equal to a renamed one
      at_context : (f : Context → Bool) (a b : Context) → a ≡ b → (c : Bool) → f b ≡ c → f a ≡ c
      at_context f a b e c h = ap f e ∙ h

      mutual
        unfolding renamed_stmt is_typed_stmt_by

        pub stmt_same : (s : Stmt A) (context : Context) → is_typed_stmt_by program placed_there rr (there context) (renamed_stmt names assertion s) ≡ is_typed_stmt_by unit placed r context s
        stmt_same empty context = refl
        stmt_same (expression a) context = given_same (used_given unit context a) _ (used_same names unit program agrees context a)
        stmt_same (variable_declaration slot type i) context =
            both _ _ _ _ (both _ _ _ _ (is_last context slot) (whole_same names unit program agrees type)) (init_at (object_slot unit context type) (object_slot program (there context) (rt type)) (object_slot_same context type) type i)
        stmt_same (reference_declaration slot e) context =
            both _ _ _ _ (is_last context slot)
            (given_where (expr_given unit (with_slot context null_reference) e) _ is_place is_place (expr_at (with_slot context null_reference) (with_slot (there context) null_reference) (null_slot context) e) is_place_same)
        stmt_same (block b) context = stmts_same b context
        stmt_same (if_else c a b) context = both _ _ _ _ (both _ _ _ _ (condition_same context c) (stmt_same a context)) (stmt_same b context)
        stmt_same (while_loop c body) context = both _ _ _ _ (condition_same context c) (stmt_same body context)
        stmt_same (for_loop first c step body) context =
            let e = behind_same first context in
            let inner = behind unit context first in
            both _ _ _ _
            (both _ _ _ _
            (both _ _ _ _ (stmt_same first context) (at_context (λ k. is_condition_or_absent program k (renamed_condition names c)) _ _ e _ (condition_or_absent_same inner c)))
            (at_context (λ k. is_typed_stmt_by program placed_there rr k (renamed_stmt names assertion step)) _ _ e _ (stmt_same step inner)))
            (at_context (λ k. is_typed_stmt_by program placed_there rr k (renamed_stmt names assertion body)) _ _ e _ (stmt_same body inner))
        stmt_same tree.break context = refl
        stmt_same tree.continue context = refl
        stmt_same tree.return context = none_same r
        stmt_same (return_value a) context = given_where (used_given unit context a) _ (returns_value unit r) (returns_value program rr) (used_same names unit program agrees context a) (value_same r)
        stmt_same (return_reference e) context = given_where (expr_given unit context e) _ (returns_reference unit r) (returns_reference program rr) (expr_same names unit program agrees context e) (reference_same r)
        stmt_same (return_object i) context = object_same context r i
        stmt_same (contract_assert c predicate) context = check_same context (record { of = c; predicate = predicate })
        stmt_same (tree.throw type i) context = both _ _ _ _ (whole_same names unit program agrees type) (init_same names unit program agrees context i type)
        stmt_same rethrow context = refl
        stmt_same (try b h) context = both _ _ _ _ (stmts_same b context) (handlers_same h context)

        pub stmts_same : (b : Stmts A) (context : Context) → are_typed_stmts_by program placed_there rr (there context) (renamed_stmts names assertion b) ≡ are_typed_stmts_by unit placed r context b
        stmts_same done context = refl
        stmts_same (next s rest) context =
            both _ _ _ _ (stmt_same s context) (at_context (λ k. are_typed_stmts_by program placed_there rr k (renamed_stmts names assertion rest)) _ _ (behind_same s context) _ (stmts_same rest (behind unit context s)))

        pub handlers_same : (h : Handlers A) (context : Context) → are_typed_handlers_by program placed_there rr (there context) (renamed_handlers names assertion h) ≡ are_typed_handlers_by unit placed r context h
        handlers_same none context = refl
        handlers_same (catch_all b rest) context = both _ _ _ _ (stmts_same b context) (handlers_same rest context)
        handlers_same (tree.catch type p b rest) context =
            both _ _ _ _
            (both _ _ _ _ (both _ _ _ _ (caught_same type) (parameter_same context type p))
            (at_context (λ k. are_typed_stmts_by program placed_there rr k (renamed_stmts names assertion b)) _ _ (behind_parameter_same context type p) _ (stmts_same b (behind_parameter unit context type p))))
            (handlers_same rest context)
