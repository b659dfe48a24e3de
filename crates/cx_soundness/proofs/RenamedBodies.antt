-- The definitions of functions are typed alike under other numbers of functions, classes and globals, if the declarations agree.
use Rattle.std.proofs.Common.{◌≡◌, refl, ap, ◌∙◌, subst, ℕ, Bool, true, ◌&&◌, List, [], ◌∷◌, map, drop, Some, None}
use Rattle.cx_core.specs.Tree.{ObjectType, scalar, pointer, function_pointer, class, Check, Specifier, Stmts}
use Rattle.cx_core.specs.Program as kinds
use Rattle.cx_core.specs.Program.{FieldInit, Body, function, constructor, destructor, implicit_constructor, implicit_copy_constructor, implicit_destructor, ResultKind, Class}
use Rattle.cx_core.specs.Unit.{UnitFunction, TranslationUnit}
use Rattle.cx_core.specs.Renamed.{Names, renamed_type, renamed_init, renamed_field_init, renamed_specifier, renamed_body}
use Rattle.cx_core.specs.Renamed as core
use Rattle.cx_soundness.specs.Types.{Parameter, object, report, Result, no_result, scalar_result, class_result, reference_result, status, Signature, Declared, Given, refers, ResultName, unnamed, named, Context}
use Rattle.cx_soundness.specs.Given.{begins, leaf_types, is_whole, parameter_given, denotes}
use Rattle.cx_soundness.specs.Statements.{is_placed_check, are_typed_checks_by, are_typed_stmts_by}
use Rattle.cx_soundness.specs.Programs.{all_are, result_name_of, result_name_behind, context_of, context_behind, is_kind, are_lists_typed_by, is_of, are_of, has_field, is_field_typed, is_body_typed_by, has_none, is_suited_by, are_checks_typed, is_function_typed}
use Rattle.cx_soundness.specs.Units.{renamed_parameter, renamed_result, renamed_signature, renamed_given, renamed_name, renamed_context, Agrees, class_or_none, is_placed_at, is_definition_typed, is_unit_function_typed, renamed_checks, renamed_function, DefaultsStay}
use Rattle.cx_soundness.specs.Laws.{DefinitionsStayTyped, ChecksStayTyped}
use Rattle.cx_soundness.proofs.Same.{both_left, both_right, both_true}
use Rattle.cx_soundness.proofs.RenamedTypes.{types_same, whole_same, begins_types, parameter_given_same, denotes_same, and_same}
use Rattle.cx_soundness.proofs.RenamedOperators.{dropped_same}
use Rattle.cx_soundness.proofs.RenamedStatements.{init_at, none_same, checks_same, stmts_same}

module _ (names : Names) (unit program : Declared) (agrees : Agrees names unit program) where
  abbrev rg : Given → Given
  rg v = renamed_given names v

  abbrev rt : ObjectType → ObjectType
  rt type = renamed_type names type

  abbrev rr : Result → Result
  rr r = renamed_result names r

  abbrev rs : Signature → Signature
  rs s = renamed_signature names s

  abbrev rk : ResultKind → ResultKind
  rk k = core.renamed_result names k

  abbrev there : Context → Context
  there context = renamed_context names context

  both : (a b c d : Bool) → a ≡ c → b ≡ d → (a && b) ≡ (c && d)
  both a b c d p q = and_same names unit program agrees a b c d p q

  -- ---- kinds and contexts

  abbrev has : ObjectType → Bool
  has type = is_kind unit (scalar_result type) kinds.scalar_value

  has_same : (type : ObjectType) → is_kind program (scalar_result (rt type)) kinds.scalar_value ≡ has type
  has_same (scalar s) = refl
  has_same (pointer to) = refl
  has_same (function_pointer k) = refl
  has_same (class c) = refl

  kind_same : (r : Result) (k : ResultKind) → is_kind program (rr r) (rk k) ≡ is_kind unit r k
  kind_same no_result kinds.void = refl
  kind_same no_result kinds.scalar_value = refl
  kind_same no_result kinds.scalar_object = refl
  kind_same no_result (kinds.class_object d) = refl
  kind_same no_result kinds.reference = refl
  kind_same no_result kinds.exit_status = refl
  kind_same (scalar_result type) kinds.void = refl
  kind_same (scalar_result type) kinds.scalar_value = has_same type
  kind_same (scalar_result type) kinds.scalar_object = has_same type
  kind_same (scalar_result type) (kinds.class_object d) = refl
  kind_same (scalar_result type) kinds.reference = refl
  kind_same (scalar_result type) kinds.exit_status = refl
  kind_same (class_result c) kinds.void = refl
  kind_same (class_result c) kinds.scalar_value = refl
  kind_same (class_result c) kinds.scalar_object = refl
  kind_same (class_result c) (kinds.class_object d) = both _ _ _ _ (agrees.classes_apart c d) (whole_same names unit program agrees (class c))
  kind_same (class_result c) kinds.reference = refl
  kind_same (class_result c) kinds.exit_status = refl
  kind_same (reference_result to) kinds.void = refl
  kind_same (reference_result to) kinds.scalar_value = refl
  kind_same (reference_result to) kinds.scalar_object = refl
  kind_same (reference_result to) (kinds.class_object d) = refl
  kind_same (reference_result to) kinds.reference = refl
  kind_same (reference_result to) kinds.exit_status = refl
  kind_same status kinds.void = refl
  kind_same status kinds.scalar_value = refl
  kind_same status kinds.scalar_object = refl
  kind_same status (kinds.class_object d) = refl
  kind_same status kinds.reference = refl
  kind_same status kinds.exit_status = refl

  name_of_same : (r : Result) (k : ResultKind) → result_name_of program (rk k) (rr r) ≡ renamed_name names (result_name_of unit k r)
  name_of_same no_result kinds.void = refl
  name_of_same no_result kinds.scalar_value = refl
  name_of_same no_result kinds.scalar_object = refl
  name_of_same no_result (kinds.class_object d) = refl
  name_of_same no_result kinds.reference = refl
  name_of_same no_result kinds.exit_status = refl
  name_of_same (scalar_result type) kinds.void = ap (λ ts. unnamed (refers ts)) (types_same names unit program agrees type)
  name_of_same (scalar_result type) kinds.scalar_value = ap (λ ts. unnamed (refers ts)) (types_same names unit program agrees type)
  name_of_same (scalar_result type) kinds.scalar_object = ap (λ ts. named (refers ts)) (types_same names unit program agrees type)
  name_of_same (scalar_result type) (kinds.class_object d) = ap (λ ts. unnamed (refers ts)) (types_same names unit program agrees type)
  name_of_same (scalar_result type) kinds.reference = ap (λ ts. unnamed (refers ts)) (types_same names unit program agrees type)
  name_of_same (scalar_result type) kinds.exit_status = ap (λ ts. unnamed (refers ts)) (types_same names unit program agrees type)
  name_of_same (class_result c) kinds.void = ap (λ ts. named (refers ts)) (types_same names unit program agrees (class c))
  name_of_same (class_result c) kinds.scalar_value = ap (λ ts. named (refers ts)) (types_same names unit program agrees (class c))
  name_of_same (class_result c) kinds.scalar_object = ap (λ ts. named (refers ts)) (types_same names unit program agrees (class c))
  name_of_same (class_result c) (kinds.class_object d) = ap (λ ts. named (refers ts)) (types_same names unit program agrees (class c))
  name_of_same (class_result c) kinds.reference = ap (λ ts. named (refers ts)) (types_same names unit program agrees (class c))
  name_of_same (class_result c) kinds.exit_status = ap (λ ts. named (refers ts)) (types_same names unit program agrees (class c))
  name_of_same (reference_result to) kinds.void = refl
  name_of_same (reference_result to) kinds.scalar_value = refl
  name_of_same (reference_result to) kinds.scalar_object = refl
  name_of_same (reference_result to) (kinds.class_object d) = refl
  name_of_same (reference_result to) kinds.reference = refl
  name_of_same (reference_result to) kinds.exit_status = refl
  name_of_same status kinds.void = refl
  name_of_same status kinds.scalar_value = refl
  name_of_same status kinds.scalar_object = refl
  name_of_same status (kinds.class_object d) = refl
  name_of_same status kinds.reference = refl
  name_of_same status kinds.exit_status = refl

  name_behind_same : (r : Result) (k : ResultKind) → result_name_behind program (rk k) (rr r) ≡ renamed_name names (result_name_behind unit k r)
  name_behind_same (reference_result to) k = ap (λ ts. named (refers ts)) (types_same names unit program agrees to)
  name_behind_same no_result kinds.void = name_of_same no_result kinds.void
  name_behind_same no_result kinds.scalar_value = name_of_same no_result kinds.scalar_value
  name_behind_same no_result kinds.scalar_object = name_of_same no_result kinds.scalar_object
  name_behind_same no_result (kinds.class_object d) = name_of_same no_result (kinds.class_object d)
  name_behind_same no_result kinds.reference = name_of_same no_result kinds.reference
  name_behind_same no_result kinds.exit_status = name_of_same no_result kinds.exit_status
  name_behind_same (scalar_result type) kinds.void = name_of_same (scalar_result type) kinds.void
  name_behind_same (scalar_result type) kinds.scalar_value = name_of_same (scalar_result type) kinds.scalar_value
  name_behind_same (scalar_result type) kinds.scalar_object = name_of_same (scalar_result type) kinds.scalar_object
  name_behind_same (scalar_result type) (kinds.class_object d) = name_of_same (scalar_result type) (kinds.class_object d)
  name_behind_same (scalar_result type) kinds.reference = name_of_same (scalar_result type) kinds.reference
  name_behind_same (scalar_result type) kinds.exit_status = name_of_same (scalar_result type) kinds.exit_status
  name_behind_same (class_result c) kinds.void = name_of_same (class_result c) kinds.void
  name_behind_same (class_result c) kinds.scalar_value = name_of_same (class_result c) kinds.scalar_value
  name_behind_same (class_result c) kinds.scalar_object = name_of_same (class_result c) kinds.scalar_object
  name_behind_same (class_result c) (kinds.class_object d) = name_of_same (class_result c) (kinds.class_object d)
  name_behind_same (class_result c) kinds.reference = name_of_same (class_result c) kinds.reference
  name_behind_same (class_result c) kinds.exit_status = name_of_same (class_result c) kinds.exit_status
  name_behind_same status kinds.void = name_of_same status kinds.void
  name_behind_same status kinds.scalar_value = name_of_same status kinds.scalar_value
  name_behind_same status kinds.scalar_object = name_of_same status kinds.scalar_object
  name_behind_same status (kinds.class_object d) = name_of_same status (kinds.class_object d)
  name_behind_same status kinds.reference = name_of_same status kinds.reference
  name_behind_same status kinds.exit_status = name_of_same status kinds.exit_status

  slots_same : (ps : List Parameter) → map (parameter_given program) (map (renamed_parameter names) ps) ≡ map rg (map (parameter_given unit) ps)
  slots_same [] = refl
  slots_same (p ∷ ps) =
      ap (λ v. v ∷ map (parameter_given program) (map (renamed_parameter names) ps)) (parameter_given_same names unit program agrees p)
      ∙ ap (λ vs. rg (parameter_given unit p) ∷ vs) (slots_same ps)

  abbrev with_both : List Given → ResultName → Context
  with_both slots result = record { slots = slots; result = result; caught = None }

  context_same : (s : Signature) (k : ResultKind) → context_of program (rs s) (rk k) ≡ there (context_of unit s k)
  context_same s k =
      ap (λ (vs : List Given). with_both vs (result_name_of program (rk k) (rr s.result))) (slots_same s.parameters)
      ∙ ap (λ (n : ResultName). with_both (map rg (map (parameter_given unit) s.parameters)) n) (name_of_same s.result k)

  context_behind_same : (s : Signature) (k : ResultKind) → context_behind program (rs s) (rk k) ≡ there (context_behind unit s k)
  context_behind_same s k =
      ap (λ (vs : List Given). with_both vs (result_name_behind program (rk k) (rr s.result))) (slots_same s.parameters)
      ∙ ap (λ (n : ResultName). with_both (map rg (map (parameter_given unit) s.parameters)) n) (name_behind_same s.result k)

  -- ---- members

  of_first : (p : Parameter) (type : ObjectType) → denotes (refers (leaf_types program (rt type))) (parameter_given program (renamed_parameter names p)) ≡ denotes (refers (leaf_types unit type)) (parameter_given unit p)
  of_first p type =
      ap (λ ts. denotes (refers ts) (parameter_given program (renamed_parameter names p))) (types_same names unit program agrees type)
      ∙ (ap (λ v. denotes (rg (refers (leaf_types unit type))) v) (parameter_given_same names unit program agrees p)
      ∙ denotes_same names unit program agrees (refers (leaf_types unit type)) (parameter_given unit p))

  of_same : (ps : List Parameter) (type : ObjectType) → is_of program (map (renamed_parameter names) ps) (rt type) ≡ is_of unit ps type
  of_same [] type = refl
  of_same (p ∷ ps) type = of_first p type

  are_of_same : (ps : List Parameter) (type : ObjectType) → are_of program (map (renamed_parameter names) ps) (rt type) ≡ are_of unit ps type
  are_of_same [] type = refl
  are_of_same (p ∷ ps) type = both _ _ _ _ (of_first p type) (of_same ps type)

  has_field_same : (ps : List Parameter) (leaf : ℕ) (type : ObjectType) → has_field program (map (renamed_parameter names) ps) leaf (rt type) ≡ has_field unit ps leaf type
  has_field_same [] leaf type = refl
  has_field_same (report ∷ ps) leaf type = refl
  has_field_same (object o ∷ ps) leaf type =
      ap (λ ts. begins (leaf_types program (rt type)) (drop leaf ts)) (types_same names unit program agrees o)
      ∙ (ap (λ ts. begins (leaf_types program (rt type)) ts) (dropped_same names unit program agrees leaf (leaf_types unit o))
      ∙ begins_types names unit program agrees type (drop leaf (leaf_types unit o)))

  field_same : (s : Signature) (k : ResultKind) (f : FieldInit) → is_field_typed program (rs s) (rk k) (renamed_field_init names f) ≡ is_field_typed unit s k f
  field_same s k f =
      both _ _ _ _ (both _ _ _ _ (has_field_same s.parameters f.leaf f.type) (whole_same names unit program agrees f.type))
      (init_at names unit program agrees (context_of unit s k) (context_of program (rs s) (rk k)) (context_same s k) f.type f.init)

  fields_same : (s : Signature) (k : ResultKind) (fields : List FieldInit) → all_are (is_field_typed program (rs s) (rk k)) (map (renamed_field_init names) fields) ≡ all_are (is_field_typed unit s k) fields
  fields_same s k [] = refl
  fields_same s k (f ∷ fields) = both _ _ _ _ (field_same s k f) (fields_same s k fields)

  -- ---- bodies

  module _ {A B : Type 0} (placed : A → Bool) (placed_there : B → Bool) (assertion : A → B) (alike : (a : A) → placed_there (assertion a) ≡ placed a) where
    lists_same : (s : Signature) (k : ResultKind) (before after : List (Specifier A))
        → are_lists_typed_by program placed_there (rs s) (rk k) (map (renamed_specifier names assertion) before) (map (renamed_specifier names assertion) after) ≡ are_lists_typed_by unit placed s k before after
    lists_same s k before after =
        both _ _ _ _
        (ap (λ c. are_typed_checks_by program placed_there c (map (renamed_specifier names assertion) before)) (context_same s k) ∙ checks_same names unit program agrees placed placed_there assertion alike (context_of unit s k) before)
        (ap (λ c. are_typed_checks_by program placed_there c (map (renamed_specifier names assertion) after)) (context_behind_same s k) ∙ checks_same names unit program agrees placed placed_there assertion alike (context_behind unit s k) after)

    none_in : (checks : List (Specifier A)) → has_none program (map (renamed_specifier names assertion) checks) ≡ has_none unit checks
    none_in [] = refl
    none_in (s ∷ checks) = refl

    suited_same : (b : Body A) (before after : List (Specifier A)) (r : Result)
        → is_suited_by program (renamed_body names assertion b) (map (renamed_specifier names assertion) before) (map (renamed_specifier names assertion) after) (rr r) ≡ is_suited_by unit b before after r
    suited_same (function b) before after r = refl
    suited_same (constructor fields b) before after r = none_same names unit program agrees r
    suited_same (destructor c b) before after r = none_same names unit program agrees r
    suited_same (implicit_constructor c) before after r = none_same names unit program agrees r
    suited_same (implicit_copy_constructor c) before after r = none_same names unit program agrees r
    suited_same (implicit_destructor c) before after r = both _ _ _ _ (both _ _ _ _ (none_same names unit program agrees r) (none_in before)) (none_in after)

    -- implicit constructors of the unit find the constructors of their fields in the program
    module _ (there_classes here_classes : List Class) (defaults : DefaultsStay names unit program here_classes there_classes) (s : Signature) (k : ResultKind) where
      statements_same : (b : Stmts A) → are_typed_stmts_by program placed_there (rr s.result) (context_of program (rs s) (rk k)) (core.renamed_stmts names assertion b) ≡ are_typed_stmts_by unit placed s.result (context_of unit s k) b
      statements_same b =
          ap (λ c. are_typed_stmts_by program placed_there (rr s.result) c (core.renamed_stmts names assertion b)) (context_same s k)
          ∙ stmts_same names unit program agrees placed placed_there assertion alike s.result b (context_of unit s k)

      body_typed : (b : Body A) → is_body_typed_by unit placed here_classes s k b ≡ true → is_body_typed_by program placed_there there_classes (rs s) (rk k) (renamed_body names assertion b) ≡ true
      body_typed (function b) typed = statements_same b ∙ typed
      body_typed (constructor fields b) typed = both _ _ _ _ (fields_same s k fields) (statements_same b) ∙ typed
      body_typed (destructor c b) typed = both _ _ _ _ (both _ _ _ _ (whole_same names unit program agrees (class c)) (of_same s.parameters (class c))) (statements_same b) ∙ typed
      body_typed (implicit_constructor c) typed =
          let known = both_left _ _ typed in
          both_true _ _ (both _ _ _ _ (whole_same names unit program agrees (class c)) (of_same s.parameters (class c)) ∙ known)
          (defaults c (both_left _ (is_of unit s.parameters (class c)) known) (both_right (is_whole unit (class c) && is_of unit s.parameters (class c)) _ typed))
      body_typed (implicit_copy_constructor c) typed = both _ _ _ _ (whole_same names unit program agrees (class c)) (are_of_same s.parameters (class c)) ∙ typed
      body_typed (implicit_destructor c) typed = both _ _ _ _ (whole_same names unit program agrees (class c)) (of_same s.parameters (class c)) ∙ typed

  -- ---- what a unit has of a function

  module _ (u : TranslationUnit) (check : ℕ → Check) (alike : (a : ℕ) → is_placed_check (check a) ≡ is_placed_at unit u a) (s : Signature) (f : UnitFunction) where
    checks_typed : is_unit_function_typed unit u (Some s) f ≡ true → are_checks_typed program (rs s) (rk f.result) (renamed_checks names check f) ≡ true
    checks_typed typed =
        let first = both_left _ _ typed in
        lists_same (is_placed_at unit u) is_placed_check check alike s f.result f.preconditions f.postconditions ∙ both_right (is_kind unit s.result f.result) _ first

    module _ (classes : List Class) (defaults : DefaultsStay names unit program (map class_or_none u.classes) classes) where
      definition_typed : (b : Body ℕ) (definer : ℕ) → f.body ≡ Some b → is_unit_function_typed unit u (Some s) f ≡ true → is_function_typed program classes (rs s) (renamed_function names definer check f b) ≡ true
      definition_typed b definer e typed =
          let first = both_left _ _ typed in
          let second = subst (λ d. is_definition_typed unit u s f d ≡ true) e (both_right (is_kind unit s.result f.result && are_lists_typed_by unit (is_placed_at unit u) s f.result f.preconditions f.postconditions) _ typed) in
          both_true _ _
          (both_true _ _ (kind_same s.result f.result ∙ both_left _ _ first)
          (both_true _ _ (checks_typed typed) (suited_same (is_placed_at unit u) is_placed_check check alike b f.preconditions f.postconditions s.result ∙ both_left _ _ second)))
          (body_typed (is_placed_at unit u) is_placed_check check alike classes (map class_or_none u.classes) defaults s f.result b (both_right (is_suited_by unit b f.preconditions f.postconditions s.result) _ second))

pub definitions_stay_typed : DefinitionsStayTyped
definitions_stay_typed names unit program u classes check agrees defaults alike s f b definer e typed = definition_typed names unit program agrees u check alike s f classes defaults b definer e typed

pub checks_stay_typed : ChecksStayTyped
checks_stay_typed names unit program u check agrees alike s f typed = checks_typed names unit program agrees u check alike s f typed
