-- Expressions have the same types under other numbers of functions, types of functions, classes and globals, if the declarations agree.
use Rattle.std.proofs.Common.{◌≡◌, refl, ap, ◌∙◌, ℕ, zero, suc, Bool, List, [], ◌∷◌, map, Option, Some, None}
use Rattle.std.specs.Prelude.{slice_get}
use Rattle.cx_core.specs.Tree as tree
use Rattle.cx_core.specs.Tree.{ObjectType, scalar, pointer, function_pointer, class, Constant, PointedResult, Expr, literal, variable, global, this, function_name, result_name, exception_object, unary, binary, logical_and, logical_or, conditional, cast, assign, compound_assign, prefix_step, postfix_step, indirection, member, call, call_through, temporary, temporary_through, putchar, getchar, puts, puts_comment, query, Operand, operand, Init, value, construct, zero_first, result_of, result_through, Args, no_more, by_reference, by_value}
use Rattle.cx_core.specs.Renamed.{Names, renamed_type, renamed_type_or_none, renamed_expr, renamed_operand, renamed_init, renamed_args}
use Rattle.cx_soundness.specs.Types.{LeafType, number_leaf, pointer_leaf, function_leaf, Parameter, Result, no_result, scalar_result, class_result, reference_result, status, Signature, Declared, Given, numbers, refers, null_reference, functions, a_report, ResultName, no_name, unnamed, named, Context}
use Rattle.cx_soundness.specs.Given.{then_given, functions_of, denotes, converted_given, constant_given, unary_given, binary_given, logical_given, conditional_given, compound_given, prefix_given, postfix_given, indirection_given, member_given, is_pointed, putchar_given, comment_given, query_given, signature_at, type_at, leaf_types, accepts, parameter_given, read_given, assigned_given, call_given}
use Rattle.cx_soundness.specs.Expressions.{both_given, named_given, place_given, called_given, through_given, is_constructed, gives_none, constructs, is_object_of, makes, makes_through, temporary_given, expr_given, used_given, is_typed, are_typed}
use Rattle.cx_soundness.specs.Units.{renamed_leaf, renamed_parameter, renamed_result, renamed_signature, renamed_signature_or_none, renamed_given, renamed_given_or_none, renamed_name, renamed_context, Agrees}
use Rattle.cx_soundness.proofs.RenamedTypes.{types_same, whole_same, begins_both, functions_same, leaf_same, accepts_same, denotes_parameter, if_equal, then_equal, both_equal, where_same, and_same}
use Rattle.cx_soundness.proofs.RenamedOperators.{converted_same, read_same, unary_same, binary_same, logical_same, conditional_same, assigned_same, compound_same, prefix_same, postfix_same, indirection_same, member_same, putchar_same, comment_same, query_same}

module _ (names : Names) (unit program : Declared) (agrees : Agrees names unit program) where
  abbrev rl : LeafType → LeafType
  rl t = renamed_leaf names t

  abbrev rg : Given → Given
  rg v = renamed_given names v

  abbrev ro : Option Given → Option Given
  ro v = renamed_given_or_none names v

  abbrev rt : ObjectType → ObjectType
  rt type = renamed_type names type

  abbrev rs : Signature → Signature
  rs s = renamed_signature names s

  -- ---- calls

  call_same : (r : Result) → call_given program (renamed_result names r) ≡ ro (call_given unit r)
  call_same no_result = refl
  call_same (scalar_result (scalar s)) = leaf_same names unit program agrees (number_leaf s)
  call_same (scalar_result (pointer to)) = leaf_same names unit program agrees (pointer_leaf to)
  call_same (scalar_result (function_pointer k)) = leaf_same names unit program agrees (function_leaf k)
  call_same (scalar_result (class c)) = refl
  call_same (class_result c) = refl
  call_same (reference_result to) = ap (λ ts. Some (refers ts)) (types_same names unit program agrees to)
  call_same status = refl

  pointed_same : (kind : PointedResult) (r : Result) → is_pointed kind (renamed_result names r) ≡ is_pointed kind r
  pointed_same tree.void_result no_result = refl
  pointed_same tree.void_result (scalar_result t) = refl
  pointed_same tree.void_result (class_result c) = refl
  pointed_same tree.void_result (reference_result t) = refl
  pointed_same tree.void_result status = refl
  pointed_same tree.scalar_result no_result = refl
  pointed_same tree.scalar_result (scalar_result t) = refl
  pointed_same tree.scalar_result (class_result c) = refl
  pointed_same tree.scalar_result (reference_result t) = refl
  pointed_same tree.scalar_result status = refl
  pointed_same tree.reference_result no_result = refl
  pointed_same tree.reference_result (scalar_result t) = refl
  pointed_same tree.reference_result (class_result c) = refl
  pointed_same tree.reference_result (reference_result t) = refl
  pointed_same tree.reference_result status = refl

  -- arguments are typed by parameters alike
  abbrev AreAlike : (g h : List Parameter → Bool) → Type 0
  AreAlike g h = (ps : List Parameter) → g (map (renamed_parameter names) ps) ≡ h ps

  called_same : (o : Option Signature) (g h : List Parameter → Bool) → AreAlike g h → called_given program (renamed_signature_or_none names o) g ≡ ro (called_given unit o h)
  called_same None g h k = refl
  called_same (Some s) g h k = if_equal names unit program agrees _ _ _ (call_given unit s.result) (k s.parameters) (call_same s.result)

  through_same : (kind : PointedResult) (v : Given) (g h : List Parameter → Bool) → AreAlike g h → through_given program kind (rg v) g ≡ ro (through_given unit kind v h)
  through_same kind (functions s) g h k = if_equal names unit program agrees _ _ _ (call_given unit s.result) (and_same names unit program agrees _ _ _ _ (pointed_same kind s.result) (k s.parameters)) (call_same s.result)
  through_same kind (numbers f) g h k = refl
  through_same kind (refers ts) g h k = refl
  through_same kind null_reference g h k = refl
  through_same kind a_report g h k = refl

  none_same : (r : Result) → gives_none program (renamed_result names r) ≡ gives_none unit r
  none_same no_result = refl
  none_same (scalar_result t) = refl
  none_same (class_result c) = refl
  none_same (reference_result t) = refl
  none_same status = refl

  denotes_object : (p : Parameter) (type : ObjectType) → denotes (parameter_given program (renamed_parameter names p)) (refers (leaf_types program (rt type))) ≡ denotes (parameter_given unit p) (refers (leaf_types unit type))
  denotes_object p type = ap (λ ts. denotes (parameter_given program (renamed_parameter names p)) (refers ts)) (types_same names unit program agrees type) ∙ denotes_parameter names unit program agrees p (refers (leaf_types unit type))

  constructed_same : (type : ObjectType) (ps : List Parameter) (g h : List Parameter → Bool) → AreAlike g h → is_constructed program (rt type) (map (renamed_parameter names) ps) g ≡ is_constructed unit type ps h
  constructed_same type [] g h k = refl
  constructed_same type (p ∷ ps) g h k = and_same names unit program agrees _ _ _ _ (denotes_object p type) (k ps)

  constructs_same : (o : Option Signature) (type : ObjectType) (g h : List Parameter → Bool) → AreAlike g h → constructs program (renamed_signature_or_none names o) (rt type) g ≡ constructs unit o type h
  constructs_same None type g h k = refl
  constructs_same (Some s) type g h k = and_same names unit program agrees _ _ _ _ (none_same s.result) (constructed_same type s.parameters g h k)

  object_of_same : (type : ObjectType) (r : Result) → is_object_of program (rt type) (renamed_result names r) ≡ is_object_of unit type r
  object_of_same type (class_result c) = begins_both names unit program agrees (class c) type
  object_of_same type no_result = refl
  object_of_same type (scalar_result t) = refl
  object_of_same type (reference_result t) = refl
  object_of_same type status = refl

  makes_same : (o : Option Signature) (type : ObjectType) (g h : List Parameter → Bool) → AreAlike g h → makes program (renamed_signature_or_none names o) (rt type) g ≡ makes unit o type h
  makes_same None type g h k = refl
  makes_same (Some s) type g h k = and_same names unit program agrees _ _ _ _ (object_of_same type s.result) (k s.parameters)

  makes_through_same : (v : Given) (type : ObjectType) (g h : List Parameter → Bool) → AreAlike g h → makes_through program (rg v) (rt type) g ≡ makes_through unit v type h
  makes_through_same (functions s) type g h k = and_same names unit program agrees _ _ _ _ (object_of_same type s.result) (k s.parameters)
  makes_through_same (numbers f) type g h k = refl
  makes_through_same (refers ts) type g h k = refl
  makes_through_same null_reference type g h k = refl
  makes_through_same a_report type g h k = refl

  temporary_same : (c : ℕ) (v : Given) (g h : List Parameter → Bool) → AreAlike g h → temporary_given program (names.class_number c) (rg v) g ≡ ro (temporary_given unit c v h)
  temporary_same c v g h k = if_equal names unit program agrees _ _ _ (Some (refers (leaf_types unit (class c)))) (and_same names unit program agrees _ _ _ _ (agrees.whole_agree c) (makes_through_same v (class c) g h k)) (ap (λ ts. Some (refers ts)) (agrees.leaves_agree c))

  -- ---- names

  slot_same : (slots : List Given) (i : ℕ) → slice_get (map rg slots) i ≡ ro (slice_get slots i)
  slot_same [] i = refl
  slot_same (v ∷ slots) zero = refl
  slot_same (v ∷ slots) (suc i) = slot_same slots i

  place_same : (type : Option ObjectType) → place_given program (renamed_type_or_none names type) ≡ ro (place_given unit type)
  place_same None = refl
  place_same (Some type) = ap (λ ts. Some (refers ts)) (types_same names unit program agrees type)

  pub name_same : (n : ResultName) → named_given (renamed_name names n) ≡ ro (named_given n)
  name_same no_name = refl
  name_same (unnamed v) = refl
  name_same (named v) = refl

  constant_same : (c : Constant) → Some (constant_given c) ≡ ro (Some (constant_given c))
  constant_same (tree.number n) = refl
  constant_same tree.nullptr = refl

  -- ---- trees

  module _ (context : Context) where
    abbrev there : Context
    there = renamed_context names context

    mutual
      unfolding expr_given renamed_expr

      pub expr_same : (e : Expr) → expr_given program there (renamed_expr names e) ≡ ro (expr_given unit context e)
      expr_same (literal c) = constant_same c
      expr_same (variable slot) = slot_same context.slots slot
      expr_same (global i) = ap (λ o. place_given program o) (agrees.globals_agree i) ∙ place_same (type_at unit.globals i)
      expr_same this = slot_same context.slots 0
      expr_same (function_name f) = ap (λ o. functions_of o) (agrees.functions_agree f) ∙ functions_same names unit program agrees (signature_at unit.functions f)
      expr_same result_name = name_same context.result
      expr_same exception_object = place_same context.caught
      expr_same (unary operator type a) = then_equal names unit program agrees _ _ (unary_given operator type) (unary_given operator type) (used_same a) (unary_same names unit program agrees operator type)
      expr_same (binary operator type a b) = both_equal names unit program agrees _ _ _ _ (binary_given operator type) (binary_given operator type) (used_same a) (used_same b) (binary_same names unit program agrees operator type)
      expr_same (logical_and a b) = both_equal names unit program agrees _ _ _ _ logical_given logical_given (used_same a) (used_same b) (logical_same names unit program agrees)
      expr_same (logical_or a b) = both_equal names unit program agrees _ _ _ _ logical_given logical_given (used_same a) (used_same b) (logical_same names unit program agrees)
      expr_same (conditional a b c) =
          (then_equal names unit program agrees) _ _ (λ v. both_given (used_given unit context b) (used_given unit context c) (conditional_given v)) (λ v. both_given (used_given program there (renamed_operand names b)) (used_given program there (renamed_operand names c)) (conditional_given v)) (used_same a)
          (λ u. both_equal names unit program agrees _ _ _ _ (conditional_given u) (conditional_given (rg u)) (used_same b) (used_same c) (conditional_same names unit program agrees u))
      expr_same (cast a) = used_same a
      expr_same (assign a b) = both_equal names unit program agrees _ _ _ _ (assigned_given unit) (assigned_given program) (expr_same a) (used_same b) (assigned_same names unit program agrees)
      expr_same (compound_assign operator computed kept a b) = both_equal names unit program agrees _ _ _ _ (compound_given operator computed kept) (compound_given operator computed kept) (expr_same a) (used_same b) (compound_same names unit program agrees operator computed kept)
      expr_same (prefix_step operator type a) = then_equal names unit program agrees _ _ (prefix_given operator type) (prefix_given operator type) (expr_same a) (prefix_same names unit program agrees operator type)
      expr_same (postfix_step operator type a) = then_equal names unit program agrees _ _ (postfix_given operator type) (postfix_given operator type) (expr_same a) (postfix_same names unit program agrees operator type)
      expr_same (indirection a) = then_equal names unit program agrees _ _ indirection_given indirection_given (used_same a) (indirection_same names unit program agrees)
      expr_same (member leaf a) = then_equal names unit program agrees _ _ (member_given leaf) (member_given leaf) (expr_same a) (member_same names unit program agrees leaf)
      expr_same (call f a) = ap (λ o. called_given program o (are_typed program there (renamed_args names a))) (agrees.functions_agree f) ∙ called_same (signature_at unit.functions f) _ (are_typed unit context a) (args_same a)
      expr_same (call_through kind p a) =
          (then_equal names unit program agrees) _ _ (λ v. through_given unit kind v (are_typed unit context a)) (λ v. through_given program kind v (are_typed program there (renamed_args names a))) (used_same p)
          (λ u. through_same kind u (are_typed program there (renamed_args names a)) (are_typed unit context a) (args_same a))
      expr_same (temporary type i) = if_equal names unit program agrees _ _ _ (Some (refers (leaf_types unit type))) (and_same names unit program agrees _ _ _ _ (whole_same names unit program agrees type) (init_same i type)) (ap (λ ts. Some (refers ts)) (types_same names unit program agrees type))
      expr_same (temporary_through c p a) =
          (then_equal names unit program agrees) _ _ (λ v. temporary_given unit c v (are_typed unit context a)) (λ v. temporary_given program (names.class_number c) v (are_typed program there (renamed_args names a))) (used_same p)
          (λ u. temporary_same c u (are_typed program there (renamed_args names a)) (are_typed unit context a) (args_same a))
      expr_same (putchar a) = then_equal names unit program agrees _ _ putchar_given putchar_given (used_same a) (putchar_same names unit program agrees)
      expr_same getchar = refl
      expr_same (puts text) = refl
      expr_same (puts_comment a) = then_equal names unit program agrees _ _ comment_given comment_given (expr_same a) (comment_same names unit program agrees)
      expr_same (query q a) = then_equal names unit program agrees _ _ (query_given q) (query_given q) (expr_same a) (query_same names unit program agrees q)

      pub used_same : (a : Operand) → used_given program there (renamed_operand names a) ≡ ro (used_given unit context a)
      used_same (operand read to e) =
          (then_equal names unit program agrees) (then_given (expr_given unit context e) (read_given unit read)) _ (converted_given to) (converted_given to)
          (then_equal names unit program agrees _ _ (read_given unit read) (read_given program (renamed_type_or_none names read)) (expr_same e) (read_same names unit program agrees read)) (converted_same names unit program agrees to)

      pub init_same : (i : Init) (type : ObjectType) → is_typed program there (rt type) (renamed_init names i) ≡ is_typed unit context type i
      init_same (value a) type = where_same names unit program agrees _ _ (accepts unit type) (accepts program (rt type)) (used_same a) (accepts_same names unit program agrees type)
      init_same (construct f a) type = ap (λ o. constructs program o (rt type) (are_typed program there (renamed_args names a))) (agrees.functions_agree f) ∙ constructs_same (signature_at unit.functions f) type _ (are_typed unit context a) (args_same a)
      init_same (zero_first c i) type = and_same names unit program agrees _ _ _ _ (and_same names unit program agrees _ _ _ _ (agrees.whole_agree c) (begins_both names unit program agrees (class c) type)) (init_same i type)
      init_same (result_of f a) type = ap (λ o. makes program o (rt type) (are_typed program there (renamed_args names a))) (agrees.functions_agree f) ∙ makes_same (signature_at unit.functions f) type _ (are_typed unit context a) (args_same a)
      init_same (result_through p a) type =
          (where_same names unit program agrees) _ _ (λ v. makes_through unit v type (are_typed unit context a)) (λ v. makes_through program v (rt type) (are_typed program there (renamed_args names a))) (used_same p)
          (λ u. makes_through_same u type (are_typed program there (renamed_args names a)) (are_typed unit context a) (args_same a))

      pub args_same : (a : Args) → AreAlike (are_typed program there (renamed_args names a)) (are_typed unit context a)
      args_same no_more [] = refl
      args_same no_more (p ∷ ps) = refl
      args_same (by_reference e rest) [] = refl
      args_same (by_reference e rest) (p ∷ ps) =
          (and_same names unit program agrees) _ _ _ _ (where_same names unit program agrees _ _ (denotes (parameter_given unit p)) (denotes (parameter_given program (renamed_parameter names p))) (expr_same e) (denotes_parameter names unit program agrees p)) (args_same rest ps)
      args_same (by_value type i rest) [] = refl
      args_same (by_value type i rest) (p ∷ ps) = and_same names unit program agrees _ _ _ _ (and_same names unit program agrees _ _ _ _ (and_same names unit program agrees _ _ _ _ (whole_same names unit program agrees type) (init_same i type)) (denotes_object p type)) (args_same rest ps)
