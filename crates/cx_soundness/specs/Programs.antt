-- Which functions, classes and programs are typed: [basic.start.main], [class.ctor], [class.dtor], [class.copy.ctor] and [dcl.fct.def] of the C++ draft and the contracts of P2900R14.
use Rattle.std.specs.Prelude.{ℕ, suc, Bool, true, false, ◌&&◌, nat_eq, nat_lt, List, [], ◌∷◌, map, Option, Some, None, length, slice_get, drop}
use Rattle.cx_core.specs.Tree.{ObjectType, class, Constant, Check, Specifier}
use Rattle.cx_core.specs.Program as program
use Rattle.cx_core.specs.Program.{Checks, FieldInit, Body, function, constructor, destructor, implicit_constructor, implicit_copy_constructor, implicit_destructor, ResultKind, Function, LeafKind, Field, Class, Program}
use Rattle.cx_soundness.specs.Types.{Layout, unknown_class, known_class, made_class, LeafType, number_leaf, pointer_leaf, function_leaf, no_value, Parameter, object, report, Result, no_result, scalar_result, class_result, reference_result, status, Signature, Declared, refers, ResultName, no_name, unnamed, named, Context}
use Rattle.cx_soundness.specs.Given.{signature_at, begins, leaf_types, is_whole, leaf_of, accepts, parameter_given, denotes, constant_given, same_signature}
use Rattle.cx_soundness.specs.Expressions.{is_typed}
use Rattle.cx_soundness.specs.Statements.{returns_none, is_placed_check, are_typed_checks_by, are_typed_stmts_by}

-- each of the one list goes with the one at its place in the other, which is as long
abbrev pub go_together : {A B : Type 0} → (A → B → Bool) → List A → List B → Bool
go_together p [] [] = true
go_together p [] (b ∷ bs) = false
go_together p (a ∷ others) [] = false
go_together p (a ∷ others) (b ∷ bs) = p a b && go_together p others bs

abbrev pub all_are : {A : Type 0} → (A → Bool) → List A → Bool
all_are p [] = true
all_are p (a ∷ others) = p a && all_are p others

abbrev pub height_in : Option ℕ → ℕ
height_in None = 0
height_in (Some height) = height

abbrev pub height_of : List ℕ → ℕ → ℕ
height_of heights c = height_in (slice_get heights c)

abbrev pub is_destructor : {A : Type 0} → Body A → Bool
is_destructor (destructor c b) = true
is_destructor (implicit_destructor c) = true
is_destructor (function b) = false
is_destructor (constructor fields b) = false
is_destructor (implicit_constructor c) = false
is_destructor (implicit_copy_constructor c) = false

module _ (declared : Declared) where
  -- ---- functions

  -- what the frame's result is: of a scalar that no name names, and of a named one
  abbrev pub scalar_name_of : ResultKind → ObjectType → ResultName
  scalar_name_of program.scalar_object type = named (refers (leaf_types declared type))
  scalar_name_of kind type = unnamed (refers (leaf_types declared type))

  -- during the body and the preconditions
  abbrev pub result_name_of : ResultKind → Result → ResultName
  result_name_of kind (scalar_result type) = scalar_name_of kind type
  result_name_of kind (class_result c) = named (refers (leaf_types declared (class c)))
  result_name_of kind other = no_name

  -- during the postconditions
  abbrev pub result_name_behind : ResultKind → Result → ResultName
  result_name_behind kind (reference_result to) = named (refers (leaf_types declared to))
  result_name_behind kind other = result_name_of kind other

  abbrev pub context_of : Signature → ResultKind → Context
  context_of signature kind = record { slots = map (parameter_given declared) signature.parameters; result = result_name_of kind signature.result; caught = None }

  abbrev pub context_behind : Signature → ResultKind → Context
  context_behind signature kind = record { slots = map (parameter_given declared) signature.parameters; result = result_name_behind kind signature.result; caught = None }

  abbrev pub has_leaf : Option LeafType → Bool
  has_leaf None = false
  has_leaf (Some leaf) = true

  -- the kind of the definition is that of the declared result
  abbrev pub is_kind : Result → ResultKind → Bool
  is_kind no_result program.void = true
  is_kind (scalar_result type) program.scalar_value = has_leaf (leaf_of type)
  is_kind (scalar_result type) program.scalar_object = has_leaf (leaf_of type)
  is_kind (class_result c) (program.class_object d) = nat_eq c d && is_whole declared (class c)
  is_kind (reference_result to) program.reference = true
  is_kind status program.exit_status = true
  is_kind _ _ = false

  abbrev pub are_lists_typed_by : {A : Type 0} → (A → Bool) → Signature → ResultKind → (preconditions postconditions : List (Specifier A)) → Bool
  are_lists_typed_by placed signature kind preconditions postconditions =
      are_typed_checks_by declared placed (context_of signature kind) preconditions && are_typed_checks_by declared placed (context_behind signature kind) postconditions

  abbrev pub are_checks_typed : Signature → ResultKind → Checks → Bool
  are_checks_typed signature kind checks = are_lists_typed_by is_placed_check signature kind checks.preconditions checks.postconditions

  -- ---- members

  -- the first parameter denotes an object of the class, which is defined
  abbrev pub is_of : List Parameter → ObjectType → Bool
  is_of [] type = false
  is_of (p ∷ parameters) type = denotes (refers (leaf_types declared type)) (parameter_given declared p)

  abbrev pub are_of : List Parameter → ObjectType → Bool
  are_of [] type = false
  are_of (p ∷ parameters) type = denotes (refers (leaf_types declared type)) (parameter_given declared p) && is_of parameters type

  -- the field begins at the leaf of the object that the first parameter denotes
  abbrev pub has_field : List Parameter → ℕ → ObjectType → Bool
  has_field [] leaf type = false
  has_field (report ∷ parameters) leaf type = false
  has_field (object o ∷ parameters) leaf type = begins (leaf_types declared type) (drop leaf (leaf_types declared o))

  abbrev pub is_field_typed : Signature → ResultKind → FieldInit → Bool
  is_field_typed signature kind f =
      has_field signature.parameters f.leaf f.type && is_whole declared f.type && is_typed declared (context_of signature kind) f.type f.init

  -- a function is called on an object of the class, and on another one
  abbrev pub is_called_on : Option Signature → ObjectType → Bool
  is_called_on None type = false
  is_called_on (Some signature) type = same_signature signature (record { parameters = object type ∷ []; result = no_result })

  abbrev pub is_called_on_two : Option Signature → ObjectType → Bool
  is_called_on_two None type = false
  is_called_on_two (Some signature) type = same_signature signature (record { parameters = object type ∷ object type ∷ []; result = no_result })

  -- a field of class type may be constructed without arguments
  abbrev pub is_some : Option ℕ → Bool
  is_some None = false
  is_some (Some f) = true

  abbrev pub has_default_of : Option Class → Bool
  has_default_of None = false
  has_default_of (Some definition) = is_some definition.default_constructor

  abbrev pub has_default : List Class → ObjectType → Bool
  has_default classes (class c) = has_default_of (slice_get classes c)
  has_default classes other = true

  abbrev pub have_defaults : List Class → Option Class → Bool
  have_defaults classes None = false
  have_defaults classes (Some definition) = all_are (λ f. has_default classes f.type) definition.fields

  abbrev pub is_body_typed_by : {A : Type 0} → (A → Bool) → List Class → Signature → ResultKind → Body A → Bool
  is_body_typed_by placed classes signature kind (function b) = are_typed_stmts_by declared placed signature.result (context_of signature kind) b
  is_body_typed_by placed classes signature kind (constructor fields b) =
      all_are (is_field_typed signature kind) fields && are_typed_stmts_by declared placed signature.result (context_of signature kind) b
  is_body_typed_by placed classes signature kind (destructor c b) =
      is_whole declared (class c) && is_of signature.parameters (class c) && are_typed_stmts_by declared placed signature.result (context_of signature kind) b
  is_body_typed_by placed classes signature kind (implicit_constructor c) =
      is_whole declared (class c) && is_of signature.parameters (class c) && have_defaults classes (slice_get classes c)
  is_body_typed_by placed classes signature kind (implicit_copy_constructor c) = is_whole declared (class c) && are_of signature.parameters (class c)
  is_body_typed_by placed classes signature kind (implicit_destructor c) = is_whole declared (class c) && is_of signature.parameters (class c)

  abbrev pub is_body_typed : List Class → Signature → ResultKind → Body Check → Bool
  is_body_typed = is_body_typed_by is_placed_check

  abbrev pub has_none : {A : Type 0} → List (Specifier A) → Bool
  has_none [] = true
  has_none (s ∷ checks) = false

  -- constructors and destructors give nothing, and those that are implicit have no assertions
  abbrev pub is_suited_by : {A : Type 0} → Body A → (preconditions postconditions : List (Specifier A)) → Result → Bool
  is_suited_by (function b) preconditions postconditions gives = true
  is_suited_by (constructor fields b) preconditions postconditions gives = returns_none declared gives
  is_suited_by (destructor c b) preconditions postconditions gives = returns_none declared gives
  is_suited_by (implicit_constructor c) preconditions postconditions gives = returns_none declared gives
  is_suited_by (implicit_copy_constructor c) preconditions postconditions gives = returns_none declared gives
  is_suited_by (implicit_destructor c) preconditions postconditions gives = returns_none declared gives && has_none preconditions && has_none postconditions

  abbrev pub is_suited : Body Check → Checks → Result → Bool
  is_suited b checks result = is_suited_by b checks.preconditions checks.postconditions result

  abbrev pub is_function_typed : List Class → Signature → Function → Bool
  is_function_typed classes signature f =
      is_kind signature.result f.result && (are_checks_typed signature f.result f.checks && is_suited f.body f.checks signature.result) && is_body_typed classes signature f.result f.body

  abbrev pub is_unused_or_typed : List Class → Option Signature → Function → Bool
  is_unused_or_typed classes None f = true
  is_unused_or_typed classes (Some signature) f = is_function_typed classes signature f

  -- ---- classes

  abbrev pub is_leaf_kind : LeafType → LeafKind → Bool
  is_leaf_kind (number_leaf s) program.number_leaf = true
  is_leaf_kind (pointer_leaf to) program.pointer_leaf = true
  is_leaf_kind (function_leaf type) program.pointer_leaf = true
  is_leaf_kind no_value program.empty_leaf = true
  is_leaf_kind _ _ = false

  -- a field's class is less high
  abbrev pub is_lower : ℕ → ObjectType → Bool
  is_lower height (class c) = nat_lt (height_of declared.heights c) height
  is_lower height other = true

  abbrev pub is_field_of : ℕ → List LeafType → Field → Bool
  is_field_of height layout f = begins (leaf_types declared f.type) (drop f.leaf layout) && is_whole declared f.type && is_lower height f.type

  -- a function that makes, copies or destroys the objects of a class, if it is implicit, is of a class that isn't higher
  abbrev pub is_low_body : {A : Type 0} → ℕ → Body A → Bool
  is_low_body height (implicit_constructor d) = nat_lt (height_of declared.heights d) (suc height)
  is_low_body height (implicit_copy_constructor d) = nat_lt (height_of declared.heights d) (suc height)
  is_low_body height (implicit_destructor d) = nat_lt (height_of declared.heights d) (suc height)
  is_low_body height (function b) = true
  is_low_body height (constructor fields b) = true
  is_low_body height (destructor d b) = true

  abbrev pub is_low_function : ℕ → Option Function → Bool
  is_low_function height None = false
  is_low_function height (Some f) = is_low_body height f.body

  abbrev pub destroys : Option Function → Bool
  destroys None = false
  destroys (Some f) = is_destructor f.body

  abbrev pub is_default : List Function → ℕ → ℕ → Option ℕ → Bool
  is_default functions c height None = true
  is_default functions c height (Some f) = is_called_on (signature_at declared.functions f) (class c) && is_low_function height (slice_get functions f)

  -- a class without fields has a leaf too
  abbrev pub has_leaves : List Field → List LeafType → Bool
  has_leaves (f ∷ fields) layout = true
  has_leaves [] (t ∷ layout) = true
  has_leaves [] [] = false

  abbrev pub is_class_typed : List Function → ℕ → Layout → Class → Bool
  is_class_typed functions c unknown_class definition = true
  is_class_typed functions c (known_class layout) definition = true
  is_class_typed functions c (made_class layout) definition =
      let height = height_of declared.heights c in
      go_together is_leaf_kind layout definition.leaves
      && all_are (is_field_of height layout) definition.fields
      && (is_called_on (signature_at declared.functions definition.destructor) (class c) && is_low_function height (slice_get functions definition.destructor) && destroys (slice_get functions definition.destructor))
      && (is_called_on_two (signature_at declared.functions definition.copy_constructor) (class c) && is_low_function height (slice_get functions definition.copy_constructor))
      && is_default functions c height definition.default_constructor
      && has_leaves definition.fields layout

  abbrev pub are_classes_typed : List Function → ℕ → List Layout → List Class → Bool
  are_classes_typed functions c [] [] = true
  are_classes_typed functions c [] (definition ∷ classes) = false
  are_classes_typed functions c (layout ∷ layouts) [] = false
  are_classes_typed functions c (layout ∷ layouts) (definition ∷ classes) = is_class_typed functions c layout definition && are_classes_typed functions (suc c) layouts classes

  -- ---- programs

  abbrev pub handles : Option Signature → Bool
  handles None = false
  handles (Some signature) = same_signature signature (record { parameters = report ∷ []; result = no_result })

  abbrev pub is_handler : Option ℕ → Bool
  is_handler None = true
  is_handler (Some f) = handles (signature_at declared.functions f)

  abbrev pub is_main : Option Signature → Bool
  is_main None = false
  is_main (Some signature) = same_signature signature (record { parameters = []; result = status })

  abbrev pub is_caller_typed : Option Signature → Function → Checks → Bool
  is_caller_typed None f checks = true
  is_caller_typed (Some signature) f checks = are_checks_typed signature f.result checks

  -- what a unit checks as Caller, of each function at its place; it need not speak of all
  abbrev pub are_callers_typed : List (Option Signature) → List Function → List Checks → Bool
  are_callers_typed signatures functions [] = true
  are_callers_typed [] functions (checks ∷ more) = false
  are_callers_typed (signature ∷ signatures) [] (checks ∷ more) = false
  are_callers_typed (signature ∷ signatures) (f ∷ functions) (checks ∷ more) = is_caller_typed signature f checks && are_callers_typed signatures functions more

  abbrev pub is_global : ObjectType → Constant → Bool
  is_global type c = accepts declared type (constant_given c)

  abbrev pub is_unused_or_global : Option ObjectType → Constant → Bool
  is_unused_or_global None c = true
  is_unused_or_global (Some type) c = is_global type c

  -- each class is less high than there are classes
  abbrev pub is_low : ℕ → ℕ → Bool
  is_low classes height = nat_lt height classes

  unfoldable pub is_typed_program : Program → Bool
  is_typed_program program =
      go_together (is_unused_or_typed program.classes) declared.functions program.functions
      && are_classes_typed program.functions 0 declared.layouts program.classes
      && all_are (is_low (length program.classes)) declared.heights
      && go_together is_unused_or_global declared.globals program.globals
      && all_are (are_callers_typed declared.functions program.functions) program.callers
      && is_main (signature_at declared.functions program.main)
      && is_handler program.handler
