-- Which units are typed, and what it is for the declarations of a unit to agree with those of the program that it is linked into: this project's own, for [basic.link] and [basic.def.odr] of the C++ draft.
use Rattle.std.specs.Prelude.{◌≡◌, ℕ, suc, Bool, true, false, ◌&&◌, nat_eq, List, [], ◌∷◌, map, Option, Some, None, length, slice_get}
use Rattle.cx_core.specs.Tree.{ObjectType, class, Constant, Assertion, Check}
use Rattle.cx_core.specs.Program.{Checks, Body, Function, Class}
use Rattle.cx_core.specs.Unit.{UnitClass, UnitFunction, UnitGlobal, TranslationUnit}
use Rattle.cx_core.specs.Renamed.{Names, renamed_type, renamed_type_or_none, renamed_specifier, renamed_body}
use Rattle.cx_core.specs.Renamed as core
use Rattle.cx_soundness.specs.Types.{LeafType, number_leaf, pointer_leaf, function_leaf, no_value, Layout, unknown_class, known_class, made_class, Parameter, object, report, Result, no_result, scalar_result, class_result, reference_result, status, Signature, Declared, Given, numbers, refers, null_reference, functions, a_report, ResultName, no_name, unnamed, named, Context}
use Rattle.cx_soundness.specs.Given.{leaf_types, is_whole, signature_at, type_at}
use Rattle.cx_soundness.specs.Statements.{is_placed}
use Rattle.cx_soundness.specs.Programs.{go_together, all_are, height_of, is_kind, are_lists_typed_by, is_body_typed_by, is_suited_by, is_called_on, is_called_on_two, is_leaf_kind, is_field_of, is_low_body, has_leaves, have_defaults, is_destructor, is_global, is_low}

-- ---- units, in which a function or a class may be defined elsewhere

-- that each assertion which the trees name is in the table is not asked here
abbrev pub is_placed_in : Option Assertion → Bool
is_placed_in None = true
is_placed_in (Some a) = is_placed a

abbrev pub class_or_empty : (name : List ℕ) → Option Class → Class
class_or_empty name None = record { name = name; fields = []; leaves = []; objects = 0; default_constructor = None; copy_constructor = 0; destructor = 0 }
class_or_empty name (Some definition) = definition

abbrev pub class_or_none : UnitClass → Class
class_or_none c = class_or_empty c.name c.definition

module _ (declared : Declared) (unit : TranslationUnit) where
  abbrev pub is_placed_at : ℕ → Bool
  is_placed_at a = is_placed_in (slice_get unit.assertions a)

  abbrev pub is_definition_typed : Signature → UnitFunction → Option (Body ℕ) → Bool
  is_definition_typed signature f None = true
  is_definition_typed signature f (Some b) =
      is_suited_by declared b f.preconditions f.postconditions signature.result && is_body_typed_by declared is_placed_at (map class_or_none unit.classes) signature f.result b

  abbrev pub is_unit_function_typed : Option Signature → UnitFunction → Bool
  is_unit_function_typed None f = true
  is_unit_function_typed (Some signature) f =
      is_kind declared signature.result f.result && are_lists_typed_by declared is_placed_at signature f.result f.preconditions f.postconditions && is_definition_typed signature f f.body

  abbrev pub is_low_or_elsewhere : ℕ → Option (Body ℕ) → Bool
  is_low_or_elsewhere height None = true
  is_low_or_elsewhere height (Some b) = is_low_body declared height b

  abbrev pub is_low_in : ℕ → Option UnitFunction → Bool
  is_low_in height None = false
  is_low_in height (Some f) = is_low_or_elsewhere height f.body

  abbrev pub destroys_or_elsewhere : Option (Body ℕ) → Bool
  destroys_or_elsewhere None = true
  destroys_or_elsewhere (Some b) = is_destructor b

  abbrev pub destroys_in : Option UnitFunction → Bool
  destroys_in None = false
  destroys_in (Some f) = destroys_or_elsewhere f.body

  abbrev pub is_default_in : ℕ → ℕ → Option ℕ → Bool
  is_default_in c height None = true
  is_default_in c height (Some f) = is_called_on declared (signature_at declared.functions f) (class c) && is_low_in height (slice_get unit.functions f)

  abbrev pub is_definition_of : ℕ → List LeafType → Option Class → Bool
  is_definition_of c layout None = false
  is_definition_of c layout (Some definition) =
      let height = height_of declared.heights c in
      go_together (is_leaf_kind declared) layout definition.leaves
      && all_are (is_field_of declared height layout) definition.fields
      && (is_called_on declared (signature_at declared.functions definition.destructor) (class c) && is_low_in height (slice_get unit.functions definition.destructor) && destroys_in (slice_get unit.functions definition.destructor))
      && (is_called_on_two declared (signature_at declared.functions definition.copy_constructor) (class c) && is_low_in height (slice_get unit.functions definition.copy_constructor))
      && is_default_in c height definition.default_constructor
      && has_leaves declared definition.fields layout

  abbrev pub is_unit_class_typed : ℕ → Layout → UnitClass → Bool
  is_unit_class_typed c unknown_class definition = true
  is_unit_class_typed c (known_class layout) definition = true
  is_unit_class_typed c (made_class layout) definition = is_definition_of c layout definition.definition

  abbrev pub are_unit_classes_typed : ℕ → List Layout → List UnitClass → Bool
  are_unit_classes_typed c [] [] = true
  are_unit_classes_typed c [] (definition ∷ classes) = false
  are_unit_classes_typed c (layout ∷ layouts) [] = false
  are_unit_classes_typed c (layout ∷ layouts) (definition ∷ classes) = is_unit_class_typed c layout definition && are_unit_classes_typed (suc c) layouts classes

  abbrev pub is_global_or_elsewhere : ObjectType → Option Constant → Bool
  is_global_or_elsewhere type None = true
  is_global_or_elsewhere type (Some c) = is_global declared type c

  abbrev pub is_unit_global : Option ObjectType → UnitGlobal → Bool
  is_unit_global None g = true
  is_unit_global (Some type) g = is_global_or_elsewhere type g.value

  -- `main` and the violation handler are asked for where units are linked
  unfoldable pub is_typed_unit : Bool
  is_typed_unit =
      go_together is_unit_function_typed declared.functions unit.functions
      && are_unit_classes_typed 0 declared.layouts unit.classes
      && all_are (is_low declared (length unit.classes)) declared.heights
      && go_together is_unit_global declared.globals unit.globals

-- ---- types under other numbers

module _ (names : Names) where
  abbrev pub renamed_leaf : LeafType → LeafType
  renamed_leaf (number_leaf s) = number_leaf s
  renamed_leaf (pointer_leaf to) = pointer_leaf (renamed_type names to)
  renamed_leaf (function_leaf type) = function_leaf (names.function_type_number type)
  renamed_leaf no_value = no_value

  abbrev pub renamed_parameter : Parameter → Parameter
  renamed_parameter (object type) = object (renamed_type names type)
  renamed_parameter report = report

  abbrev pub renamed_result : Result → Result
  renamed_result no_result = no_result
  renamed_result (scalar_result type) = scalar_result (renamed_type names type)
  renamed_result (class_result c) = class_result (names.class_number c)
  renamed_result (reference_result to) = reference_result (renamed_type names to)
  renamed_result status = status

  abbrev pub renamed_signature : Signature → Signature
  renamed_signature s = record { parameters = map renamed_parameter s.parameters; result = renamed_result s.result }

  abbrev pub renamed_signature_or_none : Option Signature → Option Signature
  renamed_signature_or_none None = None
  renamed_signature_or_none (Some s) = Some (renamed_signature s)

  abbrev pub renamed_layout : Layout → Layout
  renamed_layout unknown_class = unknown_class
  renamed_layout (known_class leaves) = known_class (map renamed_leaf leaves)
  renamed_layout (made_class leaves) = made_class (map renamed_leaf leaves)

  abbrev pub renamed_given : Given → Given
  renamed_given (numbers fits) = numbers fits
  renamed_given (refers leaves) = refers (map renamed_leaf leaves)
  renamed_given null_reference = null_reference
  renamed_given (functions s) = functions (renamed_signature s)
  renamed_given a_report = a_report

  abbrev pub renamed_given_or_none : Option Given → Option Given
  renamed_given_or_none None = None
  renamed_given_or_none (Some v) = Some (renamed_given v)

  abbrev pub renamed_name : ResultName → ResultName
  renamed_name no_name = no_name
  renamed_name (unnamed v) = unnamed (renamed_given v)
  renamed_name (named v) = named (renamed_given v)

  abbrev pub renamed_context : Context → Context
  renamed_context c = record { slots = map renamed_given c.slots; result = renamed_name c.result; caught = renamed_type_or_none names c.caught }

  -- what a unit declares is what the program declares, under the program's numbers
  pub record Agrees (unit program : Declared) : Type 0 where
    pub functions_agree : (f : ℕ) → signature_at program.functions (names.function_number f) ≡ renamed_signature_or_none (signature_at unit.functions f)
    pub function_types_agree : (type : ℕ) → slice_get program.function_types (names.function_type_number type) ≡ renamed_signature_or_none (slice_get unit.function_types type)
    pub globals_agree : (i : ℕ) → type_at program.globals (names.global_number i) ≡ renamed_type_or_none names (type_at unit.globals i)
    pub leaves_agree : (c : ℕ) → leaf_types program (class (names.class_number c)) ≡ map renamed_leaf (leaf_types unit (class c))
    pub whole_agree : (c : ℕ) → is_whole program (class (names.class_number c)) ≡ is_whole unit (class c)
    -- classes and types of functions with different numbers in the unit have different numbers in the program
    pub classes_apart : (a b : ℕ) → nat_eq (names.class_number a) (names.class_number b) ≡ nat_eq a b
    pub function_types_apart : (a b : ℕ) → nat_eq (names.function_type_number a) (names.function_type_number b) ≡ nat_eq a b

  -- a class whose fields' classes all have default constructors in the unit has such fields in the program
  abbrev pub DefaultsStay : (unit program : Declared) → (here there : List Class) → Type 0
  DefaultsStay unit program here there =
      (c : ℕ) → is_whole unit (class c) ≡ true → have_defaults unit here (slice_get here c) ≡ true → have_defaults program there (slice_get there (names.class_number c)) ≡ true

  -- what the program checks of a function, with what stands for the unit's assertions
  abbrev pub renamed_checks : (check : ℕ → Check) → UnitFunction → Checks
  renamed_checks check f = record { preconditions = map (renamed_specifier names check) f.preconditions; postconditions = map (renamed_specifier names check) f.postconditions }

  -- the program's form of a definition that a unit has
  abbrev pub renamed_function : (definer : ℕ) → (check : ℕ → Check) → UnitFunction → Body ℕ → Function
  renamed_function definer check f b = record {
    definer = definer;
    noexcept = f.noexcept;
    result = core.renamed_result names f.result;
    checks = renamed_checks check f;
    body = renamed_body names check b;
  }
