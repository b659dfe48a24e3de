-- What the units of a program declare together, by name, and what it is for them all to be typed: this project's own, for [basic.link] and [basic.def.odr] of the C++ draft.
use Rattle.std.specs.Prelude.{ℕ, Bool, true, false, ◌||◌, ◌&&◌, if◌then◌else◌, nat_eq, List, [], ◌∷◌, map, Option, Some, None, length, bytes_eq, slice_get}
use Rattle.cx_core.specs.Tree.{ObjectType}
use Rattle.cx_core.specs.Program.{ResultKind, void, scalar_value, scalar_object, class_object, reference, exit_status, Function, Class}
use Rattle.cx_core.specs.Unit.{FunctionType, UnitClass, UnitFunction, UnitGlobal, TranslationUnit, is_defined}
use Rattle.cx_core.specs.Renamed.{renamed_type_or_none, renamed_class}
use Rattle.cx_core.specs.Renamed as core
use Rattle.cx_core.specs.Numbers.{Planned, Numbers}
use Rattle.cx_core.specs.Linked.{is_among, function_names, function_type_names, class_names, defined_globals, global_names, names_of, class_from, linked_with}
use Rattle.cx_soundness.specs.Types.{LeafType, Layout, unknown_class, known_class, made_class, Signature, Declared}
use Rattle.cx_soundness.specs.Given.{same_object, same_leaf, same_signature, signature_at}
use Rattle.cx_soundness.specs.Programs.{go_together, all_are, is_low, is_main, is_handler, is_low_function, destroys}
use Rattle.cx_soundness.specs.Units.{is_typed_unit, renamed_signature, renamed_signature_or_none, renamed_layout}

-- what is declared under each name, where classes and types of functions go by the program's numbers
pub record ByName : Type 0 where
  -- none for a function that no code of the program calls or names
  pub signature_of : (name : List ℕ) → Option Signature
  pub kind_of : (name : List ℕ) → ResultKind
  pub function_type_of : (name : List ℕ) → Signature
  -- none for a global that no code of the program names
  pub type_of : (name : List ℕ) → Option ObjectType
  pub layout_of : (name : List ℕ) → Layout
  pub height_of : (name : List ℕ) → ℕ

-- ---- equal declarations

abbrev pub same_if_any : {A : Type 0} → (A → A → Bool) → Option A → Option A → Bool
same_if_any same None None = true
same_if_any same None (Some b) = false
same_if_any same (Some a) None = false
same_if_any same (Some a) (Some b) = same a b

abbrev pub same_kind : ResultKind → ResultKind → Bool
same_kind void void = true
same_kind scalar_value scalar_value = true
same_kind scalar_object scalar_object = true
same_kind (class_object c) (class_object d) = nat_eq c d
same_kind reference reference = true
same_kind exit_status exit_status = true
same_kind _ _ = false

abbrev pub same_leaves : List LeafType → List LeafType → Bool
same_leaves [] [] = true
same_leaves [] (u ∷ us) = false
same_leaves (t ∷ ts) [] = false
same_leaves (t ∷ ts) (u ∷ us) = same_leaf t u && same_leaves ts us

abbrev pub same_layout : Layout → Layout → Bool
same_layout unknown_class unknown_class = true
same_layout (known_class a) (known_class b) = same_leaves a b
same_layout (made_class a) (made_class b) = same_leaves a b
same_layout _ _ = false

-- the fields are of the same types, and both may be constructed without arguments or neither
abbrev pub same_construction : Class → Class → Bool
same_construction a b = go_together (λ f g. same_object f.type g.type) a.fields b.fields && same_if_any (λ f g. true) a.default_constructor b.default_constructor

-- none of the names is one before it
abbrev pub are_distinct_after : (before names : List (List ℕ)) → Bool
are_distinct_after before [] = true
are_distinct_after before (n ∷ names) = if is_among before n then false else are_distinct_after (n ∷ before) names

-- each function, type of functions, class and global has one place in its table
abbrev pub are_named_once : TranslationUnit → Bool
are_named_once unit =
    are_distinct_after [] (map (λ f. f.name) unit.functions)
    && are_distinct_after [] (map (λ t. t.name) unit.function_types)
    && are_distinct_after [] (map (λ c. c.name) unit.classes)
    && are_distinct_after [] (map (λ g. g.name) unit.globals)

module _ (units : List Planned) (named : ByName) where
  abbrev pub declared_by : Declared
  declared_by = record {
    functions = map named.signature_of (function_names units);
    function_types = map named.function_type_of (function_type_names units);
    globals = map named.type_of (map (λ g. g.0) (defined_globals units));
    layouts = map named.layout_of (class_names units);
    heights = map named.height_of (class_names units);
  }

  abbrev pub linked_classes : List Class
  linked_classes = map (λ name. class_from units name units) (class_names units)

  -- ---- what a unit declares is what the program declares, under the program's numbers

  module _ (p : Planned) where
    abbrev pub is_function_alike : Option Signature → UnitFunction → Bool
    is_function_alike signature f =
        same_if_any same_signature (renamed_signature_or_none (names_of units p) signature) (named.signature_of f.name) && same_kind (core.renamed_result (names_of units p) f.result) (named.kind_of f.name)

    abbrev pub is_function_type_alike : Signature → FunctionType → Bool
    is_function_type_alike signature t = same_signature (renamed_signature (names_of units p) signature) (named.function_type_of t.name)

    abbrev pub is_global_alike : Option ObjectType → UnitGlobal → Bool
    is_global_alike type g = same_if_any same_object (renamed_type_or_none (names_of units p) type) (named.type_of g.name)

    abbrev pub is_layout_alike : Layout → UnitClass → Bool
    is_layout_alike layout c = same_layout (renamed_layout (names_of units p) layout) (named.layout_of c.name)

    abbrev pub is_height_alike : ℕ → UnitClass → Bool
    is_height_alike height c = nat_eq height (named.height_of c.name)

    -- definitions of a class in several units are the same [basic.def.odr]
    abbrev pub is_definition_alike : (name : List ℕ) → Option Class → Bool
    is_definition_alike name None = true
    is_definition_alike name (Some definition) = same_construction (renamed_class (names_of units p) definition) (class_from units name units)

    abbrev pub is_class_alike : UnitClass → Bool
    is_class_alike c = is_definition_alike c.name c.definition

    abbrev pub are_alike : Declared → Bool
    are_alike declared =
        go_together is_function_alike declared.functions p.unit.functions
        && go_together is_function_type_alike declared.function_types p.unit.function_types
        && go_together is_global_alike declared.globals p.unit.globals
        && go_together is_layout_alike declared.layouts p.unit.classes
        && go_together is_height_alike declared.heights p.unit.classes
        && all_are is_class_alike p.unit.classes
        && are_named_once p.unit

    abbrev pub is_typed_planned : Declared → Bool
    is_typed_planned declared = are_alike declared && is_typed_unit declared p.unit

  -- each unit is typed, with declarations of its own
  abbrev pub are_typed_units : List Declared → Bool
  are_typed_units declared = go_together is_typed_planned units declared

-- ---- the definitions that are found

abbrev pub is_found_among : (name : List ℕ) → List UnitFunction → Bool → Bool
is_found_among name [] later = later
is_found_among name (f ∷ functions) later = if bytes_eq f.name name then is_defined f.body || later else is_found_among name functions later

abbrev pub is_found : (name : List ℕ) → List Planned → Bool
is_found name [] = false
is_found name (p ∷ later) = is_found_among name p.unit.functions (is_found name later)

abbrev pub is_none_or : Option Signature → Bool → Bool
is_none_or None found = true
is_none_or (Some signature) found = found

-- each function that code calls or names has a definition in some unit
abbrev pub are_defined : List Planned → ByName → Bool
are_defined units named = all_are (λ name. is_none_or (named.signature_of name) (is_found name units)) (function_names units)

abbrev pub is_class_found_among : (name : List ℕ) → List UnitClass → Bool → Bool
is_class_found_among name [] later = later
is_class_found_among name (c ∷ classes) later = if bytes_eq c.name name then is_defined c.definition || later else is_class_found_among name classes later

abbrev pub is_class_found : (name : List ℕ) → List Planned → Bool
is_class_found name [] = false
is_class_found name (p ∷ later) = is_class_found_among name p.unit.classes (is_class_found name later)

abbrev pub is_default_low : Declared → List Function → ℕ → Option ℕ → Bool
is_default_low declared functions height None = true
is_default_low declared functions height (Some f) = is_low_function declared height (slice_get functions f)

-- the functions that make, copy and destroy the objects of a class, which other units may define
abbrev pub is_made_low : Declared → List Function → ℕ → Class → Bool
is_made_low declared functions height definition =
    (is_low_function declared height (slice_get functions definition.destructor) && destroys declared (slice_get functions definition.destructor))
    && is_low_function declared height (slice_get functions definition.copy_constructor)
    && is_default_low declared functions height definition.default_constructor

abbrev pub is_made_rightly : Layout → Bool → Bool
is_made_rightly unknown_class made = true
is_made_rightly (known_class layout) made = true
is_made_rightly (made_class layout) made = made

abbrev pub are_made_rightly : List Planned → ByName → List Function → Bool
are_made_rightly units named functions =
    all_are (λ name. is_made_rightly (named.layout_of name)
    (is_class_found name units && is_made_low (declared_by units named) functions (named.height_of name) (class_from units name units))) (class_names units)

abbrev pub is_unused_or : Option ObjectType → Bool → Bool
is_unused_or None found = true
is_unused_or (Some type) found = found

-- each global that code names has a definition in some unit
abbrev pub are_globals_defined : List Planned → ByName → Bool
are_globals_defined units named = all_are (λ name. is_unused_or (named.type_of name) (is_among (map (λ g. g.0) (defined_globals units)) name)) (global_names units)

-- no global is defined twice
abbrev pub are_globals_distinct : List Planned → Bool
are_globals_distinct units = are_distinct_after [] (map (λ g. g.0) (defined_globals units))

-- what isn't a single unit's: that the heights are low, how objects are made and destroyed, that what code calls or names is defined, that no global is defined twice, and that `main` and the handler are what they are to be
abbrev pub is_linked_typed : List Planned → ByName → Numbers → Bool
is_linked_typed units named numbers =
    let declared = declared_by units named in
    let program = linked_with units numbers in
    are_defined units named && (are_globals_defined units named && are_globals_distinct units)
    && all_are (is_low declared (length program.classes)) declared.heights
    && are_made_rightly units named program.functions
    && is_main declared (signature_at declared.functions program.main)
    && is_handler declared program.handler
