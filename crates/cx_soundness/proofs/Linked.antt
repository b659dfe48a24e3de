-- The program that typed units are linked into is typed.
use Rattle.std.proofs.Common.{◌≡◌, refl, sym, ap, ◌∙◌, subst, ℕ, suc, Bool, true, ◌&&◌, List, [], ◌∷◌, ◌++◌, map, length, Option, Some, None}
use Rattle.std.specs.Prelude.{slice_get}
use Rattle.std.specs.List.{flat_map}
use Rattle.cx_core.specs.Words.{Caller}
use Rattle.cx_core.specs.Tree.{ObjectType, Constant}
use Rattle.cx_core.specs.Tree as tree
use Rattle.cx_core.specs.Program.{Checks, Function}
use Rattle.cx_core.specs.Unit.{UnitGlobal}
use Rattle.cx_core.specs.Numbers.{Planned, Numbers}
use Rattle.cx_core.specs.Renamed.{renamed_type, renamed_type_or_none}
use Rattle.cx_core.specs.Linked.{function_names, defined_globals, value_where_defined, number_in, names_of, definition_from, caller_among, callers_from, linked_with}
use Rattle.cx_soundness.specs.Types.{Signature, Declared}
use Rattle.cx_soundness.specs.Given.{signature_in, signature_at, type_at, constant_given}
use Rattle.cx_soundness.specs.Programs.{go_together, all_are, is_global, is_unused_or_global, is_low, is_main, is_handler, are_checks_typed, is_unused_or_typed, is_caller_typed, are_callers_typed, is_typed_program}
use Rattle.cx_soundness.specs.Units.{is_unit_function_typed, are_unit_classes_typed, is_unit_global, is_global_or_elsewhere, is_typed_unit, Agrees}
use Rattle.cx_soundness.specs.Laws.{LinkedUnitsAreTyped}
use Rattle.cx_core.specs.Apart.{LinkingKeepsApart}
use Rattle.cx_soundness.specs.Linking.{ByName, declared_by, linked_classes, is_found, is_none_or, are_defined, are_globals_defined, are_globals_distinct, are_made_rightly, is_linked_typed}
use Rattle.cx_soundness.proofs.LinkedUnits.{KindsAgree, AreTypedUnits, no_unit, typed_unit}
use Rattle.cx_soundness.proofs.Same.{both_left, both_right, both_true}
use Rattle.cx_soundness.proofs.RenamedTypes.{accepts_same}
use Rattle.cx_soundness.proofs.LinkedClasses.{classes_typed}
use Rattle.cx_soundness.proofs.LinkedTables.{number_present, Every, every_of}
use Rattle.cx_soundness.proofs.LinkedDefaults.{typed_units}
use Rattle.cx_soundness.proofs.LinkedFunctions.{signatures_alike, from, kind_from, caller_typed, functions_of_unit}

both_tables : {A B : Type 0} (p : A → B → Bool) (f : List ℕ → A) (g : List ℕ → B) (names : List (List ℕ)) → Every names (λ name. p (f name) (g name) ≡ true) → go_together p (map f names) (map g names) ≡ true
both_tables p f g [] h = refl
both_tables p f g (n ∷ names) h = both_true _ _ (h 0 n refl) (both_tables p f g names (λ i name e. h (suc i) name e))

callers_tables : (declared : Declared) (f : List ℕ → Option Signature) (g : List ℕ → Function) (k : List ℕ → Checks) (names : List (List ℕ)) → Every names (λ name. is_caller_typed declared (f name) (g name) (k name) ≡ true)
    → are_callers_typed declared (map f names) (map g names) (map k names) ≡ true
callers_tables declared f g k [] h = refl
callers_tables declared f g k (n ∷ names) h = both_true _ _ (h 0 n refl) (callers_tables declared f g k names (λ i name e. h (suc i) name e))

module _ (units : List Planned) (named : ByName) (numbers : Numbers) (all : AreTypedUnits units named units) (defined : are_defined units named ≡ true) where
  abbrev program : Declared
  program = declared_by units named

  abbrev definition : List ℕ → Function
  definition name = definition_from units numbers name 0 units

  abbrev names : List (List ℕ)
  names = function_names units

  under : Every names (λ name. signature_at program.functions (number_in names name) ≡ named.signature_of name)
  under i name e = ap signature_in (number_present named.signature_of names i name e)

  found : Every names (λ name. (s : Signature) → named.signature_of name ≡ Some s → is_found name units ≡ true)
  found i name e s has = subst (λ o. is_none_or o (is_found name units) ≡ true) has (every_of (λ n. is_none_or (named.signature_of n) (is_found n units)) names defined i name e)

  -- ---- functions

  function_typed : Every names (λ name. is_unused_or_typed program (linked_classes units named) (named.signature_of name) (definition name) ≡ true)
  function_typed i name e = by_signature (named.signature_of name) refl
    where
      by_signature : (o : Option Signature) → named.signature_of name ≡ o → is_unused_or_typed program (linked_classes units named) o (definition name) ≡ true
      by_signature None has = refl
      by_signature (Some s) has = from units named numbers name 0 units all (found i name e s has) s (under i name e ∙ has)

  functions_typed : go_together (is_unused_or_typed program (linked_classes units named)) program.functions (map definition names) ≡ true
  functions_typed = both_tables (is_unused_or_typed program (linked_classes units named)) named.signature_of definition names function_typed

  -- ---- what Callers check

  module _ (p : Planned) (unit : Declared) (agrees : Agrees (names_of units p) unit program) (times : List ℕ → ℕ) where
    one_caller : go_together (is_unit_function_typed unit p.unit) unit.functions p.unit.functions ≡ true → KindsAgree units named p p.unit.functions
        → Every names (λ name. is_caller_typed program (named.signature_of name) (definition name) (caller_among units name p times p.unit.functions) ≡ true)
    one_caller typed kinds i name e = by_signature (named.signature_of name) refl
      where
        by_signature : (o : Option Signature) → named.signature_of name ≡ o → is_caller_typed program o (definition name) (caller_among units name p times p.unit.functions) ≡ true
        by_signature None has = refl
        by_signature (Some s) has =
            subst (λ k. are_checks_typed program s k (caller_among units name p times p.unit.functions) ≡ true)
            (sym (kind_from units named numbers name 0 units all (found i name e s has)))
            (caller_typed units named numbers p unit agrees times name s (under i name e ∙ has) unit.functions p.unit.functions (signatures_alike units named numbers p unit agrees) typed kinds)

  callers_typed : (number : ℕ) (later : List Planned) → AreTypedUnits units named later → all_are (are_callers_typed program program.functions (map definition names)) (callers_from units numbers number later) ≡ true
  callers_typed number [] no_unit = refl
  callers_typed number (p ∷ later) (typed_unit _ _ unit agrees defaults kinds heights globals typed rest) =
      both_true _ _
      (callers_tables program named.signature_of definition (λ name. caller_among units name p (numbers number Caller) p.unit.functions) names
      (one_caller p unit agrees (numbers number Caller) (functions_of_unit units named numbers unit p typed) kinds))
      (callers_typed (suc number) later rest)

  -- ---- globals

  abbrev is_ok : List ℕ × Constant → Bool
  is_ok g = is_unused_or_global program (named.type_of g.0) g.1

  ok_appended : (a b : List (List ℕ × Constant)) → all_are is_ok a ≡ true → all_are is_ok b ≡ true → all_are is_ok (a ++ b) ≡ true
  ok_appended [] b h k = k
  ok_appended (g ∷ a) b h k = both_true _ _ (both_left _ _ h) (ok_appended a b (both_right (is_ok g) _ h) k)

  module _ (p : Planned) (unit : Declared) (agrees : Agrees (names_of units p) unit program) where
    constant_typed : (type : ObjectType) (c : Constant) → is_global program (renamed_type (names_of units p) type) c ≡ is_global unit type c
    constant_typed type (tree.number n) = accepts_same (names_of units p) unit program agrees type (constant_given (tree.number n))
    constant_typed type tree.nullptr = accepts_same (names_of units p) unit program agrees type (constant_given tree.nullptr)

    unused_or_typed : (type : Option ObjectType) (c : Constant) → is_unused_or_global program (renamed_type_or_none (names_of units p) type) c ≡ is_unused_or_global unit type c
    unused_or_typed None c = refl
    unused_or_typed (Some type) c = constant_typed type c

    globals_of_unit : (types : List (Option ObjectType)) (globals : List UnitGlobal) → ((j : ℕ) (g : UnitGlobal) → slice_get globals j ≡ Some g → named.type_of g.name ≡ renamed_type_or_none (names_of units p) (type_at types j))
        → go_together (is_unit_global unit p.unit) types globals ≡ true → all_are is_ok (flat_map (λ g. value_where_defined g.name g.value) globals) ≡ true
    globals_of_unit types [] alike typed = refl
    globals_of_unit [] (g ∷ globals) alike typed = absurd cc
    globals_of_unit (type ∷ types) (g ∷ globals) alike typed =
        ok_appended (value_where_defined g.name g.value) (flat_map (λ g. value_where_defined g.name g.value) globals) (by_value g.value refl (both_left _ _ typed))
        (globals_of_unit types globals (λ j. alike (suc j)) (both_right (is_unit_global unit p.unit type g) _ typed))
      where
        by_value : (v : Option Constant) → g.value ≡ v → is_unit_global unit p.unit type g ≡ true → all_are is_ok (value_where_defined g.name v) ≡ true
        by_value None e h = refl
        by_value (Some c) e h = both_true _ _ (subst (λ t. is_unused_or_global program t c ≡ true) (sym (alike 0 g refl)) (unused_or_typed type c ∙ of_value type h)) refl
          where
            of_value : (t : Option ObjectType) → is_unit_global unit p.unit t g ≡ true → is_unused_or_global unit t c ≡ true
            of_value None h = refl
            of_value (Some t) h = subst (λ v. is_global_or_elsewhere unit p.unit t v ≡ true) e h

  globals_in : (unit : Declared) (p : Planned) → is_typed_unit unit p.unit ≡ true → go_together (is_unit_global unit p.unit) unit.globals p.unit.globals ≡ true
  unfolding is_typed_unit
  globals_in unit p typed = both_right (go_together (is_unit_function_typed unit p.unit) unit.functions p.unit.functions && are_unit_classes_typed unit p.unit 0 unit.layouts p.unit.classes && all_are (is_low unit (length p.unit.classes)) unit.heights) _ typed

  globals_ok : (later : List Planned) → AreTypedUnits units named later → all_are is_ok (flat_map (λ p. flat_map (λ g. value_where_defined g.name g.value) p.unit.globals) later) ≡ true
  globals_ok [] no_unit = refl
  globals_ok (p ∷ later) (typed_unit _ _ unit agrees defaults kinds heights globals typed rest) =
      ok_appended (flat_map (λ g. value_where_defined g.name g.value) p.unit.globals) _ (globals_of_unit p unit agrees unit.globals p.unit.globals globals (globals_in unit p typed)) (globals_ok later rest)

  globals_together : (pairs : List (List ℕ × Constant)) → all_are is_ok pairs ≡ true → go_together (is_unused_or_global program) (map named.type_of (map (λ g. g.0) pairs)) (map (λ g. g.1) pairs) ≡ true
  globals_together [] h = refl
  globals_together (g ∷ pairs) h = both_true _ _ (both_left _ _ h) (globals_together pairs (both_right (is_ok g) _ h))

-- ---- the program

-- what isn't a single unit's
record IsLinked (units : List Planned) (named : ByName) (numbers : Numbers) : Type 0 where
  defined : are_defined units named ≡ true
  globals_defined : are_globals_defined units named ≡ true
  globals_distinct : are_globals_distinct units ≡ true
  low : all_are (is_low (declared_by units named) (length (linked_with units numbers).classes)) (declared_by units named).heights ≡ true
  made : are_made_rightly units named (linked_with units numbers).functions ≡ true
  main : is_main (declared_by units named) (signature_at (declared_by units named).functions (linked_with units numbers).main) ≡ true
  handled : is_handler (declared_by units named) (linked_with units numbers).handler ≡ true

is_linked : (units : List Planned) (named : ByName) (numbers : Numbers) → is_linked_typed units named numbers ≡ true → IsLinked units named numbers
is_linked units named numbers h =
    let declared = declared_by units named in
    let program = linked_with units numbers in
    let low = all_are (is_low declared (length program.classes)) declared.heights in
    let made = are_made_rightly units named program.functions in
    let main = is_main declared (signature_at declared.functions program.main) in
    let globals = are_globals_defined units named && are_globals_distinct units in
    let found = are_defined units named && globals in
    let upto_main = both_left (found && low && made && main) (is_handler declared program.handler) h in
    let upto_made = both_left (found && low && made) main upto_main in
    let upto_low = both_left (found && low) made upto_made in
    let upto_found = both_left found low upto_low in
    let both_globals = both_right (are_defined units named) globals upto_found in
    record {
      defined = both_left (are_defined units named) globals upto_found;
      globals_defined = both_left (are_globals_defined units named) (are_globals_distinct units) both_globals;
      globals_distinct = both_right (are_globals_defined units named) (are_globals_distinct units) both_globals;
      low = both_right found low upto_low;
      made = both_right (found && low) made upto_made;
      main = both_right (found && low && made) main upto_main;
      handled = both_right (found && low && made && main) (is_handler declared program.handler) h;
    }

linked_typed : (units : List Planned) (named : ByName) (numbers : Numbers) → AreTypedUnits units named units → IsLinked units named numbers → is_typed_program (declared_by units named) (linked_with units numbers) ≡ true
unfolding linked_with is_typed_program
linked_typed units named numbers all linked =
    both_true _ _
    (both_true _ _
    (both_true _ _
    (both_true _ _
    (both_true _ _
    (both_true _ _ (functions_typed units named numbers all linked.defined) (classes_typed units named all (linked_with units numbers).functions linked.made))
    linked.low)
    (globals_together units named numbers all linked.defined (defined_globals units) (globals_ok units named numbers all linked.defined units all)))
    (callers_typed units named numbers all linked.defined 0 units all))
    linked.main)
    linked.handled

pub linked_units : LinkingKeepsApart → LinkedUnitsAreTyped
linked_units keeps units declared named numbers typed h =
    let linked = is_linked units named numbers h in
    linked_typed units named numbers (typed_units units named linked.globals_defined linked.globals_distinct keeps declared typed) linked
