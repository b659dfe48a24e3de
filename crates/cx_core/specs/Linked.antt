-- The program of a set of units under their plan: one number for each function, type of functions, class and global that the units name, one definition for each function, and the checks of both parties; [basic.link] and [basic.def.odr] of the C++ draft, with this project's own plan and choice of the checking parties.
use Rattle.std.specs.Prelude.{ℕ, suc, ◌+◌, Bool, false, ◌||◌, if◌then◌else◌, List, [], ◌∷◌, ◌++◌, map, length, Option, Some, None, bytes_eq, slice_get, codes}
use Rattle.std.specs.List.{flat_map}
use Rattle.cx_core.specs.Words.{Definer, Caller, Assert, Ignore}
use Rattle.cx_core.specs.Outcome.{Nothing, nothing}
use Rattle.cx_core.specs.Tree.{Constant, Assertion, Check, Specifier, done}
use Rattle.cx_core.specs.Program.{Checks, Body, function, void, Function, Class, Program}
use Rattle.cx_core.specs.Unit.{UnitClass, UnitFunction, is_defined}
use Rattle.cx_core.specs.Renamed.{Names, renamed_expr, renamed_stmt, renamed_result, renamed_class, renamed_specifier, renamed_body}
use Rattle.cx_core.specs.Numbers.{Planned, Numbers, block_numbers}

-- ---- names and numbers

abbrev pub is_among : List (List ℕ) → List ℕ → Bool
is_among [] name = false
is_among (n ∷ names) name = bytes_eq n name || is_among names name

-- each name once, where it stands first
abbrev pub distinct_after : List (List ℕ) → List (List ℕ) → List (List ℕ)
distinct_after before [] = []
distinct_after before (n ∷ names) = if is_among before n then distinct_after before names else (n ∷ distinct_after (n ∷ before) names)

-- the place of a name, or the length of the list
abbrev pub number_in : List (List ℕ) → List ℕ → ℕ
number_in [] name = 0
number_in (n ∷ names) name = if bytes_eq n name then 0 else suc (number_in names name)

abbrev pub function_names : List Planned → List (List ℕ)
function_names units = distinct_after [] (flat_map (λ p. map (λ f. f.name) p.unit.functions) units)

abbrev pub function_type_names : List Planned → List (List ℕ)
function_type_names units = distinct_after [] (flat_map (λ p. map (λ t. t.name) p.unit.function_types) units)

abbrev pub class_names : List Planned → List (List ℕ)
class_names units = distinct_after [] (flat_map (λ p. map (λ c. c.name) p.unit.classes) units)

abbrev pub value_where_defined : List ℕ → Option Constant → List (List ℕ × Constant)
value_where_defined name None = []
value_where_defined name (Some c) = (name, c) ∷ []

-- by unit, and then by place of definition
abbrev pub defined_globals : List Planned → List (List ℕ × Constant)
defined_globals units = flat_map (λ p. flat_map (λ g. value_where_defined g.name g.value) p.unit.globals) units

-- those that are declared and that no unit defines have numbers behind those of the others; no object is one of them
abbrev pub declared_globals : List Planned → List (List ℕ)
declared_globals units = flat_map (λ p. map (λ g. g.name) p.unit.globals) units

abbrev pub global_names : List Planned → List (List ℕ)
global_names units = distinct_after [] (map (λ g. g.0) (defined_globals units) ++ declared_globals units)

-- the number that a name of a unit's table has; indices that aren't in the table stay apart, behind all numbers
abbrev pub number_of_index : (all : List (List ℕ)) → (table : List (List ℕ)) → ℕ → ℕ
number_of_index all table i = number_or_behind (slice_get table i)
  where
    number_or_behind : Option (List ℕ) → ℕ
    number_or_behind None = length all + i
    number_or_behind (Some name) = number_in all name

-- what stands for an assertion where its unit evaluates it as a party, so many times
abbrev pub check_of : Planned → (times : List ℕ → ℕ) → Option Assertion → Check
check_of p times (Some a) = record { assertion = a; semantic = p.semantic a.name; times = times a.name }
-- each that a unit's trees name is in its table
check_of p times None = record {
  assertion = record { kind = Assert; name = []; file = []; line = 0; column = 0; comment = [] };
  semantic = Ignore;
  times = 0;
}

abbrev pub check_at : Planned → (times : List ℕ → ℕ) → (assertion : ℕ) → Check
check_at p times a = check_of p times (slice_get p.unit.assertions a)

abbrev pub no_checks : Checks
no_checks = record { preconditions = []; postconditions = [] }

module _ (units : List Planned) where
  -- the program's numbers of what a unit's trees name
  abbrev pub names_of : Planned → Names
  names_of p = record {
    function_number = number_of_index (function_names units) (map (λ f. f.name) p.unit.functions);
    function_type_number = number_of_index (function_type_names units) (map (λ t. t.name) p.unit.function_types);
    class_number = number_of_index (class_names units) (map (λ c. c.name) p.unit.classes);
    global_number = number_of_index (global_names units) (map (λ g. g.name) p.unit.globals);
  }

  abbrev pub specifiers_of : Planned → (times : List ℕ → ℕ) → List (Specifier ℕ) → List (Specifier Check)
  specifiers_of p times specifiers = map (renamed_specifier (names_of p) (check_at p times)) specifiers

  abbrev pub checks_of : Planned → (times : List ℕ → ℕ) → UnitFunction → Checks
  checks_of p times f = record { preconditions = specifiers_of p times f.preconditions; postconditions = specifiers_of p times f.postconditions }

  -- ---- functions

  -- a function that no unit defines is never called
  abbrev pub no_function : Function
  no_function = record { definer = 0; noexcept = false; result = void; checks = no_checks; body = function done }

  abbrev pub or_defined : (numbers : Numbers) → (definer : ℕ) → Planned → UnitFunction → Option (Body ℕ) → Function → Function
  or_defined numbers definer p f None later = later
  or_defined numbers definer p f (Some b) later = record {
    definer = definer;
    noexcept = f.noexcept;
    result = renamed_result (names_of p) f.result;
    checks = checks_of p (numbers definer Definer) f;
    body = renamed_body (names_of p) (check_at p (numbers definer Definer)) b;
  }

  abbrev pub definition_among : (numbers : Numbers) → (name : List ℕ) → (definer : ℕ) → Planned → List UnitFunction → Function → Function
  definition_among numbers name definer p [] later = later
  definition_among numbers name definer p (f ∷ functions) later =
      if bytes_eq f.name name then or_defined numbers definer p f f.body later else definition_among numbers name definer p functions later

  -- the definition in the first unit that has one, from this unit on
  abbrev pub definition_from : (numbers : Numbers) → (name : List ℕ) → (definer : ℕ) → List Planned → Function
  definition_from numbers name definer [] = no_function
  definition_from numbers name definer (p ∷ later) =
      definition_among numbers name definer p p.unit.functions (definition_from numbers name (suc definer) later)

  -- ---- the checks of Callers

  abbrev pub caller_among : (name : List ℕ) → Planned → (times : List ℕ → ℕ) → List UnitFunction → Checks
  caller_among name p times [] = no_checks
  caller_among name p times (f ∷ functions) = if bytes_eq f.name name then checks_of p times f else caller_among name p times functions

  -- of each unit, from this one on
  abbrev pub callers_from : (numbers : Numbers) → (unit : ℕ) → List Planned → List (List Checks)
  callers_from numbers unit [] = []
  callers_from numbers unit (p ∷ later) =
      map (λ name. caller_among name p (numbers unit Caller) p.unit.functions) (function_names units) ∷ callers_from numbers (suc unit) later

  -- ---- classes

  -- no object has a class that no unit defines
  abbrev pub no_class : List ℕ → Class
  no_class name = record {
    name = name;
    fields = [];
    leaves = [];
    objects = 0;
    default_constructor = None;
    copy_constructor = 0;
    destructor = 0;
  }

  abbrev pub class_or : List ℕ → Planned → Option Class → Class → Class
  class_or name p None later = later
  class_or name p (Some c) later = renamed_class (names_of p) c

  abbrev pub class_among : List ℕ → Planned → List UnitClass → Class → Class
  class_among name p [] later = later
  class_among name p (c ∷ classes) later =
      if bytes_eq c.name name then class_or name p c.definition later else class_among name p classes later

  -- the definition in the first unit that has one; all are the same
  abbrev pub class_from : List ℕ → List Planned → Class
  class_from name [] = no_class name
  class_from name (p ∷ later) = class_among name p p.unit.classes (class_from name later)

  -- ---- the program

  abbrev pub is_defined_name : List ℕ → Bool
  is_defined_name name = is_among
      (flat_map (λ p. flat_map (λ f. if is_defined f.body then (f.name ∷ []) else []) p.unit.functions) units) name

  abbrev pub handler_name : List ℕ
  handler_name = codes "handle_contract_violation"

  -- with these numbers of evaluations
  unfoldable pub linked_with : Numbers → Program
  linked_with numbers = record {
    functions = map (λ name. definition_from numbers name 0 units) (function_names units);
    classes = map (λ name. class_from name units) (class_names units);
    globals = map (λ g. g.1) (defined_globals units);
    callers = callers_from numbers 0 units;
    main = number_in (function_names units) (codes "main");
    handler = if is_defined_name handler_name then Some (number_in (function_names units) handler_name) else None;
  }

  abbrev pub linked : Program
  linked = linked_with (block_numbers units)

-- what unfolds where units are linked by computation
unfoldable pub linking : Nothing
unfolding linked_with renamed_expr renamed_stmt
linking = nothing
