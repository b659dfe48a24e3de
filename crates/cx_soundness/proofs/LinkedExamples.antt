-- Two units that are typed, so that the program that they are linked into is typed: that the law of linked units speaks of some; and some that aren't.
use Rattle.std.proofs.Common.{◌≡◌, refl, ℕ, true, false, Bool, if◌then◌else◌, List, [], ◌∷◌, Option, Some, None}
use Rattle.std.specs.Prelude.{codes, bytes_eq, pos}
use Rattle.cx_core.specs.declared.number.BinaryOperator.TheVariants.{Add, Greater}
use Rattle.cx_core.specs.declared.choice.Calls.TheVariants as calls
use Rattle.cx_core.specs.Words.{Pre, Enforce}
use Rattle.cx_core.specs.Tree.{ObjectType, function_pointer, class, number, Assertion, global, variable, function_name, member, call_through, scalar_result, operand, value, construct, zero_first, by_value, no_more, Constant, Stmts, next, done, variable_declaration, return_value}
use Rattle.cx_core.specs.Program.{Body, function, implicit_constructor, implicit_copy_constructor, implicit_destructor, ResultKind, void, scalar_value, exit_status}
use Rattle.cx_core.specs.Unit as unit
use Rattle.cx_core.specs.Unit.{FunctionType, UnitClass, UnitFunction, UnitGlobal, TranslationUnit}
use Rattle.cx_core.specs.Numbers.{Planned, block_numbers}
use Rattle.cx_core.specs.Linked.{linked_with, linking}
use Rattle.cx_core.specs.Apart.{LinkingKeepsApart}
use Rattle.cx_soundness.specs.Types as types_of
use Rattle.cx_soundness.specs.Types.{Layout, Signature, Declared}
use Rattle.cx_soundness.specs.Programs.{is_typed_program}
use Rattle.cx_soundness.specs.Units.{is_typed_unit}
use Rattle.cx_soundness.specs.Linking.{ByName, declared_by, are_typed_units, is_linked_typed}
use Rattle.cx_soundness.proofs.Writing.{int, char, lit, as_is, ints, read_int, read_variable, assertion_in, class_of_one}
use Rattle.cx_soundness.proofs.Examples.{computing, of, an, on, called, int_leaf, main_signature}
use Rattle.cx_soundness.proofs.Linked.{linked_units}

-- ---- h.h: struct S; struct T { int v; }; extern int x; extern int y; int f(int n) pre(n > 0);
-- a.cpp: int main() { T t = T(); int (*p)(int) = f; return p(x) + t.v; }
-- b.cpp: int x = 5; int f(int n) { return n; }

abbrev positive : Assertion
positive = assertion_in (codes "h.h") Pre (codes "f#pre1") 5 20 (codes "n > 0")

abbrev a_function : (name : List ℕ) → (type : ℕ) → ResultKind → Option (Body ℕ) → UnitFunction
a_function name type result body = record {
  name = name;
  type = type;
  is_needed = true;
  noexcept = false;
  named_parameters = 0;
  result = result;
  preconditions = [];
  postconditions = [];
  body = body;
}

abbrev f_with : (type : ℕ) → Option (Body ℕ) → UnitFunction
f_with type body = record (a_function (codes "f") type scalar_value body) {
  named_parameters = 1;
  preconditions = record { of = 0; predicate = as_is (ints Greater (read_variable 0) (lit 0)) } ∷ [];
}

-- the functions of T, whose number this is, which are implicit, by the indices of their types
abbrev members_of_t : (t : ℕ) → (plain copying : ℕ) → List UnitFunction → List UnitFunction
members_of_t t plain copying others =
    a_function (codes "T::T") plain void (Some (implicit_constructor t))
    ∷ a_function (codes "T::T.copy") copying void (Some (implicit_copy_constructor t))
    ∷ a_function (codes "T::~T") plain void (Some (implicit_destructor t))
    ∷ others

abbrev t_with : (first : ℕ) → (copy : ℕ) → (destroy : ℕ) → UnitClass
t_with first copy destroy = record { name = codes "T"; definition = Some (class_of_one (codes "T") int (Some first) copy destroy) }

abbrev s : UnitClass
s = record { name = codes "S"; definition = None }

abbrev global_with : (name : List ℕ) → (is_named : Bool) → Option Constant → UnitGlobal
global_with name is_named constant = record { name = name; type = int; is_named = is_named; value = constant }

abbrev f_type : FunctionType
f_type = record { name = codes "int ( int )"; result = unit.object int; parameters = unit.object int ∷ [] }

abbrev main_type : FunctionType
main_type = record { name = codes "int ( )"; result = unit.object int; parameters = [] }

abbrev plain_type : FunctionType
plain_type = record { name = codes "void ( )"; result = unit.void; parameters = [] }

abbrev copying_type : (t : ℕ) → FunctionType
copying_type t = record { name = codes "void ( const T & )"; result = unit.void; parameters = unit.reference (class t) ∷ [] }

abbrev main_body : Stmts ℕ
main_body =
    next (variable_declaration 0 (class 1) (zero_first 1 (construct 2 no_more)))
    (next (variable_declaration 1 (function_pointer 0) (value (as_is (function_name 0))))
    (next (return_value (as_is (ints Add
    (as_is (call_through scalar_result (operand (Some (function_pointer 0)) None (variable 1)) (by_value int (value (read_int (global 0))) no_more)))
    (read_int (member 0 (variable 0))))))
    done))

abbrev a_unit : TranslationUnit
a_unit = record {
  name = codes "a.cpp";
  classes = s ∷ t_with 2 3 4 ∷ [];
  globals = global_with (codes "x") true None ∷ global_with (codes "y") false None ∷ [];
  functions = f_with 0 None ∷ a_function (codes "main") 1 exit_status (Some (function main_body)) ∷ members_of_t 1 2 3 [];
  function_types = f_type ∷ main_type ∷ plain_type ∷ copying_type 1 ∷ [];
  definitions = 2 ∷ 3 ∷ 4 ∷ 1 ∷ [];
  assertions = positive ∷ [];
  calls = [];
  tokens = 60;
}

abbrev b_unit : TranslationUnit
b_unit = record {
  name = codes "b.cpp";
  classes = t_with 0 1 2 ∷ s ∷ [];
  globals = global_with (codes "x") false (Some (number (pos 5))) ∷ [];
  functions = members_of_t 0 0 1 (f_with 2 (Some (function (next (return_value (read_variable 0)) done))) ∷ []);
  function_types = plain_type ∷ copying_type 0 ∷ f_type ∷ [];
  definitions = 0 ∷ 1 ∷ 2 ∷ 3 ∷ [];
  assertions = positive ∷ [];
  calls = [];
  tokens = 50;
}

abbrev planned : TranslationUnit → Planned
planned u = record { unit = u; choice = record { semantic = Enforce; calls = calls.Pre; repeat = 0 }; semantic = λ name. Enforce }

abbrev units : List Planned
units = planned a_unit ∷ planned b_unit ∷ []

-- ---- what they declare

abbrev gives_int : Signature
gives_int = of (an int ∷ []) (types_of.scalar_result int)

-- T has this number
abbrev copies_t : (t : ℕ) → Signature
copies_t t = of (an (class t) ∷ []) types_of.no_result

abbrev nothing_given : Signature
nothing_given = of [] types_of.no_result

abbrev a_t : Layout
a_t = types_of.made_class (int_leaf ∷ [])

-- where y is said to be of this type
abbrev a_declared : Option ObjectType → Declared
a_declared y = record {
  functions = called (gives_int ∷ main_signature ∷ on 1 [] ∷ on 1 (an (class 1) ∷ []) ∷ on 1 [] ∷ []);
  function_types = gives_int ∷ of [] (types_of.scalar_result int) ∷ nothing_given ∷ copies_t 1 ∷ [];
  globals = Some int ∷ y ∷ [];
  layouts = types_of.unknown_class ∷ a_t ∷ [];
  heights = 0 ∷ 0 ∷ [];
}

-- where x is said to be of this type
abbrev b_declared : ObjectType → Declared
b_declared x = record {
  functions = called (on 0 [] ∷ on 0 (an (class 0) ∷ []) ∷ on 0 [] ∷ gives_int ∷ []);
  function_types = nothing_given ∷ copies_t 0 ∷ gives_int ∷ [];
  globals = Some x ∷ [];
  layouts = a_t ∷ types_of.unknown_class ∷ [];
  heights = 0 ∷ 0 ∷ [];
}

-- what goes by the name, or what goes by no name
abbrev lookup : {A : Type 0} → (name : List ℕ) → List (List ℕ × A) → A → A
lookup name [] none = none
lookup name (entry ∷ entries) none = if bytes_eq entry.0 name then entry.1 else lookup name entries none

abbrev by_name : Option ObjectType → ByName
by_name y = record {
  signature_of = λ name. lookup name ((codes "f", Some gives_int) ∷ (codes "main", Some main_signature) ∷ (codes "T::T.copy", Some (on 1 (an (class 1) ∷ []))) ∷ []) (Some (on 1 []));
  kind_of = λ name. lookup name ((codes "f", scalar_value) ∷ (codes "main", exit_status) ∷ []) void;
  function_type_of = λ name. lookup name ((codes "int ( int )", gives_int) ∷ (codes "int ( )", of [] (types_of.scalar_result int)) ∷ (codes "void ( )", nothing_given) ∷ []) (copies_t 1);
  type_of = λ name. lookup name ((codes "y", y) ∷ []) (Some int);
  layout_of = λ name. lookup name ((codes "T", a_t) ∷ []) types_of.unknown_class;
  height_of = λ name. 0;
}

-- ---- they are typed

both_typed : are_typed_units units (by_name None) (a_declared None ∷ b_declared int ∷ []) ≡ true
unfolding computing linking is_typed_unit
both_typed = refl

linked_suited : is_linked_typed units (by_name None) (block_numbers units) ≡ true
unfolding computing linking
linked_suited = refl

program_typed : LinkingKeepsApart → is_typed_program (declared_by units (by_name None)) (linked_with units (block_numbers units)) ≡ true
program_typed keeps = linked_units keeps units (a_declared None ∷ b_declared int ∷ []) (by_name None) (block_numbers units) both_typed linked_suited

-- ---- and others aren't

-- x is of one type in one unit, and of another in the other one
other_types : are_typed_units units (by_name None) (a_declared None ∷ b_declared char ∷ []) ≡ false
unfolding computing linking is_typed_unit
other_types = refl

-- no unit defines y
nowhere_defined : is_linked_typed units (by_name (Some int)) (block_numbers units) ≡ false
unfolding computing linking
nowhere_defined = refl
