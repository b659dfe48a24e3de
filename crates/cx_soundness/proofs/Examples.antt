-- Programs that are typed, computed, and some that aren't: classes, exceptions, handlers, references, pointers, and pointers to functions.
use Rattle.std.proofs.Common.{◌≡◌, refl, ℕ, true, false, List, [], ◌∷◌, Option, Some, None}
use Rattle.std.specs.Prelude.{codes}
use Rattle.cx_types.specs.declared.value_type.Scalar.TheVariants as scalars
use Rattle.cx_core.specs.declared.number.IntegerType.TheVariants as types
use Rattle.cx_core.specs.declared.number.BinaryOperator.TheVariants.{Add, Greater, Equal}
use Rattle.cx_core.specs.declared.number.Query.TheVariants as queries
use Rattle.cx_core.specs.Words.{Pre, Post, Enforce}
use Rattle.cx_core.specs.Tree as tree
use Rattle.cx_core.specs.Tree.{ObjectType, scalar, pointer, function_pointer, class, number, literal, variable, function_name, result_name, exception_object, prefix_step, indirection, member, call, call_through, scalar_result, temporary, temporary_through, putchar, operand, value, construct, zero_first, result_of, no_more, by_reference, by_value, reference, object, empty, variable_declaration, reference_declaration, if_else, return_value, return_reference, return_object, throw, rethrow, try, none, catch, catch_all, Stmt, Check}
use Rattle.cx_core.specs.Program.{Program, Class, number_leaf, pointer_leaf, scalar_value, scalar_object, class_object, reference as reference_kind}
use Rattle.cx_soundness.specs.Types as types_of
use Rattle.cx_soundness.specs.Types.{LeafType, Parameter, Signature, Declared}
use Rattle.cx_soundness.specs.Expressions.{expr_given}
use Rattle.cx_soundness.specs.Statements.{is_typed_stmt_by}
use Rattle.cx_soundness.specs.Programs.{is_typed_program}
use Rattle.cx_soundness.proofs.Writing.{int, char, lit, as_is, read_int, read_char, read_variable, ints, int_arg, say, list, assertion, check, post, main_of, function_of, checked_function, handler_of, constructor_of, destructor_of, constructs, copies, destroys, int_field, class_of_one, empty_class, program_of, does}

-- what unfolds where a program's types are computed
unfoldable pub computing : ℕ
unfolding is_typed_program expr_given is_typed_stmt_by
computing = 0

abbrev pub of : List Parameter → types_of.Result → Signature
of parameters result = record { parameters = parameters; result = result }

abbrev pub an : ObjectType → Parameter
an type = types_of.object type

abbrev pub on : ℕ → List Parameter → Signature
on c parameters = of (an (class c) ∷ parameters) types_of.no_result

-- each of the functions is called
abbrev pub called : List Signature → List (Option Signature)
called [] = []
called (s ∷ signatures) = Some s ∷ called signatures

abbrev pub main_signature : Signature
main_signature = of [] types_of.status

abbrev pub int_leaf : LeafType
int_leaf = types_of.number_leaf scalars.Int

-- struct T { int v; T(int n) : v(n) {} T(const T& o) : v(o.v + 1) {} };
-- T g() { T a(1); return a; } int main() { T b = g(); T c = b; return c.v; }
abbrev copies_count : Program
copies_count = program_of (class_of_one (codes "T") int None 2 3 ∷ []) (
    main_of (
    variable_declaration 0 (class 0) (result_of 4 no_more)
    ∷ variable_declaration 1 (class 0) (construct 2 (by_reference (variable 0) no_more))
    ∷ return_value (read_int (member 0 (variable 1))) ∷ [])
    ∷ constructor_of (int_field 0 (read_variable 1) ∷ []) []
    ∷ constructor_of (int_field 0 (as_is (ints Add (read_int (member 0 (variable 1))) (lit 1))) ∷ []) []
    ∷ destroys 0
    ∷ function_of (class_object 0) (variable_declaration 0 (class 0) (construct 1 (int_arg 1 no_more)) ∷ return_object (construct 2 (by_reference (variable 0) no_more)) ∷ [])
    ∷ [])

copies_are_typed : is_typed_program (record {
  functions = called (main_signature ∷ on 0 (an int ∷ []) ∷ on 0 (an (class 0) ∷ []) ∷ on 0 [] ∷ of [] (types_of.class_result 0) ∷ []);
  function_types = [];
  globals = [];
  layouts = types_of.made_class (int_leaf ∷ []) ∷ [];
  heights = 0 ∷ [];
}) copies_count ≡ true
unfolding computing
copies_are_typed = refl

-- struct T { int v; T(int n) : v(n) { putchar('T'); } ~T() { putchar('t'); } }; struct U { ~U() { putchar('u'); } };
-- struct P { ~P() { putchar('p'); } }; bool say(char c) { putchar(c); return true; }
-- T f(P p) post(say('!')) { U u; return T(1); } int main() { P p; T x = f(p); return x.v; }
abbrev speaks : Program
speaks = program_of (class_of_one (codes "T") int None 10 2 ∷ empty_class (codes "U") 3 11 4 ∷ empty_class (codes "P") 5 6 7 ∷ []) (
    main_of (
    variable_declaration 0 (class 2) (construct 5 no_more)
    ∷ variable_declaration 1 (class 0) (result_of 9 (by_value (class 2) (construct 6 (by_reference (variable 0) no_more)) no_more))
    ∷ return_value (read_int (member 0 (variable 1))) ∷ [])
    ∷ constructor_of (int_field 0 (read_variable 1) ∷ []) (say 84 ∷ [])
    ∷ destructor_of 0 (say 116 ∷ [])
    ∷ constructs 1
    ∷ destructor_of 1 (say 117 ∷ [])
    ∷ constructs 2
    ∷ copies 2
    ∷ destructor_of 2 (say 112 ∷ [])
    ∷ function_of scalar_value (does (putchar (read_char (variable 0))) ∷ return_value (lit 1) ∷ [])
    ∷ checked_function (class_object 0) (post (check (assertion Post (codes "f#post1") 5 10 (codes "say ( '!' )")) Enforce 1 (as_is (call 8 (by_value char (value (lit 33)) no_more))) ∷ []))
    (variable_declaration 1 (class 1) (construct 3 no_more) ∷ return_object (construct 1 (int_arg 1 no_more)) ∷ [])
    ∷ copies 0 ∷ copies 1
    ∷ [])

classes_are_typed : is_typed_program (record {
  functions = called (
      main_signature ∷ on 0 (an int ∷ []) ∷ on 0 [] ∷ on 1 [] ∷ on 1 [] ∷ on 2 [] ∷ on 2 (an (class 2) ∷ []) ∷ on 2 [] ∷ of (an char ∷ []) (types_of.scalar_result (scalar scalars.Bool))
      ∷ of (an (class 2) ∷ []) (types_of.class_result 0) ∷ on 0 (an (class 0) ∷ []) ∷ on 1 (an (class 1) ∷ []) ∷ []);
  function_types = [];
  globals = [];
  layouts = types_of.made_class (int_leaf ∷ []) ∷ types_of.made_class (types_of.no_value ∷ []) ∷ types_of.made_class (types_of.no_value ∷ []) ∷ [];
  heights = 0 ∷ 0 ∷ 0 ∷ [];
}) speaks ≡ true
unfolding computing
classes_are_typed = refl

-- struct A { int v; A* p; }; struct B { A a; int w; }; int main(){ B b = B(); B c = b; return c.a.v + c.w; }
abbrev nested : Class
nested = record {
  name = codes "B";
  fields = record { leaf = 0; type = class 0 } ∷ record { leaf = 2; type = int } ∷ [];
  leaves = number_leaf ∷ pointer_leaf ∷ number_leaf ∷ [];
  objects = 2;
  default_constructor = Some 4;
  copy_constructor = 5;
  destructor = 6;
}

abbrev inner : Class
inner = record {
  name = codes "A";
  fields = record { leaf = 0; type = int } ∷ record { leaf = 1; type = pointer (class 0) } ∷ [];
  leaves = number_leaf ∷ pointer_leaf ∷ [];
  objects = 1;
  default_constructor = Some 1;
  copy_constructor = 2;
  destructor = 3;
}

-- the height of B is above that of A
abbrev nested_with : List ℕ → Declared
nested_with heights = record {
  functions = called (main_signature ∷ on 0 [] ∷ on 0 (an (class 0) ∷ []) ∷ on 0 [] ∷ on 1 [] ∷ on 1 (an (class 1) ∷ []) ∷ on 1 [] ∷ []);
  function_types = [];
  globals = [];
  layouts = types_of.made_class (int_leaf ∷ types_of.pointer_leaf (class 0) ∷ []) ∷ types_of.made_class (int_leaf ∷ types_of.pointer_leaf (class 0) ∷ int_leaf ∷ []) ∷ [];
  heights = heights;
}

abbrev nested_program : Program
nested_program = program_of (inner ∷ nested ∷ []) (
    main_of (
    variable_declaration 0 (class 1) (zero_first 1 (construct 4 no_more))
    ∷ variable_declaration 1 (class 1) (construct 5 (by_reference (variable 0) no_more))
    ∷ return_value (as_is (ints Add (read_int (member 0 (member 0 (variable 1)))) (read_int (member 2 (variable 1))))) ∷ [])
    ∷ constructs 0 ∷ copies 0 ∷ destroys 0 ∷ constructs 1 ∷ copies 1 ∷ destroys 1
    ∷ [])

implicit_functions_are_typed : is_typed_program (nested_with (0 ∷ 1 ∷ [])) nested_program ≡ true
unfolding computing
implicit_functions_are_typed = refl

-- with heights that don't rise the implicit calls could go on without end
heights_must_rise : is_typed_program (nested_with (0 ∷ 0 ∷ [])) nested_program ≡ false
unfolding computing
heights_must_rise = refl

-- struct E { int c; E(int n) : c(n) {} }; with a handler by reference, one by value, one for `int`, and `throw;`
abbrev exceptions : Program
exceptions = program_of (class_of_one (codes "E") int None 3 2 ∷ []) (
    main_of (
    variable_declaration 0 int (value (lit 7))
    ∷ try (list (
    try (list (if_else (as_is (ints Equal (read_variable 0) (lit 7))) (throw (class 0) (construct 1 (int_arg 9 no_more))) (throw int (value (read_variable 0))) ∷ []))
    (catch (class 0) (reference 1) (list (does (member 0 (variable 1)) ∷ rethrow ∷ []))
    (catch int (object 1 true (value (read_int exception_object))) (list (return_value (read_variable 1) ∷ [])) none)) ∷ []))
    (catch (class 0) (object 1 true (construct 3 (by_reference exception_object no_more))) (list (return_value (read_int (member 0 (variable 1))) ∷ []))
    (catch_all (list []) none))
    ∷ return_value (lit 0) ∷ [])
    ∷ constructor_of (int_field 0 (read_variable 1) ∷ []) []
    ∷ destroys 0 ∷ copies 0
    ∷ [])

exceptions_are_typed : is_typed_program (record {
  functions = called (main_signature ∷ on 0 (an int ∷ []) ∷ on 0 [] ∷ on 0 (an (class 0) ∷ []) ∷ []);
  function_types = [];
  globals = [];
  layouts = types_of.made_class (int_leaf ∷ []) ∷ [];
  heights = 0 ∷ [];
}) exceptions ≡ true
unfolding computing
exceptions_are_typed = refl

-- int f(const int x) pre(x > 0) post(r : r > x) { return x + 1; } int& first(int& a, int* p) { return a; }
-- void handle_contract_violation(const std::contracts::contract_violation& v) { unsigned l = v.location().line(); puts(v.comment()); }
-- int main(){ int (*p)(int) = f; int k = (*p)(4); int& r = first(k, &k); r = *&r + f(2); r += 3; return k; }
abbrev pointers : Program
pointers = record (program_of [] (
    main_of (
    variable_declaration 0 (function_pointer 0) (value (as_is (function_name 1)))
    ∷ variable_declaration 1 int (value (as_is (call_through scalar_result (operand (Some (function_pointer 0)) None (variable 0)) (int_arg 4 no_more))))
    ∷ reference_declaration 2 (call 2 (by_reference (variable 1) (by_value (pointer int) (value (as_is (variable 1))) no_more)))
    ∷ does (tree.assign (variable 2) (as_is (ints Add (read_int (indirection (as_is (variable 2)))) (as_is (call 1 (int_arg 2 no_more))))))
    ∷ does (tree.compound_assign Add types.Int types.Int (variable 2) (lit 3))
    ∷ return_value (read_variable 1) ∷ [])
    ∷ checked_function scalar_object (record {
      preconditions = check (assertion Pre (codes "f#pre1") 1 20 (codes "x > 0")) Enforce 2 (as_is (ints Greater (read_variable 0) (lit 0))) ∷ [];
      postconditions = check (assertion Post (codes "f#post1") 1 31 (codes "r > x")) Enforce 2 (as_is (ints Greater (read_int result_name) (read_variable 0))) ∷ [];
    }) (return_value (as_is (ints Add (read_variable 0) (lit 1))) ∷ [])
    ∷ function_of reference_kind (return_reference (variable 0) ∷ [])
    ∷ handler_of (
    variable_declaration 1 (scalar scalars.Unsigned) (value (as_is (tree.query queries.Line (variable 0))))
    ∷ does (tree.puts_comment (variable 0)) ∷ [])
    ∷ [])) { handler = Some 3 }

abbrev pointers_with : ObjectType → Declared
pointers_with pointed = record {
  functions = called (main_signature ∷ of (an int ∷ []) (types_of.scalar_result int) ∷ of (an int ∷ an (pointer pointed) ∷ []) (types_of.reference_result int) ∷ of (types_of.report ∷ []) types_of.no_result ∷ []);
  function_types = of (an int ∷ []) (types_of.scalar_result int) ∷ [];
  globals = [];
  layouts = [];
  heights = [];
}

pointers_are_typed : is_typed_program (pointers_with int) pointers ≡ true
unfolding computing
pointers_are_typed = refl

-- the address of an `int` is no pointer to `char`
other_pointers_are_not : is_typed_program (pointers_with char) pointers ≡ false
unfolding computing
other_pointers_are_not = refl

-- struct T { int v; T(int n) : v(n) {} }; struct U {}; T f(int n) { return T(n); } int main(){ T (*p)(int) = f; return p(5).v; }
-- where what the call gives is taken to be of the class with this number
abbrev temporaries : (class : ℕ) → Program
temporaries c = program_of (class_of_one (codes "T") int None 2 3 ∷ empty_class (codes "U") 5 6 7 ∷ []) (
    main_of (
    variable_declaration 0 (function_pointer 0) (value (as_is (function_name 4)))
    ∷ return_value (read_int (member 0 (temporary_through c (operand (Some (function_pointer 0)) None (variable 0)) (int_arg 5 no_more)))) ∷ [])
    ∷ constructor_of (int_field 0 (read_variable 1) ∷ []) []
    ∷ copies 0 ∷ destroys 0
    ∷ function_of (class_object 0) (return_object (construct 1 (by_value int (value (read_variable 0)) no_more)) ∷ [])
    ∷ constructs 1 ∷ copies 1 ∷ destroys 1
    ∷ [])

abbrev temporaries_declared : Declared
temporaries_declared = record {
  functions = called (
      main_signature ∷ on 0 (an int ∷ []) ∷ on 0 (an (class 0) ∷ []) ∷ on 0 [] ∷ of (an int ∷ []) (types_of.class_result 0)
      ∷ on 1 [] ∷ on 1 (an (class 1) ∷ []) ∷ on 1 [] ∷ []);
  function_types = of (an int ∷ []) (types_of.class_result 0) ∷ [];
  globals = [];
  layouts = types_of.made_class (int_leaf ∷ []) ∷ types_of.made_class (types_of.no_value ∷ []) ∷ [];
  heights = 0 ∷ 0 ∷ [];
}

temporaries_are_typed : is_typed_program temporaries_declared (temporaries 0) ≡ true
unfolding computing
temporaries_are_typed = refl

-- a `T` is no `U`
other_temporaries_are_not : is_typed_program temporaries_declared (temporaries 1) ≡ false
unfolding computing
other_temporaries_are_not = refl

-- int main(){ int& r = r; return r; }, in which `r` denotes nothing
reference_to_itself : is_typed_program (record { functions = called (main_signature ∷ []); function_types = []; globals = []; layouts = []; heights = [] })
    (program_of [] (main_of (reference_declaration 0 (variable 0) ∷ return_value (read_variable 0) ∷ []) ∷ [])) ≡ true
unfolding computing
reference_to_itself = refl

-- int main(){ return nullptr; }, which the meaning would make a wrong result of
null_is_no_status : is_typed_program (record { functions = called (main_signature ∷ []); function_types = []; globals = []; layouts = []; heights = [] })
    (program_of [] (main_of (return_value (as_is (literal tree.nullptr)) ∷ []) ∷ [])) ≡ false
unfolding computing
null_is_no_status = refl
