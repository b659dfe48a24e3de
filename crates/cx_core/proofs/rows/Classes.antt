-- Objects of class type: constructors, destructors, copies, temporaries, zeroed and unset leaves, and when each object ends.
use Rattle.std.specs.Prelude.{refl, List, [], ◌∷◌, Some, None, pos, codes}
use Rattle.cx_core.specs.declared.number.BinaryOperator.TheVariants.{Add}
use Rattle.cx_core.specs.Words.{Post, Definer, Enforce, Holds, Returned, Undefined, Unset, Dead}
use Rattle.cx_core.specs.Tree.{class, pointer, variable, indirection, member, call, temporary, putchar, value, construct, zero_first, result_of, no_more, by_reference, by_value, Assertion, Stmt, variable_declaration, return_value, return_object, Check}
use Rattle.cx_core.specs.Program.{Program, Class, number_leaf, pointer_leaf, scalar_value, class_object}
use Rattle.cx_core.specs.Event.{out, begin, verdict, destroyed}
use Rattle.cx_core.specs.Meaning.{running}
use Rattle.cx_core.specs.Runs.{IsRun}
use Rattle.cx_core.proofs.rows.Writing.{int, char, lit, as_is, read_int, read_char, read_variable, ints, int_arg, say, assertion, check, evaluation_of, post, main_of, function_of, checked_function, constructor_of, destructor_of, constructs, copies, destroys, int_field, class_of_one, empty_class, program_of, does}

-- struct T { int v; T(int n) : v(n) {} T(const T& o) : v(o.v + 1) {} };
-- T g() { T a(1); return a; } int main() { T b = g(); T c = b; return c.v; }
abbrev pub copies_count : Program
copies_count = program_of (class_of_one (codes "T") int None 2 3 ∷ []) (
    main_of (
    variable_declaration 0 (class 0) (result_of 4 no_more)
    ∷ variable_declaration 1 (class 0) (construct 2 (by_reference (variable 0) no_more))
    ∷ return_value (read_int (member 0 (variable 1))) ∷ [])
    ∷ constructor_of (int_field 0 (read_variable 1) ∷ []) []
    ∷ constructor_of (int_field 0 (as_is (ints Add (read_int (member 0 (variable 1))) (lit 1))) ∷ []) []
    ∷ destroys 0
    ∷ function_of (class_object 0) (variable_declaration 0 (class 0) (construct 1 (int_arg 1 no_more)) ∷ return_object (construct 2 (by_reference (variable 0) no_more)) ∷ [])
    ∷ [])

-- the numbers: `b` 1, `a` 2, the parameter `n` 3, `c` 4
pub returned_variable_is_copied_once :
    IsRun copies_count [] (destroyed (codes "T") 2 0 ∷ destroyed (codes "T") 4 0 ∷ destroyed (codes "T") 1 0 ∷ []) (Returned (pos 3)) 99
unfolding running
returned_variable_is_copied_once = refl

-- struct S { int a; }; with int main(){ return S().a; } and int main(){ S s; return s.a; }
abbrev pub of_plain_class : List (Stmt Check) → Program
of_plain_class body = program_of (class_of_one (codes "S") int (Some 1) 3 2 ∷ []) (main_of body ∷ constructs 0 ∷ destroys 0 ∷ copies 0 ∷ [])

pub value_initialised_temporary_is_zeroed :
    IsRun (of_plain_class (return_value (read_int (member 0 (temporary (class 0) (zero_first 0 (construct 1 no_more))))) ∷ [])) [] (destroyed (codes "S") 1 0 ∷ []) (Returned (pos 0)) 99
unfolding running
value_initialised_temporary_is_zeroed = refl

pub variable_without_initialiser_is_unset :
    IsRun (of_plain_class (variable_declaration 0 (class 0) (construct 1 no_more) ∷ return_value (read_int (member 0 (variable 0))) ∷ [])) [] [] (Undefined Unset) 99
unfolding running
variable_without_initialiser_is_unset = refl

-- S s; S t = s; return 4;
pub unset_leaf_is_copied_as_it_is :
    IsRun (of_plain_class (
    variable_declaration 0 (class 0) (construct 1 no_more)
    ∷ variable_declaration 1 (class 0) (construct 3 (by_reference (variable 0) no_more))
    ∷ return_value (lit 4) ∷ [])) [] (destroyed (codes "S") 2 0 ∷ destroyed (codes "S") 1 0 ∷ []) (Returned (pos 4)) 99
unfolding running
unset_leaf_is_copied_as_it_is = refl

-- struct T { int v; T(int n) : v(n) { putchar('T'); } ~T() { putchar('t'); } }; struct U { ~U() { putchar('u'); } };
-- struct P { ~P() { putchar('p'); } }; bool say(char c) { putchar(c); return true; }
-- T f(P p) post(say('!')) { U u; return T(1); } int main() { P p; T x = f(p); return x.v; }
abbrev pub says : Assertion
says = assertion Post (codes "f#post1") 5 10 (codes "say ( '!' )")

abbrev pub speaks : Program
speaks = program_of (class_of_one (codes "T") int None 10 2 ∷ empty_class (codes "U") 3 10 4 ∷ empty_class (codes "P") 5 6 7 ∷ []) (
    main_of (
    variable_declaration 0 (class 2) (construct 5 no_more)
    ∷ variable_declaration 1 (class 0) (result_of 9 (by_value (class 2) (construct 6 (by_reference (variable 0) no_more)) no_more))
    ∷ return_value (read_int (member 0 (variable 1))) ∷ [])
    ∷ constructor_of (int_field 0 (read_variable 1) ∷ []) (say 84 ∷ [])
    ∷ destructor_of 0 (say 116 ∷ [])
    ∷ constructs 1
    ∷ destructor_of 1 (say 117 ∷ [])
    ∷ constructs 2
    ∷ copies 2
    ∷ destructor_of 2 (say 112 ∷ [])
    ∷ function_of scalar_value (does (putchar (read_char (variable 0))) ∷ return_value (lit 1) ∷ [])
    ∷ checked_function (class_object 0) (post (check says Enforce 1 (as_is (call 8 (by_value char (value (lit 33)) no_more))) ∷ []))
    (variable_declaration 1 (class 1) (construct 3 no_more) ∷ return_object (construct 1 (int_arg 1 no_more)) ∷ [])
    ∷ [])

pub postcondition_stands_between_locals_and_parameters :
    IsRun speaks [] (
    out 84 ∷ out 117 ∷ destroyed (codes "U") 4 0
    ∷ begin (evaluation_of says Definer Enforce) ∷ out 33 ∷ verdict Holds
    ∷ out 112 ∷ destroyed (codes "P") 3 0 ∷ out 116 ∷ destroyed (codes "T") 2 0 ∷ out 112 ∷ destroyed (codes "P") 1 0
    ∷ []) (Returned (pos 1)) 99
unfolding running
postcondition_stands_between_locals_and_parameters = refl

-- struct A { int v; A* p; }; struct B { A a; int w; }; int main(){ B b = B(); B c = b; return c.a.v + c.w; }
abbrev pub nested : Class
nested = record {
  name = codes "B";
  fields = record { leaf = 0; type = class 0 } ∷ record { leaf = 2; type = int } ∷ [];
  leaves = number_leaf ∷ pointer_leaf ∷ number_leaf ∷ [];
  objects = 2;
  default_constructor = Some 4;
  copy_constructor = 5;
  destructor = 6;
}

abbrev pub inner : Class
inner = record {
  name = codes "A";
  fields = record { leaf = 0; type = int } ∷ record { leaf = 1; type = pointer int } ∷ [];
  leaves = number_leaf ∷ pointer_leaf ∷ [];
  objects = 1;
  default_constructor = Some 1;
  copy_constructor = 2;
  destructor = 3;
}

pub class_fields_are_zeroed_copied_and_destroyed :
    IsRun (program_of (inner ∷ nested ∷ []) (
    main_of (
    variable_declaration 0 (class 1) (zero_first 1 (construct 4 no_more))
    ∷ variable_declaration 1 (class 1) (construct 5 (by_reference (variable 0) no_more))
    ∷ return_value (as_is (ints Add (read_int (member 0 (member 0 (variable 1)))) (read_int (member 2 (variable 1))))) ∷ [])
    ∷ constructs 0 ∷ copies 0 ∷ destroys 0 ∷ constructs 1 ∷ copies 1 ∷ destroys 1
    ∷ [])) [] (
    destroyed (codes "A") 2 0 ∷ destroyed (codes "B") 2 0 ∷ destroyed (codes "A") 1 0 ∷ destroyed (codes "B") 1 0 ∷ []) (Returned (pos 0)) 99
unfolding running
class_fields_are_zeroed_copied_and_destroyed = refl

-- S* lost() { S s; return &s; } int main(){ lost()->a; return 0; }
pub member_of_an_object_that_has_ended :
    IsRun (program_of (class_of_one (codes "S") int (Some 1) 3 2 ∷ []) (
    main_of (does (member 0 (indirection (as_is (call 4 no_more)))) ∷ return_value (lit 0) ∷ [])
    ∷ constructs 0 ∷ destroys 0 ∷ copies 0
    ∷ function_of scalar_value (variable_declaration 0 (class 0) (construct 1 no_more) ∷ return_value (as_is (variable 0)) ∷ [])
    ∷ [])) [] (destroyed (codes "S") 1 0 ∷ []) (Undefined Dead) 99
unfolding running
member_of_an_object_that_has_ended = refl
