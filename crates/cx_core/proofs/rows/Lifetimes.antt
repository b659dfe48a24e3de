-- When parameters, temporaries, fields and half-made objects end.
use Rattle.std.specs.Prelude.{refl, true, List, [], ◌∷◌, Some, None, pos, codes}
use Rattle.cx_core.specs.declared.number.BinaryOperator.TheVariants.{Equal}
use Rattle.cx_core.specs.Words.{Pre, Post, Assert, Definer, Observe, Enforce, Holds, Threw, EvaluationException, Returned}
use Rattle.cx_core.specs.Tree.{class, variable, member, call, temporary, value, construct, no_more, by_reference, by_value, Assertion, variable_declaration, return_value, throw, try, none, catch}
use Rattle.cx_core.specs.Program.{Class, number_leaf, void, scalar_value}
use Rattle.cx_core.specs.Event.{Event, out, begin, verdict, handler, destroyed}
use Rattle.cx_core.specs.Event as event
use Rattle.cx_core.specs.Check.{violation_of}
use Rattle.cx_core.specs.Meaning.{running}
use Rattle.cx_core.specs.Runs.{IsRun}
use Rattle.cx_core.proofs.rows.Writing.{caught_int, int, lit, as_is, read_int, read_variable, ints, int_arg, say, list, assertion, check, evaluation_of, pre, post, main_of, function_of, checked_function, constructor_of, destructor_of, constructs, destroys, int_field, class_of_one, empty_class, program_of, does, asserts}

-- struct P { ~P() { putchar('p'); } }; struct T { int v; T(int n) : v(n) {} ~T() { putchar('t'); } };
abbrev pub p_and_t : List Class
p_and_t = empty_class (codes "P") 1 9 2 ∷ class_of_one (codes "T") int None 9 4 ∷ []

-- void h(int n, P p) {} int main() { h(T(1).v, P()); return 0; }
pub parameters_end_before_temporaries :
    IsRun (program_of p_and_t (
    main_of (
    does (call 5 (by_value int (value (read_int (member 0 (temporary (class 1) (construct 3 (int_arg 1 no_more)))))) (by_value (class 0) (construct 1 no_more) no_more)))
    ∷ return_value (lit 0) ∷ [])
    ∷ constructs 0 ∷ destructor_of 0 (say 112 ∷ [])
    ∷ constructor_of (int_field 0 (read_variable 1) ∷ []) [] ∷ destructor_of 1 (say 116 ∷ [])
    ∷ function_of void []
    ∷ [])) [] (out 112 ∷ destroyed (codes "P") 4 0 ∷ out 116 ∷ destroyed (codes "T") 2 0 ∷ []) (Returned (pos 0)) 99
unfolding running
parameters_end_before_temporaries = refl

-- void f(P p, int n) { putchar('f'); } int bad() { throw 7; }
-- int main() { try { f(P(), bad()); } catch (int) { return 3; } return 0; }
pub later_argument_throws :
    IsRun (program_of p_and_t (
    main_of (
    try (list (does (call 5 (by_value (class 0) (construct 1 no_more) (by_value int (value (as_is (call 6 no_more))) no_more))) ∷ []))
    (catch int caught_int (list (return_value (lit 3) ∷ [])) none)
    ∷ return_value (lit 0) ∷ [])
    ∷ constructs 0 ∷ destructor_of 0 (say 112 ∷ [])
    ∷ constructs 1 ∷ destroys 1
    ∷ function_of void (say 102 ∷ [])
    ∷ function_of scalar_value (throw int (value (lit 7)) ∷ [])
    ∷ [])) [] (event.throw (codes "int") ∷ out 112 ∷ destroyed (codes "P") 1 0 ∷ event.catch (codes "int") ∷ []) (Returned (pos 3)) 99
unfolding running
later_argument_throws = refl

-- struct E { E() { throw 7; } ~E() { putchar('e'); } }; int main() { try { P p; E e; } catch (int) { return 3; } return 0; }
pub half_made_object_is_not_destroyed :
    IsRun (program_of (empty_class (codes "P") 1 9 2 ∷ empty_class (codes "E") 3 9 4 ∷ []) (
    main_of (
    try (list (variable_declaration 0 (class 0) (construct 1 no_more) ∷ variable_declaration 1 (class 1) (construct 3 no_more) ∷ []))
    (catch int caught_int (list (return_value (lit 3) ∷ [])) none)
    ∷ return_value (lit 0) ∷ [])
    ∷ constructs 0 ∷ destructor_of 0 (say 112 ∷ [])
    ∷ constructor_of [] (throw int (value (lit 7)) ∷ []) ∷ destructor_of 1 (say 101 ∷ [])
    ∷ [])) [] (event.throw (codes "int") ∷ out 112 ∷ destroyed (codes "P") 1 0 ∷ event.catch (codes "int") ∷ []) (Returned (pos 3)) 99
unfolding running
half_made_object_is_not_destroyed = refl

-- bool say(..) as above; struct W { P p; W() {} ~W() post(say()) { putchar('W'); } }; int main() { W w; return 0; }
abbrev pub after_destruction : Assertion
after_destruction = assertion Post (codes "W::~W#post1") 2 30 (codes "say ( )")

abbrev pub with_p : Class
with_p = record {
  name = codes "W";
  fields = record { leaf = 0; type = class 0 } ∷ [];
  leaves = number_leaf ∷ [];
  objects = 2;
  default_constructor = Some 3;
  copy_constructor = 9;
  destructor = 4;
}

pub destructor_postcondition_comes_after_the_fields :
    IsRun (program_of (empty_class (codes "P") 1 9 2 ∷ with_p ∷ []) (
    main_of (variable_declaration 0 (class 1) (construct 3 no_more) ∷ return_value (lit 0) ∷ [])
    ∷ constructs 0 ∷ destructor_of 0 (say 112 ∷ [])
    ∷ constructor_of (record { leaf = 0; type = class 0; init = construct 1 no_more } ∷ []) []
    ∷ record (destructor_of 1 (say 87 ∷ [])) { checks = post (check after_destruction Enforce 1 (as_is (call 5 no_more)) ∷ []) }
    ∷ function_of scalar_value (say 33 ∷ return_value (lit 1) ∷ [])
    ∷ [])) [] (
    out 87 ∷ out 112 ∷ destroyed (codes "P") 1 0
    ∷ begin (evaluation_of after_destruction Definer Enforce) ∷ out 33 ∷ verdict Holds
    ∷ destroyed (codes "W") 1 0 ∷ []) (Returned (pos 0)) 99
unfolding running
destructor_postcondition_comes_after_the_fields = refl

-- bool bad() { throw 7; } void f() noexcept pre(bad()) {} int main() { f(); return 0; }, observed
abbrev pub bad_before : Assertion
bad_before = assertion Pre (codes "f#pre1") 1 42 (codes "bad ( )")

pub exception_of_a_predicate_does_not_reach_the_edge :
    IsRun (program_of [] (
    main_of (does (call 1 no_more) ∷ return_value (lit 0) ∷ [])
    ∷ record (checked_function void (pre (check bad_before Observe 1 (as_is (call 2 no_more)) ∷ [])) []) { noexcept = true }
    ∷ function_of scalar_value (throw int (value (lit 7)) ∷ [])
    ∷ [])) [] (
    begin (evaluation_of bad_before Definer Observe) ∷ event.throw (codes "int") ∷ verdict Threw ∷ handler (violation_of bad_before EvaluationException Observe) ∷ [])
    (Returned (pos 0)) 99
unfolding running
exception_of_a_predicate_does_not_reach_the_edge = refl

-- struct S { int f() { return 1; } int f() const { return 2; } }; int main(){ S s; contract_assert(s.f() == 2); return s.f(); }
abbrev pub const_member : Assertion
const_member = assertion Assert (codes "main#assert1") 1 80 (codes "s . f ( ) == 2")

pub predicate_names_the_const_member :
    IsRun (program_of (empty_class (codes "S") 1 9 2 ∷ []) (
    main_of (
    variable_declaration 0 (class 0) (construct 1 no_more)
    ∷ asserts (check const_member Enforce 1 (as_is (ints Equal (as_is (call 4 (by_reference (member 0 (variable 0)) no_more))) (lit 2))))
    ∷ return_value (as_is (call 3 (by_reference (member 0 (variable 0)) no_more))) ∷ [])
    ∷ constructs 0 ∷ destroys 0
    ∷ function_of scalar_value (return_value (lit 1) ∷ [])
    ∷ function_of scalar_value (return_value (lit 2) ∷ [])
    ∷ [])) [] (begin (evaluation_of const_member Definer Enforce) ∷ verdict Holds ∷ destroyed (codes "S") 1 0 ∷ []) (Returned (pos 1)) 99
unfolding running
predicate_names_the_const_member = refl
