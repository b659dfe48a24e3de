-- Pointers to functions: calls through them, null ones, comparison; and values that are discarded.
use Rattle.std.specs.Prelude.{refl, ℕ, List, [], ◌∷◌, ◌++◌, Some, None, pos, codes}
use Rattle.cx_core.specs.declared.number.IntegerType.TheVariants as types
use Rattle.cx_core.specs.declared.number.BinaryOperator.TheVariants.{Add, Greater, Equal, NotEqual}
use Rattle.cx_core.specs.Words.{Pre, Post, Party, Definer, Caller, Enforce, Holds, Returned, Undefined, Null, Unset}
use Rattle.cx_core.specs.Tree.{function_pointer, class, scalar_result, nullptr, literal, variable, function_name, result_name, call, call_through, temporary_through, conditional, logical_and, putchar, member, binary, Operand, operand, value, construct, result_through, no_more, by_value, Assertion, Stmt, expression, variable_declaration, return_value, return_object, throw, try, none, catch, Check}
use Rattle.cx_core.specs.Program.{Program, Function, scalar_object, scalar_value, void, class_object}
use Rattle.cx_core.specs.Event.{Event, out, begin, verdict, destroyed}
use Rattle.cx_core.specs.Event as event
use Rattle.cx_core.specs.Meaning.{running}
use Rattle.cx_core.specs.Runs.{IsRun}
use Rattle.cx_core.proofs.rows.Writing.{caught_int, int, lit, list, does, as_is, read_int, read_variable, ints, int_arg, say, assertion, check, evaluation_of, main_of, function_of, checked_function, constructor_of, destructor_of, constructs, copies, destroys, int_field, class_of_one, program_of}

-- a variable that points to a function, and its value
abbrev pub points : (slot : ℕ) → Operand → Stmt Check
points slot a = variable_declaration slot (function_pointer 0) (value a)

abbrev pub pointed : (slot : ℕ) → Operand
pointed slot = operand (Some (function_pointer 0)) None (variable slot)

abbrev pub names : ℕ → Operand
names f = as_is (function_name f)

-- ---- int f(const int x) pre(x > 0) post(r : r > x) { return x + 1; }, all checked once and repeated once by both parties

abbrev pub positive : Assertion
positive = assertion Pre (codes "f#pre1") 1 20 (codes "x > 0")

abbrev pub more : Assertion
more = assertion Post (codes "f#post1") 1 31 (codes "r > x")

abbrev pub both_twice : Rattle.cx_core.specs.Program.Checks
both_twice = record {
  preconditions = check positive Enforce 2 (as_is (ints Greater (read_variable 0) (lit 0))) ∷ [];
  postconditions = check more Enforce 2 (as_is (ints Greater (read_int result_name) (read_variable 0))) ∷ [];
}

abbrev pub with_f : List (Stmt Check) → Program
with_f body = record (program_of [] (main_of body ∷ checked_function scalar_object both_twice (return_value (as_is (ints Add (read_variable 0) (lit 1))) ∷ []) ∷ []))
    { callers = (record { preconditions = []; postconditions = [] } ∷ both_twice ∷ []) ∷ [] }

abbrev pub held : Assertion → Party → List Event
held a party = begin (evaluation_of a party Enforce) ∷ verdict Holds ∷ []

abbrev pub held_twice : Assertion → Party → List Event
held_twice a party = held a party ++ held a party

-- int main(){ int (*p)(int) = f; return (*p)(4); }
pub a_call_through_a_pointer_has_the_definer_alone :
    IsRun (with_f (points 0 (names 1) ∷ return_value (as_is (call_through scalar_result (pointed 0) (int_arg 4 no_more))) ∷ []))
    [] (held_twice positive Definer ++ held_twice more Definer) (Returned (pos 5)) 99
unfolding running
a_call_through_a_pointer_has_the_definer_alone = refl

-- int main(){ return f(4); }
pub a_call_by_name_has_both_parties :
    IsRun (with_f (return_value (as_is (call 1 (int_arg 4 no_more))) ∷ []))
    [] (held_twice positive Caller ++ (held_twice positive Definer ++ (held_twice more Definer ++ held_twice more Caller))) (Returned (pos 5)) 99
unfolding running
a_call_by_name_has_both_parties = refl

-- ---- null

-- int main(){ int (*p)(int) = nullptr; return p(putchar('a')); }
pub null_is_asked_behind_the_arguments :
    IsRun (with_f (
    points 0 (as_is (literal nullptr))
    ∷ return_value (as_is (call_through scalar_result (pointed 0) (by_value int (value (as_is (putchar (lit 97)))) no_more))) ∷ []))
    [] (out 97 ∷ []) (Undefined Null) 99
unfolding running
null_is_asked_behind_the_arguments = refl

-- int main(){ int (*p)(int) = f; int (*q)(int) = nullptr; return p == f && p != q ? (p && !q) + 2 : 0; }
pub pointers_to_functions_compare :
    IsRun (with_f (
    points 0 (names 1) ∷ points 1 (as_is (literal nullptr))
    ∷ return_value (as_is (conditional
    (as_is (logical_and
    (as_is (binary Equal types.Int (pointed 0) (names 1)))
    (as_is (binary NotEqual types.Int (pointed 0) (pointed 1)))))
    (lit 3) (lit 0)))
    ∷ [])) [] [] (Returned (pos 3)) 99
unfolding running
pointers_to_functions_compare = refl

-- ---- a class result: struct C { int n; C(int k) : n(k) {} ~C() { putchar('c'); } }; C make(int k) { return C(k); }

abbrev pub with_make : (main : List (Stmt Check)) → (others : List Function) → Program
with_make main others = program_of (class_of_one (codes "C") int None 2 3 ∷ []) (
    main_of main
    ∷ constructor_of (int_field 0 (read_variable 1) ∷ []) []
    ∷ copies 0
    ∷ destructor_of 0 (say 99 ∷ [])
    ∷ function_of (class_object 0) (return_object (construct 1 (by_value int (value (read_variable 0)) no_more)) ∷ [])
    ∷ others)

-- int main(){ C (*p)(int) = make; C c = p(7); return c.n; }
pub a_class_result_is_what_it_initialises :
    IsRun (with_make (
    points 0 (names 4)
    ∷ variable_declaration 1 (class 0) (result_through (pointed 0) (int_arg 7 no_more))
    ∷ return_value (read_int (member 0 (variable 1))) ∷ []) [])
    [] (out 99 ∷ destroyed (codes "C") 2 0 ∷ []) (Returned (pos 7)) 99
unfolding running
a_class_result_is_what_it_initialises = refl

-- C (*pick(int))(int) { return make; } int main(){ return pick(0)(7).n; }
-- the parameter of `pick` is object 1, and the temporary is made behind it
pub a_pointer_is_evaluated_before_a_temporary_is_made :
    IsRun (with_make (
    return_value (read_int (member 0 (temporary_through 0 (as_is (call 5 (int_arg 0 no_more))) (int_arg 7 no_more)))) ∷ [])
    (function_of scalar_value (return_value (names 4) ∷ []) ∷ []))
    [] (out 99 ∷ destroyed (codes "C") 2 0 ∷ []) (Returned (pos 7)) 99
unfolding running
a_pointer_is_evaluated_before_a_temporary_is_made = refl

-- int main(){ C (*p)(int) = make; putchar(p('a').n); putchar('b'); return 0; }
pub a_temporary_of_a_call_ends_with_the_full_expression :
    IsRun (with_make (
    points 0 (names 4)
    ∷ does (putchar (read_int (member 0 (temporary_through 0 (pointed 0) (int_arg 97 no_more)))))
    ∷ say 98
    ∷ return_value (lit 0) ∷ []) [])
    [] (out 97 ∷ out 99 ∷ destroyed (codes "C") 2 0 ∷ out 98 ∷ []) (Returned (pos 0)) 99
unfolding running
a_temporary_of_a_call_ends_with_the_full_expression = refl

-- int main(){ C (*p)(int) = nullptr; return p(putchar('a')).n; }
pub null_is_asked_behind_the_arguments_of_a_temporary :
    IsRun (with_make (
    points 0 (as_is (literal nullptr))
    ∷ return_value (read_int (member 0 (temporary_through 0 (pointed 0) (by_value int (value (as_is (putchar (lit 97)))) no_more)))) ∷ []) [])
    [] (out 97 ∷ []) (Undefined Null) 99
unfolding running
null_is_asked_behind_the_arguments_of_a_temporary = refl

-- int bad() { throw 7; } int main(){ C (*p)(int) = make; try { p(bad()); } catch (int) { return 3; } return 0; }
-- the temporary, object 2, isn't constructed yet, and so isn't destroyed
pub a_temporary_that_no_call_initialises_is_not_destroyed :
    IsRun (with_make (
    points 0 (names 4)
    ∷ try (list (does (temporary_through 0 (pointed 0) (by_value int (value (as_is (call 5 no_more))) no_more)) ∷ []))
    (catch int caught_int (list (return_value (lit 3) ∷ [])) none)
    ∷ return_value (lit 0) ∷ [])
    (function_of scalar_value (throw int (value (lit 7)) ∷ []) ∷ []))
    [] (event.throw (codes "int") ∷ event.catch (codes "int") ∷ []) (Returned (pos 3)) 99
unfolding running
a_temporary_that_no_call_initialises_is_not_destroyed = refl

-- ---- discarded values: struct S { int a; }; int main(){ S s; +s.a; return 0; }, and with s.a; in its place

abbrev pub with_s : Operand → Program
with_s a = program_of (class_of_one (codes "S") int (Some 1) 2 3 ∷ []) (
    main_of (variable_declaration 0 (class 0) (construct 1 no_more) ∷ expression a ∷ return_value (lit 0) ∷ [])
    ∷ constructs 0 ∷ copies 0 ∷ destroys 0 ∷ [])

pub what_is_no_lvalue_is_read : IsRun (with_s (read_int (member 0 (variable 0)))) [] [] (Undefined Unset) 99
unfolding running
what_is_no_lvalue_is_read = refl

pub an_lvalue_is_not_read : IsRun (with_s (as_is (member 0 (variable 0)))) [] (destroyed (codes "S") 1 0 ∷ []) (Returned (pos 0)) 99
unfolding running
an_lvalue_is_not_read = refl
