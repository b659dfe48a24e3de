-- Exceptions: what they destroy on their way, what holds them, and the edges that they can't pass.
use Rattle.std.specs.Prelude.{refl, true, [], ◌∷◌, Some, None, pos, codes}
use Rattle.cx_core.specs.declared.number.IntegerType.TheVariants as types
use Rattle.cx_core.specs.declared.number.BinaryOperator.TheVariants.{Add, Equal}
use Rattle.cx_core.specs.Words.{Returned, Terminated}
use Rattle.cx_core.specs.Tree.{class, number, literal, variable, exception_object, member, call, putchar, operand, value, construct, no_more, by_reference, by_value, reference, object, empty, variable_declaration, if_else, return_value, throw, rethrow, try, none, catch, catch_all}
use Rattle.cx_core.specs.Program.{Program, Class, number_leaf, void}
use Rattle.cx_core.specs.Event.{Event, out, destroyed}
use Rattle.cx_core.specs.Event as event
use Rattle.cx_core.specs.Meaning.{running}
use Rattle.cx_core.specs.Runs.{IsRun}
use Rattle.cx_core.proofs.rows.Writing.{caught_int, int, char, lit, as_is, read_int, read_char, read_variable, ints, int_arg, own, say, list, main_of, function_of, constructor_of, destructor_of, constructs, destroys, int_field, class_of_one, empty_class, program_of, does}

-- struct E { int c; E(int n) : c(n) {} };
-- struct M { char n; M(char k) : n(k) { if (k == 'c') throw E(9); } ~M() { putchar(n); } };
-- struct W { M a; M b; M c; W() : a('a'), b('b'), c('c') {} ~W() { putchar('W'); } };
-- int main() { try { W w; } catch (const E& e) { return e.c; } return 0; }
abbrev pub of_three : Class
of_three = record {
  name = codes "W";
  fields = record { leaf = 0; type = class 1 } ∷ record { leaf = 1; type = class 1 } ∷ record { leaf = 2; type = class 1 } ∷ [];
  leaves = number_leaf ∷ number_leaf ∷ number_leaf ∷ [];
  objects = 4;
  default_constructor = Some 5;
  copy_constructor = 7;
  destructor = 6;
}

abbrev pub third_field_throws : Program
third_field_throws = program_of (class_of_one (codes "E") int None 7 2 ∷ class_of_one (codes "M") char None 7 4 ∷ of_three ∷ []) (
    main_of (
    try (list (variable_declaration 0 (class 2) (construct 5 no_more) ∷ [])) (catch (class 0) (reference 1) (list (return_value (read_int (member 0 (variable 1))) ∷ [])) none)
    ∷ return_value (lit 0) ∷ [])
    ∷ constructor_of (int_field 0 (read_variable 1) ∷ []) []
    ∷ destroys 0
    ∷ constructor_of (record { leaf = 0; type = char; init = value (operand (Some char) None (variable 1)) } ∷ [])
    (if_else (as_is (ints Equal (read_char (variable 1)) (operand None (Some types.Int) (literal (number (pos 99)))))) (throw (class 0) (construct 1 (int_arg 9 no_more))) empty ∷ [])
    ∷ destructor_of 1 (does (putchar (read_char (own 0))) ∷ [])
    ∷ constructor_of (
    record { leaf = 0; type = class 1; init = construct 3 (by_value char (value (lit 97)) no_more) }
    ∷ record { leaf = 1; type = class 1; init = construct 3 (by_value char (value (lit 98)) no_more) }
    ∷ record { leaf = 2; type = class 1; init = construct 3 (by_value char (value (lit 99)) no_more) }
    ∷ []) []
    ∷ destructor_of 2 (say 87 ∷ [])
    ∷ [])

-- the numbers: `w` 1, the parameters `k` 2 to 4, the exception object 5
pub constructed_fields_are_destroyed_in_reverse :
    IsRun third_field_throws [] (
    event.throw (codes "E") ∷ out 98 ∷ destroyed (codes "M") 1 1 ∷ out 97 ∷ destroyed (codes "M") 1 0
    ∷ event.catch (codes "E") ∷ destroyed (codes "E") 5 0 ∷ []) (Returned (pos 9)) 99
unfolding running
constructed_fields_are_destroyed_in_reverse = refl

-- struct E { E() {} E(const E& o) { throw 1; } };
-- int main() { try { try { throw E(); } catch (E e) {} } catch (int) { return 3; } return 0; }
pub copy_into_a_catch_parameter_has_an_edge :
    IsRun (program_of (empty_class (codes "E") 1 2 3 ∷ []) (
    main_of (
    try (list (try (list (throw (class 0) (construct 1 no_more) ∷ [])) (catch (class 0) (object 0 true (construct 2 (by_reference exception_object no_more))) (list []) none) ∷ []))
    (catch int caught_int (list (return_value (lit 3) ∷ [])) none)
    ∷ return_value (lit 0) ∷ [])
    ∷ constructor_of [] []
    ∷ constructor_of [] (throw int (value (lit 1)) ∷ [])
    ∷ destroys 0
    ∷ [])) [] (event.throw (codes "E") ∷ event.catch (codes "E") ∷ event.throw (codes "int") ∷ []) Terminated 99
unfolding running
copy_into_a_catch_parameter_has_an_edge = refl

-- int main(){ throw; }
pub nothing_to_rethrow : IsRun (program_of [] (main_of (rethrow ∷ []) ∷ [])) [] [] Terminated 99
unfolding running
nothing_to_rethrow = refl

-- struct U { ~U() { putchar('u'); } }; void f() noexcept { U u; throw 1; } int main(){ f(); return 0; }
pub noexcept_edge_ends_what_lies_inside :
    IsRun (program_of (empty_class (codes "U") 2 4 3 ∷ []) (
    main_of (does (call 1 no_more) ∷ return_value (lit 0) ∷ [])
    ∷ record (function_of void (variable_declaration 0 (class 0) (construct 2 no_more) ∷ throw int (value (lit 1)) ∷ [])) { noexcept = true }
    ∷ constructs 0
    ∷ destructor_of 0 (say 117 ∷ [])
    ∷ [])) [] (event.throw (codes "int") ∷ out 117 ∷ destroyed (codes "U") 1 0 ∷ []) Terminated 99
unfolding running
noexcept_edge_ends_what_lies_inside = refl

-- struct U { ~U() { throw 1; } }; int main(){ try { U u; } catch (...) {} return 0; }
pub destructor_has_an_edge :
    IsRun (program_of (empty_class (codes "U") 1 3 2 ∷ []) (
    main_of (try (list (variable_declaration 0 (class 0) (construct 1 no_more) ∷ [])) (catch_all (list []) none) ∷ return_value (lit 0) ∷ [])
    ∷ constructs 0
    ∷ destructor_of 0 (throw int (value (lit 1)) ∷ [])
    ∷ [])) [] (event.throw (codes "int") ∷ []) Terminated 99
unfolding running
destructor_has_an_edge = refl

-- int main(){ try { try { throw 1; } catch (int) { throw; } } catch (int e) { return e + 1; } }
pub rethrown_exception_is_caught_again :
    IsRun (program_of [] (
    main_of (
    try (list (try (list (throw int (value (lit 1)) ∷ [])) (catch int caught_int (list (rethrow ∷ [])) none) ∷ []))
    (catch int (object 0 true (value (read_int exception_object))) (list (return_value (as_is (ints Add (read_variable 0) (lit 1))) ∷ [])) none)
    ∷ [])
    ∷ [])) [] (event.throw (codes "int") ∷ event.catch (codes "int") ∷ event.throw (codes "int") ∷ event.catch (codes "int") ∷ []) (Returned (pos 2)) 99
unfolding running
rethrown_exception_is_caught_again = refl

-- int main(){ try { throw 'a'; } catch (int) { return 1; } catch (...) { return 2; } }
pub handlers_match_the_very_type :
    IsRun (program_of [] (
    main_of (
    try (list (throw char (value (lit 97)) ∷ [])) (catch int caught_int (list (return_value (lit 1) ∷ [])) (catch_all (list (return_value (lit 2) ∷ [])) none))
    ∷ [])
    ∷ [])) [] (event.throw (codes "char") ∷ event.catch (codes "char") ∷ []) (Returned (pos 2)) 99
unfolding running
handlers_match_the_very_type = refl

-- int main(){ throw 1; }
pub nothing_catches_it : IsRun (program_of [] (main_of (throw int (value (lit 1)) ∷ []) ∷ [])) [] (event.throw (codes "int") ∷ []) Terminated 99
unfolding running
nothing_catches_it = refl
