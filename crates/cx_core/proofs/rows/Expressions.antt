-- Expressions, loops, references and pointers, and the points at which a run is undefined.
use Rattle.std.specs.Prelude.{refl, List, [], ◌∷◌, Some, None, pos}
use Rattle.cx_types.specs.declared.value_type.Scalar.TheVariants as scalars
use Rattle.cx_core.specs.declared.number.IntegerType.TheVariants as types
use Rattle.cx_core.specs.declared.number.BinaryOperator.TheVariants.{Add, Subtract, Divide, ShiftLeft, Less, Greater, Equal, NotEqual}
use Rattle.cx_core.specs.declared.number.UnaryOperator.TheVariants.{Not}
use Rattle.cx_core.specs.Words.{Returned, Undefined, Shift, Null, Dead, Unset, Flow}
use Rattle.cx_core.specs.Tree.{scalar, pointer, number, nullptr, Expr, literal, variable, global, unary, binary, logical_and, logical_or, conditional, assign, compound_assign, prefix_step, postfix_step, indirection, call, getchar, Operand, operand, value, no_more, by_reference, always, while, Stmt, empty, variable_declaration, reference_declaration, block, if_else, while_loop, for_loop, break, continue, return_value, return_reference, Check}
use Rattle.cx_core.specs.Program.{Program, scalar_value, reference}
use Rattle.cx_core.specs.Event.{input, input_end}
use Rattle.cx_core.specs.Meaning.{running}
use Rattle.cx_core.specs.Runs.{IsRun}
use Rattle.cx_core.proofs.rows.Writing.{int, lit, minus_one, as_is, read_int, read_pointer, read_variable, ints, int_variable, set_int, list, main_of, function_of, program_of, does}

abbrev pub runs_main : List (Stmt Check) → Program
runs_main body = program_of [] (main_of body ∷ [])

-- int main(){ unsigned k = 0; k = k - 1; return k > 4000000000; }
abbrev pub unsigned_of : Expr → Operand
unsigned_of e = operand (Some (scalar scalars.Unsigned)) None e

pub unsigned_arithmetic_wraps :
    IsRun (runs_main (
    variable_declaration 0 (scalar scalars.Unsigned) (value (operand None (Some types.Unsigned) (literal (number (pos 0)))))
    ∷ does (assign (variable 0) (as_is (binary Subtract types.Unsigned (unsigned_of (variable 0)) (operand None (Some types.Unsigned) (literal (number (pos 1)))))))
    ∷ return_value (operand None (Some types.Int) (binary Greater types.LongLong (operand (Some (scalar scalars.Unsigned)) (Some types.LongLong) (variable 0)) (lit 4000000000)))
    ∷ [])) [] [] (Returned (pos 1)) 99
unfolding running
unsigned_arithmetic_wraps = refl

-- int main(){ return 1 << 32; }
pub shift_by_the_width_is_undefined : IsRun (runs_main (return_value (as_is (ints ShiftLeft (lit 1) (lit 32))) ∷ [])) [] [] (Undefined Shift) 99
unfolding running
shift_by_the_width_is_undefined = refl

-- int main(){ int z = 0; return (z != 0 && 1 / z > 0) || !z ? 4 : 1 / z; }
abbrev pub divided_by_z : Operand
divided_by_z = as_is (ints Divide (lit 1) (read_variable 0))

pub what_is_not_needed_is_not_evaluated :
    IsRun (runs_main (
    int_variable 0 (lit 0)
    ∷ return_value (as_is (conditional
    (as_is (logical_or
    (as_is (logical_and (as_is (ints NotEqual (read_variable 0) (lit 0))) (as_is (ints Greater divided_by_z (lit 0)))))
    (as_is (unary Not types.Int (read_variable 0)))))
    (lit 4) divided_by_z))
    ∷ [])) [] [] (Returned (pos 4)) 99
unfolding running
what_is_not_needed_is_not_evaluated = refl

-- int main(){ int n = 0; for (int i = 0; i < 9; ++i) { if (i == 2) continue; if (i == 5) break; n += i; } return n; }
pub break_and_continue :
    IsRun (runs_main (
    int_variable 0 (lit 0)
    ∷ for_loop (int_variable 1 (lit 0)) (while (as_is (ints Less (read_variable 1) (lit 9)))) (does (prefix_step Add types.Int (variable 1)))
    (block (list (
    if_else (as_is (ints Equal (read_variable 1) (lit 2))) continue empty
    ∷ if_else (as_is (ints Equal (read_variable 1) (lit 5))) break empty
    ∷ does (compound_assign Add types.Int types.Int (variable 0) (read_variable 1))
    ∷ [])))
    ∷ return_value (read_variable 0)
    ∷ [])) [] [] (Returned (pos 8)) 99
unfolding running
break_and_continue = refl

-- int main(){ int k = 1; for (;;) { if (k++ > 3) return k; } }
pub postfix_gives_the_old_value :
    IsRun (runs_main (
    int_variable 0 (lit 1)
    ∷ for_loop empty always empty (if_else (as_is (ints Greater (as_is (postfix_step Add types.Int (variable 0))) (lit 3))) (return_value (read_variable 0)) empty)
    ∷ [])) [] [] (Returned (pos 5)) 99
unfolding running
postfix_gives_the_old_value = refl

-- int g = 5; int up(int& x) { x += 2; return x; } int main(){ return up(g) + g; }
abbrev pub steps_a_global : Program
steps_a_global = record (program_of [] (
    main_of (return_value (as_is (ints Add (as_is (call 1 (by_reference (global 0) no_more))) (read_int (global 0)))) ∷ [])
    ∷ function_of scalar_value (does (compound_assign Add types.Int types.Int (variable 0) (lit 2)) ∷ return_value (read_variable 0) ∷ [])
    ∷ [])) { globals = number (pos 5) ∷ [] }

pub operands_are_evaluated_left_to_right : IsRun steps_a_global [] [] (Returned (pos 14)) 99
unfolding running
operands_are_evaluated_left_to_right = refl

-- int main(){ int n = 0; while (getchar() != -1) n = n + 1; return n; }
abbrev pub counts_bytes : Program
counts_bytes = runs_main (
    int_variable 0 (lit 0)
    ∷ while_loop (as_is (ints NotEqual (as_is getchar) minus_one)) (set_int 0 (as_is (ints Add (read_variable 0) (lit 1))))
    ∷ return_value (read_variable 0)
    ∷ [])

pub input_is_read_to_its_end : IsRun counts_bytes (97 ∷ 98 ∷ 99 ∷ []) (input 97 ∷ input 98 ∷ input 99 ∷ input_end ∷ []) (Returned (pos 3)) 99
unfolding running
input_is_read_to_its_end = refl

pub empty_input : IsRun counts_bytes [] (input_end ∷ []) (Returned (pos 0)) 99
unfolding running
empty_input = refl

-- int f() { } int main(){ return f(); }
pub function_without_return_is_undefined : IsRun (program_of [] (main_of (return_value (as_is (call 1 no_more)) ∷ []) ∷ function_of scalar_value [] ∷ [])) [] [] (Undefined Flow) 99
unfolding running
function_without_return_is_undefined = refl

-- int main(){ }
pub main_without_return_gives_zero : IsRun (runs_main []) [] [] (Returned (pos 0)) 99
unfolding running
main_without_return_gives_zero = refl

-- int* keep(int& x) { return &x; } int* lost() { int k = 1; return keep(k); } int main(){ return *lost(); }
pub pointer_to_an_object_that_has_ended :
    IsRun (program_of [] (
    main_of (return_value (read_int (indirection (as_is (call 2 no_more)))) ∷ [])
    ∷ function_of scalar_value (return_value (as_is (variable 0)) ∷ [])
    ∷ function_of scalar_value (int_variable 0 (lit 1) ∷ return_value (as_is (call 1 (by_reference (variable 0) no_more))) ∷ [])
    ∷ [])) [] [] (Undefined Dead) 99
unfolding running
pointer_to_an_object_that_has_ended = refl

-- int main(){ int* p = nullptr; return *p; }
pub null_pointer_is_no_object :
    IsRun (runs_main (variable_declaration 0 (pointer int) (value (as_is (literal nullptr))) ∷ return_value (read_int (indirection (read_pointer (variable 0)))) ∷ []))
    [] [] (Undefined Null) 99
unfolding running
null_pointer_is_no_object = refl

-- int main(){ int k = k; return 0; }
pub variable_in_its_own_initialiser_is_unset : IsRun (runs_main (int_variable 0 (read_variable 0) ∷ return_value (lit 0) ∷ [])) [] [] (Undefined Unset) 99
unfolding running
variable_in_its_own_initialiser_is_unset = refl

-- int main(){ int& r = r; return r; }
pub reference_in_its_own_initialiser_denotes_nothing :
    IsRun (runs_main (reference_declaration 0 (variable 0) ∷ return_value (read_variable 0) ∷ [])) [] [] (Undefined Null) 99
unfolding running
reference_in_its_own_initialiser_denotes_nothing = refl

-- int& f(int& x) { return x; } int main(){ int k = 1; f(k) = 6; return k; }
pub reference_result_is_an_lvalue :
    IsRun (program_of [] (
    main_of (int_variable 0 (lit 1) ∷ does (assign (call 1 (by_reference (variable 0) no_more)) (lit 6)) ∷ return_value (read_variable 0) ∷ [])
    ∷ function_of reference (return_reference (variable 0) ∷ [])
    ∷ [])) [] [] (Returned (pos 6)) 99
unfolding running
reference_result_is_an_lvalue = refl
