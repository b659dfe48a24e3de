-- The units of the budget that objects spend where they are made and where they end.
use Rattle.std.specs.Prelude.{◌≡◌, refl, ℕ, zero, suc, List, [], ◌∷◌, pos, codes}
use Rattle.cx_core.specs.Words.{Ending, Returned, Undefined, Null}
use Rattle.cx_core.specs.Tree.{pointer, number, nullptr, literal, variable, global, indirection, call, Operand, value, no_more, by_value, variable_declaration, return_value, throw, try, none, catch_all, done}
use Rattle.cx_core.specs.Program.{Program, scalar_value, scalar_object}
use Rattle.cx_core.specs.Event as event
use Rattle.cx_core.specs.Event.{Event, ended, going}
use Rattle.cx_core.specs.Meaning.{mean, running}
use Rattle.cx_core.proofs.rows.Writing.{int, lit, as_is, read_int, read_pointer, read_variable, int_variable, int_arg, list, main_of, function_of, program_of}

-- a program ends so with one unit more than these, and with these its run is still going, with the same events
abbrev pub Spends : ℕ → Program → List Event → Ending → Type 0
Spends units program events ending =
    (mean program [] [] units ≡ record { trace = events; answer = going })
    × (mean program [] [] (suc units) ≡ record { trace = events; answer = ended ending })

-- int main(){ int k = 7; return k; }: the call of `main`, `k` that is made, the literal, the name, and the end of `k`
pub a_variable : Spends 5 (program_of [] (main_of (int_variable 0 (lit 7) ∷ return_value (read_variable 0) ∷ []) ∷ [])) [] (Returned (pos 7))
unfolding running
a_variable = (refl, refl)

-- int g = 7; int main(){ return g; }: the call of `main` and the name
pub a_global_spends_nothing :
    Spends 2 (record (program_of [] (main_of (return_value (read_int (global 0)) ∷ []) ∷ [])) { globals = number (pos 7) ∷ [] }) [] (Returned (pos 7))
unfolding running
a_global_spends_nothing = (refl, refl)

-- int f(int x){ return x; } int main(){ return f(7); }: the call of `main`, the parameter that is made, the literal, the call of `f`, the name, and the end of the parameter
pub a_parameter :
    Spends 6 (program_of [] (
    main_of (return_value (as_is (call 1 (int_arg 7 no_more))) ∷ [])
    ∷ function_of scalar_value (return_value (read_variable 0) ∷ [])
    ∷ [])) [] (Returned (pos 7))
unfolding running
a_parameter = (refl, refl)

-- int f() post(true) { return 7; } int main(){ return f(); }, nothing evaluated: the call of `main`, the result object that is made, the call of `f`, the literal, and the end of the result object
pub a_result_object :
    Spends 5 (program_of [] (main_of (return_value (as_is (call 1 no_more)) ∷ []) ∷ function_of scalar_object (return_value (lit 7) ∷ []) ∷ [])) [] (Returned (pos 7))
unfolding running
a_result_object = (refl, refl)

-- int main(){ try { throw 3; } catch (...) { } return 0; }: the call of `main`, the exception object that is made, the literal, `throw`, the handler, the end of the exception object, and the literal that is returned
pub an_exception_object :
    Spends 7 (program_of [] (
    main_of (try (list (throw int (value (lit 3)) ∷ [])) (catch_all done none) ∷ return_value (lit 0) ∷ [])
    ∷ [])) (event.throw (codes "int") ∷ event.catch (codes "int") ∷ []) (Returned (pos 0))
unfolding running
an_exception_object = (refl, refl)

-- ---- int f(int x){ return x; } int main(){ int* p = nullptr; return f(f(..f(*p)..)); }

-- so many calls inside one another
abbrev pub called_on_what_p_points_to : ℕ → Operand
called_on_what_p_points_to zero = read_int (indirection (read_pointer (variable 0)))
called_on_what_p_points_to (suc n) = as_is (call 1 (by_value int (value (called_on_what_p_points_to n)) no_more))

abbrev pub calls_of_p : ℕ → Program
calls_of_p n = program_of [] (
    main_of (variable_declaration 0 (pointer int) (value (as_is (literal nullptr))) ∷ return_value (called_on_what_p_points_to n) ∷ [])
    ∷ function_of scalar_value (return_value (read_variable 0) ∷ [])
    ∷ [])

-- the call of `main`, `p` that is made, its literal, 200 parameters that are made, the name, and `*`
pub parameters_spend_before_what_they_are_made_for : Spends 205 (calls_of_p 200) [] (Undefined Null)
unfolding running
parameters_spend_before_what_they_are_made_for = (refl, refl)
