-- Units under their plan, linked and run: numbers of evaluations, merged ones, weights and lists of checks.
use Rattle.std.specs.Prelude.{◌≡◌, refl, ℕ, false, true, List, [], ◌∷◌, ◌++◌, map, Option, Some, None, pos, codes}
use Rattle.cx_core.specs.declared.number.BinaryOperator.TheVariants.{Greater}
use Rattle.cx_core.specs.declared.choice.Calls.{Calls}
use Rattle.cx_core.specs.declared.choice.Calls.TheVariants as calls
use Rattle.cx_core.specs.declared.unit.CallPlace.TheVariants as places
use Rattle.cx_core.specs.Words.{Pre, Party, Definer, Caller, Semantic, Ignore, Observe, Enforce, Holds, False, PredicateFalse, Returned, ContractTerminated}
use Rattle.cx_types.specs.declared.value_type.Scalar.TheVariants as scalars
use Rattle.cx_core.specs.Tree.{scalar, call, no_more, Assertion, Specifier, Stmts, done, next, return_value, variable_declaration, value, for_loop, while, block, break, continue, if_else, empty, try, none, catch, object, exception_object}
use Rattle.cx_core.specs.Program.{Program, function, scalar_value, exit_status}
use Rattle.cx_core.specs.Unit.{FunctionType, UnitFunction, TranslationUnit}
use Rattle.cx_core.specs.Unit
use Rattle.cx_core.specs.Event.{Event, begin, verdict, handler}
use Rattle.cx_core.specs.Check.{violation_of}
use Rattle.cx_core.specs.Meaning.{running}
use Rattle.cx_core.specs.Runs.{IsRun}
use Rattle.cx_core.specs.Numbers.{Planned, merged_numbers}
use Rattle.cx_core.specs.Linked.{linked, linked_with, linking}
use Rattle.cx_core.specs.Weight.{weight, weighing}
use Rattle.cx_core.specs.Explained.{Listed, explained, listing}
use Rattle.cx_core.proofs.rows.Writing.{int, lit, as_is, read_int, read_variable, ints, int_arg, assertion_in, evaluation_of}

-- ---- h.h: int f(int x) pre(x > 0) pre(x > 1); a.cpp includes it and calls f, b.cpp includes it and defines f

abbrev pub positive : Assertion
positive = assertion_in (codes "h.h") Pre (codes "f#pre1") 1 14 (codes "x > 0")

abbrev pub above_one : Assertion
above_one = assertion_in (codes "h.h") Pre (codes "f#pre2") 1 25 (codes "x > 1")

abbrev pub specifier : ℕ → Specifier ℕ
specifier n = record { of = n; predicate = as_is (ints Greater (read_variable 0) (lit n)) }

abbrev pub f_with : List (Specifier ℕ) → Option (Stmts ℕ) → UnitFunction
f_with specifiers body = record {
  name = codes "f";
  type = 0;
  is_needed = true;
  noexcept = false;
  named_parameters = 1;
  result = scalar_value;
  preconditions = specifiers;
  postconditions = [];
  body = defined body;
}
  where
    defined : Option (Stmts ℕ) → Option (Rattle.cx_core.specs.Program.Body ℕ)
    defined None = None
    defined (Some b) = Some (function b)

abbrev pub main_with : Stmts ℕ → UnitFunction
main_with b = record {
  name = codes "main";
  type = 1;
  is_needed = false;
  noexcept = false;
  named_parameters = 0;
  result = exit_status;
  preconditions = [];
  postconditions = [];
  body = Some (function b);
}

abbrev pub types : List FunctionType
types = record { name = codes "int ( int )"; result = Unit.object (scalar scalars.Int); parameters = Unit.object (scalar scalars.Int) ∷ [] } ∷ record { name = codes "int ( )"; result = Unit.object (scalar scalars.Int); parameters = [] } ∷ []

abbrev pub calling_unit : List Assertion → List (Specifier ℕ) → (argument : ℕ) → TranslationUnit
calling_unit assertions specifiers n = record {
  name = codes "a.cpp";
  classes = [];
  globals = [];
  functions = f_with specifiers None ∷ main_with (next (return_value (as_is (call 0 (int_arg n no_more)))) done) ∷ [];
  function_types = types;
  definitions = 1 ∷ [];
  assertions = assertions;
  calls = record { function = 0; within = places.Definition 1 } ∷ [];
  tokens = 22;
}

abbrev pub defining_unit : List Assertion → List (Specifier ℕ) → TranslationUnit
defining_unit assertions specifiers = record {
  name = codes "b.cpp";
  classes = [];
  globals = [];
  functions = f_with specifiers (Some (next (return_value (lit 5)) done)) ∷ [];
  function_types = types;
  definitions = 0 ∷ [];
  assertions = assertions;
  calls = [];
  tokens = 21;
}

abbrev pub planned : TranslationUnit → Semantic → Calls → (repeat : ℕ) → (List ℕ → Semantic) → Planned
planned unit semantic calls repeat chosen = record { unit = unit; choice = record { semantic = semantic; calls = calls; repeat = repeat }; semantic = chosen }

abbrev pub plainly : TranslationUnit → Semantic → Calls → Planned
plainly unit semantic calls = planned unit semantic calls 0 (λ name. semantic)

-- ---- f(0) with the first assertion alone: unit a.cpp observe pre 0, unit b.cpp enforce none 0

abbrev pub one_assertion : (argument : ℕ) → (caller : Semantic) → List Planned
one_assertion n caller =
    plainly (calling_unit (positive ∷ []) (specifier 0 ∷ []) n) caller calls.Pre
    ∷ plainly (defining_unit (positive ∷ []) (specifier 0 ∷ [])) Enforce calls.Nothing ∷ []

abbrev pub found_false : Party → Semantic → List Event
found_false party semantic =
    begin (evaluation_of positive party semantic) ∷ verdict False ∷ handler (violation_of positive PredicateFalse semantic) ∷ []

pub both_parties_check : IsRun (linked (one_assertion 0 Observe)) [] (found_false Caller Observe ++ found_false Definer Enforce) ContractTerminated 99
unfolding running linking
both_parties_check = refl

-- ---- f(2) with both: unit a.cpp enforce pre 0, at a.cpp f#pre1 ignore, unit b.cpp enforce none 0

abbrev pub first_ignored : List ℕ → Semantic
first_ignored name = Rattle.std.specs.Prelude.if◌then◌else◌ (Rattle.std.specs.Prelude.bytes_eq name (codes "f#pre1")) Ignore Enforce

abbrev pub held : Assertion → Party → List Event
held a party = begin (evaluation_of a party Enforce) ∷ verdict Holds ∷ []

pub an_ignored_assertion_is_left_out :
    IsRun (linked (
    planned (calling_unit (positive ∷ above_one ∷ []) (specifier 0 ∷ specifier 1 ∷ []) 2) Enforce calls.Pre 0 first_ignored
    ∷ plainly (defining_unit (positive ∷ above_one ∷ []) (specifier 0 ∷ specifier 1 ∷ [])) Enforce calls.Nothing ∷ []))
    [] (held above_one Caller ++ (held positive Definer ++ held above_one Definer)) (Returned (pos 5)) 99
unfolding running linking
an_ignored_assertion_is_left_out = refl

-- ---- merged: f(1) where both enforce, and where the Caller observes

pub both_evaluate_it : IsRun (linked (one_assertion 1 Enforce)) [] (held positive Caller ++ held positive Definer) (Returned (pos 5)) 99
unfolding running linking
both_evaluate_it = refl

pub merged_leaves_the_caller_out :
    IsRun (linked_with (one_assertion 1 Enforce) (merged_numbers (one_assertion 1 Enforce))) [] (held positive Definer) (Returned (pos 5)) 99
unfolding running linking
merged_leaves_the_caller_out = refl

pub another_semantic_is_not_merged :
    IsRun (linked_with (one_assertion 1 Observe) (merged_numbers (one_assertion 1 Observe)))
    [] (begin (evaluation_of positive Caller Observe) ∷ verdict Holds ∷ held positive Definer) (Returned (pos 5)) 99
unfolding running linking
another_semantic_is_not_merged = refl

-- ---- the checks, listed

abbrev pub listed : List ℕ → Party → Semantic → Assertion → Listed
listed unit party semantic a = record { unit = unit; party = party; semantic = semantic; assertion = a }

pub the_checks_are_listed :
    explained (one_assertion 0 Observe)
    ≡ listed (codes "a.cpp") Caller Observe positive ∷ listed (codes "b.cpp") Definer Enforce positive ∷ []
unfolding listing
the_checks_are_listed = refl

-- ---- weight: int main() { for (int i = 0; i < 3; ) { int k = 0; if (i > k) break; else continue; } try {} catch (int) { return 1; } catch (int e) { return e; } }

abbrev pub leaving : Stmts ℕ
leaving =
    next (for_loop (variable_declaration 0 int (value (lit 0))) (while (as_is (ints Greater (lit 3) (read_variable 0)))) empty
    (block (next (variable_declaration 1 int (value (lit 0)))
    (next (if_else (as_is (ints Greater (read_variable 0) (read_variable 1))) break continue) done))))
    (next (try done
    (catch int (object 0 false (value (read_int exception_object))) (next (return_value (lit 1)) done)
    (catch int (object 0 true (value (read_int exception_object))) (next (return_value (read_variable 0)) done) none))) done)

-- 2 at `break`, 1 at `continue`, 0 and 1 at `return`
pub scopes_that_are_left_weigh :
    weight (record { name = []; classes = []; globals = []; functions = main_with leaving ∷ []; function_types = []; definitions = 0 ∷ []; assertions = []; calls = []; tokens = 70 }) ≡ 74
unfolding weighing
scopes_that_are_left_weigh = refl
