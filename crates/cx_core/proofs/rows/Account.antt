-- A program of three units with a class, mixed semantics, Caller's checks of both lists and a handler that throws.
use Rattle.std.specs.Prelude.{refl, ℕ, true, List, [], ◌∷◌, ◌++◌, map, Some, None, pos, codes}
use Rattle.cx_core.specs.declared.number.IntegerType.TheVariants as types
use Rattle.cx_core.specs.declared.number.BinaryOperator.TheVariants.{Add, Subtract, Divide, Remainder, GreaterEqual, Greater, LessEqual, Equal}
use Rattle.cx_core.specs.declared.number.Query.TheVariants as queries
use Rattle.cx_core.specs.Words.{AssertionKind, Pre, Post, Assert, Party, Definer, Caller, Semantic, Observe, Enforce, Holds, False, PredicateFalse, Returned}
use Rattle.cx_core.specs.Tree.{class, variable, result_name, exception_object, member, call, putchar, puts, puts_comment, query, Operand, compound_assign, assign, value, construct, no_more, by_reference, by_value, object, Assertion, Stmt, empty, variable_declaration, if_else, return_value, throw, try, none, catch, Check}
use Rattle.cx_core.specs.Program.{Checks, Function, Program, void, scalar_value, scalar_object}
use Rattle.cx_core.specs.Event.{Event, out, begin, verdict, handler, destroyed}
use Rattle.cx_core.specs.Event as event
use Rattle.cx_core.specs.Check.{violation_of}
use Rattle.cx_core.specs.Meaning.{running}
use Rattle.cx_core.specs.Runs.{IsRun}
use Rattle.cx_core.proofs.rows.Writing.{int, lit, as_is, read_int, read_variable, ints, int_arg, own, say, list, assertion_in, check, evaluation_of, no_checks, pre, main_of, function_of, checked_function, handler_of, constructor_of, destructor_of, int_field, class_of_one, program_of, does, asserts}

-- ---- the class

abbrev pub said : AssertionKind → List ℕ → (line column : ℕ) → List ℕ → Assertion
said = assertion_in (codes "acct.hpp")

abbrev pub starts : Assertion
starts = said Pre (codes "Account::Account#pre1") 4 22 (codes "start >= 0")

abbrev pub deposits : Assertion
deposits = said Pre (codes "Account::deposit#pre1") 8 5 (codes "amount > 0")

abbrev pub deposited : Assertion
deposited = said Post (codes "Account::deposit#post1") 9 5 (codes "balance ( ) >= amount")

abbrev pub withdraws : Assertion
withdraws = said Pre (codes "Account::withdraw#pre1") 11 5 (codes "amount > 0")

abbrev pub covered : Assertion
covered = said Pre (codes "Account::withdraw#pre2") 12 5 (codes "amount <= balance ( )")

abbrev pub withdrawn : Assertion
withdrawn = said Post (codes "Account::withdraw#post1") 13 5 (codes "ok")

abbrev pub not_negative : Assertion
not_negative = assertion_in (codes "acct.cpp") Assert (codes "Account::withdraw#assert1") 9 3 (codes "held >= 0")

-- the first parameter, behind `this`
abbrev pub parameter : Operand
parameter = read_variable 1

abbrev pub own_balance : Operand
own_balance = as_is (call 5 (by_reference (own 0) no_more))

abbrev pub at_least : Operand → Operand → Operand
at_least a b = as_is (ints GreaterEqual a b)

abbrev pub at_most : Operand → Operand → Operand
at_most a b = as_is (ints LessEqual a b)

abbrev pub above : Operand → Operand → Operand
above a b = as_is (ints Greater a b)

-- the specifiers under the semantic of a party
abbrev pub of_constructor : Semantic → Checks
of_constructor s = pre (check starts s 1 (at_least parameter (lit 0)) ∷ [])

abbrev pub of_deposit : Semantic → Checks
of_deposit s = record {
  preconditions = check deposits s 1 (above parameter (lit 0)) ∷ [];
  postconditions = check deposited s 1 (at_least own_balance parameter) ∷ [];
}

abbrev pub of_withdraw : Semantic → Checks
of_withdraw s = record {
  preconditions = check withdraws s 1 (above parameter (lit 0)) ∷ check covered s 1 (at_most parameter own_balance) ∷ [];
  postconditions = check withdrawn s 1 (read_int result_name) ∷ [];
}

-- ---- the functions, 0 to 8, and the units main.cpp, acct.cpp and log.cpp

abbrev pub in_acct : Function → Function
in_acct f = record f { definer = 1 }

-- the field that is changed by an amount
abbrev pub held : Operand
held = read_int (own 0)

abbrev pub account_functions : List Function
account_functions =
    in_acct (record (constructor_of (int_field 0 parameter ∷ []) []) { checks = of_constructor Enforce })
    ∷ in_acct (destructor_of 0 (does (puts (codes "closed")) ∷ []))
    ∷ in_acct (function_of scalar_value (return_value held ∷ []))
    ∷ in_acct (checked_function void (of_deposit Enforce) (does (assign (own 0) (as_is (ints Add held parameter))) ∷ []))
    ∷ in_acct (checked_function scalar_object (of_withdraw Enforce) (
    does (compound_assign Subtract types.Int types.Int (own 0) parameter)
    ∷ asserts (check not_negative Enforce 1 (at_least held (lit 0)))
    ∷ return_value (lit 1) ∷ []))
    ∷ []

-- void number(int n) { if (n >= 10) number(n / 10); putchar('0' + n % 10); }
abbrev pub writes_number : Function
writes_number = function_of void (
    if_else (at_least (read_variable 0) (lit 10)) (does (call 1 (by_value int (value (as_is (ints Divide (read_variable 0) (lit 10)))) no_more))) empty
    ∷ does (putchar (as_is (ints Add (lit 48) (as_is (ints Remainder (read_variable 0) (lit 10))))))
    ∷ [])

-- void show(const Account& a) { number(a.balance()); putchar('\n'); }
abbrev pub shows : Function
shows = function_of void (
    does (call 1 (by_value int (value (as_is (call 5 (by_reference (member 0 (variable 0)) no_more)))) no_more))
    ∷ say 10 ∷ [])

-- a member call on the variable `a`
abbrev pub on_a : ℕ → ℕ → Stmt Check
on_a f n = does (call f (by_reference (member 0 (variable 0)) (int_arg n no_more)))

abbrev pub main_function : Function
main_function = main_of (
    try (list (
    variable_declaration 0 (class 0) (construct 3 (int_arg 100 no_more))
    ∷ on_a 6 50
    ∷ does (call 2 (by_reference (variable 0) no_more))
    ∷ on_a 7 500
    ∷ does (puts (codes "never")) ∷ []))
    (catch int (object 0 true (value (read_int exception_object))) (list (return_value (read_variable 0) ∷ [])) none)
    ∷ return_value (lit 0) ∷ [])

-- puts(v.comment()); if (v.kind() == std::contracts::assertion_kind::pre) throw 2;
abbrev pub log_handler : Function
log_handler = record (handler_of (
    does (puts_comment (variable 0))
    ∷ if_else (as_is (ints Equal (as_is (query queries.Kind (variable 0))) (lit 1))) (throw int (value (lit 2))) empty ∷ [])) { definer = 2 }

-- main.cpp observes as Caller of both lists, acct.cpp enforces as Definer
abbrev pub account_program : Program
account_program = record (program_of (class_of_one (codes "Account") int None 9 4 ∷ [])
    (main_function ∷ writes_number ∷ shows ∷ account_functions ++ log_handler ∷ [])) {
      callers = (no_checks ∷ no_checks ∷ no_checks ∷ of_constructor Observe ∷ no_checks ∷ no_checks ∷ of_deposit Observe ∷ of_withdraw Observe ∷ no_checks ∷ []) ∷ [];
      handler = Some 8;
    }

-- ---- its run

abbrev pub holds_for : Assertion → Party → Semantic → List Event
holds_for a party s = begin (evaluation_of a party s) ∷ verdict Holds ∷ []

abbrev pub for_both : Assertion → List Event
for_both a = holds_for a Caller Observe ++ holds_for a Definer Enforce

pub account_program_runs :
    IsRun account_program [] (
    for_both starts
    ++ (for_both deposits
    ++ (holds_for deposited Definer Enforce
    ++ (holds_for deposited Caller Observe
    ++ (map out (codes "150\n")
    ++ (holds_for withdraws Caller Observe
    ++ (begin (evaluation_of covered Caller Observe) ∷ verdict False ∷ handler (violation_of covered PredicateFalse Observe) ∷ []
    ++ (map out (codes "amount <= balance ( )\n")
    ++ (event.throw (codes "int") ∷ []
    ++ (map out (codes "closed\n")
    ++ (destroyed (codes "Account") 1 0 ∷ event.catch (codes "int") ∷ [])))))))))))
    (Returned (pos 2)) 99
unfolding running
account_program_runs = refl
