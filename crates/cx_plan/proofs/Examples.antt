-- Texts of plans, and what each says or its first bad line; what a plan chooses and names: computed.
use Rattle.std.specs.Prelude.{◌≡◌, refl, ℕ, List, [], ◌∷◌, ◌++◌, map, Ok, Err, Some, None, codes}
use Rattle.cx_code.specs.declared.image.AssertionKind.TheVariants.{Pre}
use Rattle.cx_code.specs.declared.violation.Semantic.{Semantic}
use Rattle.cx_code.specs.declared.violation.Semantic.TheVariants.{Ignore, Observe, Enforce, QuickEnforce}
use Rattle.cx_core.specs.declared.choice.Calls.{Calls}
use Rattle.cx_core.specs.declared.choice.Calls.TheVariants as calls
use Rattle.cx_core.specs.declared.unit.CoreUnit.{CoreUnit}
use Rattle.cx_core.specs.declared.unit.Assertion.{Assertion}
use Rattle.cx_plan.specs.declared.plan.Directive.TheVariants as says
use Rattle.cx_plan.specs.declared.plan.PlanLine.{PlanLine}
use Rattle.cx_plan.specs.declared.plan.Plan.{Plan}
use Rattle.cx_plan.specs.declared.fault.PlanFault.TheVariants.{UnknownAssertion, UnknownUnit}
use Rattle.cx_plan.specs.Line.{line_of}
use Rattle.cx_plan.specs.Reading.{lines_of, lines_from, read_lines}
use Rattle.cx_plan.specs.Names.{names_fault, own_names_fault}
use Rattle.cx_plan.specs.Chosen.{choice_of, chosen_of, planned}

abbrev unit_line : ℕ → List ℕ → Semantic → Calls → ℕ → PlanLine
unit_line number name semantic calls repeat = record { number = number; says = says.Unit name (record { semantic = semantic; calls = calls; repeat = repeat }) }

abbrev at_line : ℕ → List ℕ → List ℕ → Semantic → PlanLine
at_line number name assertion semantic = record { number = number; says = says.At name assertion semantic }

nothing : read_lines [] ≡ Ok []
unfolding lines_from lines_of line_of
nothing = refl

empty_lines : read_lines (codes "\n\n") ≡ Ok []
unfolding lines_from lines_of line_of
empty_lines = refl

comments : read_lines (codes "# unit a b\n#\n") ≡ Ok []
unfolding lines_from lines_of line_of
comments = refl

unit : read_lines (codes "unit a.cpp observe pre 0\n") ≡ Ok (unit_line 1 (codes "a.cpp") Observe calls.Pre 0 ∷ [])
unfolding lines_from lines_of line_of
unit = refl

last_line_without_a_newline : read_lines (codes "unit a.cpp observe all 7") ≡ Ok (unit_line 1 (codes "a.cpp") Observe calls.All 7 ∷ [])
unfolding lines_from lines_of line_of
last_line_without_a_newline = refl

two_kinds : read_lines (codes "unit a.cpp enforce none 2\n\nat a.cpp f#pre1 ignore\n")
    ≡ Ok (unit_line 1 (codes "a.cpp") Enforce calls.Nothing 2 ∷ at_line 3 (codes "a.cpp") (codes "f#pre1") Ignore ∷ [])
unfolding lines_from lines_of line_of
two_kinds = refl

mixed : read_lines (codes "unit a.cpp quick_enforce all 1\n# more\nat b.cpp f#post2 observe\nat a.cpp f#post2 ignore")
    ≡ Ok (unit_line 1 (codes "a.cpp") QuickEnforce calls.All 1 ∷ at_line 3 (codes "b.cpp") (codes "f#post2") Observe ∷ at_line 4 (codes "a.cpp") (codes "f#post2") Ignore ∷ [])
unfolding lines_from lines_of line_of
mixed = refl

wrong_semantic : read_lines (codes "unit a.cpp sometimes none 0") ≡ Err 1
unfolding lines_from lines_of line_of
wrong_semantic = refl

wrong_calls : read_lines (codes "unit a.cpp enforce post 0") ≡ Err 1
unfolding lines_from lines_of line_of
wrong_calls = refl

repeat_of_eight : read_lines (codes "unit a.cpp enforce none 8") ≡ Err 1
unfolding lines_from lines_of line_of
repeat_of_eight = refl

repeat_of_two_digits : read_lines (codes "unit a.cpp enforce none 00") ≡ Err 1
unfolding lines_from lines_of line_of
repeat_of_two_digits = refl

no_repeat : read_lines (codes "unit a.cpp enforce none") ≡ Err 1
unfolding lines_from lines_of line_of
no_repeat = refl

blank_at_the_end : read_lines (codes "unit a.cpp enforce none 0 ") ≡ Err 1
unfolding lines_from lines_of line_of
blank_at_the_end = refl

two_blanks : read_lines (codes "unit  a.cpp enforce none 0") ≡ Err 1
unfolding lines_from lines_of line_of
two_blanks = refl

blank_at_the_start : read_lines (codes " unit a.cpp enforce none 0") ≡ Err 1
unfolding lines_from lines_of line_of
blank_at_the_start = refl

blank_alone : read_lines (codes "\n ") ≡ Err 2
unfolding lines_from lines_of line_of
blank_alone = refl

carriage_return : read_lines (codes "unit a.cpp enforce none 0" ++ (13 ∷ []) ++ codes "\n") ≡ Err 1
unfolding lines_from lines_of line_of
carriage_return = refl

tab : read_lines (codes "unit" ++ (9 ∷ []) ++ codes "a.cpp enforce none 0") ≡ Err 1
unfolding lines_from lines_of line_of
tab = refl

not_printable : read_lines (codes "unit a" ++ (127 ∷ []) ++ codes "b enforce none 0") ≡ Err 1
unfolding lines_from lines_of line_of
not_printable = refl

unit_twice : read_lines (codes "unit a enforce none 0\nunit b ignore pre 1\nunit a enforce none 0\n") ≡ Err 3
unfolding lines_from lines_of line_of
unit_twice = refl

assertion_twice : read_lines (codes "at a f#pre1 ignore\nat b f#pre1 ignore\nat a f#pre2 ignore\nat a f#pre1 observe\n") ≡ Err 4
unfolding lines_from lines_of line_of
assertion_twice = refl

first_of_two_bad_lines : read_lines (codes "\nat a\nunit\n") ≡ Err 2
unfolding lines_from lines_of line_of
first_of_two_bad_lines = refl

at_without_a_semantic : read_lines (codes "at a f#pre1 ") ≡ Err 1
unfolding lines_from lines_of line_of
at_without_a_semantic = refl

other_word : read_lines (codes "units a enforce none 0") ≡ Err 1
unfolding lines_from lines_of line_of
other_word = refl

word_alone : read_lines (codes "unit") ≡ Err 1
unfolding lines_from lines_of line_of
word_alone = refl

-- an assertion's name may be a unit's too, and names of two words run together aren't the same
not_twice : read_lines (codes "unit a enforce none 0\nat a b ignore\nat a bc ignore\nat ab c ignore\nunit b enforce none 0\n")
    ≡ Ok (unit_line 1 (codes "a") Enforce calls.Nothing 0 ∷ at_line 2 (codes "a") (codes "b") Ignore ∷ at_line 3 (codes "a") (codes "bc") Ignore ∷ at_line 4 (codes "ab") (codes "c") Ignore ∷ unit_line 5 (codes "b") Enforce calls.Nothing 0 ∷ [])
unfolding lines_from lines_of line_of
not_twice = refl

-- ---- what is chosen

abbrev plan_with : List PlanLine → Plan
plan_with lines = record { semantic = Enforce; lines = lines }

abbrev account_plan : Plan
account_plan = plan_with (unit_line 1 (codes "main.cpp") Observe calls.All 0 ∷ unit_line 2 (codes "acct.cpp") Enforce calls.Nothing 1 ∷ unit_line 3 (codes "log.cpp") Ignore calls.Nothing 0 ∷ [])

own_choice : choice_of account_plan (codes "main.cpp") ≡ record { semantic = Observe; calls = calls.All; repeat = 0 }
own_choice = refl

usual : choice_of account_plan (codes "z.cpp") ≡ record { semantic = Enforce; calls = calls.Nothing; repeat = 0 }
usual = refl

chosen_by_the_unit : chosen_of account_plan (codes "log.cpp") (codes "f#pre1") ≡ Ignore
chosen_by_the_unit = refl

chosen_by_a_line : chosen_of (plan_with (at_line 1 (codes "a") (codes "f#pre1") Ignore ∷ unit_line 2 (codes "a") Observe calls.Nothing 0 ∷ [])) (codes "a") (codes "f#pre1") ≡ Ignore
chosen_by_a_line = refl

chosen_by_no_line : chosen_of (plan_with (at_line 1 (codes "b") (codes "f#pre1") Ignore ∷ [])) (codes "a") (codes "f#pre1") ≡ Enforce
chosen_by_no_line = refl

-- ---- what is named

abbrev assertion : List ℕ → Assertion
assertion name = record { kind = Pre; name = name; file = codes "a.hpp"; line = 4; column = 22; comment = codes "x > 0" }

-- a unit with these assertions, as far as a plan names it
abbrev unit_with : List ℕ → List (List ℕ) → CoreUnit
unit_with name assertions = record {
  name = name;
  classes = [];
  globals = [];
  functions = [];
  function_types = [];
  definitions = [];
  assertions = map assertion assertions;
  calls = [];
  tokens = 0;
  bytes = 0;
}

abbrev account_unit : CoreUnit
account_unit = unit_with (codes "acct.cpp") (codes "Account::withdraw#pre1" ∷ codes "Account::withdraw#assert1" ∷ [])

abbrev units : List CoreUnit
units = unit_with (codes "main.cpp") (codes "Account::withdraw#pre1" ∷ []) ∷ account_unit ∷ unit_with (codes "log.cpp") [] ∷ []

all_named : names_fault units account_plan.lines ≡ None
all_named = refl

unknown_unit : names_fault units (unit_line 4 (codes "z.cpp") Enforce calls.Nothing 0 ∷ []) ≡ Some (UnknownUnit 4)
unknown_unit = refl

-- an assertion of another unit
unknown_assertion : names_fault units (at_line 2 (codes "main.cpp") (codes "Account::withdraw#pre1") Ignore ∷ at_line 5 (codes "main.cpp") (codes "Account::withdraw#assert1") Ignore ∷ []) ≡ Some (UnknownAssertion 5)
unknown_assertion = refl

other_units_aside : own_names_fault account_unit (at_line 1 (codes "z.cpp") (codes "f#pre1") Ignore ∷ unit_line 2 (codes "y.cpp") Ignore calls.All 0 ∷ at_line 3 (codes "acct.cpp") (codes "number#pre1") Ignore ∷ []) ≡ Some (UnknownAssertion 3)
other_units_aside = refl

-- what the program of units takes of a plan
semantic_of_a_unit : (planned account_plan account_unit).semantic (codes "Account::withdraw#pre1") ≡ Enforce
semantic_of_a_unit = refl

repeat_of_a_unit : (planned account_plan account_unit).choice.repeat ≡ 1
repeat_of_a_unit = refl
