-- How often each unit evaluates each contract assertion, as free data: this project's own, for the repetitions that [basic.contract.eval] of P2900R14 permits.
use Rattle.std.specs.Prelude.{ℕ, ◌+◌, Bool, true, false, not, ◌&&◌, ◌||◌, if◌then◌else◌, List, [], ◌∷◌, Option, Some, None, bytes_eq, nat_eq, slice_get}
use Rattle.cx_core.specs.Words.{Party, Definer, Caller, AssertionKind, Pre, Post, Semantic, Ignore, Observe, Enforce, QuickEnforce}
use Rattle.cx_core.specs.declared.choice.Calls.{Calls}
use Rattle.cx_core.specs.declared.choice.Calls.TheVariants as calls
use Rattle.cx_core.specs.declared.choice.Choice.{Choice}
use Rattle.cx_core.specs.Tree.{Assertion, Specifier}
use Rattle.cx_core.specs.Unit.{UnitFunction, TranslationUnit, is_defined}
use Rattle.cx_core.specs.Event.{semantic_number}

-- a unit, with what the plan says of it: its choice, and the evaluation semantic of each assertion by name
pub record Planned : Type 0 where
  pub unit : TranslationUnit
  pub choice : Choice
  pub semantic : List ℕ → Semantic

-- for each unit, party and assertion's name, how often the unit as that party evaluates the assertion in one block of checks
abbrev pub Numbers : Type 0
Numbers = (unit : ℕ) → Party → (assertion : List ℕ) → ℕ

-- ---- the numbers of the plan

abbrev pub times_under : Semantic → ℕ → ℕ
times_under Ignore repeat = 0
times_under Observe repeat = 1 + repeat
times_under Enforce repeat = 1 + repeat
times_under QuickEnforce repeat = 1 + repeat

-- the list of function contract assertions in which a Caller takes part
abbrev pub caller_takes_part : Calls → AssertionKind → Bool
caller_takes_part calls.Pre Pre = true
caller_takes_part calls.All Pre = true
caller_takes_part calls.All Post = true
caller_takes_part _ _ = false

abbrev pub takes_part : Calls → Party → AssertionKind → Bool
takes_part choice Definer kind = true
takes_part choice Caller kind = caller_takes_part choice kind

abbrev pub assertion_named : List ℕ → List Assertion → Option Assertion
assertion_named name [] = None
assertion_named name (a ∷ assertions) = if bytes_eq a.name name then Some a else assertion_named name assertions

-- one and the repetitions, and none where the party takes no part in the list or the assertion is ignored
abbrev pub number_of : Planned → Party → Option Assertion → ℕ
number_of p party None = 0
number_of p party (Some a) = if takes_part p.choice.calls party a.kind then times_under (p.semantic a.name) p.choice.repeat else 0

abbrev pub number_by : Option Planned → Party → (assertion : List ℕ) → ℕ
number_by None party name = 0
number_by (Some p) party name = number_of p party (assertion_named name p.unit.assertions)

abbrev pub block_numbers : List Planned → Numbers
block_numbers units unit party name = number_by (slice_get units unit) party name

-- ---- the numbers where double checks are merged

abbrev pub is_named : List ℕ → Option Assertion → Bool
is_named name None = false
is_named name (Some a) = bytes_eq a.name name

abbrev pub is_among_specifiers : List ℕ → TranslationUnit → List (Specifier ℕ) → Bool
is_among_specifiers name unit [] = false
is_among_specifiers name unit (s ∷ specifiers) = is_named name (slice_get unit.assertions s.of) || is_among_specifiers name unit specifiers

-- a function with this assertion is defined
abbrev pub defines : List ℕ → TranslationUnit → List UnitFunction → Bool
defines name unit [] = false
defines name unit (f ∷ functions) =
    (is_defined f.body && (is_among_specifiers name unit f.preconditions || is_among_specifiers name unit f.postconditions)) || defines name unit functions

-- the Definer of the function that has an assertion: the first unit that defines it
abbrev pub definer_of : List ℕ → List Planned → Option Planned
definer_of name [] = None
definer_of name (p ∷ later) = if defines name p.unit p.unit.functions then Some p else definer_of name later

-- the Definer evaluates it, under the same semantic
abbrev pub evaluates_alike : Option Planned → Semantic → (assertion : List ℕ) → Bool
evaluates_alike None semantic name = false
evaluates_alike (Some p) semantic name =
    not (nat_eq (number_by (Some p) Definer name) 0) && nat_eq (semantic_number (p.semantic name)) (semantic_number semantic)

-- a Caller leaves out what the Definer evaluates alike
abbrev pub merged_by : List Planned → Option Planned → Party → (assertion : List ℕ) → ℕ
merged_by units p Definer name = number_by p Definer name
merged_by units None Caller name = 0
merged_by units (Some p) Caller name = if evaluates_alike (definer_of name units) (p.semantic name) name then 0 else number_by (Some p) Caller name

abbrev pub merged_numbers : List Planned → Numbers
merged_numbers units unit party name = merged_by units (slice_get units unit) party name
