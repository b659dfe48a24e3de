-- What a plan makes of the contract assertions of a set of units, as a list of the checks by unit and party; this project's own.
use Rattle.std.specs.Prelude.{ℕ, suc, Bool, true, false, ◌&&◌, ◌||◌, if◌then◌else◌, List, [], ◌∷◌, ◌++◌, Option, Some, None, bytes_eq, nat_eq, slice_get}
use Rattle.std.specs.List.{flat_map}
use Rattle.cx_core.specs.Words.{Party, Definer, Caller, Pre, Post, Semantic}
use Rattle.cx_core.specs.declared.unit.CallSite.{CallSite}
use Rattle.cx_core.specs.declared.unit.CallPlace.{CallPlace}
use Rattle.cx_core.specs.declared.unit.CallPlace.TheVariants as places
use Rattle.cx_core.specs.Outcome.{Nothing, nothing}
use Rattle.cx_core.specs.Tree.{Assertion, Specifier, Stmt, block, if_else, while_loop, for_loop, contract_assert, try, Stmts, done, next, Handlers, none, catch_all, catch}
use Rattle.cx_core.specs.Program.{Body, function, constructor, destructor}
use Rattle.cx_core.specs.Unit.{UnitFunction, is_defined}
use Rattle.cx_core.specs.Numbers.{Planned, caller_takes_part}

-- an assertion as a unit evaluates it as a party, ignored or not
pub record Listed : Type 0 where
  pub unit : List ℕ
  pub party : Party
  pub semantic : Semantic
  pub assertion : Assertion

-- ---- the assertion statements of a definition, in order

unfoldable mutual
  pub asserts_in : {A : Type 0} → Stmt A → List A
  asserts_in (contract_assert a predicate) = a ∷ []
  asserts_in (block b) = asserts_among b
  asserts_in (if_else c a b) = asserts_in a ++ asserts_in b
  asserts_in (while_loop c body) = asserts_in body
  asserts_in (for_loop first c step body) = asserts_in body
  asserts_in (try b h) = asserts_among b ++ asserts_of_handlers h
  asserts_in other = []

  pub asserts_among : {A : Type 0} → Stmts A → List A
  asserts_among done = []
  asserts_among (next s rest) = asserts_in s ++ asserts_among rest

  pub asserts_of_handlers : {A : Type 0} → Handlers A → List A
  asserts_of_handlers none = []
  asserts_of_handlers (catch_all b rest) = asserts_among b ++ asserts_of_handlers rest
  asserts_of_handlers (catch type parameter b rest) = asserts_among b ++ asserts_of_handlers rest

abbrev pub asserts_of : {A : Type 0} → Body A → List A
asserts_of (function b) = asserts_among b
asserts_of (constructor fields b) = asserts_among b
asserts_of (destructor c b) = asserts_among b
asserts_of implicit = []

-- ---- which unit is the Definer

abbrev pub is_body_of : List ℕ → UnitFunction → Bool
is_body_of name f = bytes_eq f.name name && is_defined f.body

abbrev pub has_definition : List ℕ → List UnitFunction → Bool
has_definition name [] = false
has_definition name (f ∷ functions) = is_body_of name f || has_definition name functions

-- the number of the first unit that defines it, from this one on
abbrev pub definer_from : List ℕ → ℕ → List Planned → Option ℕ
definer_from name unit [] = None
definer_from name unit (p ∷ later) = if has_definition name p.unit.functions then Some unit else definer_from name (suc unit) later

abbrev pub is_number : ℕ → Option ℕ → Bool
is_number unit None = false
is_number unit (Some n) = nat_eq n unit

-- ---- the lines

abbrev pub line_of : Planned → Party → Option Assertion → List Listed
line_of p party None = []
line_of p party (Some a) = record { unit = p.unit.name; party = party; semantic = p.semantic a.name; assertion = a } ∷ []

abbrev pub line_at : Planned → Party → (assertion : ℕ) → List Listed
line_at p party a = line_of p party (slice_get p.unit.assertions a)

abbrev pub lines_of : Planned → Party → List (Specifier ℕ) → List Listed
lines_of p party specifiers = flat_map (λ s. line_at p party s.of) specifiers

abbrev pub lines_of_body : Planned → Option (Body ℕ) → List Listed
lines_of_body p None = []
lines_of_body p (Some b) = flat_map (line_at p Definer) (asserts_of b)

abbrev pub definer_lines : Planned → Option UnitFunction → List Listed
definer_lines p None = []
definer_lines p (Some f) = lines_of p Definer f.preconditions ++ (lines_of p Definer f.postconditions ++ lines_of_body p f.body)

abbrev pub caller_lines : Planned → Option UnitFunction → List Listed
caller_lines p None = []
caller_lines p (Some f) =
    (if caller_takes_part p.choice.calls Pre then lines_of p Caller f.preconditions else [])
    ++ (if caller_takes_part p.choice.calls Post then lines_of p Caller f.postconditions else [])

abbrev pub name_at : Planned → ℕ → List ℕ
name_at p f = name_of (slice_get p.unit.functions f)
  where
    name_of : Option UnitFunction → List ℕ
    name_of None = []
    name_of (Some f) = f.name

module _ (units : List Planned) where
  abbrev pub is_definer : (unit : ℕ) → Planned → (function : ℕ) → Bool
  is_definer unit p f = is_number unit (definer_from (name_at p f) 0 units)

  -- the definitions whose Definer the unit is, by place
  abbrev pub defined_lines : (unit : ℕ) → Planned → List Listed
  defined_lines unit p = flat_map (λ f. if is_definer unit p f then definer_lines p (slice_get p.unit.functions f) else []) p.unit.definitions

  -- a call is the unit's where it stands in a definition whose Definer the unit is, or in a predicate of its first declarations
  abbrev pub is_of_unit : (unit : ℕ) → Planned → CallPlace → Bool
  is_of_unit unit p (places.Definition f) = is_definer unit p f
  is_of_unit unit p (places.Predicate f) = true

  abbrev pub is_in : ℕ → List ℕ → Bool
  is_in f [] = false
  is_in f (g ∷ functions) = nat_eq g f || is_in f functions

  -- what it calls, by place of the first call, each function once and not those before
  abbrev pub called_after : (before : List ℕ) → (unit : ℕ) → Planned → List CallSite → List ℕ
  called_after before unit p [] = []
  called_after before unit p (c ∷ calls) =
      if is_of_unit unit p c.within
      then (if is_in c.function before then called_after before unit p calls else (c.function ∷ called_after (c.function ∷ before) unit p calls))
      else called_after before unit p calls

  abbrev pub called_lines : (unit : ℕ) → Planned → List Listed
  called_lines unit p = flat_map (λ f. caller_lines p (slice_get p.unit.functions f)) (called_after [] unit p p.unit.calls)

  abbrev pub explained_from : (unit : ℕ) → List Planned → List Listed
  explained_from unit [] = []
  explained_from unit (p ∷ later) = defined_lines unit p ++ (called_lines unit p ++ explained_from (suc unit) later)

abbrev pub explained : List Planned → List Listed
explained units = explained_from units 0 units

-- what unfolds where checks are listed by computation
unfoldable pub listing : Nothing
unfolding asserts_in
listing = nothing
