-- A block of checks: the evaluations of the contract assertions of one call that one party makes, in an order and with repetitions that [basic.contract.eval] of P2900R14 permits; the numbers of evaluations are this project's own.
use Rattle.std.specs.Prelude.{◌≡◌, ℕ, zero, suc, ◌+◌, ◌≤◌, Bool, true, false, ◌&&◌, ◌||◌, if◌then◌else◌, nat_eq, nat_lt, List, [], ◌∷◌, Option, Some, None}
use Rattle.cx_core.specs.Event.{Evaluation, same_evaluation, begin, waiting, not_a_run}
use Rattle.cx_core.specs.Outcome.{State, Outcome, on, over, Does, Nothing, nothing, ◌>>=◌, ◌>>◌, skip, ends, spend}

-- an evaluation that a row owes: how often in all, how often still, and what it does
pub record Owed : Type 0 where
  pub evaluation : Evaluation
  pub times : ℕ
  pub left : ℕ
  pub check : Does Nothing

-- it has stood once, or is never to stand
abbrev pub has_stood : Owed → Bool
has_stood o = nat_lt o.left o.times || nat_eq o.times 0

-- ---- a row: any list in which each evaluation stands as often as it is owed, and before the first of each has stood each earlier one whose number isn't 0

-- how often an evaluation stands in a list
abbrev pub count : Evaluation → List Evaluation → ℕ
count a [] = 0
count a (e ∷ row) = if same_evaluation e a then suc (count a row) else count a row

-- each evaluation stands as often as it is still owed
abbrev pub has_numbers : List Owed → List Evaluation → Bool
has_numbers [] row = true
has_numbers (o ∷ owed) row = nat_eq (count o.evaluation row) o.left && has_numbers owed row

-- the first evaluation stands before the second one does, if that one stands at all
abbrev pub stands_before : Evaluation → Evaluation → List Evaluation → Bool
stands_before a b [] = true
stands_before a b (e ∷ row) =
    if same_evaluation e a then true else (if same_evaluation e b then false else stands_before a b row)

abbrev pub stands_before_each : Evaluation → List Owed → List Evaluation → Bool
stands_before_each a [] row = true
stands_before_each a (o ∷ later) row = stands_before a o.evaluation row && stands_before_each a later row

-- each that is to stand stands before each later one does, unless it has stood already
abbrev pub has_order : List Owed → List Evaluation → Bool
has_order [] row = true
has_order (o ∷ owed) row = (has_stood o || stands_before_each o.evaluation owed row) && has_order owed row

abbrev pub is_owed : Evaluation → List Owed → Bool
is_owed e [] = false
is_owed e (o ∷ owed) = same_evaluation e o.evaluation || is_owed e owed

abbrev pub has_no_other : List Owed → List Evaluation → Bool
has_no_other owed [] = true
has_no_other owed (e ∷ row) = is_owed e owed && has_no_other owed row

abbrev pub is_row : List Owed → List Evaluation → Bool
is_row owed row = has_numbers owed row && (has_order owed row && has_no_other owed row)

-- ---- what consumes it

-- what stands next, and what is owed then
abbrev pub Continued : Type 0
Continued = Does Nothing × List Owed

abbrev pub once_less : ℕ → Owed → List Owed → Option Continued
once_less zero o owed = None
once_less (suc left) o owed = Some (o.check, record o { left = left } ∷ owed)

abbrev pub behind : Owed → Option Continued → Option Continued
behind o None = None
behind o (Some c) = Some (c.0, o ∷ c.1)

-- a row may go on with an evaluation that is still owed and before which each of the row, if it is ever to stand, has stood
abbrev pub continued : Evaluation → List Owed → Option Continued
continued e [] = None
continued e (o ∷ owed) =
    if same_evaluation e o.evaluation
    then once_less o.left o owed
    else (if has_stood o then behind o (continued e owed) else None)

abbrev pub total : List Owed → ℕ
total [] = 0
total (o ∷ owed) = o.left + total owed

-- the next evaluation that is told
abbrev pub next_of : List Evaluation → State → Outcome Evaluation
next_of [] s = over waiting s.trace
next_of (e ∷ begins) s = on e s

unfoldable pub next_told : Does Evaluation
next_told = λ s. next_of s.begins s

-- it begins
abbrev pub begin_of : List Evaluation → State → Outcome Nothing
begin_of [] s = over waiting s.trace
begin_of (e ∷ begins) s = on nothing (record s { begins = begins; trace = begin e ∷ s.trace })

unfoldable pub begin_told : Does Nothing
begin_told = λ s. begin_of s.begins s

abbrev pub if_permitted : Option Continued → (Does Nothing → List Owed → Does Nothing) → Does Nothing
if_permitted None next = ends not_a_run
if_permitted (Some c) next = next c.0 c.1

-- so many evaluations, as they are told
unfoldable pub evaluations : ℕ → List Owed → Does Nothing
evaluations zero owed = skip
evaluations (suc n) owed = do
  e ← next_told
  if_permitted (continued e owed) (λ check more. spend >> begin_told >> check >> evaluations n more)

-- every evaluation that is owed
abbrev pub row : List Owed → Does Nothing
row owed = evaluations (total owed) owed

-- ---- the law: the lists that are consumed are the rows

abbrev pub goes_on : Option Continued → (List Owed → Bool) → Bool
goes_on None rest = false
goes_on (Some next) rest = rest next.1

-- it may go on with each evaluation in turn, and none is owed at the end
abbrev pub is_taken : List Owed → List Evaluation → Bool
is_taken owed [] = nat_eq (total owed) 0
is_taken owed (e ∷ row) = goes_on (continued e owed) (λ rest. is_taken rest row)

-- no evaluation is owed twice
abbrev pub AreDistinct : List Owed → Type 0
AreDistinct [] = Unit {0}
AreDistinct (o ∷ owed) = ((e : Evaluation) → same_evaluation e o.evaluation ≡ true → is_owed e owed ≡ false) × AreDistinct owed

-- no more is left of one than is owed in all
abbrev pub AreWithin : List Owed → Type 0
AreWithin [] = Unit {0}
AreWithin (o ∷ owed) = (o.left ≤ o.times) × AreWithin owed

abbrev pub TakenAreTheRows : Type 0
TakenAreTheRows = (row : List Evaluation) (owed : List Owed) → AreDistinct owed → AreWithin owed → is_taken owed row ≡ is_row owed row
