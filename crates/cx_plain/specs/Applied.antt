-- What the steps of the machine for the meaning are made of: parts without parts of their own, what is done with the values of operands, and rows of checks.
use Rattle.std.specs.Prelude.{ℕ, zero, suc, ◌+◌, Bool, ◌||◌, if◌then◌else◌, List, [], ◌∷◌, nat_eq, nat_lt, Option, Some, None, pos}
use Rattle.cx_core.specs.Words.{Party, Mixed}
use Rattle.cx_core.specs.Tree.{Check, Specifier, Stmt}
use Rattle.cx_core.specs.Program.{Program}
use Rattle.cx_core.specs.Store.{Address, Value, address, null, place_in}
use Rattle.cx_core.specs.Store as store
use Rattle.cx_core.specs.Event.{Evaluation, same_evaluation, not_a_run}
use Rattle.cx_core.specs.Outcome.{Living, Does, Nothing, ◌>>=◌, ◌>>◌, gives, throws, skip, ends, undefined, some, current_frame, spend, spend_all, keep, keep_temporary, place_of, read_leaf}
use Rattle.cx_core.specs.Leaving.{Call, Calls}
use Rattle.cx_core.specs.Operators.{bind, read_as, converted_to, number_of, operated, unary_operated, stored, updated, step}
use Rattle.cx_core.specs.Library.{write_bytes, byte_of, puts_bytes, violation_in, query_units, told_number}
use Rattle.cx_core.specs.Statements.{Completion}
use Rattle.cx_core.specs.Calls.{result_stored}
use Rattle.cx_plain.specs.Task as task
use Rattle.cx_plain.specs.Task.{Level, Given, value, nothing, values, number, completion, Left, given, thrown, Operation, Keeper, innermost_scope, full_expression, nobody, Loop, Due, Task, Frame, Next, go}

-- ---- what is given

abbrev pub on_value : {A : Type 0} → Given → (Value → Does A) → Does A
on_value (value v) next = next v
on_value other next = undefined Mixed

abbrev pub on_truth : {A : Type 0} → Given → (Bool → Does A) → Does A
on_truth (task.truth b) next = next b
on_truth other next = undefined Mixed

abbrev pub on_values : {A : Type 0} → Given → (List Value → Does A) → Does A
on_values (values vs) next = next vs
on_values other next = undefined Mixed

abbrev pub on_number : {A : Type 0} → Given → (ℕ → Does A) → Does A
on_number (number n) next = next n
on_number other next = undefined Mixed

abbrev pub on_completion : {A : Type 0} → Given → (Completion → Does A) → Does A
on_completion (completion c) next = next c
on_completion other next = undefined Mixed

-- what a part without parts of its own gives
abbrev pub answered : {A : Type 0} → (A → Given) → Does A → Does Next
answered as_given m = m >>= (λ a. gives (task.give (as_given a)))

abbrev pub valued : Does Value → Does Next
valued m = answered value m

abbrev pub silent : Does Nothing → Does Next
silent m = answered (λ _. nothing) m

abbrev pub giving : Given → Does Next
giving g = gives (task.give g)

abbrev pub doing : Task → List Frame → Does Next
doing t frames = gives (go t frames)

abbrev pub left_by : Left → Does Next
left_by (given g) = giving g
left_by (thrown e) = throws e

-- the parts of the meaning that call nothing take what calls do all the same
abbrev pub no_calls : Calls
no_calls c = undefined Mixed

-- ---- operators

abbrev pub applied : Program → Operation → Value → Does Value
applied program (task.unary operator type) x = spend >> unary_operated operator type x
applied program (task.binary operator type x) y = spend >> operated operator type x y
applied program task.cast x = spend >> gives x
applied program (task.assign v) place = do
  spend
  stored place v
  gives place
applied program (task.compound_assign operator computed kept v) place = do
  spend
  updated operator computed kept place v
  gives place
applied program (task.prefix_step operator type) place = do
  spend
  step operator type place
  gives place
applied program (task.postfix_step operator type) place = spend >> step operator type place
applied program task.indirection p = do
  spend
  a ← place_of p
  gives (address a)
applied program (task.member leaf) place = do
  spend
  a ← place_of place
  read_leaf a
  gives (address (place_in a leaf))
applied program (task.read type) v = read_as type v
applied program (task.convert to) v = converted_to to v
applied program task.putchar v = do
  n ← some (number_of v)
  spend
  write_bytes (byte_of n ∷ [])
  gives (store.number (pos (byte_of n)))
applied program task.puts_comment place = do
  v ← some (violation_in place)
  spend_all 2
  puts_bytes v.comment
applied program (task.query query) place = do
  v ← some (violation_in place)
  spend_all (query_units query)
  gives (store.number (pos (told_number query v)))
applied program task.store_result v = do
  frame ← current_frame
  result_stored program no_calls frame.result v

-- ---- rows

abbrev pub first_due : Specifier Check → Due
first_due s = record { check = s; left = s.of.times }

abbrev pub due_in_all : List (Specifier Check) → ℕ
due_in_all [] = 0
due_in_all (s ∷ checks) = s.of.times + due_in_all checks

abbrev pub evaluation_of : Party → Check → Evaluation
evaluation_of party c = record { assertion = c.assertion.name; party = party; semantic = c.semantic }

abbrev pub has_stood : Due → Bool
has_stood d = nat_lt d.left d.check.of.times || nat_eq d.check.of.times 0

abbrev pub Continued : Type 0
Continued = Specifier Check × List Due

abbrev pub once_less : ℕ → Due → List Due → Option Continued
once_less zero d due = None
once_less (suc left) d due = Some (d.check, record d { left = left } ∷ due)

abbrev pub behind : Due → Option Continued → Option Continued
behind d None = None
behind d (Some c) = Some (c.0, d ∷ c.1)

abbrev pub continued : Party → Evaluation → List Due → Option Continued
continued party e [] = None
continued party e (d ∷ due) =
    if same_evaluation e (evaluation_of party d.check.of)
    then once_less d.left d due
    else (if has_stood d then behind d (continued party e due) else None)

abbrev pub if_permitted : Option Continued → (Specifier Check → List Due → Does Next) → Does Next
if_permitted None next = ends not_a_run
if_permitted (Some c) next = next c.0 c.1

-- ---- steps

abbrev pub keeps : Keeper → Living → Does Nothing
keeps innermost_scope l = keep l
keeps full_expression l = keep_temporary l
keeps nobody l = skip

abbrev pub bind_object : Option ℕ → Address → Does Nothing
bind_object None a = skip
bind_object (Some slot) a = bind slot (address a)

abbrev pub this_first : Option Address → List Frame → List Frame
this_first None frames = frames
this_first (Some a) frames = task.first_argument (address a) ∷ frames

-- what the checks of a call ask of it
abbrev pub site_of : Call → Call
site_of c = record c { arguments = []; result = None }

abbrev pub after_turn_task : Level → Loop → ℕ → Option (Stmt Check) → Next
after_turn_task level loop n None = go (task.turns level loop n) []
after_turn_task level loop n (Some s) = go (task.statement level s) (task.then_next (task.turns level loop n) ∷ [])
