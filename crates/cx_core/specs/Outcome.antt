-- A run as far as it has come, what a part of it comes to, and how parts follow each other: this project's own form of control flow, exceptions and termination.
-- An object that is made spends a unit of the budget before there is one, and one that ends spends a unit before it is gone; the globals are there before the start.
use Rattle.std.specs.Prelude.{ℕ, zero, suc, List, ◌∷◌, Option, Some, None, Result, Ok, Err, replicate}
use Rattle.cx_core.specs.Words.{Kind, Null, Mixed, Undefined, Terminated}
use Rattle.cx_core.specs.Tree.{ObjectType}
use Rattle.cx_core.specs.Store.{Address, Value, number, address, null, function, violation, Leaf, Store, without, written, leaf_at, value_of}
use Rattle.cx_core.specs.Event.{Evaluation, Event, Answer, ended, going}

-- a live object of a scope: one with a number, or a class field of an object under construction
pub data Living : Type 0 where
  whole : (object : ℕ) → ObjectType → Living
  field : Address → (class : ℕ) → Living

-- a thrown exception, by its exception object
pub record Exception : Type 0 where
  pub object : ℕ
  pub type : ObjectType

-- the call that is active, or the predicate that is evaluated for it
pub record Frame : Type 0 where
  -- the unit whose code runs
  pub unit : ℕ
  -- what the variables and parameters denote, by slot, the latest first
  pub variables : List (ℕ × Value)
  -- the place of the result object, or what a reference result refers to
  pub result : Option Value

pub record State : Type 0 where
  pub store : Store
  -- the number of the next object
  pub next : ℕ
  pub frame : Frame
  -- the live objects of the innermost scope, and the temporaries of the innermost full-expression, the latest first
  pub living : List Living
  pub temporaries : List Living
  -- the exceptions that handlers hold, the innermost first
  pub held : List Exception
  -- the evaluations that are told, from the next one on
  pub begins : List Evaluation
  -- the bytes of the input that aren't read yet
  pub input : List ℕ
  -- the units of the budget that are left
  pub budget : ℕ
  -- the events so far, the latest first
  pub trace : List Event

-- a part of a run goes on with what it gives, is left by an exception, or is the end of what is said of the run
pub data Outcome (A : Type 0) : Type 0 where
  on : A → State → Outcome A
  thrown : Exception → State → Outcome A
  over : Answer → List Event → Outcome A

abbrev pub Does : Type 0 → Type 0
Does A = State → Outcome A

-- what gives nothing
pub data Nothing : Type 0 where
  nothing : Nothing

-- ---- how parts follow each other

-- The primitives of this file don't unfold by themselves, so that the laws of a run can be stated of each of them.

-- what comes after a part, by how it is left; nothing comes after the end
abbrev pub after : {A B : Type 0} → Outcome A → (A → Does B) → (Exception → Does B) → Outcome B
after (on a s) next handler = next a s
after (thrown e s) next handler = handler e s
after (over answer trace) next handler = over answer trace

unfoldable pub either : {A B : Type 0} → Does A → (A → Does B) → (Exception → Does B) → Does B
either m next handler = λ s. after (m s) next handler

unfoldable pub gives : {A : Type 0} → A → Does A
gives a = λ s. on a s

unfoldable pub throws : {A : Type 0} → Exception → Does A
throws e = λ s. thrown e s

unfoldable pub ends : {A : Type 0} → Answer → Does A
ends answer = λ s. over answer s.trace

-- an exception passes by
infixl 10 ◌>>=◌
abbrev pub ◌>>=◌ : {A B : Type 0} → Does A → (A → Does B) → Does B
m >>= next = either m next throws

infixl 10 ◌>>◌
abbrev pub ◌>>◌ : {A B : Type 0} → Does A → Does B → Does B
m >> next = either m (λ _. next) throws

abbrev pub skip : Does Nothing
skip = gives nothing

abbrev pub undefined : {A : Type 0} → Kind → Does A
undefined kind = ends (ended (Undefined kind))

abbrev pub defined : {A : Type 0} → Result A Kind → Does A
defined (Ok a) = gives a
defined (Err kind) = undefined kind

-- what a well made program always has
abbrev pub some : {A : Type 0} → Option A → Does A
some (Some a) = gives a
some None = undefined Mixed

-- in whatever way m is left
abbrev pub finally : {A : Type 0} → Does A → Does Nothing → Does A
finally m last = either m (λ a. last >> gives a) (λ e. last >> throws e)

-- where m is left by an exception
abbrev pub undone_by : {A : Type 0} → Does A → Does Nothing → Does A
undone_by m last = either m gives (λ e. last >> throws e)

-- no exception passes the edge [except.terminate]
abbrev pub edge : {A : Type 0} → Does A → Does A
edge m = either m gives (λ e. ends (ended Terminated))

-- ---- the parts of a state

unfoldable pub current_frame : Does Frame
current_frame = λ s. on s.frame s

unfoldable pub current_store : Does Store
current_store = λ s. on s.store s

unfoldable pub current_living : Does (List Living)
current_living = λ s. on s.living s

unfoldable pub current_temporaries : Does (List Living)
current_temporaries = λ s. on s.temporaries s

unfoldable pub current_held : Does (List Exception)
current_held = λ s. on s.held s

unfoldable pub set_frame : Frame → Does Nothing
set_frame frame = λ s. on nothing (record s { frame = frame })

unfoldable pub set_living : List Living → Does Nothing
set_living living = λ s. on nothing (record s { living = living })

unfoldable pub set_temporaries : List Living → Does Nothing
set_temporaries temporaries = λ s. on nothing (record s { temporaries = temporaries })

unfoldable pub set_held : List Exception → Does Nothing
set_held held = λ s. on nothing (record s { held = held })

unfoldable pub append : Event → Does Nothing
append event = λ s. on nothing (record s { trace = event ∷ s.trace })

-- one unit of the budget; nothing is said of what comes after the last one
abbrev pub spend_of : ℕ → State → Outcome Nothing
spend_of zero s = over going s.trace
spend_of (suc zero) s = over going s.trace
spend_of (suc (suc left)) s = on nothing (record s { budget = suc left })

unfoldable pub spend : Does Nothing
spend = λ s. spend_of s.budget s

abbrev pub spend_all : ℕ → Does Nothing
spend_all zero = skip
spend_all (suc n) = spend >> spend_all n

-- ---- objects

-- an object of so many leaves, all unset, under the next number
unfoldable pub add : ℕ → Does ℕ
add leaves = λ s. on s.next (record s { next = suc s.next; store = record { number = s.next; leaves = replicate leaves None } ∷ s.store })

-- an object is made: its unit is spent before there is one
abbrev pub make : ℕ → Does ℕ
make leaves = spend >> add leaves

unfoldable pub remove : ℕ → Does Nothing
remove n = λ s. on nothing (record s { store = without s.store n })

abbrev pub end_lifetime : ℕ → Does Nothing
end_lifetime n = spend >> remove n

abbrev pub keep : Living → Does Nothing
keep l = current_living >>= (λ living. set_living (l ∷ living))

abbrev pub keep_temporary : Living → Does Nothing
keep_temporary l = current_temporaries >>= (λ temporaries. set_temporaries (l ∷ temporaries))

-- the place that a reference or pointer denotes
abbrev pub place_of : Value → Does Address
place_of (address a) = gives a
place_of null = undefined Null
place_of (number n) = undefined Mixed
place_of (function f) = undefined Mixed
place_of (violation v) = undefined Mixed

abbrev pub read_leaf : Address → Does Leaf
read_leaf a = current_store >>= (λ store. defined (leaf_at store a))

abbrev pub read : Address → Does Value
read a = current_store >>= (λ store. defined (value_of (leaf_at store a)))

abbrev pub with_store : Result Store Kind → State → Outcome Nothing
with_store (Ok store) s = on nothing (record s { store = store })
with_store (Err kind) s = over (ended (Undefined kind)) s.trace

unfoldable pub write : Address → Leaf → Does Nothing
write a leaf = λ s. with_store (written s.store a leaf) s
