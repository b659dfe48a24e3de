-- What statements and initialisations do, given what their parts do: [stmt], [dcl.init] and [except] of the C++ draft, with this project's own object numbers.
use Rattle.std.specs.Prelude.{ℕ, zero, suc, Bool, false, if◌then◌else◌, List, [], ◌∷◌, Option, Some, None, nat_eq, slice_get, pos}
use Rattle.cx_types.specs.Scalar.{scalar_name, same_scalar}
use Rattle.cx_core.specs.Words.{Terminated}
use Rattle.cx_core.specs.Tree.{ObjectType, scalar, pointer, function_pointer, class}
use Rattle.cx_core.specs.Store.{Address, Value, number, address, null, place_in}
use Rattle.cx_core.specs.Event.{throw, catch, ended, going}
use Rattle.cx_core.specs.Outcome.{field, Exception, Does, Nothing, ◌>>=◌, ◌>>◌, gives, throws, skip, ends, edge, current_held, append, spend, spend_all, keep, place_of, write}
use Rattle.cx_core.specs.Program.{Program, Class, LeafKind, number_leaf, pointer_leaf, empty_leaf}
use Rattle.cx_core.specs.Leaving.{Calls, class_at, scope, full_expression, object, holding}
use Rattle.cx_core.specs.Operators.{bind, named}

-- how a statement is left, unless by an exception or the end of the run
pub data Completion : Type 0 where
  on_to_next break continue : Completion
  -- with the value of a scalar or what a reference denotes, and null otherwise
  return : Value → Completion

abbrev pub completed : Does Nothing → Does Completion
completed m = m >> gives on_to_next

abbrev pub sequence : Does Completion → Completion → Does Completion
sequence rest on_to_next = rest
sequence rest other = gives other

-- ---- loops [stmt.iter]

-- after a turn: the step, then the next turn
abbrev pub after_turn : Does Completion → Does Completion → Completion → Does Completion
after_turn step turns on_to_next = step >> turns
after_turn step turns continue = step >> turns
after_turn step turns break = gives on_to_next
after_turn step turns (return v) = gives (return v)

-- at most as many turns as units of the budget are left, as each one spends a unit
unfoldable pub turns : ℕ → Does Bool → Does Completion → Does Completion → Does Completion
turns zero condition step body = ends going
turns (suc n) condition step body = do
  spend
  b ← condition
  if b then body >>= after_turn step (turns n condition step body) else gives on_to_next

unfoldable pub loop : Does Bool → Does Completion → Does Completion → Does Completion
loop condition step body = λ s. turns s.budget condition step body s

-- ---- types of exceptions

abbrev pub same_type : ObjectType → ObjectType → Bool
same_type (scalar a) (scalar b) = same_scalar a b
same_type (pointer a) (pointer b) = same_type a b
same_type (class a) (class b) = nat_eq a b
same_type _ _ = false

abbrev pub class_name : Option Class → List ℕ
class_name None = []
class_name (Some definition) = definition.name

abbrev pub type_name : Program → ObjectType → List ℕ
type_name program (scalar s) = scalar_name s
type_name program (pointer t) = []
type_name program (function_pointer t) = []
type_name program (class c) = class_name (slice_get program.classes c)

-- ---- zero-initialisation [dcl.init.general]

abbrev pub zero_leaf : Address → LeafKind → Does Nothing
zero_leaf a number_leaf = spend >> write a (Some (number (pos 0)))
zero_leaf a pointer_leaf = spend >> write a (Some null)
zero_leaf a empty_leaf = skip

abbrev pub zero_leaves : Address → List LeafKind → Does Nothing
zero_leaves a [] = skip
zero_leaves a (kind ∷ leaves) = zero_leaf a kind >> zero_leaves (place_in a 1) leaves

module _ (program : Program) (calls : Calls) where
  abbrev pub zero_object : ℕ → Address → Does Nothing
  zero_object c a = do
    definition ← class_at program calls c
    zero_leaves a definition.leaves
    spend_all definition.objects

  -- ---- exceptions

  -- the exception object is made and initialised, and flies
  abbrev pub throw_of : ObjectType → (Address → Does Nothing) → Does Completion
  throw_of type init = do
    n ← object program calls (λ _. skip) type init
    spend
    append (throw (type_name program type))
    throws (record { object = n; type = type })

  -- the innermost exception that is held flies again
  abbrev pub rethrow_of : List Exception → Does Completion
  rethrow_of [] = ends (ended Terminated)
  rethrow_of (e ∷ held) = append (throw (type_name program e.type)) >> throws e

  abbrev pub rethrown : Does Completion
  rethrown = spend >> current_held >>= rethrow_of

  -- a handler takes an exception: its parameter is initialised, then its block runs
  abbrev pub handled : Exception → Does Nothing → Does Completion → Does Completion
  handled e parameter block = do
    append (catch (type_name program e.type))
    holding program calls e (scope program calls (edge parameter >> block))

  -- ---- objects

  -- a variable may be named in its own initialiser
  abbrev pub variable_of : ℕ → ObjectType → (Address → Does Nothing) → Does Nothing
  variable_of slot type init = full_expression program calls (do
    object program calls keep type (λ a. bind slot (address a) >> init a)
    skip)

  -- a reference that is named in its own initialiser denotes nothing yet
  abbrev pub reference_of : ℕ → Does Value → Does Nothing
  reference_of slot m = do
    bind slot null
    place ← full_expression program calls m
    bind slot place

  -- `this` is the first parameter
  abbrev pub this_place : Does Address
  this_place = named 0 >>= place_of

  abbrev pub keep_field : Address → ObjectType → Does Nothing
  keep_field a (class c) = keep (field a c)
  keep_field a other = skip

  -- a field of the object under construction
  abbrev pub field_of : ℕ → ObjectType → (Address → Does Nothing) → Does Nothing
  field_of leaf type init = do
    this ← this_place
    let a = place_in this leaf
    full_expression program calls (init a)
    keep_field a type
