-- What is done where a scope, a full-expression, a constructor, a handler or a call is left, in whatever way: [stmt.jump.general], [class.temporary], [except.ctor], [except.terminate] and [class.dtor] of the C++ draft, with this project's own end at the edge where `std::terminate` is due.
use Rattle.std.specs.Prelude.{ℕ, Bool, false, ◌||◌, if◌then◌else◌, nat_eq, List, [], ◌∷◌, length, reverse, Option, Some, None, slice_get}
use Rattle.cx_core.specs.Words.{Violation}
use Rattle.cx_core.specs.Tree.{ObjectType, scalar, pointer, function_pointer, class}
use Rattle.cx_core.specs.Store.{Address, Value, address, place_in}
use Rattle.cx_core.specs.Outcome.{Living, whole, field, Exception, Frame, Does, Nothing, either, ◌>>=◌, ◌>>◌, gives, throws, skip, some, finally, undone_by, edge, current_frame, set_frame, current_living, set_living, current_temporaries, set_temporaries, current_held, set_held, make, end_lifetime}
use Rattle.cx_core.specs.Program.{Program, Class, Field}

-- a call that is about to become active
pub record Call : Type 0 where
  pub function : ℕ
  -- the unit that checks the function's contract assertions as Caller; none at a call through a pointer, of a destructor or by a violation
  pub caller : Option ℕ
  -- the unit whose code evaluates the call; implicit functions are code of it
  pub unit : ℕ
  -- the violation that makes this call of its handler
  pub reports : Option Violation
  -- what the parameters denote, `this` first
  pub arguments : List Value
  -- the place of the result object
  pub result : Option Value

-- what calls do
abbrev pub Calls : Type 0
Calls = Call → Does Value

abbrev pub edge_if : {A : Type 0} → Bool → Does A → Does A
edge_if noexcept m = if noexcept then edge m else m

-- in the frame of a call
abbrev pub within : {A : Type 0} → Frame → Does A → Does A
within frame m = do
  outer ← current_frame
  set_frame frame
  finally m (set_frame outer)

-- in the code of a unit
abbrev pub in_unit : ℕ → Does Nothing → Does Nothing
in_unit unit m = do
  frame ← current_frame
  within (record frame { unit = unit }) m

abbrev pub and_class_field : ℕ → ObjectType → List (ℕ × ℕ) → List (ℕ × ℕ)
and_class_field leaf (class c) fields = (leaf, c) ∷ fields
and_class_field leaf (scalar s) fields = fields
and_class_field leaf (pointer t) fields = fields
and_class_field leaf (function_pointer t) fields = fields

-- the fields that are class objects, by leaf and class, in order
abbrev pub class_fields : List Field → List (ℕ × ℕ)
class_fields [] = []
class_fields (f ∷ fields) = and_class_field f.leaf f.type (class_fields fields)

module _ (program : Program) (calls : Calls) where
  abbrev pub class_at : ℕ → Does Class
  class_at c = some (slice_get program.classes c)

  abbrev pub leaves_of_type : ObjectType → Does ℕ
  leaves_of_type (scalar s) = gives 1
  leaves_of_type (pointer t) = gives 1
  leaves_of_type (function_pointer t) = gives 1
  leaves_of_type (class c) = class_at c >>= (λ definition. gives (length definition.leaves))

  -- the object at a place is constructed by a call that no expression of the source makes
  abbrev pub construct_at : (constructor : ℕ) → Address → List Value → Does Nothing
  construct_at f a arguments = do
    frame ← current_frame
    calls (record { function = f; caller = Some frame.unit; unit = frame.unit; reports = None; arguments = address a ∷ arguments; result = None })
    skip

  -- a class object is destroyed by its destructor, implicit or not
  abbrev pub destroy : ℕ → Address → Does Nothing
  destroy c a = do
    definition ← class_at c
    frame ← current_frame
    calls (record { function = definition.destructor; caller = None; unit = frame.unit; reports = None; arguments = address a ∷ []; result = None })
    skip

  abbrev pub destroy_each : Address → List (ℕ × ℕ) → Does Nothing
  destroy_each a [] = skip
  destroy_each a (f ∷ fields) = destroy f.1 (place_in a f.0) >> destroy_each a fields

  -- the class fields of an object, in reverse
  abbrev pub destroy_fields : ℕ → Address → Does Nothing
  destroy_fields c a = do
    definition ← class_at c
    destroy_each a (reverse (class_fields definition.fields))

  abbrev pub destroy_object : ℕ → ObjectType → Does Nothing
  destroy_object n (class c) = destroy c (record { object = n; leaf = 0 })
  destroy_object n other = skip

  abbrev pub end : Living → Does Nothing
  end (whole n type) = destroy_object n type >> end_lifetime n
  end (field a c) = destroy c a

  abbrev pub end_each : List Living → Does Nothing
  end_each [] = skip
  end_each (l ∷ living) = end l >> end_each living

  -- a scope that is left ends its objects, the latest first
  abbrev pub scope : {A : Type 0} → Does A → Does A
  scope m = do
    outer ← current_living
    set_living []
    finally m (current_living >>= end_each >> set_living outer)

  -- a full-expression that is left ends its temporaries, the latest first
  abbrev pub full_expression : {A : Type 0} → Does A → Does A
  full_expression m = do
    outer ← current_temporaries
    set_temporaries []
    finally m (current_temporaries >>= end_each >> set_temporaries outer)

  -- a constructor that is left by an exception destroys the fields that it has constructed
  abbrev pub constructing : {A : Type 0} → Does A → Does A
  constructing m = do
    outer ← current_living
    set_living []
    finally (undone_by m (current_living >>= end_each)) (set_living outer)

  -- ---- objects

  -- an object spends its unit and gets its number before its initialiser is evaluated, and belongs to its scope once that is done;
  -- where that is left by an exception the object ends without more
  abbrev pub object : (Living → Does Nothing) → ObjectType → (Address → Does Nothing) → Does ℕ
  object keeps type init = do
    leaves ← leaves_of_type type
    n ← make leaves
    undone_by (init (record { object = n; leaf = 0 })) (end_lifetime n)
    keeps (whole n type)
    gives n

  -- ---- exceptions

  abbrev pub is_among : Exception → List Exception → Bool
  is_among e [] = false
  is_among e (h ∷ held) = nat_eq e.object h.object || is_among e held

  -- an exception object ends when no handler holds it and it isn't being thrown
  abbrev pub end_unless_among : Exception → List Exception → Does Nothing
  end_unless_among e others = if is_among e others then skip else end (whole e.object e.type)

  -- the exception is held meanwhile
  abbrev pub holding : {A : Type 0} → Exception → Does A → Does A
  holding e m = do
    held ← current_held
    set_held (e ∷ held)
    either m
        (λ a. set_held held >> end_unless_among e held >> gives a)
        (λ x. set_held held >> end_unless_among e (x ∷ held) >> throws x)
