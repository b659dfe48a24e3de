-- Parts of the machine's steps that have functions of their own here.
use Rattle.std.specs.Prelude.{ℕ, ◌+◌, Bool, false, not, if◌then◌else◌, List, [], ◌∷◌, Option, Some, None, map, reverse, pos, slice_get}
use Rattle.cx_core.specs.Tree as tree
use Rattle.cx_core.specs.Tree.{ObjectType, Operand, Args, Init}
use Rattle.cx_core.specs.Program.{Program, Class, Field}
use Rattle.cx_core.specs.Event as event
use Rattle.cx_core.specs.Leaving.{class_fields}
use Rattle.cx_core.specs.declared.number.IntegerType.{IntegerType}
use Rattle.cx_core.specs.declared.number.BinaryOperator.{BinaryOperator}
use Rattle.cx_core.specs.declared.number.UnaryOperator.{UnaryOperator}
use Rattle.cx_core.specs.Store.{Address, Value, number, address, null, function, place_in}
use Rattle.cx_core.specs.Outcome.{Living, whole, Exception, Frame, Does, Nothing, ◌>>=◌, ◌>>◌, gives, throws, some, current_frame, current_living, current_temporaries, current_held, set_held, append, set_temporaries, spend, spend_all, make, end_lifetime, place_of, read_leaf, write}
use Rattle.cx_core.specs.Check.{truth}
use Rattle.cx_core.specs.Operators.{constant, named, bind, truth_value, operated, unary_operated, stored, updated, step}
use Rattle.cx_core.specs.declared.unit.LeafKind.{LeafKind}
use Rattle.cx_core.specs.View.{leaf_kind}
use Rattle.cx_core.specs.Statements.{zero_leaf, zero_leaves, zero_object, keep_field, type_name}
use Rattle.cx_core.specs.Calls.{Callee, by_pointer, result_stored}
use Rattle.cx_core.specs.Leaving.{Call}
use Rattle.cx_core.specs.Meaning.{held_object, object_place, copy_leaf}
use Rattle.cx_plain.specs.Task as task
use Rattle.cx_plain.specs.Task.{Level, Left, Keeper, Task, Next}
use Rattle.cx_plain.specs.Step.{answered, bind_object, doing, giving, keeps, silent, left_by, no_calls, step_call, valued}

-- ---- expressions without parts

abbrev pub literal_of : tree.Constant → Does Value
literal_of c = spend >> gives (constant c)

abbrev pub variable_of : ℕ → Does Value
variable_of slot = spend >> named slot

abbrev pub global_of : ℕ → Does Value
global_of i = spend >> gives (object_place (i + 1))

abbrev pub function_name_of : ℕ → Does Value
function_name_of f = spend >> gives (function f)

abbrev pub result_in_frame : Does Value
result_in_frame = current_frame >>= (λ frame. some frame.result)

abbrev pub result_name_of : Does Value
result_name_of = spend >> current_frame >>= (λ frame. some frame.result)

abbrev pub exception_object_of : Does Value
exception_object_of = current_held >>= held_object

-- ---- calls

-- a function is called with a scalar result object
abbrev pub object_call : Level → Callee → Args → Does Next
object_call level callee a = do
  n ← make 1
  doing (task.call_into level callee a n) (task.end_result n ∷ [])

-- a temporary of a class is made, and a call of what a pointer holds initialises it
abbrev pub temporary_called : Level → (class : ℕ) → Value → Args → (leaves : ℕ) → Does Next
temporary_called level c p a leaves = do
  n ← make leaves
  doing (task.call_of level (by_pointer p) None a (Some (object_place n))) (task.discard ∷ task.made task.full_expression n (tree.class c) ∷ task.place_of_object ∷ [])

abbrev pub function_called : Program → Level → ℕ → Args → Does Next
function_called program level f a = some (slice_get program.functions f) >>= (λ definition. step_call program level definition.result f a)

-- ---- how parts are left

abbrev pub scope_left : Level → List Living → Left → Does Next
scope_left level outer left = do
  living ← current_living
  doing (task.ending_each level living) (task.restore_living outer left ∷ [])

abbrev pub full_expression_left : Level → List Living → Left → Does Next
full_expression_left level outer left = do
  temporaries ← current_temporaries
  doing (task.ending_each level temporaries) (task.restore_temporaries outer left ∷ [])

abbrev pub fields_undone : Level → List Living → Exception → Does Next
fields_undone level outer e = do
  living ← current_living
  doing (task.ending_each level living) (task.undone_fields outer e ∷ [])

-- an exception that no handler holds any longer is ended, unless it is among others
abbrev pub released : Level → Exception → Bool → Left → Does Next
released level e among left =
    if among then left_by left else doing (task.ending level (whole e.object e.type)) (task.as_left left ∷ [])

abbrev pub handler_left : Level → Exception → List Exception → Bool → Left → Does Next
handler_left level e others among left = set_held others >> released level e among left

-- ---- what is done with the value of an operand

abbrev pub unary_applied : UnaryOperator → IntegerType → Value → Does Value
unary_applied operator type x = spend >> unary_operated operator type x

abbrev pub binary_applied : BinaryOperator → IntegerType → Value → Value → Does Value
binary_applied operator type x y = spend >> operated operator type x y

abbrev pub cast_applied : Value → Does Value
cast_applied x = spend >> gives x

abbrev pub assign_applied : Value → Value → Does Value
assign_applied v place = do
  spend
  stored place v
  gives place

abbrev pub compound_assign_applied : BinaryOperator → (computed kept : IntegerType) → Value → Value → Does Value
compound_assign_applied operator computed kept v place = do
  spend
  updated operator computed kept place v
  gives place

abbrev pub prefix_applied : BinaryOperator → IntegerType → Value → Does Value
prefix_applied operator type place = do
  spend
  step operator type place
  gives place

abbrev pub postfix_applied : BinaryOperator → IntegerType → Value → Does Value
postfix_applied operator type place = spend >> step operator type place

abbrev pub indirection_applied : Value → Does Value
indirection_applied p = do
  spend
  a ← place_of p
  gives (address a)

abbrev pub member_applied : ℕ → Value → Does Value
member_applied leaf place = do
  spend
  a ← place_of place
  read_leaf a
  gives (address (place_in a leaf))

abbrev pub result_in_place : Value → Value → Does Value
result_in_place place v = place_of place >>= (λ a. write a (Some v)) >> gives v

abbrev pub result_applied : Program → Value → Does Value
result_applied program v = do
  frame ← current_frame
  result_stored program no_calls frame.result v

-- ---- zero-initialisation

abbrev pub number_zeroed : Address → Does Nothing
number_zeroed a = spend >> write a (Some (number (pos 0)))

abbrev pub pointer_zeroed : Address → Does Nothing
pointer_zeroed a = spend >> write a (Some null)

abbrev pub leaf_zeroed : Address → LeafKind → Does Nothing
leaf_zeroed a kind = zero_leaf a (leaf_kind kind)

abbrev pub leaves_zeroed : Address → List LeafKind → Does Nothing
leaves_zeroed a leaves = zero_leaves a (map leaf_kind leaves)

abbrev pub class_zeroed : Class → Address → Does Nothing
class_zeroed c a = zero_leaves a c.leaves >> spend_all c.objects

abbrev pub zero_first_of : Program → Level → ℕ → Init → Address → Does Next
zero_first_of program level c i p = zero_object program no_calls c p >> doing (task.initialise level i p) []

-- ---- what operands and arguments give

abbrev pub truth_tested : Value → Does Next
truth_tested v = answered task.truth (truth v)

abbrev pub decided : Level → Bool → Operand → Bool → Does Next
decided level decides b x = spend >>
    (if (if decides then x else not x) then giving (task.value (truth_value decides)) else doing (task.used_truth level b) (task.truth_as_value ∷ []))

abbrev pub chosen : Level → (b c : Operand) → Bool → Does Next
chosen level b c x = spend >> (if x then doing (task.used level b) [] else doing (task.used level c) [])

-- a call that the active one makes, of a function by its name or through a pointer
abbrev pub call_here : (named : Bool) → ℕ → List Value → Option Value → Frame → Call
call_here named f arguments result frame = record {
  function = f;
  caller = if named then Some frame.unit else None;
  unit = frame.unit;
  reports = None;
  arguments = arguments;
  result = result;
}

abbrev pub result_ended : ℕ → Value → Does Next
result_ended n v = valued (end_lifetime n >> gives v)

abbrev pub ended_by : ℕ → Exception → Does Next
ended_by n e = end_lifetime n >> throws e

-- ---- objects

abbrev pub object_gone : ℕ → Does Next
object_gone n = silent (end_lifetime n)

abbrev pub class_object_gone : Level → ℕ → ℕ → Does Next
class_object_gone level n c = doing (task.destroying level c (record { object = n; leaf = 0 })) (task.end_object n ∷ [])

abbrev pub first_ending : Level → Living → List Living → Does Next
first_ending level l living = doing (task.ending level l) (task.then_next (task.ending_each level living) ∷ [])

abbrev pub destroyed_by : Level → Class → Address → Does Next
destroyed_by level c a = do
  frame ← current_frame
  doing (task.calling level.implicit level.counted (call_here false c.destructor (address a ∷ []) None frame)) (task.discard ∷ [])

abbrev pub first_destroying : Level → Address → ℕ × ℕ → List (ℕ × ℕ) → Does Next
first_destroying level a f fields =
    doing (task.destroying level f.1 (place_in a f.0)) (task.then_next (task.destroying_each level a fields) ∷ [])

abbrev pub fields_destroyed_by : Level → Class → Address → Does Next
fields_destroyed_by level c a = doing (task.destroying_each level a (reverse (class_fields c.fields))) []

abbrev pub made_at : Level → Keeper → ObjectType → Option ℕ → Init → ℕ → Does Next
made_at level keeper type slot i leaves = do
  n ← make leaves
  bind_object slot (record { object = n; leaf = 0 })
  doing (task.initialise level i (record { object = n; leaf = 0 })) (task.made keeper n type ∷ [])

abbrev pub object_kept : Keeper → ℕ → ObjectType → Does Next
object_kept keeper n type = answered task.number (keeps keeper (whole n type) >> gives n)

-- whatever the program is
abbrev pub field_kept : Program → Address → ObjectType → Does Next
field_kept program a type = silent (keep_field program no_calls a type)

abbrev pub value_written : Address → Value → Does Next
value_written p v = silent (write p (Some v))

abbrev pub place_bound : ℕ → Value → Does Next
place_bound slot v = silent (bind slot v)

abbrev pub exception_thrown : Program → Exception → Does Next
exception_thrown program e = do
  spend
  append (event.throw (type_name program e.type))
  throws e

-- ---- fields

abbrev pub this_place_of : Does Address
this_place_of = named 0 >>= place_of

abbrev pub leaf_copied : Address → Address → Does Nothing
leaf_copied from to = spend >> read_leaf from >>= write to

abbrev pub copied_leaf : Program → Address → Address → Does Next
copied_leaf program source to = silent (copy_leaf program no_calls source to)

abbrev pub field_started : Level → Address → ObjectType → Task → Task → Does Next
field_started level a type t rest = do
  outer ← current_temporaries
  set_temporaries []
  doing t (task.leaving_full level outer ∷ task.keeping_field a type ∷ task.then_next rest ∷ [])

abbrev pub default_started : Program → Level → (leaf class constructor : ℕ) → List Field → Does Next
default_started program level leaf class constructor fields = do
  this ← this_place_of
  field_started level (place_in this leaf) (tree.class class) (task.construct_at level constructor (place_in this leaf) []) (task.default_fields level fields)

abbrev pub copied_by : Level → Class → Address → Address → Does Next
copied_by level c source to = doing (task.construct_at level c.copy_constructor to (address source ∷ [])) []
