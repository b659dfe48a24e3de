-- What the types of this crate stand for in the meaning; this project's own.
use Rattle.std.specs.Prelude.{ℕ, List, [], map, reverse, Option, None}
use Rattle.std.specs.Option.{option_map}
use Rattle.std.specs.Global.{Vec}
use Rattle.cx_core.specs.Tree as tree
use Rattle.cx_core.specs.Store as store
use Rattle.cx_core.specs.Event as event
use Rattle.cx_core.specs.Outcome as outcome
use Rattle.cx_core.specs.Check as check
use Rattle.cx_core.specs.View.{assertion_of, object_type}
use Rattle.cx_core.specs.Words.{Violation}
use Rattle.cx_plain_state.specs.declared.value.ObjectType.{ObjectType}
use Rattle.cx_plain_state.specs.declared.value.ObjectType.TheVariants as types
use Rattle.cx_plain_state.specs.declared.value.Address.{Address}
use Rattle.cx_plain_state.specs.declared.value.Report.{Report}
use Rattle.cx_plain_state.specs.declared.value.Value.{Value}
use Rattle.cx_plain_state.specs.declared.value.Value.TheVariants as values
use Rattle.cx_plain_state.specs.declared.answer.Living.{Living}
use Rattle.cx_plain_state.specs.declared.answer.Living.TheVariants as livings
use Rattle.cx_plain_state.specs.declared.answer.Exception.{Exception}
use Rattle.cx_plain_state.specs.declared.answer.Evaluation.{Evaluation}
use Rattle.cx_plain_state.specs.declared.answer.Event.{Event}
use Rattle.cx_plain_state.specs.declared.answer.Event.TheVariants as events
use Rattle.cx_plain_state.specs.declared.answer.Answer.{Answer}
use Rattle.cx_plain_state.specs.declared.answer.Answer.TheVariants as answers
use Rattle.cx_plain_state.specs.declared.state.Object.{Object}
use Rattle.cx_plain_state.specs.declared.state.Binding.{Binding}
use Rattle.cx_plain_state.specs.declared.state.Frame.{Frame}
use Rattle.cx_plain_state.specs.declared.state.State.{State}

abbrev pub type_of : ObjectType → tree.ObjectType
type_of (types.Scalar s) = tree.scalar s
type_of (types.Pointer to) = tree.pointer (object_type to)
type_of (types.FunctionPointer t) = tree.function_pointer t
type_of (types.Class c) = tree.class c

abbrev pub address_of : Address → store.Address
address_of a = record { object = a.object; leaf = a.leaf }

abbrev pub violation_of : Report → Violation
violation_of r = check.violation_of (assertion_of r.assertion.now) r.mode r.semantic

abbrev pub value_of : Value → store.Value
value_of (values.Number n) = store.number n
value_of (values.Address a) = store.address (address_of a)
value_of values.Null = store.null
value_of (values.Function f) = store.function f
value_of (values.Violation r) = store.violation (violation_of r)

abbrev pub living_of : Living → outcome.Living
living_of (livings.Whole n type) = outcome.whole n (type_of type)
living_of (livings.Field a c) = outcome.field (address_of a) c

abbrev pub exception_of : Exception → outcome.Exception
exception_of e = record { object = e.object; type = type_of e.of }

abbrev pub evaluation_of : Evaluation → event.Evaluation
evaluation_of e = record { assertion = e.assertion; party = e.party; semantic = e.semantic }

abbrev pub event_of : Event → event.Event
event_of (events.Out b) = event.out b
event_of (events.Input b) = event.input b
event_of events.InputEnd = event.input_end
event_of (events.Begin e) = event.begin (evaluation_of e.now)
event_of (events.Verdict v) = event.verdict v
event_of (events.Handler r) = event.handler (violation_of r)
event_of (events.Throw name) = event.throw name.now
event_of (events.Catch name) = event.catch name.now
event_of (events.Destroyed name a) = event.destroyed name.now a.object a.leaf

abbrev pub answer_of : Answer → event.Answer
answer_of (answers.Ended ending) = event.ended ending
answer_of answers.Going = event.going
answer_of answers.Waiting = event.waiting
answer_of answers.NotARun = event.not_a_run

abbrev pub held_of : List Exception → List outcome.Exception
held_of held = map exception_of held

abbrev pub exceptions_of : Vec Exception → List outcome.Exception
exceptions_of held = map exception_of held.items

abbrev pub livings_of : Vec Living → List outcome.Living
livings_of living = map living_of living.items

abbrev pub leaf_of : Option Value → store.Leaf
leaf_of leaf = option_map value_of leaf

abbrev pub leaves_seen : List (Option Value) → List store.Leaf
leaves_seen leaves = map leaf_of leaves

abbrev pub object_of : Object → store.Object
object_of o = record { number = o.number; leaves = leaves_seen o.leaves.items }

abbrev pub binding_of : Binding → ℕ × store.Value
binding_of b = (b.slot, value_of b.value)

abbrev pub frame_of : Frame → outcome.Frame
frame_of f = record {
  unit = f.unit;
  variables = map binding_of f.variables.items;
  result = option_map value_of f.result;
}

unfoldable pub state_of : State → outcome.State
state_of s = record {
  store = map object_of s.objects.items;
  next = s.next;
  frame = frame_of s.frame;
  living = map living_of s.living.items;
  temporaries = map living_of s.temporaries.items;
  held = map exception_of s.held.items;
  begins = map evaluation_of s.begins.now;
  input = s.input.now;
  budget = s.budget;
  trace = reverse (map event_of s.trace.items);
}

-- a run that has not begun, of a program without globals
abbrev pub not_begun : List event.Evaluation → List ℕ → ℕ → outcome.State
not_begun begins input budget = record {
  store = [];
  next = 1;
  frame = record { unit = 0; variables = []; result = None };
  living = [];
  temporaries = [];
  held = [];
  begins = begins;
  input = input;
  budget = budget;
  trace = [];
}
