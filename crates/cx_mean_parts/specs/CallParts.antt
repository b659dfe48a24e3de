-- Parts of the steps of checks and calls that have functions of their own here; this project's own.
use Rattle.std.specs.Prelude.{ℕ, suc, true, if◌then◌else◌, List, [], ◌∷◌, Option, Some, None, slice_get}
use Rattle.std.specs.Option.{option_map}
use Rattle.cx_core.specs.Event.{Evaluation, same_evaluation, destroyed, handler}
use Rattle.cx_core.specs.Tree as tree
use Rattle.cx_core.specs.Outcome.{Frame, Does, Nothing, ◌>>=◌, ◌>>◌, gives, some, append, current_frame, place_of, set_frame, spend}
use Rattle.cx_core.specs.Store.{Address, Value, null}
use Rattle.cx_core.specs.Program.{Program, FieldInit, Function}
use Rattle.cx_core.specs.Tree.{Stmts}
use Rattle.cx_core.specs.Operators.{named}
use Rattle.cx_core.specs.Leaving.{Call, class_at}
use Rattle.cx_core.specs.Statements.{this_place}
use Rattle.cx_core.specs.Meaning.{numbered, unit_of}
use Rattle.cx_core.specs.Block.{begin_told}
use Rattle.cx_plain.specs.Task as task
use Rattle.cx_plain.specs.Step.{doing, evaluation_of, has_stood, no_calls, site_of, step_acting}
use Rattle.cx_core.specs.Words.{Party, Violation}
use Rattle.cx_plain.specs.Task.{Level, Next, Task}

-- the place of the assertion whose evaluation is told, if each before it has stood
abbrev pub place_due : Party → Evaluation → List task.Due → Option ℕ
place_due party e [] = None
place_due party e (d ∷ due) =
    if same_evaluation e (evaluation_of party d.check.of)
    then Some 0
    else (if has_stood d then option_map (λ i. suc i) (place_due party e due) else None)

-- the assertions of a list of what is owed
abbrev pub checks_due : List task.Due → List (tree.Specifier tree.Check)
checks_due [] = []
checks_due (d ∷ due) = d.check ∷ checks_due due

-- the predicate of a check is evaluated, and so many evaluations follow
abbrev pub checked : Level → Party → ℕ → tree.Specifier tree.Check → List task.Due → Does Next
checked level party n c due =
    doing (task.evaluated_truth level c.predicate) (task.verdict level c.of.assertion c.of.semantic ∷ task.then_next (task.evaluations level party n due) ∷ [])

-- the evaluation that is told begins, for one unit of the budget
abbrev pub begun : Level → Party → ℕ → tree.Specifier tree.Check → List task.Due → Does Next
begun level party n c due = do
  spend
  begin_told
  checked level party n c due

-- the default handler is called, which tells the violation
abbrev pub default_handled : Violation → Does Nothing
default_handled v = spend >> append (handler v)

-- ---- calls

-- the function with a number
abbrev pub function_with : Program → ℕ → Does Function
function_with program f = some (slice_get program.functions f)

-- the frame of a call that becomes active
abbrev pub active_frame : Program → Function → Call → Frame
active_frame program f c = record { unit = unit_of program no_calls f c; variables = numbered program no_calls 0 c.arguments; result = c.result }

-- the call becomes the active one
abbrev pub entered : Program → Level → Function → Call → Does Next
entered program level f c = do
  frame ← current_frame
  set_frame (active_frame program f c)
  step_acting program level f.body f c (task.within frame ∷ [])

-- the place that a value denotes, if there is one
abbrev pub place_given : Option Value → Does Address
place_given place = some place >>= place_of

-- the end of a destruction is told
abbrev pub destruction : List ℕ → Address → Does Value
destruction name a = append (destroyed name a.object a.leaf) >> gives null

-- the place that a parameter denotes
abbrev pub parameter_place : ℕ → Does Address
parameter_place slot = named slot >>= place_of

-- the frames of the parts of a constructor that follow its first checks, inside those of the construction
abbrev pub constructor_frames : Level → Function → List FieldInit → Stmts tree.Check → Call → List task.Frame → List task.Frame
constructor_frames level f fields b c constructing =
    task.then_next (task.field_inits level fields)
    ∷ task.then_next (task.block level b)
    ∷ task.then_next (task.after level f (site_of c))
    ∷ task.replace (task.value null)
    ∷ constructing

-- the frames of the parts of a destructor that follow its first checks
abbrev pub destructor_frames : Level → Function → ℕ → Stmts tree.Check → Address → List task.Frame → List task.Frame
destructor_frames level f t b a told =
    task.then_next (task.block level b)
    ∷ task.edge_if true
    ∷ task.then_next (task.destroying_fields level t a)
    ∷ task.then_next (task.edged_checks level f.checks.postconditions)
    ∷ told

-- the fields of class type are constructed under the frames of a construction
abbrev pub default_under : Program → Level → ℕ → task.Frame → List task.Frame → Does Next
default_under program level t outer frames = do
  definition ← class_at program no_calls t
  doing (task.default_fields level definition.fields) (task.replace (task.value null) ∷ outer ∷ frames)

-- the fields are copied under the frames of a construction
abbrev pub copy_under : Program → Level → ℕ → task.Frame → List task.Frame → Does Next
copy_under program level t outer frames = do
  definition ← class_at program no_calls t
  to ← this_place program no_calls
  source ← parameter_place 1
  doing (task.copying_members level definition.fields source to) (task.replace (task.value null) ∷ outer ∷ frames)

-- a task is done while the result of the active call is set
abbrev pub under_result : Task → task.Frame → Value → Does Next
under_result t outer v = do
  frame ← current_frame
  set_frame (record frame { result = Some v })
  doing t (task.within frame ∷ outer ∷ [])
