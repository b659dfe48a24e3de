-- No step of the machine of an image ends the run as the limit of steps does.
use Rattle.std.proofs.Common.{◌≡◌, ◌≢◌, ℕ, ◌-◌, ℤ, pos, negsuc, Bool, true, false, ◌==◌, List, [], ◌∷◌, ◌++◌, Option, Some, None, if◌then◌else◌, length, take, drop, reverse, slice_get}
use Rattle.std.specs.Prelude.{nat_le}
use Rattle.cx_code.specs.declared.code.Region.{Region}
use Rattle.cx_code.specs.declared.image.Image.{Image}
use Rattle.cx_code.specs.declared.image.Function.{Function}
use Rattle.cx_code.specs.declared.image.TypeEntry.{TypeEntry}
use Rattle.cx_code.specs.declared.memory.Loaded.{Loaded}
use Rattle.cx_code.specs.declared.memory.Loaded.TheVariants as gives
use Rattle.cx_code.specs.declared.operation.Operation.{Operation}
use Rattle.cx_code.specs.declared.operation.Operation.TheVariants as does
use Rattle.cx_code.specs.declared.operation.ViolationField.{ViolationField}
use Rattle.cx_code.specs.declared.run.Event.{Event as Noted}
use Rattle.cx_code.specs.declared.run.Event.TheVariants as notes
use Rattle.cx_code.specs.declared.run.Value.{Value}
use Rattle.cx_code.specs.declared.run.Value.TheVariants as values
use Rattle.cx_code.specs.Arithmetic.{Computed, Gives, Fails, is_int}
use Rattle.cx_code.specs.State.{State, Frame, Exception, Control, Runs, Unwinds}
use Rattle.cx_code.specs.Act.{Step, Goes, Ends, act, undefined, mixed, on_value, on_number, on_address, on_object, on_some, on_slot, on_loaded, on_computed, on_natural, next, field_value, copied_to, copied_from, is_too_deep, entered, called, returned, left, return_from, read, thrown_again, held_address, is_kept, released, dropped, resumed}
use Rattle.cx_code.specs.Unwind.{is_caught, tried, tried_at, gone, moved_to, next_region, regions_of, unwound}
use Rattle.cx_code.specs.Run.{step, operation_now, acted, controlled}
use Rattle.cx_core.specs.Words.{Ending, Kind, StepsSpent}
use Rattle.cx_core.specs.Event.{Event}
use Rattle.cx_simulation.specs.Machine.{halts}
use Rattle.cx_simulation.specs.ImageMachine.{progress, image_step}
use Rattle.cx_simulation.proofs.Steps.{HaltsItself}

data NotSpent : Step → Type 0 where
  goes : {s : State} {event : Option Noted} → NotSpent (Goes s event)
  ends : {ending : Ending} {event : Option Noted} → ending ≢ StepsSpent → NotSpent (Ends ending event)

stop : {kind : Kind} → NotSpent (undefined kind)
stop = ends (λ e. cc)

-- ---- what an instruction asks for

value : (operands : List Value) (go : Value → List Value → Step) → ((v : Value) (below : List Value) → NotSpent (go v below)) → NotSpent (on_value operands go)
value [] go fine = stop
value (v ∷ below) go fine = fine v below

number : (operands : List Value) (go : ℤ → List Value → Step) → ((n : ℤ) (below : List Value) → NotSpent (go n below)) → NotSpent (on_number operands go)
number [] go fine = stop
number (values.Number n ∷ below) go fine = fine n below
number (values.Address object leaf ∷ below) go fine = stop
number (values.Null ∷ below) go fine = stop

address : (operands : List Value) (go : ℕ → ℕ → List Value → Step) → ((n leaf : ℕ) (below : List Value) → NotSpent (go n leaf below)) → NotSpent (on_address operands go)
address [] go fine = stop
address (values.Number n ∷ below) go fine = stop
address (values.Address object leaf ∷ below) go fine = fine object leaf below
address (values.Null ∷ below) go fine = stop

object : (operands : List Value) (go : ℕ → ℕ → List Value → Step) → ((n leaf : ℕ) (below : List Value) → NotSpent (go n leaf below)) → NotSpent (on_object operands go)
object [] go fine = stop
object (values.Number n ∷ below) go fine = stop
object (values.Address number leaf ∷ below) go fine = fine number leaf below
object (values.Null ∷ below) go fine = stop

some : {X : Type 0} (x : Option X) (without : Step) (go : X → Step) → NotSpent without → ((x : X) → NotSpent (go x)) → NotSpent (on_some x without go)
some None without go none fine = none
some (Some x) without go none fine = fine x

slot : (x : Option (Option Value)) (go : Value → Step) → ((v : Value) → NotSpent (go v)) → NotSpent (on_slot x go)
slot None go fine = stop
slot (Some None) go fine = stop
slot (Some (Some v)) go fine = fine v

loaded_value : (x : Loaded) (go : Value → Step) → ((v : Value) → NotSpent (go v)) → NotSpent (on_loaded x go)
loaded_value (gives.Value v) go fine = fine v
loaded_value gives.Unset go fine = stop
loaded_value gives.Dead go fine = stop

computed : (x : Computed) (go : ℤ → Step) → ((n : ℤ) → NotSpent (go n)) → NotSpent (on_computed x go)
computed (Gives n) go fine = fine n
computed (Fails kind) go fine = stop

natural : (n : ℤ) (go : ℕ → Step) → ((n : ℕ) → NotSpent (go n)) → NotSpent (on_natural n go)
natural (pos n) go fine = fine n
natural (negsuc n) go fine = stop

choice : (b : Bool) (x y : Step) → NotSpent x → NotSpent y → NotSpent (if b then x else y)
choice true x y first second = first
choice false x y first second = second

-- ---- the parts of instructions

copied_on : (s : State) (v : Option Value) (to : Value) (rest : List Value) → NotSpent (copied_to s v to rest)
copied_on s v (values.Number n) rest = stop
copied_on s v values.Null rest = stop
copied_on s v (values.Address number leaf) rest = some _ _ _ stop (λ store. goes)

copied : (s : State) (from to : Value) (rest : List Value) → NotSpent (copied_from s from to rest)
copied s (values.Number n) to rest = stop
copied s values.Null (values.Number n) rest = stop
copied s values.Null (values.Address number leaf) rest = stop
copied s values.Null values.Null rest = stop
copied s (values.Address number leaf) (values.Number n) rest = stop
copied s (values.Address number leaf) (values.Address other part) rest = some _ _ _ stop (λ v. copied_on s v (values.Address other part) rest)
copied s (values.Address number leaf) values.Null rest = some _ _ _ stop (λ v. copied_on s v values.Null rest)

enters : (image : Image) (s : State) (index : ℕ) (arguments operands : List Value) (event : Option Noted) → NotSpent (entered image s index arguments operands event)
enters image s index arguments operands event = some _ _ _ stop (λ function. choice (is_too_deep image s function) _ _ (ends (λ e. cc)) goes)

returns : (v : Option Value) → NotSpent (returned v)
returns None = stop
returns (Some (values.Number n)) = choice (is_int n) _ _ (ends (λ e. cc)) stop
returns (Some (values.Address number leaf)) = stop
returns (Some values.Null) = stop

leaves : (s : State) (below : List Frame) (v : Option Value) → NotSpent (left s below v)
leaves s [] v = returns v
leaves s (caller ∷ below) v = goes

returns_from : (s : State) (function : Option Function) → NotSpent (return_from s function)
returns_from s None = stop
returns_from s (Some function) = choice function.result _ _ (value s.frame.operands _ (λ v below. leaves s s.below (Some v))) (leaves s s.below None)

reads : (s : State) (input : List ℕ) → NotSpent (read s input)
reads s [] = goes
reads s (byte ∷ rest) = goes

throws_again : (s : State) (held : List Exception) → NotSpent (thrown_again s held)
throws_again s [] = ends (λ e. cc)
throws_again s (exception ∷ held) = goes

holds : (s : State) (held : List Exception) → NotSpent (held_address s held)
holds s [] = stop
holds s (exception ∷ held) = goes

drops : (image : Image) (s : State) (exception : Exception) (entry : TypeEntry) → NotSpent (dropped image s exception entry)
drops image s exception entry = choice (entry.dropper == 0) _ _ stop (enters image s (entry.dropper - 1) (values.Address exception.object exception.leaf ∷ []) s.frame.operands None)

releases : (image : Image) (s : State) (held : List Exception) → NotSpent (released image s held)
releases image s [] = stop
releases image s (exception ∷ held) =
    let after : State = record s { held = held } in
    choice (is_kept exception held (s.frame ∷ s.below)) _ _ goes (some (slice_get image.types exception.of) mixed (dropped image after exception) stop (λ entry. drops image after exception entry))

resumes : (s : State) (pending : List Exception) → NotSpent (resumed s pending)
resumes s [] = stop
resumes s (exception ∷ pending) = goes

-- ---- an instruction

unary : (s : State) (f : ℤ → Computed) → NotSpent (Rattle.cx_code.specs.Act.unary s f)
unary s f = number s.frame.operands _ (λ x below. computed (f x) _ (λ z. goes))

binary : (s : State) (f : ℤ → ℤ → Computed) → NotSpent (Rattle.cx_code.specs.Act.binary s f)
binary s f = number s.frame.operands _ (λ y below. number below _ (λ x rest. computed (f x y) _ (λ z. goes)))

compared : (s : State) (f : ℤ → ℤ → Bool) → NotSpent (Rattle.cx_code.specs.Act.compared s f)
compared s f = number s.frame.operands _ (λ y below. number below _ (λ x rest. goes))

matched : (s : State) (f : Bool → Bool) → NotSpent (Rattle.cx_code.specs.Act.matched s f)
matched s f = value s.frame.operands _ (λ y below. value below _ (λ x rest. some _ _ _ stop (λ equal. goes)))

byte : (image : Image) (s : State) (text : ℕ) (place : ℤ) (operands : List Value) → NotSpent (Rattle.cx_code.specs.Act.byte_at image s text place operands)
byte image s text place operands = some _ _ _ stop (λ bytes. natural place _ (λ i. goes))

asks : (image : Image) (s : State) (field : ViolationField) (below : List Value) (index : ℕ)
    → NotSpent (on_some (slice_get s.violations index) mixed (λ violation. on_some (slice_get image.assertions violation.assertion) mixed (λ assertion. next s (values.Number (pos (field_value field violation assertion)) ∷ below))))
asks image s field below index =
    some (slice_get s.violations index) mixed (λ violation. on_some (slice_get image.assertions violation.assertion) mixed (λ assertion. next s (values.Number (pos (field_value field violation assertion)) ∷ below))) stop
    (λ violation. some (slice_get image.assertions violation.assertion) mixed (λ assertion. next s (values.Number (pos (field_value field violation assertion)) ∷ below)) stop (λ assertion. goes))

acts : (image : Image) (operation : Operation) (s : State) → NotSpent (act image operation s)
acts image (does.Push n) s = goes
acts image (does.PushBig n) s = goes
acts image does.PushNull s = goes
acts image does.Duplicate s = value s.frame.operands _ (λ x below. goes)
acts image does.Discard s = value s.frame.operands _ (λ x below. goes)
acts image does.Swap s = value s.frame.operands _ (λ y below. value below _ (λ x rest. goes))
acts image (does.Get at) s = slot _ _ (λ v. goes)
acts image (does.Set at) s = value s.frame.operands _ (λ v below. some _ _ _ stop (λ old. goes))
acts image (does.Make count at) s = some _ _ _ stop (λ old. goes)
acts image does.End s = object s.frame.operands _ (λ n leaf below. choice (leaf == 0) _ _ (some _ _ _ stop (λ all. goes)) stop)
acts image does.Load s = address s.frame.operands _ (λ n leaf below. loaded_value _ _ (λ v. goes))
acts image does.Store s = value s.frame.operands _ (λ v below. address below _ (λ n leaf rest. some _ _ _ stop (λ store. goes)))
acts image (does.Offset by) s = address s.frame.operands _ (λ n leaf below. some _ _ _ stop (λ v. goes))
acts image does.Copy s = value s.frame.operands _ (λ to below. value below _ (λ from rest. copied s from to rest))
acts image (does.Negate scalar) s = unary s _
acts image (does.Not scalar) s = unary s _
acts image (does.Complement scalar) s = unary s _
acts image (does.Add scalar) s = binary s _
acts image (does.Subtract scalar) s = binary s _
acts image (does.Multiply scalar) s = binary s _
acts image (does.Divide scalar) s = binary s _
acts image (does.Remainder scalar) s = binary s _
acts image (does.ShiftLeft scalar) s = binary s _
acts image (does.ShiftRight scalar) s = binary s _
acts image (does.BitAnd scalar) s = binary s _
acts image (does.BitOr scalar) s = binary s _
acts image (does.BitXor scalar) s = binary s _
acts image does.Equal s = matched s _
acts image does.NotEqual s = matched s _
acts image does.Less s = compared s _
acts image does.LessOrEqual s = compared s _
acts image does.Greater s = compared s _
acts image does.GreaterOrEqual s = compared s _
acts image (does.Convert scalar) s = value s.frame.operands _ (λ x below. some _ _ _ stop (λ z. goes))
acts image (does.Jump to) s = goes
acts image (does.JumpZero to) s = number s.frame.operands _ (λ n below. goes)
acts image (does.JumpNonzero to) s = number s.frame.operands _ (λ n below. goes)
acts image (does.Call function count) s = choice (nat_le count (length s.frame.operands)) _ _ (enters image s function (reverse (take count s.frame.operands)) (drop count s.frame.operands) None) stop
acts image does.Return s = returns_from s (slice_get image.functions s.frame.function)
acts image (does.Global index) s = goes
acts image does.Out s = number s.frame.operands _ (λ n below. goes)
acts image does.In s = reads s s.input
acts image does.TextAt s = number s.frame.operands _ (λ i below. number below _ (λ t rest. natural t _ (λ text. byte image s text i rest)))
acts image (does.TextOf text) s = number s.frame.operands _ (λ i below. byte image s text i below)
acts image (does.Begin assertion party semantic) s = goes
acts image (does.Verdict assertion) s = number s.frame.operands _ (λ n below. goes)
acts image (does.Violate assertion mode semantic) s =
    let after : State = record s { violations = s.violations ++ record { assertion = assertion; mode = mode; semantic = semantic } ∷ [] } in
    choice (image.handler == 0) _ _ goes
    (enters image after (image.handler - 1) (values.Number (pos (length s.violations)) ∷ []) s.frame.operands (Some (notes.Handler assertion mode semantic)))
acts image (does.Field field) s = number s.frame.operands _ (λ n below. natural n _ (λ index. asks image s field below index))
acts image does.ContractEnd s = ends (λ e. cc)
acts image (does.Throw of) s = object s.frame.operands _ (λ n leaf below. goes)
acts image does.Rethrow s = throws_again s s.held
acts image does.Held s = holds s s.held
acts image does.Release s = releases image s s.held
acts image does.Resume s = resumes s s.frame.pending
acts image (does.Destroyed class) s = object s.frame.operands _ (λ n leaf below. goes)
acts image does.Flow s = stop

-- ---- a move

goes_away : (s : State) (exception : Exception) (below : List Frame) → NotSpent (gone s exception below)
goes_away s exception [] = ends (λ e. cc)
goes_away s exception (caller ∷ below) = goes

tries : (s : State) (exception : Exception) (index : ℕ) (region : Region) → NotSpent (tried s exception index region)
tries s exception index region =
    choice (region.kind == 1) _ _ goes (choice (region.kind == 2) _ _ (choice (is_caught exception region) _ _ goes goes) (choice (region.kind == 3) _ _ goes (ends (λ e. cc))))

tries_at : (s : State) (exception : Exception) (index : ℕ) (region : Option Region) → NotSpent (tried_at s exception index region)
tries_at s exception index None = goes_away s exception s.below
tries_at s exception index (Some region) = tries s exception index region

moves_to : (s : State) (exception : Exception) (regions : List Region) (index : Option ℕ) → NotSpent (moved_to s exception regions index)
moves_to s exception regions None = goes_away s exception s.below
moves_to s exception regions (Some index) = tries_at s exception index (slice_get regions index)

unwinds : (image : Image) (s : State) (exception : Exception) (after : Option ℕ) → NotSpent (unwound image s exception after)
unfolding unwound
unwinds image s exception after = let regions = regions_of (slice_get image.functions s.frame.function) in moves_to s exception regions (next_region regions s.frame.place after)

-- ---- a step

acts_now : (image : Image) (s : State) (operation : Option Operation) → NotSpent (acted image s operation)
acts_now image s None = stop
acts_now image s (Some operation) = acts image operation s

controls : (image : Image) (s : State) (control : Control) → NotSpent (controlled image s control)
controls image s Runs = acts_now image s (operation_now image s)
controls image s (Unwinds exception after) = unwinds image s exception after

steps : (image : Image) (s : State) → NotSpent (step image s)
unfolding step
steps image s = controls image s s.control

spent_no : (image : Image) (p : Step) (event : Option Event) → NotSpent p → progress image p ≢ halts StepsSpent event
spent_no image (Goes s other) event fine e = cc
spent_no image (Ends ending other) event (ends fine) e = let same : ending ≡ StepsSpent = cc in absurd (fine same)

pub halts_itself : (image : Image) → HaltsItself (image_step image)
halts_itself image c event = spent_no image (step image c) event (steps image c)
