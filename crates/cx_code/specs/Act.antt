-- This defines what one instruction does to a state of the machine, a case for each code in the order of the codes; the instruction set is this project's own.
use Rattle.std.specs.Prelude.{ℕ, ◌+◌, ◌-◌, ◌==◌, List, [], ◌∷◌, ◌++◌, length, take, drop, reverse, count_by, Option, Some, None, ℤ, pos, negsuc, Bool, true, false, not, ◌&&◌, int_lt, int_le, nat_le, unsigned_abs, if◌then◌else◌, slice_get, slice_set}
use Rattle.std.specs.Int.{int_rem_euclid}
use Rattle.std.specs.List.{list_any}
use Rattle.cx_code.specs.declared.image.Image.{Image}
use Rattle.cx_code.specs.declared.image.Function.{Function}
use Rattle.cx_code.specs.declared.image.TypeEntry.{TypeEntry}
use Rattle.cx_code.specs.declared.image.Assertion.{Assertion}
use Rattle.cx_code.specs.declared.operation.Operation.{Operation}
use Rattle.cx_code.specs.declared.operation.Operation.TheVariants as does
use Rattle.cx_code.specs.declared.operation.ViolationField.{ViolationField}
use Rattle.cx_code.specs.declared.operation.ViolationField.TheVariants as fields
use Rattle.cx_code.specs.declared.memory.Loaded.{Loaded}
use Rattle.cx_code.specs.declared.memory.Loaded.TheVariants as gives
use Rattle.cx_code.specs.declared.run.Value.{Value}
use Rattle.cx_code.specs.declared.run.Value.TheVariants as values
use Rattle.cx_code.specs.declared.run.Event.{Event}
use Rattle.cx_code.specs.declared.run.Event.TheVariants as events
use Rattle.cx_code.specs.declared.run.Verdict.TheVariants as verdicts
use Rattle.cx_code.specs.declared.run.Ending.{Ending}
use Rattle.cx_code.specs.declared.run.Ending.TheVariants as endings
use Rattle.cx_code.specs.declared.run.Kind.{Kind}
use Rattle.cx_code.specs.declared.run.Kind.TheVariants as kinds
use Rattle.cx_code.specs.declared.violation.DetectionMode.{DetectionMode}
use Rattle.cx_code.specs.declared.violation.DetectionMode.TheVariants as modes
use Rattle.cx_code.specs.declared.violation.Semantic.{Semantic}
use Rattle.cx_code.specs.declared.violation.Semantic.TheVariants as semantics
use Rattle.cx_code.specs.Spelling.{kind_code}
use Rattle.cx_code.specs.Arithmetic.{is_zero, truth, is_int, value_as, Computed, Gives, Fails, negated, logical_not, complement, sum, difference, product, quotient, remainder, shifted_left, shifted_right, both_bits, either_bits, different_bits, equal_values}
use Rattle.cx_code.specs.Store.{Store, made, ended, leaf_at, loaded, stored, stored_leaf}
use Rattle.cx_code.specs.State.{State, Frame, Exception, Violated, Unwinds, frame_of}

-- what a step comes to; it appends at most one event
pub data Step : Type 0 where
  Goes : (state : State) (event : Option Event) → Step
  Ends : (ending : Ending) (event : Option Event) → Step

abbrev pub undefined : Kind → Step
undefined kind = Ends (endings.Undefined kind) None

-- an operand of the wrong sort, or a number that is out of range
abbrev pub mixed : Step
mixed = undefined kinds.Mixed

-- ---- the frame

abbrev pub with_frame : State → Frame → State
with_frame s frame = record s { frame = frame }

abbrev pub moved : Frame → ℕ → List Value → Frame
moved frame place operands = record frame { place = place; operands = operands }

-- goes on at a place
abbrev pub jumps : State → ℕ → List Value → Step
jumps s place operands = Goes (with_frame s (moved s.frame place operands)) None

-- goes on behind the instruction
abbrev pub next : State → List Value → Step
next s operands = jumps s (s.frame.place + 1) operands

abbrev pub noted : State → List Value → Event → Step
noted s operands event = Goes (with_frame s (moved s.frame (s.frame.place + 1) operands)) (Some event)

abbrev pub with_slots : State → List (Option Value) → State
with_slots s slots = with_frame s (record s.frame { slots = slots })

abbrev pub with_store : State → Store → State
with_store s store = record s { store = store }

-- ---- operands

abbrev pub on_value : List Value → (Value → List Value → Step) → Step
on_value [] go = mixed
on_value (value ∷ below) go = go value below

abbrev pub on_number : List Value → (ℤ → List Value → Step) → Step
on_number [] go = mixed
on_number (values.Number n ∷ below) go = go n below
on_number (values.Address number leaf ∷ below) go = mixed
on_number (values.Null ∷ below) go = mixed

-- a pointer to a leaf
abbrev pub on_address : List Value → (ℕ → ℕ → List Value → Step) → Step
on_address [] go = mixed
on_address (values.Number n ∷ below) go = mixed
on_address (values.Address number leaf ∷ below) go = go number leaf below
on_address (values.Null ∷ below) go = undefined kinds.Null

-- a pointer to an object, which the compiler never makes null
abbrev pub on_object : List Value → (ℕ → ℕ → List Value → Step) → Step
on_object [] go = mixed
on_object (values.Number n ∷ below) go = mixed
on_object (values.Address number leaf ∷ below) go = go number leaf below
on_object (values.Null ∷ below) go = mixed

-- ---- what may be missing

abbrev pub on_some : {X : Type 0} → Option X → Step → (X → Step) → Step
on_some None without go = without
on_some (Some x) without go = go x

-- a slot's value
abbrev pub on_slot : Option (Option Value) → (Value → Step) → Step
on_slot None go = mixed
on_slot (Some None) go = mixed
on_slot (Some (Some value)) go = go value

abbrev pub on_loaded : Loaded → (Value → Step) → Step
on_loaded (gives.Value value) go = go value
on_loaded gives.Unset go = undefined kinds.Unset
on_loaded gives.Dead go = undefined kinds.Dead

abbrev pub on_computed : Computed → (ℤ → Step) → Step
on_computed (Gives n) go = go n
on_computed (Fails kind) go = undefined kind

abbrev pub on_natural : ℤ → (ℕ → Step) → Step
on_natural (pos n) go = go n
on_natural (negsuc n) go = mixed

-- ---- numbers

abbrev pub unary : State → (ℤ → Computed) → Step
unary s f = on_number s.frame.operands (λ x below. on_computed (f x) (λ z. next s (values.Number z ∷ below)))

abbrev pub binary : State → (ℤ → ℤ → Computed) → Step
binary s f = on_number s.frame.operands (λ y below. on_number below (λ x rest. on_computed (f x y) (λ z. next s (values.Number z ∷ rest))))

abbrev pub compared : State → (ℤ → ℤ → Bool) → Step
compared s f = on_number s.frame.operands (λ y below. on_number below (λ x rest. next s (values.Number (truth (f x y)) ∷ rest)))

abbrev pub matched : State → (Bool → Bool) → Step
matched s f = on_value s.frame.operands (λ y below. on_value below (λ x rest. on_some (equal_values x y) mixed (λ equal. next s (values.Number (truth (f equal)) ∷ rest))))

-- ---- objects

abbrev pub copied_to : State → Option Value → Value → List Value → Step
copied_to s value (values.Number n) rest = mixed
copied_to s value values.Null rest = undefined kinds.Null
copied_to s value (values.Address number leaf) rest = on_some (stored_leaf s.store number leaf value) (undefined kinds.Dead) (λ store. next (with_store s store) rest)

-- the sorts come first, then what is copied, then where to
abbrev pub copied_from : State → Value → Value → List Value → Step
copied_from s (values.Number n) to rest = mixed
copied_from s values.Null (values.Number n) rest = mixed
copied_from s values.Null (values.Address number leaf) rest = undefined kinds.Null
copied_from s values.Null values.Null rest = undefined kinds.Null
copied_from s (values.Address number leaf) (values.Number n) rest = mixed
copied_from s (values.Address number leaf) to rest = on_some (leaf_at s.store number leaf) (undefined kinds.Dead) (λ value. copied_to s value to rest)

-- ---- calls

abbrev pub counts : Option Function → Bool
counts None = false
counts (Some function) = function.counted

-- how many frames there are of functions that count for the depth
abbrev pub depth : Image → State → ℕ
depth image s = count_by (λ (frame : Frame). counts (slice_get image.functions frame.function)) (s.frame ∷ s.below)

-- at most 4,096 of them
abbrev pub is_too_deep : Image → State → Function → Bool
is_too_deep image s function = function.counted && nat_le 4096 (depth image s)

-- a function's frame comes on top; the frame that calls keeps its place
abbrev pub entered : Image → State → ℕ → List Value → List Value → Option Event → Step
entered image s index arguments operands event =
    on_some (slice_get image.functions index) mixed (λ function.
    if is_too_deep image s function
    then Ends endings.TooDeep None
    else Goes (record s { frame = frame_of index function arguments; below = moved s.frame s.frame.place operands ∷ s.below }) event)

-- the last operands are the arguments, in their order
abbrev pub called : Image → State → ℕ → ℕ → Step
called image s index count =
    if nat_le count (length s.frame.operands)
    then entered image s index (reverse (take count s.frame.operands)) (drop count s.frame.operands) None
    else mixed

abbrev pub given : Option Value → List Value → List Value
given None operands = operands
given (Some value) operands = value ∷ operands

-- the value of the program
abbrev pub returned : Option Value → Step
returned (Some (values.Number n)) = if is_int n then Ends (endings.Returned n) None else mixed
returned result = mixed

-- the frame is left with a result, or without one
abbrev pub left : State → List Frame → Option Value → Step
left s [] result = returned result
left s (caller ∷ below) result =
    Goes (record s { frame = moved caller (caller.place + 1) (given result caller.operands); below = below }) None

abbrev pub return_from : State → Option Function → Step
return_from s None = mixed
return_from s (Some function) =
    if function.result then on_value s.frame.operands (λ value below. left s s.below (Some value)) else left s s.below None

-- ---- input, output and texts

abbrev pub wrote : State → Step
wrote s = on_number s.frame.operands (λ n below.
    let byte : ℕ = unsigned_abs (int_rem_euclid n (pos 256)) in
    noted s (values.Number (pos byte) ∷ below) (events.Out byte))

abbrev pub read : State → List ℕ → Step
read s [] = noted s (values.Number (negsuc 0) ∷ s.frame.operands) events.InEnd
read s (byte ∷ rest) = noted (record s { input = rest }) (values.Number (pos byte) ∷ s.frame.operands) (events.In byte)

-- -1 stands for the place behind the end
abbrev pub byte_of : Option ℕ → ℤ
byte_of None = negsuc 0
byte_of (Some byte) = pos byte

abbrev pub byte_at : Image → State → ℕ → ℤ → List Value → Step
byte_at image s text place operands =
    on_some (slice_get image.texts text) mixed (λ bytes. on_natural place (λ i. next s (values.Number (byte_of (slice_get bytes i)) ∷ operands)))

-- ---- contract assertions

abbrev pub semantic_code : Semantic → ℕ
semantic_code semantics.Ignore = 1
semantic_code semantics.Observe = 2
semantic_code semantics.Enforce = 3
semantic_code semantics.QuickEnforce = 4

abbrev pub mode_code : DetectionMode → ℕ
mode_code modes.PredicateFalse = 1
mode_code modes.EvaluationException = 2

abbrev pub field_value : ViolationField → Violated → Assertion → ℕ
field_value fields.Kind violated assertion = kind_code assertion.kind
field_value fields.Semantic violated assertion = semantic_code violated.semantic
field_value fields.Mode violated assertion = mode_code violated.mode
field_value fields.Line violated assertion = assertion.line
field_value fields.Column violated assertion = assertion.column
field_value fields.Comment violated assertion = assertion.comment

abbrev pub asked : Image → State → ViolationField → Step
asked image s field = on_number s.frame.operands (λ n below. on_natural n (λ index.
    on_some (slice_get s.violations index) mixed (λ violated.
    on_some (slice_get image.assertions violated.assertion) mixed (λ assertion.
    next s (values.Number (pos (field_value field violated assertion)) ∷ below)))))

-- the violation is made; the handler gets its number, and the default handler needs no frame
abbrev pub violated : Image → State → Violated → Step
violated image s violation =
    let after : State = record s { violations = s.violations ++ violation ∷ [] } in
    let event : Event = events.Handler violation.assertion violation.mode violation.semantic in
    if image.handler == 0
    then noted after s.frame.operands event
    else entered image after (image.handler - 1) (values.Number (pos (length s.violations)) ∷ []) s.frame.operands (Some event)

-- ---- exceptions

abbrev pub thrown : State → ℕ → Step
thrown s of = on_object s.frame.operands (λ object leaf below.
    Goes (record s {
      frame = moved s.frame s.frame.place below;
      thrown = s.thrown + 1;
      control = Unwinds (record { number = s.thrown; of = of; object = object; leaf = leaf }) None;
    }) (Some (events.Throw of)))

abbrev pub thrown_again : State → List Exception → Step
thrown_again s [] = Ends endings.Terminated None
thrown_again s (exception ∷ held) = Goes (record s { control = Unwinds exception None }) (Some (events.Throw exception.of))

abbrev pub held_address : State → List Exception → Step
held_address s [] = mixed
held_address s (exception ∷ held) = next s (values.Address exception.object exception.leaf ∷ s.frame.operands)

abbrev pub is_same : Exception → Exception → Bool
is_same a b = a.number == b.number

abbrev pub is_pending : Exception → Frame → Bool
is_pending exception frame = list_any (is_same exception) frame.pending

-- it is held elsewhere, or pending
abbrev pub is_kept : Exception → List Exception → List Frame → Bool
is_kept exception held frames = if list_any (is_same exception) held then true else list_any (is_pending exception) frames

abbrev pub dropped : Image → State → Exception → TypeEntry → Step
dropped image s exception entry =
    if entry.dropper == 0
    then mixed
    else entered image s (entry.dropper - 1) (values.Address exception.object exception.leaf ∷ []) s.frame.operands None

abbrev pub released : Image → State → List Exception → Step
released image s [] = mixed
released image s (exception ∷ held) =
    let after : State = record s { held = held } in
    if is_kept exception held (s.frame ∷ s.below)
    then next after s.frame.operands
    else on_some (slice_get image.types exception.of) mixed (dropped image after exception)

abbrev pub resumed : State → List Exception → Step
resumed s [] = mixed
resumed s (exception ∷ pending) = Goes (record s { frame = record s.frame { pending = pending }; control = Unwinds exception None }) None

-- ---- the codes

abbrev pub act : Image → Operation → State → Step
act image (does.Push n) s = next s (values.Number n ∷ s.frame.operands)
act image (does.PushBig n) s = next s (values.Number (pos n) ∷ s.frame.operands)
act image does.PushNull s = next s (values.Null ∷ s.frame.operands)
act image does.Duplicate s = on_value s.frame.operands (λ x below. next s (x ∷ x ∷ below))
act image does.Discard s = on_value s.frame.operands (λ x below. next s below)
act image does.Swap s = on_value s.frame.operands (λ y below. on_value below (λ x rest. next s (x ∷ y ∷ rest)))
act image (does.Get slot) s = on_slot (slice_get s.frame.slots slot) (λ value. next s (value ∷ s.frame.operands))
act image (does.Set slot) s = on_value s.frame.operands (λ value below. on_some (slice_get s.frame.slots slot) mixed (λ old. next (with_slots s (slice_set s.frame.slots slot (Some value))) below))
act image (does.Make leaves slot) s = on_some (slice_get s.frame.slots slot) mixed (λ old. next (with_store (with_slots s (slice_set s.frame.slots slot (Some (values.Address s.store.next 0)))) (made s.store leaves)) s.frame.operands)
act image does.End s = on_object s.frame.operands (λ number leaf below. if leaf == 0 then on_some (s.store.leaves number) (undefined kinds.Dead) (λ leaves. next (with_store s (ended s.store number)) below) else mixed)
act image does.Load s = on_address s.frame.operands (λ number leaf below. on_loaded (loaded s.store number leaf) (λ value. next s (value ∷ below)))
act image does.Store s = on_value s.frame.operands (λ value below. on_address below (λ number leaf rest. on_some (stored s.store number leaf value) (undefined kinds.Dead) (λ store. next (with_store s store) rest)))
act image (does.Offset by) s = on_address s.frame.operands (λ number leaf below. on_some (leaf_at s.store number (leaf + by)) (undefined kinds.Dead) (λ value. next s (values.Address number (leaf + by) ∷ below)))
act image does.Copy s = on_value s.frame.operands (λ to below. on_value below (λ from rest. copied_from s from to rest))
act image (does.Negate scalar) s = unary s (negated scalar)
act image (does.Not scalar) s = unary s (logical_not scalar)
act image (does.Complement scalar) s = unary s (complement scalar)
act image (does.Add scalar) s = binary s (sum scalar)
act image (does.Subtract scalar) s = binary s (difference scalar)
act image (does.Multiply scalar) s = binary s (product scalar)
act image (does.Divide scalar) s = binary s (quotient scalar)
act image (does.Remainder scalar) s = binary s (remainder scalar)
act image (does.ShiftLeft scalar) s = binary s (shifted_left scalar)
act image (does.ShiftRight scalar) s = binary s (shifted_right scalar)
act image (does.BitAnd scalar) s = binary s (both_bits scalar)
act image (does.BitOr scalar) s = binary s (either_bits scalar)
act image (does.BitXor scalar) s = binary s (different_bits scalar)
act image does.Equal s = matched s (λ equal. equal)
act image does.NotEqual s = matched s not
act image does.Less s = compared s int_lt
act image does.LessOrEqual s = compared s int_le
act image does.Greater s = compared s (λ x y. int_lt y x)
act image does.GreaterOrEqual s = compared s (λ x y. int_le y x)
act image (does.Convert scalar) s = on_value s.frame.operands (λ x below. on_some (value_as scalar x) mixed (λ z. next s (values.Number z ∷ below)))
act image (does.Jump to) s = jumps s to s.frame.operands
act image (does.JumpZero to) s = on_number s.frame.operands (λ n below. jumps s (if is_zero n then to else (s.frame.place + 1)) below)
act image (does.JumpNonzero to) s = on_number s.frame.operands (λ n below. jumps s (if is_zero n then (s.frame.place + 1) else to) below)
act image (does.Call function count) s = called image s function count
act image does.Return s = return_from s (slice_get image.functions s.frame.function)
act image (does.Global index) s = next s (values.Address (index + 1) 0 ∷ s.frame.operands)
act image does.Out s = wrote s
act image does.In s = read s s.input
act image does.TextAt s = on_number s.frame.operands (λ i below. on_number below (λ t rest. on_natural t (λ text. byte_at image s text i rest)))
act image (does.TextOf text) s = on_number s.frame.operands (λ i below. byte_at image s text i below)
act image (does.Begin assertion party semantic) s = noted s s.frame.operands (events.Begin assertion party semantic)
act image (does.Verdict assertion) s = on_number s.frame.operands (λ n below. noted s s.frame.operands (events.Verdict (if is_zero n then verdicts.False else verdicts.Holds)))
act image (does.Violate assertion mode semantic) s = violated image s (record { assertion = assertion; mode = mode; semantic = semantic })
act image (does.Field field) s = asked image s field
act image does.ContractEnd s = Ends endings.ContractTerminated None
act image (does.Throw of) s = thrown s of
act image does.Rethrow s = thrown_again s s.held
act image does.Held s = held_address s s.held
act image does.Release s = released image s s.held
act image does.Resume s = resumed s s.frame.pending
act image (does.Destroyed class) s = on_object s.frame.operands (λ number leaf below. noted s below (events.Destroyed class number leaf))
act image does.Flow s = undefined kinds.Flow
