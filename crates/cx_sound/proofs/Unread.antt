-- An image that doesn't read the input runs alike on all inputs.
use Rattle.std.proofs.Common.{◌≡◌, ◌≢◌, ℕ, zero, suc, ℤ, pos, negsuc, ◌+◌, ◌-◌, ◌==◌, List, [], ◌∷◌, ◌++◌, length, take, drop, reverse, Option, Some, None, Bool, true, false, nat_le, if◌then◌else◌, not, int_lt, int_le, slice_get, refl, ap, ◌∙◌}
use Rattle.std.specs.List.{All}
use Rattle.std.specs.Option.{option_and_then, option_to_list}
use Rattle.std.proofs.lemmas.List.Elements.{All-nil}
use Rattle.cx_code.specs.declared.code.Instruction.{Instruction}
use Rattle.cx_code.specs.declared.code.Region.{Region}
use Rattle.cx_code.specs.declared.image.Image.{Image}
use Rattle.cx_code.specs.declared.image.Function.{Function}
use Rattle.cx_code.specs.declared.image.TypeEntry.{TypeEntry}
use Rattle.cx_code.specs.declared.memory.Loaded.{Loaded}
use Rattle.cx_code.specs.declared.memory.Loaded.TheVariants as gives
use Rattle.cx_code.specs.declared.operation.Operation.{Operation}
use Rattle.cx_code.specs.declared.operation.Operation.TheVariants as does
use Rattle.cx_code.specs.declared.operation.ViolationField.{ViolationField}
use Rattle.cx_code.specs.declared.run.Value.{Value}
use Rattle.cx_code.specs.declared.run.Value.TheVariants as values
use Rattle.cx_code.specs.declared.run.Event.{Event}
use Rattle.cx_code.specs.declared.run.Event.TheVariants as events
use Rattle.cx_code.specs.declared.run.Run.{Run}
use Rattle.cx_code.specs.Arithmetic.{Computed, Gives, Fails, equal_values, negated, logical_not, complement, sum, difference, product, quotient, remainder, shifted_left, shifted_right, both_bits, either_bits, different_bits, value_as}
use Rattle.cx_code.specs.Operation.{operation_of}
use Rattle.cx_code.specs.Store.{leaf_at, loaded, stored, stored_leaf}
use Rattle.cx_code.specs.State.{State, Frame, Exception, Violated, Control, Runs, Unwinds, initial}
use Rattle.cx_code.specs.Act.{Step, Goes, Ends, on_value, on_number, on_address, on_object, on_some, on_slot, on_loaded, on_computed, on_natural, act, unary, binary, compared, matched, copied_to, copied_from, is_too_deep, entered, called, left, returned, return_from, byte_at, asked, violated, thrown_again, held_address, is_kept, dropped, released, resumed}
use Rattle.cx_code.specs.Unwind.{tried, is_caught, gone, tried_at, moved_to, next_region, regions_of, unwound}
use Rattle.cx_code.specs.Run.{code_of, operation_now, acted, controlled, step, with_front, after, run_from}
use Rattle.cx_sound.specs.Unread.{ReadsNo, ReadsNothing, UnreadInputMakesNoDifference}
use Rattle.cx_sound.proofs.Places.{at_index}

module _ (input : List ℕ) where
  abbrev with_input : State → State
  with_input s = record s { input = input }

  -- the step that goes on with the input
  abbrev on_input : Step → Step
  on_input (Goes s event) = Goes (with_input s) event
  on_input (Ends ending event) = Ends ending event

  -- ---- the parts that steps are made of: where what follows doesn't depend on the input, nor do they

  value_alike : (operands : List Value) (go changed : Value → List Value → Step)
      → ((x : Value) (below : List Value) → changed x below ≡ on_input (go x below)) → on_value operands changed ≡ on_input (on_value operands go)
  value_alike [] go changed h = refl
  value_alike (x ∷ below) go changed h = h x below

  number_alike : (operands : List Value) (go changed : ℤ → List Value → Step)
      → ((n : ℤ) (below : List Value) → changed n below ≡ on_input (go n below)) → on_number operands changed ≡ on_input (on_number operands go)
  number_alike [] go changed h = refl
  number_alike (values.Number n ∷ below) go changed h = h n below
  number_alike (values.Address number leaf ∷ below) go changed h = refl
  number_alike (values.Null ∷ below) go changed h = refl

  address_alike : (operands : List Value) (go changed : ℕ → ℕ → List Value → Step)
      → ((number leaf : ℕ) (below : List Value) → changed number leaf below ≡ on_input (go number leaf below)) → on_address operands changed ≡ on_input (on_address operands go)
  address_alike [] go changed h = refl
  address_alike (values.Number n ∷ below) go changed h = refl
  address_alike (values.Address number leaf ∷ below) go changed h = h number leaf below
  address_alike (values.Null ∷ below) go changed h = refl

  object_alike : (operands : List Value) (go changed : ℕ → ℕ → List Value → Step)
      → ((number leaf : ℕ) (below : List Value) → changed number leaf below ≡ on_input (go number leaf below)) → on_object operands changed ≡ on_input (on_object operands go)
  object_alike [] go changed h = refl
  object_alike (values.Number n ∷ below) go changed h = refl
  object_alike (values.Address number leaf ∷ below) go changed h = h number leaf below
  object_alike (values.Null ∷ below) go changed h = refl

  some_alike : {X : Type 0} (o : Option X) (without missing : Step) (go changed : X → Step)
      → missing ≡ on_input without → ((x : X) → changed x ≡ on_input (go x)) → on_some o missing changed ≡ on_input (on_some o without go)
  some_alike None without missing go changed n h = n
  some_alike (Some x) without missing go changed n h = h x

  slot_alike : (o : Option (Option Value)) (go changed : Value → Step) → ((value : Value) → changed value ≡ on_input (go value)) → on_slot o changed ≡ on_input (on_slot o go)
  slot_alike None go changed h = refl
  slot_alike (Some None) go changed h = refl
  slot_alike (Some (Some value)) go changed h = h value

  loaded_alike : (l : Loaded) (go changed : Value → Step) → ((value : Value) → changed value ≡ on_input (go value)) → on_loaded l changed ≡ on_input (on_loaded l go)
  loaded_alike (gives.Value value) go changed h = h value
  loaded_alike gives.Unset go changed h = refl
  loaded_alike gives.Dead go changed h = refl

  computed_alike : (c : Computed) (go changed : ℤ → Step) → ((n : ℤ) → changed n ≡ on_input (go n)) → on_computed c changed ≡ on_input (on_computed c go)
  computed_alike (Gives n) go changed h = h n
  computed_alike (Fails kind) go changed h = refl

  natural_alike : (n : ℤ) (go changed : ℕ → Step) → ((i : ℕ) → changed i ≡ on_input (go i)) → on_natural n changed ≡ on_input (on_natural n go)
  natural_alike (pos i) go changed h = h i
  natural_alike (negsuc i) go changed h = refl

  branch_alike : (b : Bool) (x y changed other : Step) → changed ≡ on_input x → other ≡ on_input y → (if b then changed else other) ≡ on_input (if b then x else y)
  branch_alike true x y changed other h k = h
  branch_alike false x y changed other h k = k

  -- ---- numbers and objects

  unary_alike : (s : State) (f : ℤ → Computed) → unary (with_input s) f ≡ on_input (unary s f)
  unary_alike s f = number_alike s.frame.operands _ _ λ x below. computed_alike (f x) _ _ λ z. refl

  binary_alike : (s : State) (f : ℤ → ℤ → Computed) → binary (with_input s) f ≡ on_input (binary s f)
  binary_alike s f = number_alike s.frame.operands _ _ λ y below. number_alike below _ _ λ x rest. computed_alike (f x y) _ _ λ z. refl

  compared_alike : (s : State) (f : ℤ → ℤ → Bool) → compared (with_input s) f ≡ on_input (compared s f)
  compared_alike s f = number_alike s.frame.operands _ _ λ y below. number_alike below _ _ λ x rest. refl

  matched_alike : (s : State) (f : Bool → Bool) → matched (with_input s) f ≡ on_input (matched s f)
  matched_alike s f = value_alike s.frame.operands _ _ λ y below. value_alike below _ _ λ x rest. some_alike (equal_values x y) _ _ _ _ refl λ equal. refl

  copied_to_alike : (s : State) (value : Option Value) (to : Value) (rest : List Value) → copied_to (with_input s) value to rest ≡ on_input (copied_to s value to rest)
  copied_to_alike s value (values.Number n) rest = refl
  copied_to_alike s value values.Null rest = refl
  copied_to_alike s value (values.Address number leaf) rest = some_alike (stored_leaf s.store number leaf value) _ _ _ _ refl λ store. refl

  copied_from_alike : (s : State) (from to : Value) (rest : List Value) → copied_from (with_input s) from to rest ≡ on_input (copied_from s from to rest)
  copied_from_alike s (values.Number n) to rest = refl
  copied_from_alike s values.Null (values.Number n) rest = refl
  copied_from_alike s values.Null (values.Address number leaf) rest = refl
  copied_from_alike s values.Null values.Null rest = refl
  copied_from_alike s (values.Address number leaf) (values.Number n) rest = refl
  copied_from_alike s (values.Address number leaf) (values.Address other place) rest =
      some_alike (leaf_at s.store number leaf) _ _ _ _ refl λ value. copied_to_alike s value (values.Address other place) rest
  copied_from_alike s (values.Address number leaf) values.Null rest = some_alike (leaf_at s.store number leaf) _ _ _ _ refl λ value. copied_to_alike s value values.Null rest

  -- ---- calls

  entered_alike : (image : Image) (s : State) (index : ℕ) (arguments operands : List Value) (event : Option Event)
      → entered image (with_input s) index arguments operands event ≡ on_input (entered image s index arguments operands event)
  entered_alike image s index arguments operands event =
      some_alike (slice_get image.functions index) _ _ _ _ refl λ function. branch_alike (is_too_deep image s function) _ _ _ _ refl refl

  called_alike : (image : Image) (s : State) (index count : ℕ) → called image (with_input s) index count ≡ on_input (called image s index count)
  called_alike image s index count =
      branch_alike (nat_le count (length s.frame.operands)) _ _ _ _ (entered_alike image s index (reverse (take count s.frame.operands)) (drop count s.frame.operands) None) refl

  returned_alike : (result : Option Value) → returned result ≡ on_input (returned result)
  returned_alike None = refl
  returned_alike (Some (values.Number n)) = branch_alike _ _ _ _ _ refl refl
  returned_alike (Some (values.Address number leaf)) = refl
  returned_alike (Some values.Null) = refl

  left_alike : (s : State) (below : List Frame) (result : Option Value) → left (with_input s) below result ≡ on_input (left s below result)
  left_alike s [] result = returned_alike result
  left_alike s (caller ∷ below) result = refl

  return_alike : (s : State) (function : Option Function) → return_from (with_input s) function ≡ on_input (return_from s function)
  return_alike s None = refl
  return_alike s (Some function) =
      branch_alike function.result _ _ _ _ (value_alike s.frame.operands _ _ λ value below. left_alike s s.below (Some value)) (left_alike s s.below None)

  -- ---- texts, violations and exceptions

  byte_alike : (image : Image) (s : State) (text : ℕ) (place : ℤ) (operands : List Value) → byte_at image (with_input s) text place operands ≡ on_input (byte_at image s text place operands)
  byte_alike image s text place operands = some_alike (slice_get image.texts text) _ _ _ _ refl λ bytes. natural_alike place _ _ λ i. refl

  asked_alike : (image : Image) (s : State) (field : ViolationField) → asked image (with_input s) field ≡ on_input (asked image s field)
  asked_alike image s field =
      number_alike s.frame.operands _ _ λ n below.
      natural_alike n _ _ λ index.
      some_alike (slice_get s.violations index) _ _ _ _ refl λ violated.
      some_alike (slice_get image.assertions violated.assertion) _ _ _ _ refl λ assertion. refl

  violated_alike : (image : Image) (s : State) (violation : Violated) → violated image (with_input s) violation ≡ on_input (violated image s violation)
  violated_alike image s violation =
      let made : State = record s { violations = s.violations ++ violation ∷ [] } in
      let event : Event = events.Handler violation.assertion violation.mode violation.semantic in
      branch_alike (image.handler == 0) _ _ _ _ refl (entered_alike image made (image.handler - 1) (values.Number (pos (length s.violations)) ∷ []) s.frame.operands (Some event))

  again_alike : (s : State) (held : List Exception) → thrown_again (with_input s) held ≡ on_input (thrown_again s held)
  again_alike s [] = refl
  again_alike s (exception ∷ held) = refl

  held_alike : (s : State) (held : List Exception) → held_address (with_input s) held ≡ on_input (held_address s held)
  held_alike s [] = refl
  held_alike s (exception ∷ held) = refl

  dropped_alike : (image : Image) (s : State) (exception : Exception) (entry : TypeEntry) → dropped image (with_input s) exception entry ≡ on_input (dropped image s exception entry)
  dropped_alike image s exception entry =
      branch_alike (entry.dropper == 0) _ _ _ _ refl (entered_alike image s (entry.dropper - 1) (values.Address exception.object exception.leaf ∷ []) s.frame.operands None)

  released_alike : (image : Image) (s : State) (held : List Exception) → released image (with_input s) held ≡ on_input (released image s held)
  released_alike image s [] = refl
  released_alike image s (exception ∷ held) =
      branch_alike (is_kept exception held (s.frame ∷ s.below)) _ _ _ _ refl
      (some_alike (slice_get image.types exception.of) _ _ _ _ refl (dropped_alike image (record s { held = held }) exception))

  resumed_alike : (s : State) (pending : List Exception) → resumed (with_input s) pending ≡ on_input (resumed s pending)
  resumed_alike s [] = refl
  resumed_alike s (exception ∷ pending) = refl

  -- ---- the codes

  act_alike : (image : Image) (operation : Operation) (s : State) → operation ≢ does.In → act image operation (with_input s) ≡ on_input (act image operation s)
  act_alike image (does.Push n) s other = refl
  act_alike image (does.PushBig n) s other = refl
  act_alike image does.PushNull s other = refl
  act_alike image does.Duplicate s other = value_alike s.frame.operands _ _ λ x below. refl
  act_alike image does.Discard s other = value_alike s.frame.operands _ _ λ x below. refl
  act_alike image does.Swap s other = value_alike s.frame.operands _ _ λ y below. value_alike below _ _ λ x rest. refl
  act_alike image (does.Get slot) s other = slot_alike (slice_get s.frame.slots slot) _ _ λ value. refl
  act_alike image (does.Set slot) s other = value_alike s.frame.operands _ _ λ value below. some_alike (slice_get s.frame.slots slot) _ _ _ _ refl λ old. refl
  act_alike image (does.Make leaves slot) s other = some_alike (slice_get s.frame.slots slot) _ _ _ _ refl λ old. refl
  act_alike image does.End s other =
      object_alike s.frame.operands _ _ λ number leaf below. branch_alike (leaf == 0) _ _ _ _ (some_alike (s.store.leaves number) _ _ _ _ refl λ leaves. refl) refl
  act_alike image does.Load s other = address_alike s.frame.operands _ _ λ number leaf below. loaded_alike (loaded s.store number leaf) _ _ λ value. refl
  act_alike image does.Store s other =
      value_alike s.frame.operands _ _ λ value below.
      address_alike below _ _ λ number leaf rest. some_alike (stored s.store number leaf value) _ _ _ _ refl λ store. refl
  act_alike image (does.Offset by) s other = address_alike s.frame.operands _ _ λ number leaf below. some_alike (leaf_at s.store number (leaf + by)) _ _ _ _ refl λ value. refl
  act_alike image does.Copy s other = value_alike s.frame.operands _ _ λ to below. value_alike below _ _ λ from rest. copied_from_alike s from to rest
  act_alike image (does.Negate scalar) s other = unary_alike s (negated scalar)
  act_alike image (does.Not scalar) s other = unary_alike s (logical_not scalar)
  act_alike image (does.Complement scalar) s other = unary_alike s (complement scalar)
  act_alike image (does.Add scalar) s other = binary_alike s (sum scalar)
  act_alike image (does.Subtract scalar) s other = binary_alike s (difference scalar)
  act_alike image (does.Multiply scalar) s other = binary_alike s (product scalar)
  act_alike image (does.Divide scalar) s other = binary_alike s (quotient scalar)
  act_alike image (does.Remainder scalar) s other = binary_alike s (remainder scalar)
  act_alike image (does.ShiftLeft scalar) s other = binary_alike s (shifted_left scalar)
  act_alike image (does.ShiftRight scalar) s other = binary_alike s (shifted_right scalar)
  act_alike image (does.BitAnd scalar) s other = binary_alike s (both_bits scalar)
  act_alike image (does.BitOr scalar) s other = binary_alike s (either_bits scalar)
  act_alike image (does.BitXor scalar) s other = binary_alike s (different_bits scalar)
  act_alike image does.Equal s other = matched_alike s (λ equal. equal)
  act_alike image does.NotEqual s other = matched_alike s not
  act_alike image does.Less s other = compared_alike s int_lt
  act_alike image does.LessOrEqual s other = compared_alike s int_le
  act_alike image does.Greater s other = compared_alike s (λ x y. int_lt y x)
  act_alike image does.GreaterOrEqual s other = compared_alike s (λ x y. int_le y x)
  act_alike image (does.Convert scalar) s other = value_alike s.frame.operands _ _ λ x below. some_alike (value_as scalar x) _ _ _ _ refl λ z. refl
  act_alike image (does.Jump to) s other = refl
  act_alike image (does.JumpZero to) s other = number_alike s.frame.operands _ _ λ n below. refl
  act_alike image (does.JumpNonzero to) s other = number_alike s.frame.operands _ _ λ n below. refl
  act_alike image (does.Call function count) s other = called_alike image s function count
  act_alike image does.Return s other = return_alike s (slice_get image.functions s.frame.function)
  act_alike image (does.Global index) s other = refl
  act_alike image does.Out s other = number_alike s.frame.operands _ _ λ n below. refl
  act_alike image does.In s other = absurd (other refl)
  act_alike image does.TextAt s other =
      number_alike s.frame.operands _ _ λ i below. number_alike below _ _ λ t rest. natural_alike t _ _ λ text. byte_alike image s text i rest
  act_alike image (does.TextOf text) s other = number_alike s.frame.operands _ _ λ i below. byte_alike image s text i below
  act_alike image (does.Begin assertion party semantic) s other = refl
  act_alike image (does.Verdict assertion) s other = number_alike s.frame.operands _ _ λ n below. refl
  act_alike image (does.Violate assertion mode semantic) s other = violated_alike image s (record { assertion = assertion; mode = mode; semantic = semantic })
  act_alike image (does.Field field) s other = asked_alike image s field
  act_alike image does.ContractEnd s other = refl
  act_alike image (does.Throw of) s other = object_alike s.frame.operands _ _ λ object leaf below. refl
  act_alike image does.Rethrow s other = again_alike s s.held
  act_alike image does.Held s other = held_alike s s.held
  act_alike image does.Release s other = released_alike image s s.held
  act_alike image does.Resume s other = resumed_alike s s.frame.pending
  act_alike image (does.Destroyed class) s other = object_alike s.frame.operands _ _ λ number leaf below. refl
  act_alike image does.Flow s other = refl

  -- ---- moves of an exception

  tried_alike : (s : State) (exception : Exception) (index : ℕ) (region : Region) → tried (with_input s) exception index region ≡ on_input (tried s exception index region)
  tried_alike s exception index region =
      branch_alike (region.kind == 1) _ _ _ _ refl
      (branch_alike (region.kind == 2) _ _ _ _ (branch_alike (is_caught exception region) _ _ _ _ refl refl)
      (branch_alike (region.kind == 3) _ _ _ _ refl refl))

  gone_alike : (s : State) (exception : Exception) (below : List Frame) → gone (with_input s) exception below ≡ on_input (gone s exception below)
  gone_alike s exception [] = refl
  gone_alike s exception (caller ∷ below) = refl

  tried_at_alike : (s : State) (exception : Exception) (index : ℕ) (region : Option Region) → tried_at (with_input s) exception index region ≡ on_input (tried_at s exception index region)
  tried_at_alike s exception index None = gone_alike s exception s.below
  tried_at_alike s exception index (Some region) = tried_alike s exception index region

  moved_alike : (s : State) (exception : Exception) (regions : List Region) (index : Option ℕ) → moved_to (with_input s) exception regions index ≡ on_input (moved_to s exception regions index)
  moved_alike s exception regions None = gone_alike s exception s.below
  moved_alike s exception regions (Some index) = tried_at_alike s exception index (slice_get regions index)

  unwound_alike : (image : Image) (s : State) (exception : Exception) (last : Option ℕ) → unwound image (with_input s) exception last ≡ on_input (unwound image s exception last)
  unfolding unwound
  unwound_alike image s exception last =
      let regions : List Region = regions_of (slice_get image.functions s.frame.function) in
      moved_alike s exception regions (next_region regions s.frame.place last)

  -- ---- steps

  acted_alike : (image : Image) (s : State) (operation : Option Operation) → operation ≢ Some does.In → acted image (with_input s) operation ≡ on_input (acted image s operation)
  acted_alike image s None other = refl
  acted_alike image s (Some operation) other = act_alike image operation s λ e. other (ap Some e)

  controlled_alike : (image : Image) (s : State) (control : Control) → operation_now image s ≢ Some does.In → controlled image (with_input s) control ≡ on_input (controlled image s control)
  controlled_alike image s Runs other = acted_alike image s (operation_now image s) other
  controlled_alike image s (Unwinds exception last) other = unwound_alike image s exception last

  step_alike : (image : Image) (s : State) → operation_now image s ≢ Some does.In → step image (with_input s) ≡ on_input (step image s)
  unfolding step
  step_alike image s other = controlled_alike image s s.control other

-- ---- images that read nothing

none_reads : (code : List Instruction) (place : ℕ) (found : Option Instruction) → All ReadsNo code → slice_get code place ≡ found → option_and_then operation_of found ≢ Some does.In
none_reads code place None all e = λ reads. cc
none_reads code place (Some instruction) all e = at_index ReadsNo code place instruction all e

code_reads_no : (functions : List Function) (index : ℕ) (found : Option Function) → All (λ (f : Function). All ReadsNo f.code) functions → slice_get functions index ≡ found → All ReadsNo (code_of found)
code_reads_no functions index None all e = All-nil ReadsNo
code_reads_no functions index (Some function) all e = at_index (λ (f : Function). All ReadsNo f.code) functions index function all e

now_reads_no : (image : Image) (s : State) → ReadsNothing image → operation_now image s ≢ Some does.In
now_reads_no image s reads =
    let code : List Instruction = code_of (slice_get image.functions s.frame.function) in
    none_reads code s.frame.place (slice_get code s.frame.place) (code_reads_no image.functions s.frame.function (slice_get image.functions s.frame.function) reads.each refl) refl

-- ---- runs

after_alike : (input : List ℕ) (more : State → Run) → ((s : State) → more (with_input input s) ≡ more s) → (t : Step) → after (on_input input t) more ≡ after t more
after_alike input more alike (Goes s event) = ap (with_front (option_to_list event) 1) (alike s)
after_alike input more alike (Ends ending event) = refl

run_alike : (image : Image) (input : List ℕ) → ReadsNothing image → (n : ℕ) (s : State) → run_from image n (with_input input s) ≡ run_from image n s
unfolding run_from
run_alike image input reads zero s = refl
run_alike image input reads (suc n) s =
    ap (λ (t : Step). after t (run_from image n)) (step_alike input image s (now_reads_no image s reads)) ∙ after_alike input (run_from image n) (run_alike image input reads n) (step image s)

pub unread_input_makes_no_difference : UnreadInputMakesNoDifference
unfolding initial
unread_input_makes_no_difference image reads a b n = run_alike image a reads n (initial image b)
