-- What an instruction that is due needs is there, as the code asks for it.
use Rattle.std.proofs.Common.{◌≡◌, ℕ, ◌+◌, ◌-◌, ◌^◌, ◌<◌, ◌≤◌, List, ◌∷◌, length, Option, Some, None, IfSome, slice_get, subst, refl, arith, inl, inr}
use Rattle.std.specs.List.{All}
use Rattle.std.proofs.lemmas.Option.{slice_get_within, slice_get_cases}
use Rattle.cx_code.specs.declared.image.Image.{Image}
use Rattle.cx_code.specs.declared.image.Function.{Function}
use Rattle.cx_code.specs.declared.image.TypeEntry.{TypeEntry}
use Rattle.cx_code.specs.declared.operation.Operation.{Operation}
use Rattle.cx_code.specs.declared.operation.Operation.TheVariants as does
use Rattle.cx_code.specs.State.{State, Frame, Exception}
use Rattle.cx_code.specs.Storable.{IsStorableFunction, IsStorableType}
use Rattle.cx_code.specs.Rules.{IsValid, IsHook, IsHookAt, PassesArguments}
use Rattle.cx_sound.specs.Sound.{IsStack, IsThrown}
use Rattle.cx_sound.proofs.Places.{at_index, function_valid, is_within}
use Rattle.cx_machine.specs.Due.{IsDue, HasDroppers}

storable : (image : Image) (index : ℕ) (function : Function) → IsValid image → slice_get image.functions index ≡ Some function → IsStorableFunction function
storable image index function valid its = at_index IsStorableFunction image.functions index function valid.storable.each_function its

pub room : (image : Image) (operation : Operation) (s : State) → IsDue image operation s → s.frame.place + 1 < 2 ^ 32
room image operation s due =
    let fits = storable image s.frame.function due.takes.function due.valid due.takes.its_function in
    omega (arith, due.takes.place, fits.code)

pub has_function : (image : Image) (operation : Operation) (s : State) → IsDue image operation s → s.frame.function < length image.functions
has_function image operation s due = slice_get_within image.functions s.frame.function due.takes.function due.takes.its_function

-- ---- calls

slots_of_found : (image : Image) (index count : ℕ) (found : Option Function) → IsValid image → slice_get image.functions index ≡ found
    → IfSome found (λ (callee : Function). callee.parameters ≡ count) → IfSome found (λ (callee : Function). count ≤ callee.slots)
slots_of_found image index count None valid its passes = tt
slots_of_found image index count (Some callee) valid its passes = omega (arith, (storable image index callee valid its).parameters)

pub call_slots : (image : Image) (function count : ℕ) (s : State) → IsDue image (does.Call function count) s → IfSome (slice_get image.functions function) (λ (callee : Function). count ≤ callee.slots)
call_slots image function count s due =
    let passes = subst (λ (o : Operation). PassesArguments image (Some o)) due.is due.takes.arguments in
    slots_of_found image function count (slice_get image.functions function) due.valid refl passes

hook_slots_found : (image : Image) (index : ℕ) (found : Option Function) → IsValid image → slice_get image.functions index ≡ found → IfSome found IsHook → IfSome found (λ (callee : Function). 1 ≤ callee.slots)
hook_slots_found image index None valid its hook = tt
hook_slots_found image index (Some callee) valid its hook = omega (arith, hook.parameters, (storable image index callee valid its).parameters)

pub hook_slots : (image : Image) (hook : ℕ) → IsValid image → IsHookAt image hook → 1 ≤ hook → IfSome (slice_get image.functions (hook - 1)) (λ (callee : Function). 1 ≤ callee.slots)
hook_slots image hook valid at some = hook_slots_found image (hook - 1) (slice_get image.functions (hook - 1)) valid refl (at some)

pub below_room : (image : Image) (operation : Operation) (s : State) → IsDue image operation s → (caller : Frame) (below : List Frame) → s.below ≡ caller ∷ below → caller.place + 1 < 2 ^ 32
below_room image operation s due caller below is =
    let stack = subst (IsStack image s.frame.function) is due.sound.below in
    let taken = stack.0.taken in
    let its = taken.stands.its_function in
    let within = is_within (function_valid image caller.function taken.function due.valid its) taken.stands.is_reached in
    omega (arith, within, (storable image caller.function taken.function due.valid its).code)

-- ---- exceptions

thrown_has : (image : Image) (thrown : ℕ) (exception : Exception) → IsValid image → IsThrown image thrown exception → HasDroppers image exception
thrown_has image thrown exception valid is = elim ((slice_get_cases image.types exception.of).1) [
  | inl (entry, w, e, g) ↦
      let some : 1 ≤ entry.dropper = subst (λ (o : Option TypeEntry). IfSome o (λ (entry : TypeEntry). 1 ≤ entry.dropper)) e is.dropper in
      let fits = at_index (IsStorableType image) image.types exception.of entry valid.storable.each_type e in
      let hook = at_index (λ (entry : TypeEntry). IsHookAt image entry.dropper) image.types exception.of entry valid.droppers e in
      record { entry = entry; its_entry = e; some = some; within = omega (arith, fits.dropper); slots = hook_slots image entry.dropper valid hook some }
  | inr (past, none) ↦ absurd (omega (arith, is.of))
]

pub droppers : (image : Image) (operation : Operation) (s : State) → IsDue image operation s → All (HasDroppers image) s.held
droppers image operation s due = λ k d lt. thrown_has image s.thrown _ due.valid (due.sound.held k d lt)
