use Rattle.std.proofs.Common.{◌≡◌, ◌==◌, if◌then◌else◌, ℕ, List, [], ◌∷◌, map, nat_eq, find, Some, None, refl, true, false, sym, ap}
use Rattle.std.specs.Option.{option_map}
use Rattle.cx_core.specs.Outcome.{either, current_frame, gives, ends}
use Rattle.cx_core.specs.Operators.{denoted}
use Rattle.cx_plain_state.specs.declared.state.Binding.{Binding}
use Rattle.cx_plain_state.specs.Seen.{state_of, value_of, binding_of}
use Rattle.cx_plain_state.proofs.state.State.named.Goals as goal

denoted_found : (slot : ℕ) (xs : List Binding) → denoted (map binding_of xs) slot ≡ option_map (λ b. value_of b.value) (find (λ b. b.slot == slot) xs)
denoted_found slot [] = refl
denoted_found slot (b ∷ xs) =
    elim (nat_eq b.slot slot) as (λ t. (if t then Some (value_of b.value) else denoted (map binding_of xs) slot) ≡ option_map (λ b'. value_of b'.value) (if t then Some b else find (λ b'. b'.slot == slot) xs)) [ true ↦ refl | false ↦ denoted_found slot xs ]

pub returns-in-Some : goal.returns-in-Some
unfolding either current_frame gives state_of
returns-in-Some c =
    let e : denoted (map binding_of c.args.self.now.frame.variables.items) c.args.slot ≡ Some (value_of c.in-Some.binding.now.value) =
    rw (denoted_found c.args.slot c.args.self.now.frame.variables.items, ← c.deref.ensures.value) (sym (ap (option_map (λ b. value_of b.value)) c.in-Some.ensures)) in
    record { comes = rw e refl }

pub returns-in-None : goal.returns-in-None
unfolding either current_frame gives ends state_of
returns-in-None c =
    let e : denoted (map binding_of c.args.self.now.frame.variables.items) c.args.slot ≡ None =
    rw (denoted_found c.args.slot c.args.self.now.frame.variables.items, ← c.deref.ensures.value) (sym (ap (option_map (λ b. value_of b.value)) c.in-None.ensures)) in
    record { comes = rw e refl }
