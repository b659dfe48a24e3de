-- What holds of each state that a step goes on to, by the parts that steps are made of.
use Rattle.std.proofs.Common.{◌≡◌, ℕ, ℤ, pos, negsuc, List, [], ◌∷◌, Option, Some, None, Bool, true, false, if◌then◌else◌, subst, refl}
use Rattle.cx_code.specs.declared.memory.Loaded.{Loaded}
use Rattle.cx_code.specs.declared.memory.Loaded.TheVariants as gives
use Rattle.cx_code.specs.declared.run.Value.{Value}
use Rattle.cx_code.specs.declared.run.Value.TheVariants as values
use Rattle.cx_code.specs.declared.run.Event.{Event}
use Rattle.cx_code.specs.Arithmetic.{Computed, Gives, Fails}
use Rattle.cx_code.specs.State.{State}
use Rattle.cx_code.specs.Act.{Step, Goes, Ends, on_value, on_number, on_address, on_object, on_some, on_slot, on_loaded, on_computed, on_natural}

abbrev pub EachGoes : (State → Type 0) → Step → Type 0
EachGoes P (Goes s event) = P s
EachGoes P (Ends ending event) = Unit {0}

module _ (P : State → Type 0) where
  pub goes_to : (step : Step) (s : State) (event : Option Event) → EachGoes P step → step ≡ Goes s event → P s
  goes_to step s event each e = subst (EachGoes P) e each

  pub each_value : (operands : List Value) (go : Value → List Value → Step)
      → ((x : Value) (below : List Value) → operands ≡ x ∷ below → EachGoes P (go x below)) → EachGoes P (on_value operands go)
  each_value [] go h = tt
  each_value (x ∷ below) go h = h x below refl

  pub each_number : (operands : List Value) (go : ℤ → List Value → Step)
      → ((n : ℤ) (below : List Value) → operands ≡ values.Number n ∷ below → EachGoes P (go n below)) → EachGoes P (on_number operands go)
  each_number [] go h = tt
  each_number (values.Number n ∷ below) go h = h n below refl
  each_number (values.Address number leaf ∷ below) go h = tt
  each_number (values.Null ∷ below) go h = tt

  pub each_address : (operands : List Value) (go : ℕ → ℕ → List Value → Step)
      → ((number leaf : ℕ) (below : List Value) → operands ≡ values.Address number leaf ∷ below → EachGoes P (go number leaf below)) → EachGoes P (on_address operands go)
  each_address [] go h = tt
  each_address (values.Number n ∷ below) go h = tt
  each_address (values.Address number leaf ∷ below) go h = h number leaf below refl
  each_address (values.Null ∷ below) go h = tt

  pub each_object : (operands : List Value) (go : ℕ → ℕ → List Value → Step)
      → ((number leaf : ℕ) (below : List Value) → operands ≡ values.Address number leaf ∷ below → EachGoes P (go number leaf below)) → EachGoes P (on_object operands go)
  each_object [] go h = tt
  each_object (values.Number n ∷ below) go h = tt
  each_object (values.Address number leaf ∷ below) go h = h number leaf below refl
  each_object (values.Null ∷ below) go h = tt

  pub each_some : {X : Type 0} (o : Option X) (without : Step) (go : X → Step)
      → EachGoes P without → ((x : X) → o ≡ Some x → EachGoes P (go x)) → EachGoes P (on_some o without go)
  each_some None without go n h = n
  each_some (Some x) without go n h = h x refl

  pub each_slot : (o : Option (Option Value)) (go : Value → Step) → ((value : Value) → EachGoes P (go value)) → EachGoes P (on_slot o go)
  each_slot None go h = tt
  each_slot (Some None) go h = tt
  each_slot (Some (Some value)) go h = h value

  pub each_loaded : (l : Loaded) (go : Value → Step) → ((value : Value) → EachGoes P (go value)) → EachGoes P (on_loaded l go)
  each_loaded (gives.Value value) go h = h value
  each_loaded gives.Unset go h = tt
  each_loaded gives.Dead go h = tt

  pub each_computed : (c : Computed) (go : ℤ → Step) → ((n : ℤ) → EachGoes P (go n)) → EachGoes P (on_computed c go)
  each_computed (Gives n) go h = h n
  each_computed (Fails kind) go h = tt

  pub each_natural : (n : ℤ) (go : ℕ → Step) → ((i : ℕ) → EachGoes P (go i)) → EachGoes P (on_natural n go)
  each_natural (pos i) go h = h i
  each_natural (negsuc i) go h = tt

  pub each_branch : (b : Bool) (x y : Step) → (b ≡ true → EachGoes P x) → (b ≡ false → EachGoes P y) → EachGoes P (if b then x else y)
  each_branch true x y h k = h refl
  each_branch false x y h k = k refl
