-- What is known of an option that is made of others.
use Rattle.std.proofs.Common.{◌≡◌, Bool, true, false, Option, Some, None, IfSome, option_map, refl}
use Rattle.std.proofs.lemmas.Option.{none-some}
use Rattle.cx_core.specs.declared.number.IntegerType.{IntegerType}
use Rattle.cx_front.specs.Front.{both, only_if, of_type}

module _ {C : Type 0} (R : C → Type 0) where
  pub both_is : {A B : Type 0} (P : A → Type 0) (Q : B → Type 0) (f : A → B → C) (a : Option A) (b : Option B) → IfSome a P → IfSome b Q → ((x : A) (y : B) → P x → Q y → R (f x y)) → IfSome (both f a b) R
  both_is P Q f None b h k makes = tt
  both_is P Q f (Some x) None h k makes = tt
  both_is P Q f (Some x) (Some y) h k makes = makes x y h k

  pub map_is : {A : Type 0} (P : A → Type 0) (f : A → C) (a : Option A) → IfSome a P → ((x : A) → P x → R (f x)) → IfSome (option_map f a) R
  map_is P f None h makes = tt
  map_is P f (Some x) h makes = makes x h

  pub only_is : (condition : Bool) (a : Option C) → (condition ≡ true → IfSome a R) → IfSome (only_if condition a) R
  only_is true a h = h refl
  only_is false a h = tt

  pub typed_is : (f : IntegerType → Option C) (type : Option IntegerType) → ((t : IntegerType) → IfSome (f t) R) → IfSome (of_type f type) R
  typed_is f None h = tt
  typed_is f (Some t) h = h t

pub only_some : {A : Type 0} (condition : Bool) (a : Option A) (x : A) → only_if condition a ≡ Some x → (condition ≡ true) × (a ≡ Some x)
only_some true a x h = (refl, h)
only_some false a x h = absurd (none-some x h)
