-- What operators give of typed values is a typed value, or undefined behaviour of a kind that a well made program may have.
use Rattle.std.proofs.Common.{◌≡◌, refl, sym, subst, Bool, true, List, Option, Some, None}
use Rattle.std.specs.Prelude.{slice_get}
use Rattle.cx_core.specs.declared.number.IntegerType.{IntegerType}
use Rattle.cx_core.specs.Number.{in_range}
use Rattle.cx_core.specs.Store.{Value, number, address, null, function, violation}
use Rattle.cx_core.specs.Operators.{integer_of, fits}
use Rattle.cx_soundness.specs.Types.{LeafType, number_leaf, pointer_leaf, function_leaf, no_value, Signature, Declared, Given, numbers, refers, null_reference, functions, a_report}
use Rattle.cx_soundness.specs.Given.{begins, is_integer, accepts_number, leaf_types, leaf_given, functions_of, is_signature, holds, denotes}
use Rattle.cx_soundness.proofs.Same.{equal_integers, equal_signatures}
use Rattle.cx_soundness.proofs.Worlds.{World, at_less, IsReference, IsFunction, IsANumber, IsNull, IsGiven, IsScalarNumber, IsFunctionOf, IsHeld}

module _ (declared : Declared) (W : World) where
  -- ---- leaves and what is read of them

  -- the value has the type, where there is one
  abbrev pub IsGivenIf : Option Given → Value → Type 0
  IsGivenIf None x = Unit {0}
  IsGivenIf (Some v) x = IsGiven declared W v x

  scalar_number : (type : Option IntegerType) (x : Value) → IsScalarNumber declared type x → IsANumber declared (is_integer type) x
  scalar_number None (number n) h = λ t e. absurd cc
  scalar_number (Some type) (number n) h = λ t e. subst (λ u. in_range u n ≡ true) (equal_integers type t e) h
  scalar_number type (address a) h = absurd h
  scalar_number type null h = absurd h
  scalar_number type (function f) h = absurd h
  scalar_number type (violation v) h = absurd h

  function_given : (signature : Option Signature) (x : Value) → IsFunctionOf declared signature x → IsGivenIf (functions_of signature) x
  function_given None x h = tt {0}
  function_given (Some signature) x h = h

  pub held_given : (t : LeafType) (x : Value) → IsHeld declared W t x → IsGivenIf (leaf_given declared t) x
  held_given (number_leaf s) x h = scalar_number (integer_of s) x h
  held_given (pointer_leaf to) x h = h
  held_given (function_leaf type) x h = function_given (slice_get declared.function_types type) x h
  held_given no_value x h = absurd h

  number_held : (type : Option IntegerType) (fits : IntegerType → Bool) (x : Value) → accepts_number type fits ≡ true → IsANumber declared fits x → IsScalarNumber declared type x
  number_held None fits (number n) e h = refl
  number_held (Some type) fits (number n) e h = h type e
  number_held type fits (address a) e h = absurd h
  number_held type fits null e h = absurd h
  number_held type fits (function f) e h = absurd h
  number_held type fits (violation v) e h = absurd h

  pub reference_less : (ts us : List LeafType) (x : Value) → begins ts us ≡ true → IsReference declared W us x → IsReference declared W ts x
  reference_less ts us (address a) e h = at_less W a ts us e h
  reference_less ts us null e h = h
  reference_less ts us (number n) e h = h
  reference_less ts us (function f) e h = h
  reference_less ts us (violation v) e h = h

  pub null_refers : (ts : List LeafType) (x : Value) → IsNull declared x → IsReference declared W ts x
  null_refers ts null h = h
  null_refers ts (address a) h = absurd h
  null_refers ts (number n) h = h
  null_refers ts (function f) h = h
  null_refers ts (violation v) h = h

  null_function : (signature : Signature) (x : Value) → IsNull declared x → IsFunction declared signature x
  null_function signature null h = h
  null_function signature (address a) h = h
  null_function signature (number n) h = h
  null_function signature (function f) h = absurd h
  null_function signature (violation v) h = h

  null_function_of : (signature : Option Signature) (x : Value) → IsNull declared x → IsFunctionOf declared signature x
  null_function_of None x h = h
  null_function_of (Some signature) x h = null_function signature x h

  function_held_of : (wanted : Option Signature) (signature : Signature) (x : Value) → is_signature wanted signature ≡ true → IsFunction declared signature x → IsFunctionOf declared wanted x
  function_held_of None signature x e h = absurd cc
  function_held_of (Some wanted) signature x e h = subst (λ s. IsFunction declared s x) (sym (equal_signatures wanted signature e)) h

  pub given_held : (t : LeafType) (v : Given) (x : Value) → holds declared t v ≡ true → IsGiven declared W v x → IsHeld declared W t x
  given_held (number_leaf s) (numbers fits) x e h = number_held (integer_of s) fits x e h
  given_held (number_leaf s) (refers ts) x e h = absurd cc
  given_held (number_leaf s) null_reference x e h = absurd cc
  given_held (number_leaf s) (functions signature) x e h = absurd cc
  given_held (number_leaf s) a_report x e h = absurd cc
  given_held (pointer_leaf to) (refers ts) x e h = reference_less (leaf_types declared to) ts x e h
  given_held (pointer_leaf to) null_reference x e h = null_refers (leaf_types declared to) x h
  given_held (pointer_leaf to) (numbers fits) x e h = absurd cc
  given_held (pointer_leaf to) (functions signature) x e h = absurd cc
  given_held (pointer_leaf to) a_report x e h = absurd cc
  given_held (function_leaf type) (functions signature) x e h = function_held_of (slice_get declared.function_types type) signature x e h
  given_held (function_leaf type) null_reference x e h = null_function_of (slice_get declared.function_types type) x h
  given_held (function_leaf type) (numbers fits) x e h = absurd cc
  given_held (function_leaf type) (refers ts) x e h = absurd cc
  given_held (function_leaf type) a_report x e h = absurd cc
  given_held no_value v x e h = absurd cc

  -- what denotes the one denotes the other
  pub denotes_it : (wanted v : Given) (x : Value) → denotes wanted v ≡ true → IsGiven declared W v x → IsGiven declared W wanted x
  denotes_it (refers ts) (refers us) x e h = reference_less ts us x e h
  denotes_it (refers ts) null_reference x e h = null_refers ts x h
  denotes_it (refers ts) (numbers fits) x e h = absurd cc
  denotes_it (refers ts) (functions signature) x e h = absurd cc
  denotes_it (refers ts) a_report x e h = absurd cc
  denotes_it a_report a_report x e h = h
  denotes_it a_report (refers ts) x e h = absurd cc
  denotes_it a_report null_reference x e h = absurd cc
  denotes_it a_report (numbers fits) x e h = absurd cc
  denotes_it a_report (functions signature) x e h = absurd cc
  denotes_it null_reference v x e h = absurd cc
  denotes_it (numbers fits) v x e h = absurd cc
  denotes_it (functions signature) v x e h = absurd cc
