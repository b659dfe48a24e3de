-- The types of the leaves of all objects that were ever made, by their numbers: they only grow, so what is said of an address stays true, also when its object has ended.
use Rattle.std.proofs.Common.{◌≡◌, refl, sym, ◌∙◌, subst, arith, ℕ, zero, suc, ◌+◌, ℤ, pos, Bool, true, List, [], ◌∷◌, ◌++◌, length, drop, Option, Some, None}
use Rattle.std.specs.Prelude.{slice_get}
use Rattle.cx_core.specs.declared.number.IntegerType.{IntegerType}
use Rattle.cx_core.specs.declared.number.IntegerType.TheVariants as types
use Rattle.cx_core.specs.Words.{Violation}
use Rattle.cx_core.specs.Number.{in_range}
use Rattle.cx_core.specs.Operators.{integer_of, fits_integer}
use Rattle.cx_core.specs.Store.{Address, Value, number, address, null, function, violation, Leaf, place_in}
use Rattle.cx_soundness.specs.Types.{LeafType, number_leaf, pointer_leaf, function_leaf, no_value, Signature, Declared, Given, numbers, refers, null_reference, functions, a_report}
use Rattle.cx_soundness.specs.Given.{signature_at, begins, leaf_types}
use Rattle.cx_soundness.proofs.Same.{at_start, behind_dropped}

abbrev pub World : Type 0
World = List (List LeafType)

pub record Extends (W V : World) : Type 0 where
  pub kept : (n : ℕ) (leaves : List LeafType) → slice_get W n ≡ Some leaves → slice_get V n ≡ Some leaves

pub same_world : (W : World) → Extends W W
same_world W = record { kept = λ n leaves e. e }

pub longer : (U V W : World) → Extends U V → Extends V W → Extends U W
longer U V W h k = record { kept = λ n leaves e. k.kept n leaves (h.kept n leaves e) }

kept_before : (W : World) (more : List LeafType) (n : ℕ) (leaves : List LeafType) → slice_get W n ≡ Some leaves → slice_get (W ++ more ∷ []) n ≡ Some leaves
kept_before [] more n leaves e = absurd cc
kept_before (first ∷ W) more zero leaves e = e
kept_before (first ∷ W) more (suc n) leaves e = kept_before W more n leaves e

pub with_one : (W : World) (more : List LeafType) → Extends W (W ++ more ∷ [])
with_one W more = record { kept = kept_before W more }

pub last_one : (W : World) (more : List LeafType) → slice_get (W ++ more ∷ []) (length W) ≡ Some more
last_one [] more = refl
last_one (first ∷ W) more = last_one W more

-- ---- addresses

-- the leaves from the address on are of the types
pub record IsAt (W : World) (a : Address) (ts : List LeafType) : Type 0 where
  pub leaves : List LeafType
  pub made : slice_get W a.object ≡ Some leaves
  pub stand : (i : ℕ) (t : LeafType) → slice_get ts i ≡ Some t → slice_get leaves (a.leaf + i) ≡ Some t

pub at_more : (W V : World) (a : Address) (ts : List LeafType) → Extends W V → IsAt W a ts → IsAt V a ts
at_more W V a ts e h = record { leaves = h.leaves; made = e.kept a.object h.leaves h.made; stand = h.stand }

pub at_less : (W : World) (a : Address) (ts us : List LeafType) → begins ts us ≡ true → IsAt W a us → IsAt W a ts
at_less W a ts us e h = record { leaves = h.leaves; made = h.made; stand = λ i t k. h.stand i t (at_start ts us e i t k) }

pub at_by : (W : World) (a : Address) (ts us : List LeafType) → ((i : ℕ) (t : LeafType) → slice_get ts i ≡ Some t → slice_get us i ≡ Some t) → IsAt W a us → IsAt W a ts
at_by W a ts us f h = record { leaves = h.leaves; made = h.made; stand = λ i t k. h.stand i t (f i t k) }

pub at_member : (W : World) (a : Address) (leaf : ℕ) (ts : List LeafType) → IsAt W a ts → IsAt W (place_in a leaf) (drop leaf ts)
at_member W a leaf ts h = record {
  leaves = h.leaves;
  made = h.made;
  stand = λ i t k. subst (λ n. slice_get h.leaves n ≡ Some t) (regrouped a.leaf leaf i) (h.stand (leaf + i) t (sym (behind_dropped leaf ts i) ∙ k));
}
  where
    regrouped : (a b c : ℕ) → a + (b + c) ≡ (a + b) + c
    regrouped a b c = omega arith

-- ---- values

-- a number in the range of each of the types
abbrev pub IsNumber : (IntegerType → Bool) → ℤ → Type 0
IsNumber fits n = (type : IntegerType) → fits type ≡ true → in_range type n ≡ true

-- what a violation tells of its place are numbers of `unsigned`
pub record IsPlaced (v : Violation) : Type 0 where
  pub line : in_range types.Unsigned (pos v.line) ≡ true
  pub column : in_range types.Unsigned (pos v.column) ≡ true

module _ (declared : Declared) where
  abbrev pub IsReference : World → List LeafType → Value → Type 0
  IsReference W ts (address a) = IsAt W a ts
  IsReference W ts null = Unit {0}
  IsReference W ts (number n) = ⊥
  IsReference W ts (function f) = ⊥
  IsReference W ts (violation v) = ⊥

  abbrev pub IsFunction : Signature → Value → Type 0
  IsFunction signature (function f) = signature_at declared.functions f ≡ Some signature
  IsFunction signature null = Unit {0}
  IsFunction signature (number n) = ⊥
  IsFunction signature (address a) = ⊥
  IsFunction signature (violation v) = ⊥

  abbrev pub IsANumber : (IntegerType → Bool) → Value → Type 0
  IsANumber fits (number n) = IsNumber fits n
  IsANumber fits (address a) = ⊥
  IsANumber fits null = ⊥
  IsANumber fits (function f) = ⊥
  IsANumber fits (violation v) = ⊥

  abbrev pub IsNull : Value → Type 0
  IsNull null = Unit {0}
  IsNull (number n) = ⊥
  IsNull (address a) = ⊥
  IsNull (function f) = ⊥
  IsNull (violation v) = ⊥

  abbrev pub IsReport : Value → Type 0
  IsReport (violation v) = IsPlaced v
  IsReport (number n) = ⊥
  IsReport (address a) = ⊥
  IsReport null = ⊥
  IsReport (function f) = ⊥

  -- the value has the type
  abbrev pub IsGiven : World → Given → Value → Type 0
  IsGiven W (numbers fits) x = IsANumber fits x
  IsGiven W (refers ts) x = IsReference W ts x
  IsGiven W null_reference x = IsNull x
  IsGiven W (functions signature) x = IsFunction signature x
  IsGiven W a_report x = IsReport x

  pub reference_more : (W V : World) (ts : List LeafType) (x : Value) → Extends W V → IsReference W ts x → IsReference V ts x
  reference_more W V ts (address a) e h = at_more W V a ts e h
  reference_more W V ts null e h = h
  reference_more W V ts (number n) e h = h
  reference_more W V ts (function f) e h = h
  reference_more W V ts (violation v) e h = h

  pub given_more : (W V : World) (v : Given) (x : Value) → Extends W V → IsGiven W v x → IsGiven V v x
  given_more W V (numbers fits) x e h = h
  given_more W V (refers ts) x e h = reference_more W V ts x e h
  given_more W V null_reference x e h = h
  given_more W V (functions signature) x e h = h
  given_more W V a_report x e h = h

  -- ---- leaves

  abbrev pub IsScalarNumber : Option IntegerType → Value → Type 0
  IsScalarNumber type (number n) = fits_integer type n ≡ true
  IsScalarNumber type (address a) = ⊥
  IsScalarNumber type null = ⊥
  IsScalarNumber type (function f) = ⊥
  IsScalarNumber type (violation v) = ⊥

  abbrev pub IsFunctionOf : Option Signature → Value → Type 0
  IsFunctionOf (Some signature) x = IsFunction signature x
  IsFunctionOf None x = IsNull x

  -- a leaf of the type may hold the value
  abbrev pub IsHeld : World → LeafType → Value → Type 0
  IsHeld W (number_leaf s) x = IsScalarNumber (integer_of s) x
  IsHeld W (pointer_leaf to) x = IsReference W (leaf_types declared to) x
  IsHeld W (function_leaf type) x = IsFunctionOf (slice_get declared.function_types type) x
  IsHeld W no_value x = ⊥

  -- a leaf may be unset
  abbrev pub IsLeaf : World → LeafType → Leaf → Type 0
  IsLeaf W t None = Unit {0}
  IsLeaf W t (Some x) = IsHeld W t x

  pub held_more : (W V : World) (t : LeafType) (x : Value) → Extends W V → IsHeld W t x → IsHeld V t x
  held_more W V (number_leaf s) x e h = h
  held_more W V (pointer_leaf to) x e h = reference_more W V (leaf_types declared to) x e h
  held_more W V (function_leaf type) x e h = h
  held_more W V no_value x e h = h

  pub leaf_more : (W V : World) (t : LeafType) (leaf : Leaf) → Extends W V → IsLeaf W t leaf → IsLeaf V t leaf
  leaf_more W V t None e h = h
  leaf_more W V t (Some x) e h = held_more W V t x e h
