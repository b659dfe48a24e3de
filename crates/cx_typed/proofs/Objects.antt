-- The objects of a state hold numbers of their types: this is kept where one is made, written and ended, and what is read of one is such a number.
use Rattle.std.proofs.Common.{◌≡◌, refl, sym, ap, ◌∙◌, subst, ℕ, zero, suc, ◌<◌, nat_eq, nat_lt, Bool, true, false, if◌then◌else◌, List, [], ◌∷◌, length, replicate, Option, Some, None, Result, Ok, Err, inl, inr, arith}
use Rattle.std.specs.Prelude.{slice_set}
use Rattle.std.specs.List.{All}
use Rattle.std.proofs.lemmas.Bool.Decides.{eqb_tells}
use Rattle.std.proofs.lemmas.List.Elements.{All-nil, All-cons, All-head, All-tail, All-set, All-replicate, All-weaker}
use Rattle.cx_core.specs.declared.number.IntegerType.{IntegerType}
use Rattle.cx_core.specs.Words.{Kind, Dead}
use Rattle.cx_core.specs.Number.{in_range}
use Rattle.cx_core.specs.Store.{Address, Value, number, address, Leaf, Object, Store, leaves_of, without, with_leaves, leaf_in, leaf_at, value_of, with_leaf, written}
use Rattle.cx_typed.proofs.Comes.{IsProper}

-- the types of the objects, by their numbers
abbrev pub Types : Type 0
Types = ℕ → IntegerType

-- a number in the range of the type
abbrev pub IsIn : IntegerType → Value → Type 0
IsIn type (number n) = in_range type n ≡ true
IsIn type other = ⊥

-- a leaf may be unset
abbrev pub IsLeafOf : IntegerType → Leaf → Type 0
IsLeafOf type None = Unit {0}
IsLeafOf type (Some v) = IsIn type v

-- an object with a number before the next one
pub record IsObjectOf (types : Types) (next : ℕ) (o : Object) : Type 0 where
  pub is_made : o.number < next
  pub holds : All (IsLeafOf (types o.number)) o.leaves

-- the place of an object of the type
abbrev pub IsPlace : Types → IntegerType → Value → Type 0
IsPlace types type (address a) = types a.object ≡ type
IsPlace types type other = ⊥

-- a name of the place of such an object
abbrev pub Denotes : Types → ℕ → IntegerType → Option Value → Type 0
Denotes types next type (Some (address a)) = (a.object < next) × (types a.object ≡ type)
Denotes types next type other = ⊥

-- ---- reading

abbrev AreLeavesOf : IntegerType → Option (List Leaf) → Type 0
AreLeavesOf type None = Unit {0}
AreLeavesOf type (Some leaves) = All (IsLeafOf type) leaves

leaves_are : (types : Types) (next n : ℕ) (store : Store) → All (IsObjectOf types next) store → AreLeavesOf (types n) (leaves_of store n)
leaves_are types next n [] all = tt {0}
leaves_are types next n (o ∷ store) all =
    elim (eqb_tells o.number n) [
      | inl e ↦ subst (λ b. AreLeavesOf (types n) (if b then Some o.leaves else leaves_of store n)) (sym e.0) (subst (λ k. All (IsLeafOf (types k)) o.leaves) e.1 (All-head (IsObjectOf types next) o store all).holds)
      | inr e ↦ subst (λ b. AreLeavesOf (types n) (if b then Some o.leaves else leaves_of store n)) (sym e.0) (leaves_are types next n store (All-tail (IsObjectOf types next) o store all))
    ]

-- a number of the type, or a kind of undefined behaviour that a well made program may have
abbrev pub IsValueOf : IntegerType → Result Value Kind → Type 0
IsValueOf type (Ok v) = IsIn type v
IsValueOf type (Err kind) = IsProper kind

set_or_unset : (type : IntegerType) (leaf : Leaf) → IsLeafOf type leaf → IsValueOf type (value_of (Ok leaf))
set_or_unset type None h = tt {0}
set_or_unset type (Some v) h = h

leaf_is : (type : IntegerType) (leaves : List Leaf) (i : ℕ) → All (IsLeafOf type) leaves → IsValueOf type (value_of (leaf_in (Some leaves) i))
leaf_is type [] i all = tt {0}
leaf_is type (leaf ∷ leaves) zero all = set_or_unset type leaf (All-head (IsLeafOf type) leaf leaves all)
leaf_is type (leaf ∷ leaves) (suc i) all = leaf_is type leaves i (All-tail (IsLeafOf type) leaf leaves all)

found_is : (type : IntegerType) (found : Option (List Leaf)) (i : ℕ) → AreLeavesOf type found → IsValueOf type (value_of (leaf_in found i))
found_is type None i h = tt {0}
found_is type (Some leaves) i h = leaf_is type leaves i h

pub read_is : (types : Types) (next : ℕ) (store : Store) (a : Address) → All (IsObjectOf types next) store → IsValueOf (types a.object) (value_of (leaf_at store a))
read_is types next store a all = found_is (types a.object) (leaves_of store a.object) a.leaf (leaves_are types next a.object store all)

-- ---- writing

abbrev pub AreObjects : Types → ℕ → Result Store Kind → Type 0
AreObjects types next (Ok store) = All (IsObjectOf types next) store
AreObjects types next (Err kind) = IsProper kind

with_leaves_are : (types : Types) (next n : ℕ) (leaves : List Leaf) (store : Store) → All (IsLeafOf (types n)) leaves → All (IsObjectOf types next) store → All (IsObjectOf types next) (with_leaves store n leaves)
with_leaves_are types next n leaves [] h all = All-nil (IsObjectOf types next)
with_leaves_are types next n leaves (o ∷ store) h all =
    let IsOf = IsObjectOf types next in
    let both : Bool → Store = λ b. if b then (record o { leaves = leaves } ∷ store) else (o ∷ with_leaves store n leaves) in
    let first = All-head IsOf o store all in
    let others = All-tail IsOf o store all in
    elim (eqb_tells o.number n) [
      | inl e ↦ subst (λ b. All IsOf (both b)) (sym e.0) (All-cons IsOf (record o { leaves = leaves }) store (record { is_made = first.is_made; holds = subst (λ k. All (IsLeafOf (types k)) leaves) (sym e.1) h }) others)
      | inr e ↦ subst (λ b. All IsOf (both b)) (sym e.0) (All-cons IsOf o (with_leaves store n leaves) first (with_leaves_are types next n leaves store h others))
    ]

module _ (types : Types) (next : ℕ) (store : Store) (a : Address) (leaf : Leaf) (all : All (IsObjectOf types next) store) (h : IsLeafOf (types a.object) leaf) where
  where_live : (leaves : List Leaf) → All (IsLeafOf (types a.object)) leaves → (is_leaf : Bool) → AreObjects types next (if is_leaf then Ok (with_leaves store a.object (slice_set leaves a.leaf leaf)) else Err Dead)
  where_live leaves are true = with_leaves_are types next a.object (slice_set leaves a.leaf leaf) store (All-set (IsLeafOf (types a.object)) leaves a.leaf leaf h are) all
  where_live leaves are false = tt {0}

  where_found : (found : Option (List Leaf)) → AreLeavesOf (types a.object) found → AreObjects types next (with_leaf found store a leaf)
  where_found None are = tt {0}
  where_found (Some leaves) are = where_live leaves are (nat_lt a.leaf (length leaves))

  pub written_are : AreObjects types next (written store a leaf)
  written_are = where_found (leaves_of store a.object) (leaves_are types next a.object store all)

-- ---- ending

pub others_are : (P : Object → Type 0) (n : ℕ) (store : Store) → All P store → All P (without store n)
others_are P n [] all = all
others_are P n (o ∷ store) all =
    elim (eqb_tells o.number n) [
      | inl e ↦ subst (λ b. All P (if b then store else (o ∷ without store n))) (sym e.0) (All-tail P o store all)
      | inr e ↦ subst (λ b. All P (if b then store else (o ∷ without store n))) (sym e.0) (All-cons P o (without store n) (All-head P o store all) (others_are P n store (All-tail P o store all)))
    ]

-- ---- making

-- the object with the number has the type
abbrev pub typed_at : Types → ℕ → IntegerType → Types
typed_at types n type k = if nat_eq k n then type else types k

pub typed_itself : (types : Types) (n : ℕ) (type : IntegerType) → typed_at types n type n ≡ type
typed_itself types n type = elim (eqb_tells n n) [ inl e ↦ ap (λ b. if b then type else types n) e.0 | inr e ↦ absurd (e.1 refl) ]

typed_before : (types : Types) (n : ℕ) (type : IntegerType) (k : ℕ) → k < n → typed_at types n type k ≡ types k
typed_before types n type k h = elim (eqb_tells k n) [ inl e ↦ absurd (omega (arith, h, e.1)) | inr e ↦ ap (λ b. if b then type else types k) e.0 ]

module _ (types : Types) (next : ℕ) (type : IntegerType) where
  pub denotes_more : (other : IntegerType) (v : Option Value) → Denotes types next other v → Denotes (typed_at types next type) (suc next) other v
  denotes_more other (Some (address a)) h = (omega (arith, h.0), typed_before types next type a.object h.0 ∙ h.1)
  denotes_more other None h = absurd h
  denotes_more other (Some v) h = absurd h

  object_more : (o : Object) → IsObjectOf types next o → IsObjectOf (typed_at types next type) (suc next) o
  object_more o h = record { is_made = omega (arith, h.is_made); holds = subst (λ t. All (IsLeafOf t) o.leaves) (sym (typed_before types next type o.number h.is_made)) h.holds }

  pub made_are : (leaves : ℕ) (store : Store) → All (IsObjectOf types next) store → All (IsObjectOf (typed_at types next type) (suc next)) (record { number = next; leaves = replicate leaves None } ∷ store)
  made_are leaves store all =
      All-cons (IsObjectOf (typed_at types next type) (suc next)) _ store
      (record { is_made = omega arith; holds = All-replicate (IsLeafOf (typed_at types next type next)) leaves None (tt {0}) })
      (All-weaker (IsObjectOf types next) (IsObjectOf (typed_at types next type) (suc next)) object_more store all)
