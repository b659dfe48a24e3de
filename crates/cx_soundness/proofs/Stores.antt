-- The objects of a store hold values of their leaves' types: this is kept where one is made, written and ended, and what is read of a leaf is such a value.
use Rattle.std.proofs.Common.{◌≡◌, refl, sym, ap, subst, add-zero, ℕ, zero, suc, nat_lt, Bool, true, false, if◌then◌else◌, List, [], ◌∷◌, ◌++◌, length, replicate, Option, Some, None, Result, Ok, Err, ◌⊎◌, inl, inr}
use Rattle.std.specs.Prelude.{slice_get, slice_set}
use Rattle.std.specs.List.{All}
use Rattle.std.proofs.lemmas.Bool.Decides.{eqb_tells}
use Rattle.std.proofs.lemmas.List.Elements.{All-nil, All-cons, All-head, All-tail, All-weaker}
use Rattle.cx_core.specs.Words.{Kind, Dead}
use Rattle.cx_core.specs.Store.{Address, Value, Leaf, Object, Store, leaves_of, without, with_leaves, leaf_in, leaf_at, value_of, with_leaf, written}
use Rattle.cx_soundness.specs.Types.{LeafType, Declared}
use Rattle.cx_soundness.proofs.Worlds.{World, Extends, with_one, last_one, IsAt, IsHeld, IsLeaf, leaf_more}
use Rattle.cx_soundness.proofs.Comes.{IsProper}

module _ (declared : Declared) where
  -- leaves of the object with the number
  pub record AreLeaves (W : World) (n : ℕ) (leaves : List Leaf) : Type 0 where
    pub types : List LeafType
    pub made : slice_get W n ≡ Some types
    pub hold : (i : ℕ) (t : LeafType) (leaf : Leaf) → slice_get types i ≡ Some t → slice_get leaves i ≡ Some leaf → IsLeaf declared W t leaf

  abbrev pub IsObject : World → Object → Type 0
  IsObject W o = AreLeaves W o.number o.leaves

  leaves_more : (W V : World) (n : ℕ) (leaves : List Leaf) → Extends W V → AreLeaves W n leaves → AreLeaves V n leaves
  leaves_more W V n leaves e h = record { types = h.types; made = e.kept n h.types h.made; hold = λ i t leaf p q. leaf_more declared W V t leaf e (h.hold i t leaf p q) }

  pub objects_more : (W V : World) (store : Store) → Extends W V → All (IsObject W) store → All (IsObject V) store
  objects_more W V store e all = All-weaker (IsObject W) (IsObject V) (λ o h. leaves_more W V o.number o.leaves e h) store all

  -- ---- reading

  abbrev AreFound : World → ℕ → Option (List Leaf) → Type 0
  AreFound W n None = Unit {0}
  AreFound W n (Some leaves) = AreLeaves W n leaves

  found : (W : World) (n : ℕ) (store : Store) → All (IsObject W) store → AreFound W n (leaves_of store n)
  found W n [] all = tt {0}
  found W n (o ∷ store) all =
      elim (eqb_tells o.number n) [
        | inl e ↦ subst (λ b. AreFound W n (if b then Some o.leaves else leaves_of store n)) (sym e.0) (subst (λ k. AreLeaves W k o.leaves) e.1 (All-head (IsObject W) o store all))
        | inr e ↦ subst (λ b. AreFound W n (if b then Some o.leaves else leaves_of store n)) (sym e.0) (found W n store (All-tail (IsObject W) o store all))
      ]

  abbrev pub IsLeafRead : World → LeafType → Result Leaf Kind → Type 0
  IsLeafRead W t (Ok leaf) = IsLeaf declared W t leaf
  IsLeafRead W t (Err kind) = IsProper kind

  at_place : (W : World) (t : LeafType) (leaves : List Leaf) (i : ℕ) → ((leaf : Leaf) → slice_get leaves i ≡ Some leaf → IsLeaf declared W t leaf) → IsLeafRead W t (leaf_in (Some leaves) i)
  at_place W t [] i h = tt {0}
  at_place W t (leaf ∷ leaves) zero h = h leaf refl
  at_place W t (leaf ∷ leaves) (suc i) h = at_place W t leaves i h

  same_types : (W : World) (n : ℕ) (ts us : List LeafType) → slice_get W n ≡ Some ts → slice_get W n ≡ Some us → ts ≡ us
  same_types W n ts us p q = cc

  -- the leaf at the address is of the type
  leaf_type : (W : World) (a : Address) (t : LeafType) (rest : List LeafType) (leaves : List Leaf) → IsAt W a (t ∷ rest) → (l : AreLeaves W a.object leaves) → slice_get l.types a.leaf ≡ Some t
  leaf_type W a t rest leaves at l =
      subst (λ ts. slice_get ts a.leaf ≡ Some t) (same_types W a.object at.leaves l.types at.made l.made)
      (subst (λ n. slice_get at.leaves n ≡ Some t) (add-zero a.leaf) (at.stand 0 t refl))

  read_found : (W : World) (a : Address) (t : LeafType) (rest : List LeafType) (leaves : Option (List Leaf)) → IsAt W a (t ∷ rest) → AreFound W a.object leaves → IsLeafRead W t (leaf_in leaves a.leaf)
  read_found W a t rest None at h = tt {0}
  read_found W a t rest (Some leaves) at h = at_place W t leaves a.leaf (λ leaf e. h.hold a.leaf t leaf (leaf_type W a t rest leaves at h) e)

  pub leaf_read : (W : World) (store : Store) (a : Address) (t : LeafType) (rest : List LeafType) → All (IsObject W) store → IsAt W a (t ∷ rest) → IsLeafRead W t (leaf_at store a)
  leaf_read W store a t rest all at = read_found W a t rest (leaves_of store a.object) at (found W a.object store all)

  -- a value of the leaf, or a kind of undefined behaviour that a well made program may have
  abbrev pub IsValueRead : World → LeafType → Result Value Kind → Type 0
  IsValueRead W t (Ok x) = IsHeld declared W t x
  IsValueRead W t (Err kind) = IsProper kind

  set_or_unset : (W : World) (t : LeafType) (r : Result Leaf Kind) → IsLeafRead W t r → IsValueRead W t (value_of r)
  set_or_unset W t (Err kind) h = h
  set_or_unset W t (Ok None) h = tt {0}
  set_or_unset W t (Ok (Some x)) h = h

  pub value_read : (W : World) (store : Store) (a : Address) (t : LeafType) (rest : List LeafType) → All (IsObject W) store → IsAt W a (t ∷ rest) → IsValueRead W t (value_of (leaf_at store a))
  value_read W store a t rest all at = set_or_unset W t (leaf_at store a) (leaf_read W store a t rest all at)

  -- ---- writing

  set_or_kept : (leaves : List Leaf) (i j : ℕ) (leaf other : Leaf) → slice_get (slice_set leaves i leaf) j ≡ Some other → ((j ≡ i) × (leaf ≡ other)) ⊎ (slice_get leaves j ≡ Some other)
  set_or_kept [] i j leaf other e = absurd cc
  set_or_kept (x ∷ leaves) zero zero leaf other e = inl (refl, found_alike leaf other e)
    where
      found_alike : (a b : Leaf) → Some a ≡ Some b → a ≡ b
      found_alike a b e = cc
  set_or_kept (x ∷ leaves) zero (suc j) leaf other e = inr e
  set_or_kept (x ∷ leaves) (suc i) zero leaf other e = inr e
  set_or_kept (x ∷ leaves) (suc i) (suc j) leaf other e =
      elim (set_or_kept leaves i j leaf other e) [ inl h ↦ inl (ap suc h.0, h.1) | inr h ↦ inr h ]

  abbrev AreObjects : World → Result Store Kind → Type 0
  AreObjects W (Ok store) = All (IsObject W) store
  AreObjects W (Err kind) = IsProper kind

  with_leaves_are : (W : World) (n : ℕ) (leaves : List Leaf) (store : Store) → AreLeaves W n leaves → All (IsObject W) store → All (IsObject W) (with_leaves store n leaves)
  with_leaves_are W n leaves [] h all = All-nil (IsObject W)
  with_leaves_are W n leaves (o ∷ store) h all =
      let IsOf = IsObject W in
      let both : Bool → Store = λ b. if b then (record o { leaves = leaves } ∷ store) else (o ∷ with_leaves store n leaves) in
      let first = All-head IsOf o store all in
      let others = All-tail IsOf o store all in
      elim (eqb_tells o.number n) [
        | inl e ↦ subst (λ b. All IsOf (both b)) (sym e.0) (All-cons IsOf (record o { leaves = leaves }) store (subst (λ k. AreLeaves W k leaves) (sym e.1) h) others)
        | inr e ↦ subst (λ b. All IsOf (both b)) (sym e.0) (All-cons IsOf o (with_leaves store n leaves) first (with_leaves_are W n leaves store h others))
      ]

  module _ (W : World) (store : Store) (a : Address) (t : LeafType) (rest : List LeafType) (leaf : Leaf) (all : All (IsObject W) store) (at : IsAt W a (t ∷ rest)) (h : IsLeaf declared W t leaf) where
    with_set : (leaves : List Leaf) → AreLeaves W a.object leaves → AreLeaves W a.object (slice_set leaves a.leaf leaf)
    with_set leaves l = record { types = l.types; made = l.made; hold = hold }
      where
        same_type : (u : LeafType) → slice_get l.types a.leaf ≡ Some t → slice_get l.types a.leaf ≡ Some u → t ≡ u
        same_type u p q = cc

        hold : (i : ℕ) (u : LeafType) (other : Leaf) → slice_get l.types i ≡ Some u → slice_get (slice_set leaves a.leaf leaf) i ≡ Some other → IsLeaf declared W u other
        hold i u other p q =
            elim (set_or_kept leaves a.leaf i leaf other q) [
              | inl e ↦
                  subst (λ y. IsLeaf declared W u y) e.1
                  (subst (λ v. IsLeaf declared W v leaf) (same_type u (leaf_type W a t rest leaves at l) (subst (λ k. slice_get l.types k ≡ Some u) e.0 p)) h)
              | inr e ↦ l.hold i u other p e
            ]

    where_live : (leaves : List Leaf) → AreLeaves W a.object leaves → (is_leaf : Bool) → AreObjects W (if is_leaf then Ok (with_leaves store a.object (slice_set leaves a.leaf leaf)) else Err Dead)
    where_live leaves are true = with_leaves_are W a.object (slice_set leaves a.leaf leaf) store (with_set leaves are) all
    where_live leaves are false = tt {0}

    where_found : (leaves : Option (List Leaf)) → AreFound W a.object leaves → AreObjects W (with_leaf leaves store a leaf)
    where_found None are = tt {0}
    where_found (Some leaves) are = where_live leaves are (nat_lt a.leaf (length leaves))

    pub written_are : AreObjects W (written store a leaf)
    written_are = where_found (leaves_of store a.object) (found W a.object store all)

  -- ---- ending

  pub others_are : (P : Object → Type 0) (n : ℕ) (store : Store) → All P store → All P (without store n)
  others_are P n [] all = all
  others_are P n (o ∷ store) all =
      elim (eqb_tells o.number n) [
        | inl e ↦ subst (λ b. All P (if b then store else (o ∷ without store n))) (sym e.0) (All-tail P o store all)
        | inr e ↦ subst (λ b. All P (if b then store else (o ∷ without store n))) (sym e.0) (All-cons P o (without store n) (All-head P o store all) (others_are P n store (All-tail P o store all)))
      ]

  -- ---- making

  unset : (n i : ℕ) (leaf : Leaf) → slice_get (replicate n None) i ≡ Some leaf → leaf ≡ None
  unset zero i leaf e = absurd cc
  unset (suc n) zero leaf e = found_alike None leaf e
    where
      found_alike : (a b : Leaf) → Some a ≡ Some b → b ≡ a
      found_alike a b e = cc
  unset (suc n) (suc i) leaf e = unset n i leaf e

  pub made_are : (W : World) (types : List LeafType) (leaves : ℕ) (store : Store) → All (IsObject W) store
      → All (IsObject (W ++ types ∷ [])) (record { number = length W; leaves = replicate leaves None } ∷ store)
  made_are W types leaves store all =
      All-cons (IsObject (W ++ types ∷ [])) (record { number = length W; leaves = replicate leaves None }) store
      (record { types = types; made = last_one W types; hold = λ i t leaf p q. subst (λ x. IsLeaf declared (W ++ types ∷ []) t x) (sym (unset leaves i leaf q)) (tt {0}) })
      (objects_more W (W ++ types ∷ []) store (with_one W types) all)
