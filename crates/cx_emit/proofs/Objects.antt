-- Objects of the meaning and of the machine that are made, written and ended alike.
use Rattle.std.proofs.Common.{◌≡◌, ◌≢◌, ℕ, zero, suc, ◌==◌, nat_eq, nat_lt, length, List, [], ◌∷◌, Option, Some, None, Bool, true, false, if◌then◌else◌, inl, inr, refl, sym, ap, ◌∙◌, subst}
use Rattle.std.specs.Prelude.{Result, Ok, Err, slice_set}
use Rattle.std.proofs.lemmas.Bool.Decides.{eqb_tells}
use Rattle.cx_code.specs.declared.run.Value.{Value}
use Rattle.cx_code.specs.Store as memory
use Rattle.cx_code.specs.Store.{changed, made, ended, stored, written_leaf, put_leaf}
use Rattle.cx_core.specs.Words.{Kind, Dead}
use Rattle.cx_core.specs.Store as source
use Rattle.cx_core.specs.Store.{Address, Leaf, Store, number, address, null, violation, leaves_of, without, with_leaves, with_leaf, written}
use Rattle.cx_core.specs.Laws.{IsFree, IsNumbered}
use Rattle.cx_emit.specs.Values.{IsValue, Keeps, AreLeaves, IsObject, IsStore}

-- an object with this number lives
abbrev pub IsAlive : Store → ℕ → Type 0
IsAlive store n = (leaves : List Leaf) × (leaves_of store n ≡ Some leaves)

-- what a value stands for, a leaf may keep
pub keeps : (v : source.Value) (w : Value) → IsValue v w → Keeps v w
keeps (number n) w is = inl is
keeps (address a) w is = is
keeps null w is = is
keeps (source.function x) w is = absurd is
keeps (violation x) w is = absurd is

-- ---- numbers

free_leaves : (n : ℕ) (store : Store) → IsFree n store → leaves_of store n ≡ None
free_leaves n [] h = refl
free_leaves n (o ∷ store) h = elim (eqb_tells o.number n) [ inl e ↦ absurd (h.0 e.1) | inr e ↦ ap (λ b. if b then Some o.leaves else leaves_of store n) e.0 ∙ free_leaves n store h.1 ]

without_itself : (next n : ℕ) (store : Store) → IsNumbered next store → leaves_of (without store n) n ≡ None
without_itself next n [] h = refl
without_itself next n (o ∷ store) h =
    elim (eqb_tells o.number n) [
      | inl e ↦ ap (λ b. leaves_of (if b then store else (o ∷ without store n)) n) e.0 ∙ free_leaves n store (subst (λ k. IsFree k store) e.1 h.1.0)
      | inr e ↦ ap (λ b. leaves_of (if b then store else (o ∷ without store n)) n) e.0 ∙ ap (λ b. if b then Some o.leaves else leaves_of (without store n) n) e.0 ∙ without_itself next n store h.1.1
    ]

pub without_other : (n k : ℕ) (store : Store) → n ≢ k → leaves_of (without store n) k ≡ leaves_of store k
without_other n k [] h = refl
without_other n k (o ∷ store) h =
    elim (eqb_tells o.number n) [
      | inl e ↦ ap (λ b. leaves_of (if b then store else (o ∷ without store n)) k) e.0 ∙ sym (passes e.1)
      | inr e ↦ ap (λ b. leaves_of (if b then store else (o ∷ without store n)) k) e.0 ∙ ap (λ r. if nat_eq o.number k then Some o.leaves else r) (without_other n k store h)
    ]
  where
    passes : o.number ≡ n → leaves_of (o ∷ store) k ≡ leaves_of store k
    passes e = elim (eqb_tells o.number k) [ inl f ↦ absurd (h (sym e ∙ f.1)) | inr f ↦ ap (λ b. if b then Some o.leaves else leaves_of store k) f.0 ]

with_itself : (n : ℕ) (store : Store) (old leaves : List Leaf) → leaves_of store n ≡ Some old → leaves_of (with_leaves store n leaves) n ≡ Some leaves
with_itself n [] old leaves h = absurd cc
with_itself n (o ∷ store) old leaves h =
    elim (eqb_tells o.number n) [
      | inl e ↦ ap (λ b. leaves_of (if b then (record o { leaves = leaves } ∷ store) else (o ∷ with_leaves store n leaves)) n) e.0 ∙ ap (λ b. if b then Some leaves else leaves_of store n) e.0
      | inr e ↦ ap (λ b. leaves_of (if b then (record o { leaves = leaves } ∷ store) else (o ∷ with_leaves store n leaves)) n) e.0 ∙ ap (λ b. if b then Some o.leaves else leaves_of (with_leaves store n leaves) n) e.0
          ∙ with_itself n store old leaves (sym (ap (λ b. if b then Some o.leaves else leaves_of store n) e.0) ∙ h)
    ]

with_other : (n k : ℕ) (store : Store) (leaves : List Leaf) → n ≢ k → leaves_of (with_leaves store n leaves) k ≡ leaves_of store k
with_other n k [] leaves h = refl
with_other n k (o ∷ store) leaves h =
    elim (eqb_tells o.number n) [
      | inl e ↦ ap (λ b. leaves_of (if b then (record o { leaves = leaves } ∷ store) else (o ∷ with_leaves store n leaves)) k) e.0 ∙ passes e.1
      | inr e ↦ ap (λ b. leaves_of (if b then (record o { leaves = leaves } ∷ store) else (o ∷ with_leaves store n leaves)) k) e.0 ∙ ap (λ r. if nat_eq o.number k then Some o.leaves else r) (with_other n k store leaves h)
    ]
  where
    passes : o.number ≡ n → leaves_of (record o { leaves = leaves } ∷ store) k ≡ leaves_of (o ∷ store) k
    passes e =
        elim (eqb_tells o.number k) [
          | inl f ↦ absurd (h (sym e ∙ f.1))
          | inr f ↦ ap (λ b. if b then Some leaves else leaves_of store k) f.0 ∙ sym (ap (λ b. if b then Some o.leaves else leaves_of store k) f.0)
        ]

pub alive_with : (n k : ℕ) (store : Store) (leaves : List Leaf) → IsAlive store k → IsAlive (with_leaves store n leaves) k
alive_with n k store leaves alive =
    elim (eqb_tells n k) [
      | inl e ↦ subst (λ i. IsAlive (with_leaves store n leaves) i) e.1 (leaves, with_itself n store alive.0 leaves (ap (leaves_of store) e.1 ∙ alive.1))
      | inr e ↦ (alive.0, with_other n k store leaves e.1 ∙ alive.1)
    ]

-- ---- the machine's memory

-- an object of one unset leaf is made
pub made_alike : (store : Store) (m : memory.Store) (n : ℕ) → m.next ≡ n → IsStore store m → IsStore (record { number = n; leaves = None ∷ [] } ∷ store) (made m 1)
made_alike store m n e h k =
    subst (λ i. IsObject (if nat_eq n k then Some (None ∷ []) else leaves_of store k) (if k == i then Some (None ∷ []) else m.leaves k)) (sym e)
    (elim (eqb_tells k n) [
      | inl f ↦ subst (λ i. IsObject (if nat_eq n i then Some (None ∷ []) else leaves_of store i) (if i == n then Some (None ∷ []) else m.leaves i)) (sym f.1) (itself n)
      | inr f ↦ other f.0 (elim (eqb_tells n k) [ inl g ↦ absurd (f.1 (sym g.1)) | inr g ↦ g.0 ])
    ])
  where
    itself : (n : ℕ) → IsObject (if nat_eq n n then Some (None ∷ []) else leaves_of store n) (if n == n then Some (None ∷ []) else m.leaves n)
    itself n =
        elim (eqb_tells n n) [
          | inl f ↦ subst (λ b. IsObject (if b then Some (None ∷ []) else leaves_of store n) (if b then Some (None ∷ []) else m.leaves n)) (sym f.0) (tt {0}, tt {0})
          | inr f ↦ absurd (f.1 refl)
        ]

    other : (k == n) ≡ false → nat_eq n k ≡ false → IsObject (if nat_eq n k then Some (None ∷ []) else leaves_of store k) (if k == n then Some (None ∷ []) else m.leaves k)
    other f g =
        subst (λ b. IsObject (if b then Some (None ∷ []) else leaves_of store k) (if k == n then Some (None ∷ []) else m.leaves k)) (sym g)
        (subst (λ b. IsObject (leaves_of store k) (if b then Some (None ∷ []) else m.leaves k)) (sym f) (h k))

-- an object ends
pub ended_alike : (next : ℕ) (store : Store) (m : memory.Store) (n : ℕ) → IsNumbered next store → IsStore store m → IsStore (without store n) (ended m n)
ended_alike next store m n numbered h k =
    elim (eqb_tells k n) [
      | inl f ↦ subst (λ i. IsObject (leaves_of (without store n) i) (changed m.leaves n None i)) (sym f.1) itself
      | inr f ↦ subst (λ r. IsObject r (changed m.leaves n None k)) (sym (without_other n k store (λ e. f.1 (sym e)))) (subst (λ b. IsObject (leaves_of store k) (if b then None else m.leaves k)) (sym f.0) (h k))
    ]
  where
    itself : IsObject (leaves_of (without store n) n) (changed m.leaves n None n)
    itself =
        elim (eqb_tells n n) [
          | inl f ↦ subst (λ r. IsObject r (changed m.leaves n None n)) (sym (without_itself next n store numbered)) (subst (λ b. IsObject None (if b then None else m.leaves n)) (sym f.0) (tt {0}))
          | inr f ↦ absurd (f.1 refl)
        ]

-- what lives in the meaning lives in the machine
pub lives_alike : (store : Store) (m : memory.Store) (n : ℕ) → IsStore store m → IsAlive store n → (leaves : memory.Leaves) × (m.leaves n ≡ Some leaves)
lives_alike store m n h alive = by_leaves (m.leaves n) refl (subst (λ r. IsObject r (m.leaves n)) alive.1 (h n))
  where
    by_leaves : (found : Option memory.Leaves) → m.leaves n ≡ found → IsObject (Some alive.0) (m.leaves n) → (leaves : memory.Leaves) × (m.leaves n ≡ Some leaves)
    by_leaves None e k = absurd (subst (λ r. IsObject (Some alive.0) r) e k)
    by_leaves (Some leaves) e k = (leaves, e)

-- ---- a leaf is written

-- the stores after it, or both fail
abbrev pub StoresAs : ℕ → Result Store Kind → Option memory.Store → Type 0
StoresAs next (Ok store) (Some m) = IsStore store m × (m.next ≡ next)
StoresAs next (Ok store) None = ⊥
StoresAs next (Err kind) (Some m) = ⊥
StoresAs next (Err kind) None = kind ≡ Dead

same_length : (told : List Leaf) (leaves : memory.Leaves) → AreLeaves told leaves → length told ≡ length leaves
same_length [] [] h = refl
same_length [] (l ∷ leaves) h = absurd h
same_length (t ∷ told) [] h = absurd h
same_length (t ∷ told) (l ∷ leaves) h = ap suc (same_length told leaves h.1)

set_alike : (told : List Leaf) (leaves : memory.Leaves) (i : ℕ) (v : source.Value) (w : Value) → AreLeaves told leaves → Keeps v w → AreLeaves (slice_set told i (Some v)) (slice_set leaves i (Some w))
set_alike [] [] i v w h k = tt {0}
set_alike [] (l ∷ leaves) i v w h k = absurd h
set_alike (t ∷ told) [] i v w h k = absurd h
set_alike (t ∷ told) (l ∷ leaves) zero v w h k = (k, h.1)
set_alike (t ∷ told) (l ∷ leaves) (suc i) v w h k = (h.0, set_alike told leaves i v w h.1 k)

module _ (store : Store) (m : memory.Store) (h : IsStore store m) (a : Address) (v : source.Value) (w : Value) (k : Keeps v w) where
  changed_alike : (told now : List Leaf) (leaves : memory.Leaves) → leaves_of store a.object ≡ Some told → AreLeaves now leaves → IsStore (with_leaves store a.object now) (record m { leaves = changed m.leaves a.object (Some leaves) })
  changed_alike told now leaves found same n =
      elim (eqb_tells n a.object) [
        | inl f ↦ subst (λ i. IsObject (leaves_of (with_leaves store a.object now) i) (changed m.leaves a.object (Some leaves) i)) (sym f.1)
            (subst (λ r. IsObject r (changed m.leaves a.object (Some leaves) a.object)) (sym (with_itself a.object store told now found)) itself)
        | inr f ↦ subst (λ r. IsObject r (changed m.leaves a.object (Some leaves) n)) (sym (with_other a.object n store now (λ e. f.1 (sym e)))) (subst (λ b. IsObject (leaves_of store n) (if b then Some leaves else m.leaves n)) (sym f.0) (h n))
      ]
    where
      itself : IsObject (Some now) (changed m.leaves a.object (Some leaves) a.object)
      itself = elim (eqb_tells a.object a.object) [ inl f ↦ subst (λ b. IsObject (Some now) (if b then Some leaves else m.leaves a.object)) (sym f.0) same | inr f ↦ absurd (f.1 refl) ]

  stored_object : (told : Option (List Leaf)) (leaves : Option memory.Leaves) → leaves_of store a.object ≡ told → IsObject told leaves → StoresAs m.next (with_leaf told store a (Some v)) (written_leaf m a.object (put_leaf leaves a.leaf (Some w)))
  stored_object None None e same = refl
  stored_object None (Some leaves) e same = absurd same
  stored_object (Some told) None e same = absurd same
  stored_object (Some told) (Some leaves) e same =
      subst (λ l. StoresAs m.next (if nat_lt a.leaf (length told) then Ok (with_leaves store a.object (slice_set told a.leaf (Some v))) else Err Dead) (written_leaf m a.object (if nat_lt a.leaf l then Some (slice_set leaves a.leaf (Some w)) else None)))
      (same_length told leaves same) (by_length (nat_lt a.leaf (length told)))
    where
      by_length : (b : Bool) → StoresAs m.next (if b then Ok (with_leaves store a.object (slice_set told a.leaf (Some v))) else Err Dead) (written_leaf m a.object (if b then Some (slice_set leaves a.leaf (Some w)) else None))
      by_length true = (changed_alike told (slice_set told a.leaf (Some v)) (slice_set leaves a.leaf (Some w)) e (set_alike told leaves a.leaf v w same k), refl)
      by_length false = refl

  pub stored_alike : StoresAs m.next (written store a (Some v)) (stored m a.object a.leaf w)
  stored_alike = stored_object (leaves_of store a.object) (m.leaves a.object) refl (h a.object)

-- what is written ends and makes no object
pub written_keeps : (store later : Store) (a : Address) (leaf : Leaf) → written store a leaf ≡ Ok later → (leaves : List Leaf) × (later ≡ with_leaves store a.object leaves)
written_keeps store later a leaf e = by_found (leaves_of store a.object) e
  where
    by_length : (b : Bool) (leaves : List Leaf) → (if b then Ok (with_leaves store a.object leaves) else Err Dead) ≡ Ok later → (leaves : List Leaf) × (later ≡ with_leaves store a.object leaves)
    by_length true leaves e = (leaves, cc)
    by_length false leaves e = absurd cc

    by_found : (found : Option (List Leaf)) → with_leaf found store a leaf ≡ Ok later → (leaves : List Leaf) × (later ≡ with_leaves store a.object leaves)
    by_found None e = absurd cc
    by_found (Some leaves) e = by_length (nat_lt a.leaf (length leaves)) (slice_set leaves a.leaf leaf) e
