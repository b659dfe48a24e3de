-- What the place of an object says of the store.
use Rattle.std.proofs.Common.{◌≡◌, ℕ, zero, suc, ◌<◌, ◌≤◌, length, arith, Ok, Err, nat_lt, List, [], ◌∷◌, map, Option, Some, None, refl, ap, sym, ◌∙◌, nat_eq, true, false, if◌then◌else◌, get_or}
use Rattle.std.specs.Option.{option_map}
use Rattle.std.specs.List.{remove}
use Rattle.std.specs.Prelude.{slice_set, slice_get}
use Rattle.cx_core.specs.Store as store
use Rattle.std.proofs.lemmas.List.{length-map}
use Rattle.std.proofs.lemmas.Option.{slice_get-map}
use Rattle.std.proofs.lemmas.Bool.{lt-ltb}
use Rattle.std.proofs.lemmas.Bool.Decides.{nat_tests}
use Rattle.cx_core.specs.Words.{Dead}
use Rattle.cx_core.specs.Store.{leaves_of, without, with_leaves, leaf_at, written}
use Rattle.cx_plain_state.specs.declared.value.Value.{Value}
use Rattle.cx_plain_state.specs.declared.state.Object.{Object}
use Rattle.cx_plain_state.specs.Place.{index_of}
use Rattle.cx_plain_state.specs.Seen.{object_of, leaves_seen, leaf_of}

-- ---- what a look-up finds

abbrev leaves_at : Option ℕ → List Object → Option (List store.Leaf)
leaves_at None objects = None
leaves_at (Some i) objects = option_map (λ (o : Object). leaves_seen o.leaves.items) (slice_get objects i)

leaves_later : (r : Option ℕ) (o : Object) (objects : List Object) → leaves_at (option_map (λ i. suc i) r) (o ∷ objects) ≡ leaves_at r objects
leaves_later None o objects = refl
leaves_later (Some i) o objects = refl

leaves_found : (n : ℕ) (objects : List Object) → leaves_of (map object_of objects) n ≡ leaves_at (index_of objects n) objects
leaves_found n [] = refl
leaves_found n (o ∷ objects) =
    elim (nat_eq o.number n) as (λ t. (if t then Some (leaves_seen o.leaves.items) else leaves_of (map object_of objects) n) ≡ leaves_at (if t then Some 0 else option_map (λ i. suc i) (index_of objects n)) (o ∷ objects))
    [ true ↦ refl | false ↦ leaves_found n objects ∙ sym (leaves_later (index_of objects n) o objects) ]

pub leaves_where : (n : ℕ) (objects : List Object) (i : ℕ) (o : Object) → Some i ≡ index_of objects n → slice_get objects i ≡ Some o → leaves_of (map object_of objects) n ≡ Some (leaves_seen o.leaves.items)
leaves_where n objects i o p q = leaves_found n objects ∙ ap (λ r. leaves_at r objects) (sym p) ∙ ap (option_map (λ (o : Object). leaves_seen o.leaves.items)) q

pub leaves_nowhere : (n : ℕ) (objects : List Object) → None ≡ index_of objects n → leaves_of (map object_of objects) n ≡ None
leaves_nowhere n objects p = leaves_found n objects ∙ ap (λ r. leaves_at r objects) (sym p)

-- ---- what is left without an object

abbrev left_at : Option ℕ → List Object → List Object
left_at None objects = objects
left_at (Some i) objects = remove objects i

left_later : (r : Option ℕ) (o : Object) (objects : List Object) → left_at (option_map (λ i. suc i) r) (o ∷ objects) ≡ o ∷ left_at r objects
left_later None o objects = refl
left_later (Some i) o objects = refl

left_found : (n : ℕ) (objects : List Object) → without (map object_of objects) n ≡ map object_of (left_at (index_of objects n) objects)
left_found n [] = refl
left_found n (o ∷ objects) =
    elim (nat_eq o.number n) as (λ t. (if t then map object_of objects else (object_of o ∷ without (map object_of objects) n)) ≡ map object_of (left_at (if t then Some 0 else option_map (λ i. suc i) (index_of objects n)) (o ∷ objects)))
    [ true ↦ refl | false ↦ ap (λ l. object_of o ∷ l) (left_found n objects) ∙ sym (ap (map object_of) (left_later (index_of objects n) o objects)) ]

pub left_where : (n : ℕ) (objects : List Object) (i : ℕ) → Some i ≡ index_of objects n → without (map object_of objects) n ≡ map object_of (remove objects i)
left_where n objects i p = left_found n objects ∙ ap (λ r. map object_of (left_at r objects)) (sym p)

pub left_nowhere : (n : ℕ) (objects : List Object) → None ≡ index_of objects n → without (map object_of objects) n ≡ map object_of objects
left_nowhere n objects p = left_found n objects ∙ ap (λ r. map object_of (left_at r objects)) (sym p)

-- ---- what a write leaves

abbrev put : ℕ → List store.Leaf → List store.Object → List store.Object
put i leaves [] = []
put zero leaves (o ∷ objects) = record o { leaves = leaves } ∷ objects
put (suc i) leaves (o ∷ objects) = o ∷ put i leaves objects

abbrev put_at : Option ℕ → List store.Leaf → List store.Object → List store.Object
put_at None leaves objects = objects
put_at (Some i) leaves objects = put i leaves objects

put_later : (r : Option ℕ) (leaves : List store.Leaf) (o : store.Object) (objects : List store.Object) → put_at (option_map (λ i. suc i) r) leaves (o ∷ objects) ≡ o ∷ put_at r leaves objects
put_later None leaves o objects = refl
put_later (Some i) leaves o objects = refl

put_found : (n : ℕ) (leaves : List store.Leaf) (objects : List Object) → with_leaves (map object_of objects) n leaves ≡ put_at (index_of objects n) leaves (map object_of objects)
put_found n leaves [] = refl
put_found n leaves (o ∷ objects) =
    elim (nat_eq o.number n) as (λ t. (if t then (record (object_of o) { leaves = leaves } ∷ map object_of objects) else (object_of o ∷ with_leaves (map object_of objects) n leaves)) ≡ put_at (if t then Some 0 else option_map (λ i. suc i) (index_of objects n)) leaves (object_of o ∷ map object_of objects))
    [ true ↦ refl | false ↦ ap (λ l. object_of o ∷ l) (put_found n leaves objects) ∙ sym (put_later (index_of objects n) leaves (object_of o) (map object_of objects)) ]

put_set : (i : ℕ) (leaves : List store.Leaf) (o d : Object) (objects : List Object) → object_of o ≡ record (object_of (get_or objects i d)) { leaves = leaves } → put i leaves (map object_of objects) ≡ map object_of (slice_set objects i o)
put_set i leaves o d [] p = refl
put_set zero leaves o d (x ∷ objects) p = ap (λ y. y ∷ map object_of objects) (sym p)
put_set (suc i) leaves o d (x ∷ objects) p = ap (λ l. object_of x ∷ l) (put_set i leaves o d objects p)

pub written_where : (n : ℕ) (leaves : List store.Leaf) (objects : List Object) (i : ℕ) (o d : Object) → Some i ≡ index_of objects n → object_of o ≡ record (object_of (get_or objects i d)) { leaves = leaves } → with_leaves (map object_of objects) n leaves ≡ map object_of (slice_set objects i o)
written_where n leaves objects i o d p q = put_found n leaves objects ∙ ap (λ r. put_at r leaves (map object_of objects)) (sym p) ∙ put_set i leaves o d objects q

-- ---- the same of an object that was read

ltb-false : (m n : ℕ) → n ≤ m → nat_lt m n ≡ false
ltb-false m n h = grind (arith, nat_tests)

some_at : (objects : List Object) (i : ℕ) (o : Object) → i < length objects → o ≡ get_or objects i o → slice_get objects i ≡ Some o
some_at [] i o l p = absurd (omega arith)
some_at (x ∷ objects) zero o l p = ap (λ y. Some y) (sym p)
some_at (x ∷ objects) (suc i) o l p = some_at objects i o (omega arith) p

pub leaves_there : (n : ℕ) (objects : List Object) (i : ℕ) (o : Object) → Some i ≡ index_of objects n → i < length objects → o ≡ get_or objects i o → leaves_of (map object_of objects) n ≡ Some (leaves_seen o.leaves.items)
leaves_there n objects i o p l q = leaves_where n objects i o p (some_at objects i o l q)

pub leaf_there : (a : store.Address) (objects : List Object) (i : ℕ) (o : Object) (leaf : Option Value) → Some i ≡ index_of objects a.object → i < length objects → o ≡ get_or objects i o → Some leaf ≡ slice_get o.leaves.items a.leaf → leaf_at (map object_of objects) a ≡ Ok (leaf_of leaf)
leaf_there a objects i o leaf p l q r =
    let e = leaves_there a.object objects i o p l q in
    let f : slice_get (leaves_seen o.leaves.items) a.leaf ≡ Some (leaf_of leaf) = slice_get-map leaf_of o.leaves.items a.leaf ∙ ap (option_map leaf_of) (sym r) in
    rw (e, f) refl

pub no_leaf_there : (a : store.Address) (objects : List Object) (i : ℕ) (o : Object) → Some i ≡ index_of objects a.object → i < length objects → o ≡ get_or objects i o → None ≡ slice_get o.leaves.items a.leaf → leaf_at (map object_of objects) a ≡ Err Dead
no_leaf_there a objects i o p l q r =
    let e = leaves_there a.object objects i o p l q in
    let f : slice_get (leaves_seen o.leaves.items) a.leaf ≡ None = slice_get-map leaf_of o.leaves.items a.leaf ∙ ap (option_map leaf_of) (sym r) in
    rw (e, f) refl

pub written_there : (a : store.Address) (leaf : store.Leaf) (objects : List Object) (i : ℕ) (o o' : Object) → Some i ≡ index_of objects a.object → i < length objects → o ≡ get_or objects i o → a.leaf < length o.leaves.items →
    object_of o' ≡ record (object_of o) { leaves = slice_set (leaves_seen o.leaves.items) a.leaf leaf } → written (map object_of objects) a leaf ≡ Ok (map object_of (slice_set objects i o'))
written_there a leaf objects i o o' p l q h r =
    let e = leaves_there a.object objects i o p l q in
    let n : length (leaves_seen o.leaves.items) ≡ length o.leaves.items = length-map o.leaves.items leaf_of in
    let t : nat_lt a.leaf (length (leaves_seen o.leaves.items)) ≡ true = rw n (lt-ltb _ _ h) in
    rw (e, t) (ap (λ s. Ok s) (written_where a.object _ objects i o' o p (rw (← q) r)))

pub not_written_there : (a : store.Address) (leaf : store.Leaf) (objects : List Object) (i : ℕ) (o : Object) → Some i ≡ index_of objects a.object → i < length objects → o ≡ get_or objects i o → length o.leaves.items ≤ a.leaf →
    written (map object_of objects) a leaf ≡ Err Dead
not_written_there a leaf objects i o p l q h =
    let e = leaves_there a.object objects i o p l q in
    let n : length (leaves_seen o.leaves.items) ≡ length o.leaves.items = length-map o.leaves.items leaf_of in
    let t : nat_lt a.leaf (length (leaves_seen o.leaves.items)) ≡ false = rw n (ltb-false _ _ h) in
    rw (e, t) refl
