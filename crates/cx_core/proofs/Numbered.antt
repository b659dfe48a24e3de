-- The numbers of the objects of a store differ, and are below the next one.
use Rattle.std.proofs.Common.{◌≡◌, refl, subst, arith, ℕ, suc, ◌+◌, ◌<◌, Bool, true, false, if◌then◌else◌, nat_eq, nat_lt, length, List, [], ◌∷◌, Option, Some, None, Result, Ok, Err}
use Rattle.cx_core.specs.Words.{Kind}
use Rattle.cx_core.specs.Tree.{Constant}
use Rattle.cx_core.specs.Store.{Address, Value, Leaf, Store, without, with_leaves, with_leaf, leaves_of}
use Rattle.cx_core.specs.Event.{Event}
use Rattle.cx_core.specs.Outcome.{State, Outcome, on, thrown, over}
use Rattle.cx_core.specs.Meaning.{calls_within, globals_from}
use Rattle.cx_core.specs.Laws.{IsFree, IsNumbered, LeavesNumbered, ObjectsStayNumbered}
use Rattle.cx_core.proofs.EverywhereMeaning.{calls_within_of}
use Rattle.cx_core.proofs.Invariant.{IsInvariant, Leaves, Keeps, invariant_is_closed}

-- ---- a new object

pub free_above : (next : ℕ) (store : Store) (n : ℕ) → next < suc n → IsNumbered next store → IsFree n store
free_above next [] n h k = tt {0}
free_above next (o ∷ store) n h k = (λ e. absurd (omega (arith, k.0, h, e)), free_above next store n h k.1.1)

pub numbered_above : (next : ℕ) (store : Store) → IsNumbered next store → IsNumbered (suc next) store
numbered_above next [] h = tt {0}
numbered_above next (o ∷ store) h = (omega (arith, h.0), (h.1.0, numbered_above next store h.1.1))

-- ---- an object less

if_free : (b : Bool) (n : ℕ) (x y : Store) → IsFree n x → IsFree n y → IsFree n (if b then x else y)
if_free true n x y h k = h
if_free false n x y h k = k

if_numbered : (b : Bool) (next : ℕ) (x y : Store) → IsNumbered next x → IsNumbered next y → IsNumbered next (if b then x else y)
if_numbered true next x y h k = h
if_numbered false next x y h k = k

free_without : (m : ℕ) (store : Store) (n : ℕ) → IsFree m store → IsFree m (without store n)
free_without m [] n h = tt {0}
free_without m (o ∷ store) n h = if_free (nat_eq o.number n) m _ _ h.1 (h.0, free_without m store n h.1)

pub numbered_without : (next : ℕ) (store : Store) (n : ℕ) → IsNumbered next store → IsNumbered next (without store n)
numbered_without next [] n h = tt {0}
numbered_without next (o ∷ store) n h =
    if_numbered (nat_eq o.number n) next _ _ h.1.1 (h.0, (free_without o.number store n h.1.0, numbered_without next store n h.1.1))

-- ---- a leaf that is written

free_with : (m : ℕ) (store : Store) (n : ℕ) (leaves : List Leaf) → IsFree m store → IsFree m (with_leaves store n leaves)
free_with m [] n leaves h = tt {0}
free_with m (o ∷ store) n leaves h = if_free (nat_eq o.number n) m _ _ (h.0, h.1) (h.0, free_with m store n leaves h.1)

pub numbered_with : (next : ℕ) (store : Store) (n : ℕ) (leaves : List Leaf) → IsNumbered next store → IsNumbered next (with_leaves store n leaves)
numbered_with next [] n leaves h = tt {0}
numbered_with next (o ∷ store) n leaves h =
    if_numbered (nat_eq o.number n) next _ _ (h.0, (h.1.0, h.1.1)) (h.0, (free_with o.number store n leaves h.1.0, numbered_with next store n leaves h.1.1))

abbrev IfNumbered : ℕ → Result Store Kind → Type 0
IfNumbered next (Ok store) = IsNumbered next store
IfNumbered next (Err kind) = Unit {0}

if_numbered_result : (b : Bool) (next : ℕ) (x y : Result Store Kind) → IfNumbered next x → IfNumbered next y → IfNumbered next (if b then x else y)
if_numbered_result true next x y h k = h
if_numbered_result false next x y h k = k

with_leaf_numbered : (found : Option (List Leaf)) (next : ℕ) (store : Store) (a : Address) (leaf : Leaf) → IsNumbered next store → IfNumbered next (with_leaf found store a leaf)
with_leaf_numbered None next store a leaf h = tt {0}
with_leaf_numbered (Some leaves) next store a leaf h =
    if_numbered_result (nat_lt a.leaf (length leaves)) next _ _ (numbered_with next store a.object _ h) (tt {0})

-- ---- runs

abbrev StateIsNumbered : State → Type 0
StateIsNumbered s = IsNumbered s.next s.store

abbrev Anything : List Event → Type 0
Anything trace = Unit {0}

is_numbered : IsInvariant StateIsNumbered Anything
is_numbered = record {
  at_the_end = λ s h. tt {0};
  with_unit = λ s left e h. h;
  with_frame = λ s frame h. h;
  with_living = λ s living h. h;
  with_temporaries = λ s temporaries h. h;
  with_held = λ s held h. h;
  with_event = λ s event plain h. h;
  with_begin = λ s e begins h. h;
  with_byte = λ s b bytes h. h;
  with_object = λ s leaves h. (omega arith, (free_above s.next s.store s.next (omega arith) h, numbered_above s.next s.store h));
  with_end = λ s n h. numbered_without s.next s.store n h;
  with_leaf = λ s a leaf store e h. subst (IfNumbered s.next) e (with_leaf_numbered (leaves_of s.store a.object) s.next s.store a leaf h);
}

leaves_numbered : (o : Outcome Value) → Leaves StateIsNumbered Anything o → LeavesNumbered o
leaves_numbered (on v s) h = h
leaves_numbered (thrown e s) h = h
leaves_numbered (over answer trace) h = h

free_below : (m n : ℕ) (globals : List Constant) → m < n → IsFree m (globals_from n globals)
free_below m n [] h = tt {0}
free_below m n (g ∷ globals) h = (λ e. absurd (omega (arith, e, h)), free_below m (suc n) globals (omega (arith, h)))

pub globals_numbered : (next n : ℕ) (globals : List Constant) → length globals + n ≡ next → IsNumbered next (globals_from n globals)
globals_numbered next n [] e = tt {0}
globals_numbered next n (g ∷ globals) e =
    (omega (arith, e), (free_below n (suc n) globals (omega arith), globals_numbered next (suc n) globals (omega (arith, e))))

pub objects_stay_numbered : ObjectsStayNumbered
objects_stay_numbered = (
  (λ program begins bytes budget. globals_numbered (length program.globals + 1) 1 program.globals refl),
  (λ program depth call s h. leaves_numbered (calls_within program depth call s)
      (calls_within_of (Keeps StateIsNumbered Anything) (invariant_is_closed _ _ is_numbered) program depth call s h)),
)
