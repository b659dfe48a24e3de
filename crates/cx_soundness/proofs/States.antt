-- A state is typed by the types of the objects that were made: each visible variable denotes what its type says, the objects hold values of their leaves' types, and what lives, what flies and what is held are objects of their types. The single changes of a state keep this.
use Rattle.std.proofs.Common.{◌≡◌, refl, sym, ap, ◌∙◌, subst, arith, length-append, ℕ, suc, ◌+◌, ◌<◌, true, List, [], ◌∷◌, ◌++◌, length, replicate, Option, Some, None, Result, Ok, Err}
use Rattle.std.specs.Prelude.{slice_get}
use Rattle.std.specs.List.{All}
use Rattle.std.proofs.lemmas.List.Elements.{All-cons, All-weaker}
use Rattle.cx_core.specs.Words.{Kind}
use Rattle.cx_core.specs.Tree.{ObjectType, scalar, pointer, function_pointer, class}
use Rattle.cx_core.specs.Store as core
use Rattle.cx_core.specs.Store.{Address, Value, address, null, Leaf, Object, Store, leaf_at, value_of, without, written}
use Rattle.cx_core.specs.Runs.{AreBytes}
use Rattle.cx_core.specs.Outcome.{Living, whole, field, Exception, Frame, State, Does, either, some, defined, current_frame, set_frame, current_store, current_living, set_living, current_temporaries, set_temporaries, current_held, set_held, add, make, remove, spend, end_lifetime, keep, keep_temporary, place_of, read_leaf, read, write, with_store}
use Rattle.cx_core.specs.Operators.{denoted, named}
use Rattle.cx_soundness.specs.Types as types
use Rattle.cx_soundness.specs.Types.{LeafType, Declared, Given, ResultName, no_name, unnamed, Context}
use Rattle.cx_soundness.specs.Given.{leaf_types, is_whole, type_at}
use Rattle.cx_soundness.specs.Programs.{height_of}
use Rattle.cx_soundness.proofs.Worlds.{World, Extends, with_one, last_one, IsAt, at_more, IsReference, IsGiven, given_more, IsHeld, IsLeaf}
use Rattle.cx_soundness.proofs.Comes.{IsProper, Always, Stays, StaysTo, then_stays, either_stays, gives_stays, ends_stays, Family, IsOfObjects, spend_stays, append_stays}
use Rattle.cx_soundness.proofs.Comes as parts
use Rattle.cx_soundness.proofs.Stores.{IsObject, IsLeafRead, leaf_read, IsValueRead, value_read, written_are, others_are, made_are}

-- what lies around a part: a bound on the heights of the classes of what lives in the scope and in the full-expression, and the type of the innermost exception that is held, if it matters
pub record Around : Type 0 where
  pub living : ℕ
  pub temporaries : ℕ
  pub innermost : Option ObjectType

abbrev pub start_of : ℕ → Address
start_of n = record { object = n; leaf = 0 }

module _ (declared : Declared) where
  -- a class whose objects may be destroyed
  abbrev pub IsBelow : ℕ → ObjectType → Type 0
  IsBelow bound (class c) = suc (height_of declared.heights c) < bound
  IsBelow bound (scalar s) = Unit {0}
  IsBelow bound (pointer to) = Unit {0}
  IsBelow bound (function_pointer type) = Unit {0}

  -- an object of the type
  pub record IsWholeAt (W : World) (a : Address) (type : ObjectType) : Type 0 where
    pub at : IsAt W a (leaf_types declared type)
    pub defined : is_whole declared type ≡ true

  abbrev pub IsLiving : World → ℕ → Living → Type 0
  IsLiving W bound (whole n type) = IsWholeAt W (start_of n) type × IsBelow bound type
  IsLiving W bound (field a c) = IsWholeAt W a (class c) × IsBelow bound (class c)

  abbrev pub IsException : World → Exception → Type 0
  IsException W e = IsWholeAt W (start_of e.object) e.type

  abbrev pub IsInnermost : World → Option ObjectType → List Exception → Type 0
  IsInnermost W None held = Unit {0}
  IsInnermost W (Some type) [] = ⊥
  IsInnermost W (Some type) (e ∷ held) = IsAt W (start_of e.object) (leaf_types declared type)

  abbrev pub IsDenoted : World → Given → Option Value → Type 0
  IsDenoted W v None = ⊥
  IsDenoted W v (Some x) = IsGiven declared W v x

  abbrev pub IsResult : World → ResultName → Option Value → Type 0
  IsResult W no_name result = result ≡ None
  IsResult W (unnamed v) None = Unit {0}
  IsResult W (unnamed v) (Some x) = IsGiven declared W v x
  IsResult W (types.named v) result = IsDenoted W v result

  pub record IsFrameBy (W : World) (slots : List Given) (name : ResultName) (frame : Frame) : Type 0 where
    pub variables : (slot : ℕ) (v : Given) → slice_get slots slot ≡ Some v → IsDenoted W v (denoted frame.variables slot)
    pub result : IsResult W name frame.result

  abbrev pub IsFrame : World → Context → Frame → Type 0
  IsFrame W context frame = IsFrameBy W context.slots context.result frame

  -- the globals are the first objects
  abbrev pub AreGlobals : World → Type 0
  AreGlobals W = (i : ℕ) (type : ObjectType) → type_at declared.globals i ≡ Some type → IsAt W (start_of (i + 1)) (leaf_types declared type)

  pub record IsTypedBy (W : World) (around : Around) (slots : List Given) (name : ResultName) (frame : Frame) (next : ℕ) (store : Store) (living temporaries : List Living) (held : List Exception) (input : List ℕ) : Type 0 where
    pub objects : All (IsObject declared W) store
    pub made : length W ≡ next
    pub framed : IsFrameBy W slots name frame
    pub are_living : All (IsLiving W around.living) living
    pub are_temporaries : All (IsLiving W around.temporaries) temporaries
    pub are_held : All (IsException W) held
    pub innermost : IsInnermost W around.innermost held
    pub globals : AreGlobals W
    pub bytes : AreBytes input

  abbrev pub Typed : Around → Context → Family
  Typed around context W s = IsTypedBy W around context.slots context.result s.frame s.next s.store s.living s.temporaries s.held s.input

  -- ---- what is said by fewer objects is said by more

  pub whole_more : (W V : World) (a : Address) (type : ObjectType) → Extends W V → IsWholeAt W a type → IsWholeAt V a type
  whole_more W V a type e h = record { at = at_more W V a (leaf_types declared type) e h.at; defined = h.defined }

  living_more : (W V : World) (bound : ℕ) (l : Living) → Extends W V → IsLiving W bound l → IsLiving V bound l
  living_more W V bound (whole n type) e h = (whole_more W V (start_of n) type e h.0, h.1)
  living_more W V bound (field a c) e h = (whole_more W V a (class c) e h.0, h.1)

  pub all_living_more : (W V : World) (bound : ℕ) (living : List Living) → Extends W V → All (IsLiving W bound) living → All (IsLiving V bound) living
  all_living_more W V bound living e all = All-weaker (IsLiving W bound) (IsLiving V bound) (λ l h. living_more W V bound l e h) living all

  pub all_held_more : (W V : World) (held : List Exception) → Extends W V → All (IsException W) held → All (IsException V) held
  all_held_more W V held e all = All-weaker (IsException W) (IsException V) (λ x h. whole_more W V (start_of x.object) x.type e h) held all

  pub innermost_more : (W V : World) (innermost : Option ObjectType) (held : List Exception) → Extends W V → IsInnermost W innermost held → IsInnermost V innermost held
  innermost_more W V None held e h = h
  innermost_more W V (Some type) [] e h = absurd h
  innermost_more W V (Some type) (x ∷ held) e h = at_more W V (start_of x.object) (leaf_types declared type) e h

  denoted_more : (W V : World) (v : Given) (x : Option Value) → Extends W V → IsDenoted W v x → IsDenoted V v x
  denoted_more W V v None e h = absurd h
  denoted_more W V v (Some x) e h = given_more declared W V v x e h

  pub result_more : (W V : World) (name : ResultName) (x : Option Value) → Extends W V → IsResult W name x → IsResult V name x
  result_more W V no_name x e h = h
  result_more W V (unnamed v) None e h = h
  result_more W V (unnamed v) (Some x) e h = given_more declared W V v x e h
  result_more W V (types.named v) x e h = denoted_more W V v x e h

  pub frame_more : (W V : World) (context : Context) (frame : Frame) → Extends W V → IsFrame W context frame → IsFrame V context frame
  frame_more W V context frame e h = record { variables = λ slot v k. denoted_more W V v (denoted frame.variables slot) e (h.variables slot v k); result = result_more W V context.result frame.result e h.result }

  -- ---- single changes

  module _ (W : World) (around : Around) (context : Context) where
    abbrev pub Now : State → Type 0
    Now = Typed around context W

    pub of_objects : IsOfObjects Now
    of_objects s begins budget trace i = i

    pub spending : Stays Now Now Always spend
    spending = spend_stays Now of_objects

    pub frame_now : Stays Now Now (IsFrame W context) current_frame
    unfolding current_frame
    frame_now = record { stays = λ s i. (i.framed, i) }

    pub frame_set : (other : Context) (frame : Frame) → IsFrame W other frame → Stays Now (Typed around other W) Always (set_frame frame)
    unfolding set_frame
    frame_set other frame h = record {
      stays = λ s i. (
        tt {0},
        record { objects = i.objects; made = i.made; framed = h; are_living = i.are_living; are_temporaries = i.are_temporaries; are_held = i.are_held; innermost = i.innermost; globals = i.globals; bytes = i.bytes },
      );
    }

    pub living_now : Stays Now Now (All (IsLiving W around.living)) current_living
    unfolding current_living
    living_now = record { stays = λ s i. (i.are_living, i) }

    pub living_set : (bound : ℕ) (living : List Living) → All (IsLiving W bound) living → Stays Now (Typed (record around { living = bound }) context W) Always (set_living living)
    unfolding set_living
    living_set bound living h = record {
      stays = λ s i. (
        tt {0},
        record { objects = i.objects; made = i.made; framed = i.framed; are_living = h; are_temporaries = i.are_temporaries; are_held = i.are_held; innermost = i.innermost; globals = i.globals; bytes = i.bytes },
      );
    }

    pub temporaries_now : Stays Now Now (All (IsLiving W around.temporaries)) current_temporaries
    unfolding current_temporaries
    temporaries_now = record { stays = λ s i. (i.are_temporaries, i) }

    pub temporaries_set : (bound : ℕ) (living : List Living) → All (IsLiving W bound) living → Stays Now (Typed (record around { temporaries = bound }) context W) Always (set_temporaries living)
    unfolding set_temporaries
    temporaries_set bound living h = record {
      stays = λ s i. (
        tt {0},
        record { objects = i.objects; made = i.made; framed = i.framed; are_living = i.are_living; are_temporaries = h; are_held = i.are_held; innermost = i.innermost; globals = i.globals; bytes = i.bytes },
      );
    }

    abbrev pub AreHeld : List Exception → Type 0
    AreHeld held = All (IsException W) held × IsInnermost W around.innermost held

    pub held_now : Stays Now Now AreHeld current_held
    unfolding current_held
    held_now = record { stays = λ s i. ((i.are_held, i.innermost), i) }

    pub held_set : (type : Option ObjectType) (held : List Exception) → All (IsException W) held → IsInnermost W type held → Stays Now (Typed (record around { innermost = type }) context W) Always (set_held held)
    unfolding set_held
    held_set type held h k = record {
      stays = λ s i. (
        tt {0},
        record { objects = i.objects; made = i.made; framed = i.framed; are_living = i.are_living; are_temporaries = i.are_temporaries; are_held = h; innermost = k; globals = i.globals; bytes = i.bytes },
      );
    }

    pub keeping : (l : Living) → IsLiving W around.living l → Stays Now Now Always (keep l)
    keeping l h =
        then_stays Now (All (IsLiving W around.living)) living_now
        (λ living all. living_set around.living (l ∷ living) (All-cons (IsLiving W around.living) l living h all))

    pub keeping_temporary : (l : Living) → IsLiving W around.temporaries l → Stays Now Now Always (keep_temporary l)
    keeping_temporary l h =
        then_stays Now (All (IsLiving W around.temporaries)) temporaries_now
        (λ living all. temporaries_set around.temporaries (l ∷ living) (All-cons (IsLiving W around.temporaries) l living h all))

    removing : (n : ℕ) → Stays Now Now Always (remove n)
    unfolding remove
    removing n = record {
      stays = λ s i. (
        tt {0},
        record {
          objects = others_are declared (IsObject declared W) n s.store i.objects;
          made = i.made;
          framed = i.framed;
          are_living = i.are_living;
          are_temporaries = i.are_temporaries;
          are_held = i.are_held;
          innermost = i.innermost;
          globals = i.globals;
          bytes = i.bytes;
        },
      );
    }

    pub ending : (n : ℕ) → Stays Now Now Always (end_lifetime n)
    ending n = then_stays Now Always spending (λ _ _. removing n)

    -- ---- names, places and what they hold

    some_denoted : (v : Given) (x : Option Value) → IsDenoted W v x → Stays Now Now (IsGiven declared W v) (some x)
    some_denoted v (Some x) h = gives_stays Now (IsGiven declared W v) x h
    some_denoted v None h = absurd h

    pub naming : (slot : ℕ) (v : Given) → slice_get context.slots slot ≡ Some v → Stays Now Now (IsGiven declared W v) (named slot)
    naming slot v e = then_stays Now (IsFrame W context) frame_now (λ frame h. some_denoted v (denoted frame.variables slot) (h.variables slot v e))

    pub result_named : (v : Given) (frame : Frame) → context.result ≡ types.named v → IsFrame W context frame → Stays Now Now (IsGiven declared W v) (some frame.result)
    result_named v frame e h = some_denoted v frame.result (subst (λ r. IsResult W r frame.result) e h.result)

    pub placing : (ts : List LeafType) (x : Value) → IsReference declared W ts x → Stays Now Now (λ a. IsAt W a ts) (place_of x)
    placing ts (address a) h = gives_stays Now (λ a. IsAt W a ts) a h
    placing ts null h = ends_stays Now Now (λ a. IsAt W a ts) _ (tt {0})
    placing ts (core.number n) h = absurd h
    placing ts (core.function f) h = absurd h
    placing ts (core.violation v) h = absurd h

    defined_value : (t : LeafType) (r : Result Value Kind) → IsValueRead declared W t r → Stays Now Now (IsHeld declared W t) (defined r)
    defined_value t (Ok x) h = gives_stays Now (IsHeld declared W t) x h
    defined_value t (Err kind) h = ends_stays Now Now (IsHeld declared W t) _ h

    pub reading : (a : Address) (t : LeafType) (rest : List LeafType) → IsAt W a (t ∷ rest) → Stays Now Now (IsHeld declared W t) (read a)
    unfolding either current_store
    reading a t rest at = record { stays = λ s i. (defined_value t (value_of (leaf_at s.store a)) (value_read declared W s.store a t rest i.objects at)).stays s i }

    defined_leaf : (t : LeafType) (r : Result Leaf Kind) → IsLeafRead declared W t r → Stays Now Now (IsLeaf declared W t) (defined r)
    defined_leaf t (Ok leaf) h = gives_stays Now (IsLeaf declared W t) leaf h
    defined_leaf t (Err kind) h = ends_stays Now Now (IsLeaf declared W t) _ h

    pub reading_leaf : (a : Address) (t : LeafType) (rest : List LeafType) → IsAt W a (t ∷ rest) → Stays Now Now (IsLeaf declared W t) (read_leaf a)
    unfolding either current_store
    reading_leaf a t rest at = record { stays = λ s i. (defined_leaf t (leaf_at s.store a) (leaf_read declared W s.store a t rest i.objects at)).stays s i }

    abbrev AreObjects : Result Store Kind → Type 0
    AreObjects (Ok store) = All (IsObject declared W) store
    AreObjects (Err kind) = IsProper kind

    stored : (s : State) (r : Result Store Kind) → AreObjects r → Now s → StaysTo Now Always (with_store r s)
    stored s (Ok store) are i = (
      tt {0},
      record { objects = are; made = i.made; framed = i.framed; are_living = i.are_living; are_temporaries = i.are_temporaries; are_held = i.are_held; innermost = i.innermost; globals = i.globals; bytes = i.bytes },
    )
    stored s (Err kind) are i = are

    pub writing : (a : Address) (t : LeafType) (rest : List LeafType) (leaf : Leaf) → IsAt W a (t ∷ rest) → IsLeaf declared W t leaf → Stays Now Now Always (write a leaf)
    unfolding write
    writing a t rest leaf at h = record { stays = λ s i. stored s (written s.store a leaf) (written_are declared W s.store a t rest leaf i.objects at h) i }

    -- ---- making

    abbrev pub Comes : {A : Type 0} → (T J : Family) → (World → A → Type 0) → Does A → Type 0
    Comes T J P m = parts.Comes IsException W Now T J P m

    all_typed_more : (V : World) (s : State) (leaves : ℕ) (ts : List LeafType) → V ≡ W ++ ts ∷ [] → Now s
        → Typed around context V (record s { next = suc s.next; store = record { number = s.next; leaves = replicate leaves None } ∷ s.store })
    all_typed_more V s leaves ts e i =
        let more : Extends W V = subst (λ U. Extends W U) (sym e) (with_one W ts) in
        record {
          objects = subst (λ U. All (IsObject declared U) (record { number = s.next; leaves = replicate leaves None } ∷ s.store)) (sym e)
              (subst (λ n. All (IsObject declared (W ++ ts ∷ [])) (record { number = n; leaves = replicate leaves None } ∷ s.store)) i.made (made_are declared W ts leaves s.store i.objects));
          made = ap length e ∙ length-append W (ts ∷ []) ∙ one_more (length W) s.next i.made;
          framed = frame_more W V context s.frame more i.framed;
          are_living = all_living_more W V around.living s.living more i.are_living;
          are_temporaries = all_living_more W V around.temporaries s.temporaries more i.are_temporaries;
          are_held = all_held_more W V s.held more i.are_held;
          innermost = innermost_more W V around.innermost s.held more i.innermost;
          globals = λ k type e. at_more W V (start_of (k + 1)) (leaf_types declared type) more (i.globals k type e);
          bytes = i.bytes;
        }
      where
        one_more : (n m : ℕ) → n ≡ m → n + 1 ≡ suc m
        one_more n m e = omega arith

    at_last : (V : World) (n : ℕ) (ts : List LeafType) → V ≡ W ++ ts ∷ [] → length W ≡ n → IsAt V (start_of n) ts
    at_last V n ts e m = record {
      leaves = ts;
      made = subst (λ U. slice_get U n ≡ Some ts) (sym e) (subst (λ k. slice_get (W ++ ts ∷ []) k ≡ Some ts) m (last_one W ts));
      stand = λ i t k. subst (λ j. slice_get ts j ≡ Some t) (from_start i) k;
    }
      where
        from_start : (i : ℕ) → i ≡ 0 + i
        from_start i = omega arith

    adding : (T : Family) (leaves : ℕ) (ts : List LeafType) → Comes T (Typed around context) (λ V n. IsAt V (start_of n) ts) (add leaves)
    unfolding add
    adding T leaves ts = record {
      comes = λ s i. (W ++ ts ∷ [], with_one W ts, at_last (W ++ ts ∷ []) s.next ts refl i.made, all_typed_more (W ++ ts ∷ []) s leaves ts refl i);
    }

    -- an object of leaves of the types
    pub making : (T : Family) (leaves : ℕ) (ts : List LeafType) → Comes T (Typed around context) (λ V n. IsAt V (start_of n) ts) (make leaves)
    making T leaves ts = parts.first_comes IsException Now Always spending (λ _ _. adding T leaves ts)
