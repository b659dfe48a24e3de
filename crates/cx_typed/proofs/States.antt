-- A state is typed by the types of its objects: each visible variable denotes an object of its type, the objects hold numbers of their types, and only scalars are to be ended. Names, places and objects keep this.
use Rattle.std.proofs.Common.{◌≡◌, refl, sym, ◌∙◌, subst, ℕ, zero, suc, ◌<◌, nat_eq, Bool, true, false, if◌then◌else◌, List, [], ◌∷◌, ◌++◌, length, Option, Some, None, Result, Ok, Err, ◌⊎◌, inl, inr, arith}
use Rattle.std.specs.Prelude.{slice_get}
use Rattle.std.specs.List.{All}
use Rattle.std.proofs.lemmas.Bool.Decides.{eqb_tells}
use Rattle.std.proofs.lemmas.List.Elements.{All-cons}
use Rattle.cx_core.specs.declared.number.IntegerType.{IntegerType}
use Rattle.cx_core.specs.Words.{Kind, Undefined}
use Rattle.cx_core.specs.Tree.{scalar}
use Rattle.cx_core.specs.Store.{Address, Value, address, Store, leaf_at, value_of, without, written}
use Rattle.cx_core.specs.Event.{ended}
use Rattle.cx_core.specs.Outcome.{Living, whole, Frame, State, Outcome, on, thrown, over, Does, either, some, defined, current_frame, set_frame, current_store, current_living, set_living, throws, add, make, keep, read, write, with_store}
use Rattle.cx_core.specs.Operators.{denoted, bind, named}
use Rattle.cx_core.specs.Meaning.{object_place}
use Rattle.cx_typed.specs.Typed.{Slots}
use Rattle.cx_typed.proofs.Comes.{Comes, ComesTo, With, Always, IsOfObjects, then_comes, gives_comes, ends_come, spend_comes}
use Rattle.cx_typed.proofs.Objects.{Types, IsIn, IsObjectOf, IsPlace, Denotes, IsValueOf, AreObjects, read_is, written_are, others_are, typed_at, typed_itself, denotes_more, made_are}

-- an object with a number that ends without a call
abbrev pub IsScalar : Living → Type 0
IsScalar (whole n (scalar s)) = Unit {0}
IsScalar other = ⊥

pub record IsTypedBy (types : Types) (slots : Slots) (frame : Frame) (next : ℕ) (store : Store) (living temporaries : List Living) : Type 0 where
  pub no_result : frame.result ≡ None
  pub variables : (slot : ℕ) (type : IntegerType) → slice_get slots slot ≡ Some type → Denotes types next type (denoted frame.variables slot)
  pub objects : All (IsObjectOf types next) store
  pub are_scalars : All IsScalar living
  pub temporaries_are_scalars : All IsScalar temporaries

abbrev pub TypedBy : Types → Slots → State → Type 0
TypedBy types slots s = IsTypedBy types slots s.frame s.next s.store s.living s.temporaries

abbrev pub Typed : Slots → State → Type 0
Typed slots s = (types : Types) × TypedBy types slots s

-- the object with the number has the type of a variable that isn't visible yet, or is
abbrev pub Made : Slots → IntegerType → ℕ → State → Type 0
Made slots type n s = (types : Types) × TypedBy types slots s × (types n ≡ type) × (n < s.next)

-- what is kept where a scope or a full-expression is left
pub record IsInvariant (I : State → Type 0) : Type 0 where
  pub of_objects : IsOfObjects I
  pub living : (s : State) → I s → All IsScalar s.living
  pub temporaries : (s : State) → I s → All IsScalar s.temporaries
  pub with_living : (s : State) (living : List Living) → All IsScalar living → I s → I (record s { living = living })
  pub with_temporaries : (s : State) (temporaries : List Living) → All IsScalar temporaries → I s → I (record s { temporaries = temporaries })
  pub with_end : (s : State) (n : ℕ) → I s → I (record s { store = without s.store n })

-- ---- what is said of the types of objects is said of some

by_some : {A : Type 0} (P : A → Type 0) (types : Types) (slots : Slots) (o : Outcome A) → ComesTo (With P (TypedBy types slots)) o → ComesTo (With P (Typed slots)) o
by_some P types slots (on a t) h = (h.0, (types, h.1))
by_some P types slots (thrown e t) h = h
by_some P types slots (over answer trace) h = h

pub some_comes : {A : Type 0} (P : A → Type 0) (slots : Slots) (m : Does A) → ((types : Types) → Comes (TypedBy types slots) (With P (TypedBy types slots)) m) → Comes (Typed slots) (With P (Typed slots)) m
some_comes P slots m h = record { comes = λ s i. by_some P i.0 slots (m s) ((h i.0).comes s i.1) }

pub made_comes : {A : Type 0} (P : A → Type 0) (slots : Slots) (type : IntegerType) (n : ℕ) (m : Does A)
    → ((types : Types) → types n ≡ type → Comes (TypedBy types slots) (With P (TypedBy types slots)) m) → Comes (Made slots type n) (With P (Typed slots)) m
made_comes P slots type n m h = record { comes = λ s i. by_some P i.0 slots (m s) ((h i.0 i.2).comes s i.1) }

-- ---- the states that are typed

module _ (types : Types) (slots : Slots) where
  pub typed_by : IsInvariant (TypedBy types slots)
  typed_by = record {
    of_objects = λ s begins budget trace i. i;
    living = λ s i. i.are_scalars;
    temporaries = λ s i. i.temporaries_are_scalars;
    with_living = λ s living are i. record { no_result = i.no_result; variables = i.variables; objects = i.objects; are_scalars = are; temporaries_are_scalars = i.temporaries_are_scalars };
    with_temporaries = λ s temporaries are i. record { no_result = i.no_result; variables = i.variables; objects = i.objects; are_scalars = i.are_scalars; temporaries_are_scalars = are };
    with_end = λ s n i. record { no_result = i.no_result; variables = i.variables; objects = others_are (IsObjectOf types s.next) n s.store i.objects; are_scalars = i.are_scalars; temporaries_are_scalars = i.temporaries_are_scalars };
  }

  -- ---- names, places and what they hold

  some_denoted : (type : IntegerType) (next : ℕ) (v : Option Value) → Denotes types next type v → Comes (TypedBy types slots) (With (IsPlace types type) (TypedBy types slots)) (some v)
  some_denoted type next (Some (address a)) h = gives_comes (TypedBy types slots) (IsPlace types type) (address a) h.1
  some_denoted type next None h = absurd h
  some_denoted type next (Some v) h = absurd h

  pub named_comes : (type : IntegerType) (slot : ℕ) → slice_get slots slot ≡ Some type → Comes (TypedBy types slots) (With (IsPlace types type) (TypedBy types slots)) (named slot)
  unfolding either current_frame
  named_comes type slot e = record { comes = λ s i. (some_denoted type s.next (denoted s.frame.variables slot) (i.variables slot type e)).comes s i }

  defined_comes : (type : IntegerType) (r : Result Value Kind) → IsValueOf type r → Comes (TypedBy types slots) (With (IsIn type) (TypedBy types slots)) (defined r)
  defined_comes type (Ok v) h = gives_comes (TypedBy types slots) (IsIn type) v h
  defined_comes type (Err kind) h = ends_come (TypedBy types slots) (With (IsIn type) (TypedBy types slots)) (ended (Undefined kind)) h

  pub read_comes : (type : IntegerType) (a : Address) → types a.object ≡ type → Comes (TypedBy types slots) (With (IsIn type) (TypedBy types slots)) (read a)
  unfolding either current_store
  read_comes type a e =
      record { comes = λ s i. (defined_comes type (value_of (leaf_at s.store a)) (subst (λ t. IsValueOf t (value_of (leaf_at s.store a))) e (read_is types s.next s.store a i.objects))).comes s i }

  with_store_comes : (s : State) (r : Result Store Kind) → AreObjects types s.next r → TypedBy types slots s → ComesTo (With Always (TypedBy types slots)) (with_store r s)
  with_store_comes s (Ok store) are i = (tt {0}, record { no_result = i.no_result; variables = i.variables; objects = are; are_scalars = i.are_scalars; temporaries_are_scalars = i.temporaries_are_scalars })
  with_store_comes s (Err kind) are i = are

  pub write_comes : (type : IntegerType) (a : Address) (v : Value) → types a.object ≡ type → IsIn type v → Comes (TypedBy types slots) (With Always (TypedBy types slots)) (write a (Some v))
  unfolding write
  write_comes type a v e h = record { comes = λ s i. with_store_comes s (written s.store a (Some v)) (written_are types s.next s.store a (Some v) i.objects (subst (λ t. IsIn t v) (sym e) h)) i }

pub typed : (slots : Slots) → IsInvariant (Typed slots)
typed slots = record {
  of_objects = λ s begins budget trace i. i;
  living = λ s i. (typed_by i.0 slots).living s i.1;
  temporaries = λ s i. (typed_by i.0 slots).temporaries s i.1;
  with_living = λ s living are i. (i.0, (typed_by i.0 slots).with_living s living are i.1);
  with_temporaries = λ s temporaries are i. (i.0, (typed_by i.0 slots).with_temporaries s temporaries are i.1);
  with_end = λ s n i. (i.0, (typed_by i.0 slots).with_end s n i.1);
}

-- ---- a variable more

slot_kept : (slots : Slots) (last : IntegerType) (k : ℕ) (type : IntegerType) → slice_get slots k ≡ Some type → slice_get (slots ++ last ∷ []) k ≡ Some type
slot_kept [] last k type e = absurd cc
slot_kept (first ∷ slots) last zero type e = e
slot_kept (first ∷ slots) last (suc k) type e = slot_kept slots last k type e

last_or_before : (slots : Slots) (last : IntegerType) (k : ℕ) (type : IntegerType) → slice_get (slots ++ last ∷ []) k ≡ Some type → ((k ≡ length slots) × (last ≡ type)) ⊎ ((k < length slots) × (slice_get slots k ≡ Some type))
last_or_before [] last zero type e = inl (refl, cc)
last_or_before [] last (suc k) type e = absurd cc
last_or_before (first ∷ slots) last zero type e = inr (omega arith, e)
last_or_before (first ∷ slots) last (suc k) type e =
    elim (last_or_before slots last k type e) [ inl h ↦ inl (omega (arith, h.0), h.1) | inr h ↦ inr (omega (arith, h.0), h.1) ]

-- what is visible behind a variable's scope
pub fewer : (slots : Slots) (last : IntegerType) (s : State) → Typed (slots ++ last ∷ []) s → Typed slots s
fewer slots last s i =
    let t = i.1 in (
      i.0,
      record {
        no_result = t.no_result;
        variables = λ slot type e. t.variables slot type (slot_kept slots last slot type e);
        objects = t.objects;
        are_scalars = t.are_scalars;
        temporaries_are_scalars = t.temporaries_are_scalars;
      },
    )

made : (slots : Slots) (type : IntegerType) (leaves : ℕ) (s : State) (types : Types) → TypedBy types slots s → ComesTo (Made slots type) (add leaves s)
unfolding add
made slots type leaves s types t = (
  typed_at types s.next type,
  record {
    no_result = t.no_result;
    variables = λ slot other e. denotes_more types s.next type other (denoted s.frame.variables slot) (t.variables slot other e);
    objects = made_are types s.next type leaves s.store t.objects;
    are_scalars = t.are_scalars;
    temporaries_are_scalars = t.temporaries_are_scalars;
  },
  typed_itself types s.next type,
  omega arith,
)

pub make_comes : (slots : Slots) (type : IntegerType) (leaves : ℕ) → Comes (Typed slots) (Made slots type) (make leaves)
make_comes slots type leaves = then_comes (Typed slots) Always throws (spend_comes (Typed slots) (typed slots).of_objects) (λ _ _. record { comes = λ s i. made slots type leaves s i.0 i.1 })

-- the variable with the next slot names the object
module _ (slots : Slots) (type : IntegerType) (n slot : ℕ) (is_last : slot ≡ length slots) where
  names : (s : State) (types : Types) → TypedBy types slots s → types n ≡ type → n < s.next → (k : ℕ) (other : IntegerType) → slice_get (slots ++ type ∷ []) k ≡ Some other
      → Denotes types s.next other (denoted ((slot, object_place n) ∷ s.frame.variables) k)
  names s types t e is_made k other get =
      elim (last_or_before slots type k other get) [
        | inl h ↦ elim (eqb_tells slot k) [ inl f ↦ chosen true (sym f.0) (is_made, e ∙ h.1) | inr f ↦ absurd (f.1 (is_last ∙ sym h.0)) ]
        | inr h ↦ elim (eqb_tells slot k) [ inl f ↦ absurd (omega (arith, f.1, is_last, h.0)) | inr f ↦ chosen false (sym f.0) (t.variables k other h.1) ]
      ]
    where
      denoted_if : Bool → Type 0
      denoted_if b = Denotes types s.next other (if b then Some (object_place n) else denoted s.frame.variables k)

      chosen : (b : Bool) → b ≡ nat_eq slot k → denoted_if b → denoted_if (nat_eq slot k)
      chosen b same h = subst denoted_if same h

  bound : (s : State) (types : Types) → TypedBy types slots s → types n ≡ type → n < s.next
      → IsTypedBy types (slots ++ type ∷ []) (record s.frame { variables = (slot, object_place n) ∷ s.frame.variables }) s.next s.store s.living s.temporaries
  bound s types t e is_made = record {
    no_result = t.no_result;
    variables = names s types t e is_made;
    objects = t.objects;
    are_scalars = t.are_scalars;
    temporaries_are_scalars = t.temporaries_are_scalars;
  }

  pub bind_comes : Comes (Made slots type n) (With Always (Made (slots ++ type ∷ []) type n)) (bind slot (object_place n))
  unfolding either current_frame set_frame
  bind_comes = record { comes = λ s i. (tt {0}, (i.0, bound s i.0 i.1 i.2 i.3, i.2, i.3)) }

pub keep_comes : (slots : Slots) (l : Living) → IsScalar l → Comes (Typed slots) (With Always (Typed slots)) (keep l)
unfolding either current_living set_living
keep_comes slots l is = record { comes = λ s i. (tt {0}, (typed slots).with_living s (l ∷ s.living) (All-cons IsScalar l s.living is ((typed slots).living s i)) i) }
