-- Fields that are initialised and destroyed keep a state typed, given that calls do.
use Rattle.std.proofs.Common.{◌≡◌, sym, subst, arith, ℕ, ◌<◌, true, ◌&&◌, List, [], ◌∷◌, reverse, drop, Some}
use Rattle.std.specs.Prelude.{slice_get}
use Rattle.std.specs.List.{All}
use Rattle.std.proofs.lemmas.List.{reverse-append}
use Rattle.std.proofs.lemmas.List.Elements.{All-nil, All-cons, All-head, All-tail, All-append, All-weaker}
use Rattle.cx_core.specs.Tree.{ObjectType, scalar, pointer, function_pointer, class}
use Rattle.cx_core.specs.Program.{Program, Field}
use Rattle.cx_core.specs.Event.{destroyed}
use Rattle.cx_core.specs.Store.{Address, null, place_in}
use Rattle.cx_core.specs.Outcome.{field, Does, Nothing, nothing, ◌>>=◌, ◌>>◌, gives, edge, append}
use Rattle.cx_core.specs.Leaving.{Calls, class_at, destroy_each, destroy_fields, class_fields, and_class_field}
use Rattle.cx_core.specs.Statements.{this_place, keep_field, field_of}
use Rattle.cx_soundness.specs.Types.{made_class, LeafType, Declared, refers, Context}
use Rattle.cx_soundness.specs.Given.{begins, leaf_types, is_whole}
use Rattle.cx_soundness.specs.Programs.{height_of, all_are, is_lower, is_field_of, is_class_typed}
use Rattle.cx_soundness.proofs.Same.{both_left, both_right}
use Rattle.cx_soundness.proofs.Worlds.{World, Extends, IsAt, at_more, at_less, at_member, IsNull}
use Rattle.cx_soundness.proofs.Comes.{Always, Stays, then_stays, gives_stays, append_stays, Family}
use Rattle.cx_soundness.proofs.Comes as parts
use Rattle.cx_soundness.proofs.States.{Around, IsBelow, IsWholeAt, IsException, Typed, of_objects, whole_more, naming, placing, keeping}
use Rattle.cx_soundness.proofs.Lives.{Keeps, Any, any_stable, edge_comes, Facts, CallsKeep}
use Rattle.cx_soundness.proofs.Leaving.{less_than, class_there, destroys, full_goes}

all_reversed : {A : Type 0} (P : A → Type 0) (xs : List A) → All P xs → All P (reverse xs)
all_reversed P [] h = h
all_reversed P (x ∷ xs) h = subst (All P) (sym (reverse-append (x ∷ []) xs)) (All-append P (reverse xs) (x ∷ []) (all_reversed P xs (All-tail P x xs h)) (All-cons P x [] (All-head P x xs h) (All-nil P)))

module _ (declared : Declared) (program : Program) (facts : Facts declared program) (bound : ℕ) (calls : Calls) (keep_calls : CallsKeep declared program bound calls) where
  -- ---- the object that is constructed or destroyed

  pub this_placed : (around : Around) (context : Context) (W : World) (ts : List LeafType) → slice_get context.slots 0 ≡ Some (refers ts) → Stays (Typed declared around context W) (Typed declared around context W) (λ a. IsAt W a ts) (this_place program calls)
  this_placed around context W ts e =
      then_stays (Typed declared around context W) _ (naming declared W around context 0 (refers ts) e) (λ x h. placing declared W around context ts x h)

  kept_field : (around : Around) (context : Context) (W : World) (a : Address) (type : ObjectType) → IsWholeAt declared W a type → IsBelow declared around.living type
      → Stays (Typed declared around context W) (Typed declared around context W) Always (keep_field program calls a type)
  kept_field around context W a (class c) h k = keeping declared W around context (field a c) (h, k)
  kept_field around context W a (scalar s) h k = gives_stays _ Always nothing (tt {0})
  kept_field around context W a (pointer to) h k = gives_stays _ Always nothing (tt {0})
  kept_field around context W a (function_pointer type) h k = gives_stays _ Always nothing (tt {0})

  abbrev in_full : Around → Around
  in_full around = record around { temporaries = bound }

  pub field_keeps : (around : Around) (context : Context) (W : World) (ts : List LeafType) (leaf : ℕ) (type : ObjectType) (init : Address → Does Nothing) → slice_get context.slots 0 ≡ Some (refers ts)
      → begins (leaf_types declared type) (drop leaf ts) ≡ true → is_whole declared type ≡ true → IsBelow declared around.living type
      → ((V : World) (a : Address) → Extends W V → IsAt V a (leaf_types declared type) → Keeps declared (in_full around) context V Any (init a)) → Keeps declared around context W Any (field_of program calls leaf type init)
  field_keeps around context W ts leaf type init e b w below h =
      parts.first_comes (IsException declared) (Typed declared around context W) (λ a. IsAt W a ts) (this_placed around context W ts e)
      (λ this at. parts.then_comes (IsException declared) (Typed declared around context) Any
      (full_goes declared program facts bound calls keep_calls around context context context W Any (init (place_in this leaf)) any_stable (h W (place_in this leaf) (record { kept = λ n leaves k. k }) (field_at this at)))
      (λ V f _ _. parts.stays_comes (IsException declared) V _ (Typed declared around context) (Typed declared around context) Any (keep_field program calls (place_in this leaf) type)
      (kept_field around context V (place_in this leaf) type (record { at = at_more W V (place_in this leaf) (leaf_types declared type) f (field_at this at); defined = w }) below)))
    where
      field_at : (this : Address) → IsAt W this ts → IsAt W (place_in this leaf) (leaf_types declared type)
      field_at this at = at_less W (place_in this leaf) (leaf_types declared type) (drop leaf ts) b (at_member W this leaf ts at)

  -- ---- the fields that are class objects

  abbrev IsPart : World → Address → ℕ × ℕ → Type 0
  IsPart W a p = IsWholeAt declared W (place_in a p.0) (class p.1) × IsBelow declared bound (class p.1)

  parts_are : (W : World) (a : Address) (height : ℕ) (layout : List LeafType) (fields : List Field) → height < bound → IsAt W a layout → all_are (is_field_of declared height layout) fields ≡ true → All (IsPart W a) (class_fields fields)
  parts_are W a height layout [] l at h = All-nil (IsPart W a)
  parts_are W a height layout (f ∷ fields) l at h = with_first f.leaf f.type (both_left _ _ h) (parts_are W a height layout fields l at (both_right (is_field_of declared height layout f) _ h))
    where
      with_first : (leaf : ℕ) (type : ObjectType) → (begins (leaf_types declared type) (drop leaf layout) && is_whole declared type && is_lower declared height type) ≡ true → All (IsPart W a) (class_fields fields)
          → All (IsPart W a) (and_class_field leaf type (class_fields fields))
      with_first leaf (class c) e all =
          let both = both_left _ _ e in
          let lower = less_than _ _ (both_right (begins (leaf_types declared (class c)) (drop leaf layout) && is_whole declared (class c)) _ e) in
          All-cons (IsPart W a) (leaf, c) (class_fields fields)
          (record { at = at_less W (place_in a leaf) (leaf_types declared (class c)) (drop leaf layout) (both_left _ _ both) (at_member W a leaf layout at); defined = both_right (begins (leaf_types declared (class c)) (drop leaf layout)) _ both }, omega arith) all
      with_first leaf (scalar s) e all = all
      with_first leaf (pointer to) e all = all
      with_first leaf (function_pointer type) e all = all

  part_more : (W V : World) (a : Address) → Extends W V → (parts : List (ℕ × ℕ)) → All (IsPart W a) parts → All (IsPart V a) parts
  part_more W V a e parts all = All-weaker (IsPart W a) (IsPart V a) (λ p h. (whole_more declared W V (place_in a p.0) (class p.1) e h.0, h.1)) parts all

  destroys_each : (around : Around) (context : Context) (T : Family) (a : Address) (fields : List (ℕ × ℕ)) (W : World) → All (IsPart W a) fields → parts.Comes (IsException declared) W (Typed declared around context W) T (Typed declared around context) Any (destroy_each program calls a fields)
  destroys_each around context T a [] W all = parts.gives_comes (IsException declared) W T (Typed declared around context) Any nothing (tt {0})
  destroys_each around context T a (f ∷ fields) W all =
      let h = All-head (IsPart W a) f fields all in
      parts.then_comes (IsException declared) (Typed declared around context) Any (destroys declared program facts bound calls keep_calls around context W T f.1 (place_in a f.0) h.0 h.1)
      (λ V e _ _. destroys_each around context T a fields V (part_more W V a e fields (All-tail (IsPart W a) f fields all)))

  pub fields_destroyed : (around : Around) (context : Context) (T : Family) (W : World) (c : ℕ) (a : Address) → is_whole declared (class c) ≡ true → IsAt W a (leaf_types declared (class c)) → height_of declared.heights c < bound
      → parts.Comes (IsException declared) W (Typed declared around context W) T (Typed declared around context) Any (destroy_fields program calls c a)
  fields_destroyed around context T W c a w at l =
      parts.first_comes (IsException declared) (Typed declared around context W) (λ d. is_class_typed declared program.functions c (made_class (leaf_types declared (class c))) d ≡ true) (class_there declared program facts bound calls keep_calls around context W c w)
      (λ d h. destroys_each around context T a (reverse (class_fields d.fields)) W
      (all_reversed (IsPart W a) (class_fields d.fields) (parts_are W a (height_of declared.heights c) (leaf_types declared (class c)) d.fields l at (both_right _ _ (both_left _ _ (both_left _ _ (both_left _ _ (both_left _ _ h))))))))

  -- ---- destructors, which no exception leaves

  module _ (around : Around) (context : Context) (T : Family) where
    abbrev I : Family
    I = Typed declared around context

    pub destructor_goes : {A : Type 0} (W : World) (c : ℕ) (ts : List LeafType) (before : Does A) (behind : Does Nothing) (P : World → A → Type 0) → slice_get context.slots 0 ≡ Some (refers ts) → begins (leaf_types declared (class c)) ts ≡ true
        → is_whole declared (class c) ≡ true → height_of declared.heights c < bound → ((V : World) → Keeps declared around context V P before) → ((V : World) → Keeps declared around context V Any behind)
        → parts.Comes (IsException declared) W (I W) T I (λ V x. IsNull declared x)
        (this_place program calls >>= (λ a. class_at program calls c >>= (λ definition. edge before >> (destroy_fields program calls c a >> (edge behind >> (append (destroyed definition.name a.object a.leaf) >> gives null))))))
    destructor_goes W c ts before behind P e b w l h k =
        parts.first_comes (IsException declared) (I W) (λ a. IsAt W a ts) (this_placed around context W ts e)
        (λ a at. parts.first_comes (IsException declared) (I W) _ (class_there declared program facts bound calls keep_calls around context W c w)
        (λ definition _. parts.then_comes (IsException declared) I P (edge_comes declared W (I W) I T I P before (h W))
        (λ V f _ _. parts.then_comes (IsException declared) I Any (fields_destroyed around context T V c a w (at_more W V a (leaf_types declared (class c)) f (at_less W a (leaf_types declared (class c)) ts b at)) l)
        (λ U _ _ _. parts.then_comes (IsException declared) I Any (edge_comes declared U (I U) I T I Any behind (k U))
        (λ X _ _ _. parts.first_comes (IsException declared) (I X) Always (append_stays (I X) (of_objects declared X around context) (destroyed definition.name a.object a.leaf))
        (λ _ _. parts.gives_comes (IsException declared) X T I (λ V x. IsNull declared x) null (tt {0})))))))
