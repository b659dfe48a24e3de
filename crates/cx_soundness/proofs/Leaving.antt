-- Scopes, full-expressions, constructors and handlers that are left, and objects that end, keep a state typed, given that calls do.
use Rattle.std.proofs.Common.{◌≡◌, refl, sym, ap, subst, arith, ℕ, suc, ◌<◌, true, ◌&&◌, nat_lt, List, [], ◌∷◌, Option, Some, None}
use Rattle.std.specs.Prelude.{slice_get}
use Rattle.std.specs.List.{All}
use Rattle.std.proofs.lemmas.Bool.{ltb-true}
use Rattle.std.proofs.lemmas.List.Elements.{All-nil, All-head, All-tail}
use Rattle.cx_core.specs.Tree.{ObjectType, scalar, pointer, function_pointer, class, Check}
use Rattle.cx_core.specs.Program as source
use Rattle.cx_core.specs.Program.{Program, Function, Class, Field, Body, ResultKind}
use Rattle.cx_core.specs.Store.{Address, address}
use Rattle.cx_core.specs.Outcome.{Living, whole, field, Does, Nothing, nothing, ◌>>=◌, ◌>>◌, gives, skip, current_living, set_living, current_temporaries, set_temporaries, end_lifetime}
use Rattle.cx_core.specs.Leaving.{Call, Calls, class_at, destroy, destroy_object, end, end_each, scope, full_expression, constructing}
use Rattle.cx_soundness.specs.Types as types
use Rattle.cx_soundness.specs.Types.{made_class, LeafType, Parameter, Result, no_result, Signature, Declared, Given, refers, Context}
use Rattle.cx_soundness.specs.Given.{signature_at, leaf_types, is_whole}
use Rattle.cx_soundness.specs.Programs.{height_of, is_class_typed, is_low_body, is_low_function, is_destructor, is_called_on, is_called_on_two}
use Rattle.cx_soundness.specs.Programs.{destroys as is_destroying}
use Rattle.cx_soundness.proofs.Same.{both_left, both_right, equal_signatures}
use Rattle.cx_soundness.proofs.Worlds.{World, Extends, IsAt}
use Rattle.cx_soundness.proofs.Comes.{IsEnd, Always, Stays, then_stays, gives_stays, ends_stays, Family}
use Rattle.cx_soundness.proofs.Comes as parts
use Rattle.cx_soundness.proofs.States.{Around, start_of, IsBelow, IsWholeAt, IsLiving, IsException, IsFrame, Typed, all_living_more, frame_now, living_now, living_set, temporaries_now, temporaries_set, ending}
use Rattle.cx_soundness.proofs.Lives.{AreGiven, Goes, Keeps, Any, IsStable, finally_comes, undone_comes, Facts, IsLowBody, IsCallable, IsCall, Never, CallsKeep, some_with}

pub less_than : (a b : ℕ) → nat_lt a b ≡ true → a < b
less_than a b h = ltb-true a b h

module _ (declared : Declared) (program : Program) (facts : Facts declared program) where
  -- ---- the functions of a class

  abbrev on_one : ObjectType → Signature
  on_one type = record { parameters = types.object type ∷ []; result = no_result }

  abbrev on_two : ObjectType → Signature
  on_two type = record { parameters = types.object type ∷ types.object type ∷ []; result = no_result }

  called_on : (o : Option Signature) (type : ObjectType) → is_called_on declared o type ≡ true → o ≡ Some (on_one type)
  called_on None type h = absurd cc
  called_on (Some signature) type h = ap Some (equal_signatures signature (on_one type) h)

  called_on_two : (o : Option Signature) (type : ObjectType) → is_called_on_two declared o type ≡ true → o ≡ Some (on_two type)
  called_on_two None type h = absurd cc
  called_on_two (Some signature) type h = ap Some (equal_signatures signature (on_two type) h)

  low_body : (bound height : ℕ) (b : Body Check) → is_low_body declared height b ≡ true → suc height < bound → IsLowBody declared program bound b
  low_body bound height (source.implicit_constructor d) h l = let k = less_than _ _ h in omega arith
  low_body bound height (source.implicit_copy_constructor d) h l = let k = less_than _ _ h in omega arith
  low_body bound height (source.implicit_destructor d) h l = let k = less_than _ _ h in omega arith
  low_body bound height (source.function b) h l = omega arith
  low_body bound height (source.constructor fields b) h l = omega arith
  low_body bound height (source.destructor d b) h l = omega arith

  same_function : (a b : Function) → Some a ≡ Some b → a ≡ b
  same_function a b e = cc

  low_function : (bound height : ℕ) (o : Option Function) (definition : Function) → is_low_function declared height o ≡ true → suc height < bound → o ≡ Some definition → IsLowBody declared program bound definition.body
  low_function bound height None definition h l e = absurd cc
  low_function bound height (Some f) definition h l e = subst (λ (g : Function). IsLowBody declared program bound g.body) (same_function f definition e) (low_body bound height f.body h l)

  pub callable : (bound height f : ℕ) → is_low_function declared height (slice_get program.functions f) ≡ true → suc height < bound → IsCallable declared program bound f
  callable bound height f h l definition e = low_function bound height (slice_get program.functions f) definition h l e

  -- what is called on one object, and on one object with another
  pub call_on_one : (W : World) (type : ObjectType) (made : Call) (a : Address) → is_called_on declared (signature_at declared.functions made.function) type ≡ true
      → made.arguments ≡ address a ∷ [] → made.result ≡ None → IsAt W a (leaf_types declared type) → IsCall declared program W made
  call_on_one W type made a h e n at = record {
    signature = on_one type;
    declares = called_on (signature_at declared.functions made.function) type h;
    arguments = subst (λ values. AreGiven declared W (refers (leaf_types declared type) ∷ []) values) (sym e) (at, tt {0});
    result = λ definition found. n;
  }

  pub call_on_two : (W : World) (type : ObjectType) (made : Call) (a b : Address) → is_called_on_two declared (signature_at declared.functions made.function) type ≡ true
      → made.arguments ≡ address a ∷ address b ∷ [] → made.result ≡ None → IsAt W a (leaf_types declared type) → IsAt W b (leaf_types declared type) → IsCall declared program W made
  call_on_two W type made a b h e n at of = record {
    signature = on_two type;
    declares = called_on_two (signature_at declared.functions made.function) type h;
    arguments = subst (λ values. AreGiven declared W (refers (leaf_types declared type) ∷ refers (leaf_types declared type) ∷ []) values) (sym e) (at, (of, tt {0}));
    result = λ definition found. n;
  }

  module _ (bound : ℕ) (calls : Calls) (keep : CallsKeep declared program bound calls) where
    module _ (around : Around) (context : Context) where
      abbrev I : Family
      I = Typed declared around context

      abbrev Kept : {A : Type 0} → World → (World → A → Type 0) → Does A → Type 0
      Kept W P m = Keeps declared around context W P m

      abbrev IsTypedClass : ℕ → Class → Type 0
      IsTypedClass c definition = is_class_typed declared program.functions c (made_class (leaf_types declared (class c))) definition ≡ true

      first : {A B : Type 0} {W : World} {P : World → B → Type 0} {m : Does A} {next : A → Does B} (Q : A → Type 0) → Stays (I W) (I W) Q m → ((a : A) → Q a → Kept W P (next a)) → Kept W P (m >>= next)
      first {A} {B} {W} Q h k = parts.first_comes (IsException declared) (I W) Q h k

      grow : {A B : Type 0} {W : World} {P : World → B → Type 0} {m : Does A} {next : A → Does B} (Q : World → A → Type 0) → Kept W Q m → ((V : World) → Extends W V → (a : A) → Q V a → Kept V P (next a)) → Kept W P (m >>= next)
      grow Q h k = parts.then_comes (IsException declared) I Q h k

      give : {A : Type 0} (W : World) (P : World → A → Type 0) (a : A) → P W a → Kept W P (gives a)
      give W P a h = parts.gives_comes (IsException declared) W I I P a h

      stay : {A : Type 0} (W : World) (P : World → A → Type 0) (m : Does A) → Stays (I W) (I W) (P W) m → Kept W P m
      stay W P m h = parts.stays_comes (IsException declared) W (I W) I I P m h

      skips : (W : World) → Kept W Any skip
      skips W = give W Any nothing (tt {0})

      pub class_there : (W : World) (c : ℕ) → is_whole declared (class c) ≡ true → Stays (I W) (I W) (IsTypedClass c) (class_at program calls c)
      class_there W c h = let found = facts.classes c h in some_with (I W) (IsTypedClass c) (slice_get program.classes c) found.0 found.1 found.2

      -- ---- ends of objects, which no exception leaves

      abbrev Quiet : World → Family → Does Nothing → Type 0
      Quiet W T m = parts.Comes (IsException declared) W (I W) T I Any m

      of_destructor : (c : ℕ) (definition : Class) → IsTypedClass c definition
          → (is_called_on declared (signature_at declared.functions definition.destructor) (class c) && is_low_function declared (height_of declared.heights c) (slice_get program.functions definition.destructor) && is_destroying declared (slice_get program.functions definition.destructor)) ≡ true
      of_destructor c definition h = both_right _ _ (both_left _ _ (both_left _ _ (both_left _ _ h)))

      is_a_destructor : (o : Option Function) (definition : Function) → is_destroying declared o ≡ true → o ≡ Some definition → is_destructor definition.body ≡ true
      is_a_destructor None definition h e = absurd cc
      is_a_destructor (Some f) definition h e = subst (λ (g : Function). is_destructor g.body ≡ true) (same_function f definition e) h

      pub destroys : (W : World) (T : Family) (c : ℕ) (a : Address) → IsWholeAt declared W a (class c) → IsBelow declared bound (class c) → Quiet W T (destroy program calls c a)
      destroys W T c a at below =
          parts.first_comes (IsException declared) (I W) (IsTypedClass c) (class_there W c at.defined)
          (λ definition h. parts.first_comes (IsException declared) (I W) (IsFrame declared W context) (frame_now declared W around context)
          (λ frame f. parts.then_comes (IsException declared) I Any
          (parts.comes_less (IsException declared) W (I W) (I W) (Never declared program) T I I Any Any _ (λ s i. i) (λ V t i. absurd i) (λ V t i. i) (λ V x p. p)
          (keep.quiet around context W _ (call_on_one W (class c) _ a (both_left _ _ (both_left _ _ (of_destructor c definition h))) refl refl at.at)
          (callable bound (height_of declared.heights c) definition.destructor (both_right _ _ (both_left _ _ (of_destructor c definition h))) below)
          (λ g e. is_a_destructor (slice_get program.functions definition.destructor) g (both_right _ _ (of_destructor c definition h)) e)))
          (λ V e x p. parts.gives_comes (IsException declared) V T I Any nothing (tt {0}))))

      quiet_stay : (W : World) (T : Family) (m : Does Nothing) → Stays (I W) (I W) Always m → Quiet W T m
      quiet_stay W T m h = parts.stays_comes (IsException declared) W (I W) T I Any m h

      quiet_then : (W : World) (T : Family) (m n : Does Nothing) → Quiet W T m → ((V : World) → Extends W V → Quiet V T n) → Quiet W T (m >> n)
      quiet_then W T m n h k = parts.then_comes (IsException declared) I Any h (λ V e _ _. k V e)

      quiet_skip : (W : World) (T : Family) → Quiet W T skip
      quiet_skip W T = parts.gives_comes (IsException declared) W T I Any nothing (tt {0})

      destroys_object : (W : World) (T : Family) (n : ℕ) (type : ObjectType) → IsWholeAt declared W (start_of n) type → IsBelow declared bound type → Quiet W T (destroy_object program calls n type)
      destroys_object W T n (class c) h k = destroys W T c (start_of n) h k
      destroys_object W T n (scalar s) h k = quiet_skip W T
      destroys_object W T n (pointer to) h k = quiet_skip W T
      destroys_object W T n (function_pointer type) h k = quiet_skip W T

      pub ends_one : (W : World) (T : Family) (l : Living) → IsLiving declared W bound l → Quiet W T (end program calls l)
      ends_one W T (whole n type) h = quiet_then W T _ _ (destroys_object W T n type h.0 h.1) (λ V e. quiet_stay V T (end_lifetime n) (ending declared V around context n))
      ends_one W T (field a c) h = destroys W T c a h.0 h.1

      pub ends_all : (living : List Living) (W : World) (T : Family) → All (IsLiving declared W bound) living → Quiet W T (end_each program calls living)
      ends_all [] W T all = quiet_skip W T
      ends_all (l ∷ living) W T all =
          quiet_then W T _ _ (ends_one W T l (All-head (IsLiving declared W bound) l living all))
          (λ V e. ends_all living V T (all_living_more declared W V bound living e (All-tail (IsLiving declared W bound) l living all)))

    -- ---- scopes and full-expressions

    abbrev in_scope : Around → Around
    in_scope around = record around { living = bound }

    abbrev in_full : Around → Around
    in_full around = record around { temporaries = bound }

    scope_last : (around : Around) (context : Context) (V : World) (T : Family) (outer : List Living) → All (IsLiving declared V around.living) outer
        → parts.Comes (IsException declared) V (Typed declared (in_scope around) context V) T (Typed declared around context) Any (current_living >>= end_each program calls >> set_living outer)
    scope_last around context V T outer all =
        parts.then_comes (IsException declared) (Typed declared (in_scope around) context) Any
        (parts.first_comes (IsException declared) (Typed declared (in_scope around) context V) (All (IsLiving declared V bound)) (living_now declared V (in_scope around) context) (λ living h. ends_all (in_scope around) context living V T h))
        (λ U e _ _. parts.stays_comes (IsException declared) U _ T _ Any (set_living outer) (living_set declared U (in_scope around) context around.living outer (all_living_more declared V U around.living outer e all)))

    pub scope_keeps : {A : Type 0} (around : Around) (context : Context) (W : World) (P : World → A → Type 0) (m : Does A) → IsStable P → Keeps declared (in_scope around) context W P m → Keeps declared around context W P (scope program calls m)
    scope_keeps around context W P m stable h =
        parts.first_comes (IsException declared) (Typed declared around context W) (All (IsLiving declared W around.living)) (living_now declared W around context)
        (λ outer all. parts.first_comes (IsException declared) (Typed declared (in_scope around) context W) Always (living_set declared W around context bound [] (All-nil (IsLiving declared W bound)))
        (λ _ _. finally_comes declared W _ (Typed declared (in_scope around) context) (Typed declared (in_scope around) context) (Typed declared around context) (Typed declared around context) P m _ stable h
        (λ V e. scope_last around context V (Typed declared around context) outer (all_living_more declared W V around.living outer e all))
        (λ V e. scope_last around context V (Typed declared around context) outer (all_living_more declared W V around.living outer e all))))

    full_last : (around : Around) (context : Context) (V : World) (T : Family) (outer : List Living) → All (IsLiving declared V around.temporaries) outer
        → parts.Comes (IsException declared) V (Typed declared (in_full around) context V) T (Typed declared around context) Any (current_temporaries >>= end_each program calls >> set_temporaries outer)
    full_last around context V T outer all =
        parts.then_comes (IsException declared) (Typed declared (in_full around) context) Any
        (parts.first_comes (IsException declared) (Typed declared (in_full around) context V) (All (IsLiving declared V bound)) (temporaries_now declared V (in_full around) context) (λ living h. ends_all (in_full around) context living V T h))
        (λ U e _ _. parts.stays_comes (IsException declared) U _ T _ Any (set_temporaries outer) (temporaries_set declared U (in_full around) context around.temporaries outer (all_living_more declared V U around.temporaries outer e all)))

    pub full_goes : {A : Type 0} (around : Around) (now flying behind : Context) (W : World) (P : World → A → Type 0) (m : Does A) → IsStable P
        → Goes declared (in_full around) now flying behind W P m → Goes declared around now flying behind W P (full_expression program calls m)
    full_goes around now flying behind W P m stable h =
        parts.first_comes (IsException declared) (Typed declared around now W) (All (IsLiving declared W around.temporaries)) (temporaries_now declared W around now)
        (λ outer all. parts.first_comes (IsException declared) (Typed declared (in_full around) now W) Always (temporaries_set declared W around now bound [] (All-nil (IsLiving declared W bound)))
        (λ _ _. finally_comes declared W _ (Typed declared (in_full around) flying) (Typed declared (in_full around) behind) (Typed declared around flying) (Typed declared around behind) P m _ stable h
        (λ V e. full_last around behind V (Typed declared around flying) outer (all_living_more declared W V around.temporaries outer e all))
        (λ V e. full_last around flying V (Typed declared around flying) outer (all_living_more declared W V around.temporaries outer e all))))

    pub constructing_keeps : {A : Type 0} (around : Around) (context : Context) (W : World) (P : World → A → Type 0) (m : Does A) → IsStable P
        → Keeps declared (in_scope around) context W P m → Keeps declared around context W P (constructing program calls m)
    constructing_keeps around context W P m stable h =
        parts.first_comes (IsException declared) (Typed declared around context W) (All (IsLiving declared W around.living)) (living_now declared W around context)
        (λ outer all. parts.first_comes (IsException declared) (Typed declared (in_scope around) context W) Always (living_set declared W around context bound [] (All-nil (IsLiving declared W bound)))
        (λ _ _. finally_comes declared W _ (Typed declared (in_scope around) context) (Typed declared (in_scope around) context) (Typed declared around context) (Typed declared around context) P _ _ stable
        (undone_comes declared W _ (Typed declared (in_scope around) context) (Typed declared (in_scope around) context) (Typed declared (in_scope around) context) P m _ h
        (λ V e. parts.first_comes (IsException declared) (Typed declared (in_scope around) context V) (All (IsLiving declared V bound)) (living_now declared V (in_scope around) context) (λ living l. ends_all (in_scope around) context living V _ l)))
        (λ V e. back V outer (all_living_more declared W V around.living outer e all))
        (λ V e. back V outer (all_living_more declared W V around.living outer e all))))
      where
        back : (V : World) (outer : List Living) → All (IsLiving declared V around.living) outer → parts.Comes (IsException declared) V (Typed declared (in_scope around) context V) (Typed declared around context) (Typed declared around context) Any (set_living outer)
        back V outer l = parts.stays_comes (IsException declared) V _ _ _ Any (set_living outer) (living_set declared V (in_scope around) context around.living outer l)
