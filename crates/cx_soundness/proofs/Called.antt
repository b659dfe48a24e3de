-- Calls of functions, by their names and through pointers, keep a state typed and give what their signatures say, given that their arguments do.
use Rattle.std.proofs.Common.{◌≡◌, refl, sym, ap, subst, arith, ℕ, suc, ◌<◌, true, List, [], ◌∷◌, map, Option, Some, None}
use Rattle.std.specs.Prelude.{slice_get}
use Rattle.cx_core.specs.Tree.{ObjectType, scalar, pointer, function_pointer, class, Check}
use Rattle.cx_core.specs.Program as source
use Rattle.cx_core.specs.Program.{Program, Function, Body, ResultKind}
use Rattle.cx_core.specs.Store.{Address, Value, number, address, null, function, violation}
use Rattle.cx_core.specs.Outcome.{Does, end_lifetime, read}
use Rattle.cx_core.specs.Leaving.{Calls}
use Rattle.cx_core.specs.Calls.{Callee, by_name, by_pointer, function_held, call_to, call_of, call_into, call_with_object}
use Rattle.cx_soundness.specs.Types.{LeafType, Parameter, scalar_result, Signature, Declared, Context}
use Rattle.cx_soundness.specs.Given.{signature_at, leaf_types, is_whole, leaf_of, parameter_given}
use Rattle.cx_soundness.specs.Programs.{result_name_of, is_body_typed, height_of}
use Rattle.cx_soundness.proofs.Same.{both_left, both_right}
use Rattle.cx_soundness.proofs.Worlds.{World, Extends, longer, IsAt, at_more, IsFunction, IsHeld, held_more}
use Rattle.cx_soundness.proofs.Comes.{Always, Stays, then_stays, gives_stays, ends_stays, Family}
use Rattle.cx_soundness.proofs.Comes as parts
use Rattle.cx_soundness.proofs.States.{Around, start_of, IsException, IsResult, IsFrame, Typed, result_more, frame_now, reading, ending, making}
use Rattle.cx_soundness.proofs.Lives.{AreGiven, IsReturned, returned_more, Keeps, Any, IsStable, undone_comes, Facts, most, IsLowBody, IsCallable, CallsKeep}
use Rattle.cx_soundness.proofs.Leaving.{scope_keeps}

same_leaf_found : (a b : LeafType) → Some a ≡ Some b → a ≡ b
same_leaf_found a b e = cc

module _ (declared : Declared) (program : Program) (facts : Facts declared program) where
  -- ---- any function may be called by code of the source

  low_implicit : (c : ℕ) → is_whole declared (class c) ≡ true → suc (height_of declared.heights c) < most declared program
  low_implicit c h = let l = facts.low c h in omega arith

  all_low : (signature : Signature) (kind : ResultKind) (b : Body Check) → is_body_typed declared program.classes signature kind b ≡ true → IsLowBody declared program (most declared program) b
  all_low signature kind (source.implicit_constructor c) h = low_implicit c (both_left _ _ (both_left _ _ h))
  all_low signature kind (source.implicit_copy_constructor c) h = low_implicit c (both_left _ _ h)
  all_low signature kind (source.implicit_destructor c) h = low_implicit c (both_left _ _ h)
  all_low signature kind (source.function b) h = omega arith
  all_low signature kind (source.constructor fields b) h = omega arith
  all_low signature kind (source.destructor c b) h = omega arith

  same_function : (a b : Function) (o : Option Function) → o ≡ Some a → o ≡ Some b → a ≡ b
  same_function a b o p q = cc

  pub all_callable : (f : ℕ) (signature : Signature) → signature_at declared.functions f ≡ Some signature → IsCallable declared program (most declared program) f
  all_callable f signature e definition found =
      let known = facts.functions f signature e in
      subst (λ (g : Function). IsLowBody declared program (most declared program) g.body) (same_function known.0 definition (slice_get program.functions f) known.1 found)
      (all_low signature known.0.result known.0.body (both_right _ _ known.2))

  module _ (calls : Calls) (keep : CallsKeep declared program (most declared program) calls) where
    -- ---- what is called

    abbrev pub IsCallee : Callee → Signature → Type 0
    IsCallee (by_name f) signature = signature_at declared.functions f ≡ Some signature
    IsCallee (by_pointer x) signature = IsFunction declared signature x

    abbrev IsThere : Callee → ℕ → Type 0
    IsThere (by_name g) f = g ≡ f
    IsThere (by_pointer x) f = Unit {0}

    -- the place of the result is one for the function
    abbrev pub IsFor : World → Callee → Signature → Option Value → Type 0
    IsFor W callee signature result = (f : ℕ) (definition : Function) → IsThere callee f → slice_get program.functions f ≡ Some definition → IsResult declared W (result_name_of declared definition.result signature.result) result

    for_more : (W V : World) (callee : Callee) (signature : Signature) (result : Option Value) → Extends W V → IsFor W callee signature result → IsFor V callee signature result
    for_more W V callee signature result e h f definition is found = result_more declared W V (result_name_of declared definition.result signature.result) result e (h f definition is found)

    module _ (around : Around) (context : Context) where
      abbrev I : Family
      I = Typed declared around context

      held_keeps : (W : World) (signature : Signature) (x : Value) → IsFunction declared signature x → Stays (I W) (I W) (λ f. signature_at declared.functions f ≡ Some signature) (function_held x)
      held_keeps W signature (function f) h = gives_stays (I W) (λ g. signature_at declared.functions g ≡ Some signature) f h
      held_keeps W signature null h = ends_stays (I W) (I W) _ _ (tt {0})
      held_keeps W signature (number n) h = absurd h
      held_keeps W signature (address a) h = absurd h
      held_keeps W signature (violation v) h = absurd h

      call_to_keeps : (W : World) (callee : Callee) (signature : Signature) (values : List Value) (result : Option Value) → IsCallee callee signature → AreGiven declared W (map (parameter_given declared) signature.parameters) values → IsFor W callee signature result
          → Keeps declared around context W (λ V x. IsReturned declared V signature.result x) (call_to program calls callee values result)
      call_to_keeps W (by_name f) signature values result e given for =
          parts.first_comes (IsException declared) (I W) (IsFrame declared W context) (frame_now declared W around context)
          (λ frame _. keep.keep around context W (record { function = f; caller = Some frame.unit; unit = frame.unit; reports = None; arguments = values; result = result })
          (record { signature = signature; declares = e; arguments = given; result = λ definition found. for f definition refl found }) (all_callable f signature e))
      call_to_keeps W (by_pointer x) signature values result e given for =
          parts.first_comes (IsException declared) (I W) (λ f. signature_at declared.functions f ≡ Some signature) (held_keeps W signature x e)
          (λ f d. parts.first_comes (IsException declared) (I W) (IsFrame declared W context) (frame_now declared W around context)
          (λ frame _. keep.keep around context W (record { function = f; caller = None; unit = frame.unit; reports = None; arguments = values; result = result })
          (record { signature = signature; declares = d; arguments = given; result = λ definition found. for f definition (tt {0}) found }) (all_callable f signature d)))

    abbrev in_scope : Around → Around
    in_scope around = record around { living = most declared program }

    abbrev GivesArguments : Around → Context → World → Signature → Does (List Value) → Type 0
    GivesArguments around context W signature arguments = Keeps declared (in_scope around) context W (λ V values. AreGiven declared V (map (parameter_given declared) signature.parameters) values) arguments

    pub call_of_keeps : (around : Around) (context : Context) (W : World) (callee : Callee) (signature : Signature) (arguments : Does (List Value)) (result : Option Value) → IsCallee callee signature → IsFor W callee signature result
        → GivesArguments around context W signature arguments → Keeps declared around context W (λ V x. IsReturned declared V signature.result x) (call_of program calls callee arguments result)
    call_of_keeps around context W callee signature arguments result is for h =
        scope_keeps declared program facts (most declared program) calls keep around context W (λ V x. IsReturned declared V signature.result x) _ (λ V U e x p. returned_more declared V U signature.result x e p)
        (parts.then_comes (IsException declared) (Typed declared (in_scope around) context) _ h
        (λ V e values given. call_to_keeps (in_scope around) context V callee signature values result is given (for_more W V callee signature result e for)))

    -- ---- a scalar that is an object

    held_stable : (t : LeafType) → IsStable (λ V x. IsHeld declared V t x)
    held_stable t V U e x h = held_more declared V U t x e h

    module _ (type : ObjectType) (t : LeafType) (is_leaf : leaf_of type ≡ Some t) (parameters : List Parameter) where
      abbrev giving : Signature
      giving = record { parameters = parameters; result = scalar_result type }

      one_leaf : (o : ObjectType) → leaf_of o ≡ Some t → leaf_types declared o ≡ t ∷ []
      one_leaf (scalar s) e = ap (λ x. x ∷ []) (same_leaf_found _ _ e)
      one_leaf (pointer to) e = ap (λ x. x ∷ []) (same_leaf_found _ _ e)
      one_leaf (function_pointer k) e = ap (λ x. x ∷ []) (same_leaf_found _ _ e)
      one_leaf (class c) e = absurd cc

      at_type : (W : World) (a : Address) → IsAt W a (t ∷ []) → IsAt W a (leaf_types declared type)
      at_type W a h = subst (λ ts. IsAt W a ts) (sym (one_leaf type is_leaf)) h

      scalar_place : (kind : ResultKind) (W : World) (a : Address) → IsAt W a (leaf_types declared type) → IsResult declared W (result_name_of declared kind (scalar_result type)) (Some (address a))
      scalar_place source.void W a h = h
      scalar_place source.scalar_value W a h = h
      scalar_place source.scalar_object W a h = h
      scalar_place (source.class_object c) W a h = h
      scalar_place source.reference W a h = h
      scalar_place source.exit_status W a h = h

      call_into_keeps : (around : Around) (context : Context) (W : World) (callee : Callee) (arguments : Does (List Value)) (n : ℕ) → IsCallee callee giving → IsAt W (start_of n) (t ∷ [])
          → GivesArguments around context W giving arguments → Keeps declared around context W (λ V x. IsHeld declared V t x) (call_into program calls callee arguments n)
      call_into_keeps around context W callee arguments n is at h =
          scope_keeps declared program facts (most declared program) calls keep around context W (λ V x. IsHeld declared V t x) _ (held_stable t)
          (parts.then_comes (IsException declared) (Typed declared (in_scope around) context) _ h
          (λ V e values given. parts.then_comes (IsException declared) (Typed declared (in_scope around) context) _
          (call_to_keeps (in_scope around) context V callee giving values (Some (address (start_of n))) is given (λ f definition _ _. scalar_place definition.result V (start_of n) (at_type V (start_of n) (at_more W V (start_of n) (t ∷ []) e at))))
          (λ U f x p. parts.stays_comes (IsException declared) U _ _ _ (λ X y. IsHeld declared X t y) (read (start_of n)) (reading declared U (in_scope around) context (start_of n) t [] (at_more W U (start_of n) (t ∷ []) (longer W V U e f) at)))))

      pub call_with_object_keeps : (around : Around) (context : Context) (W : World) (callee : Callee) (arguments : Does (List Value)) → IsCallee callee giving
          → ((V : World) → Extends W V → GivesArguments around context V giving arguments) → Keeps declared around context W (λ V x. IsHeld declared V t x) (call_with_object program calls callee arguments)
      call_with_object_keeps around context W callee arguments is h =
          parts.then_comes (IsException declared) (Typed declared around context) (λ V n. IsAt V (start_of n) (t ∷ [])) (making declared W around context (Typed declared around context) 1 (t ∷ []))
          (λ V e n at. parts.then_comes (IsException declared) (Typed declared around context) (λ U x. IsHeld declared U t x)
          (undone_comes declared V _ (Typed declared around context) (Typed declared around context) (Typed declared around context) (λ U x. IsHeld declared U t x) _ (end_lifetime n) (call_into_keeps around context V callee arguments n is at (h V e))
          (λ U f. parts.stays_comes (IsException declared) U _ _ _ Any (end_lifetime n) (ending declared U around context n)))
          (λ U f x p. parts.first_comes (IsException declared) (Typed declared around context U) Always (ending declared U around context n)
          (λ _ _. parts.gives_comes (IsException declared) U (Typed declared around context) (Typed declared around context) (λ X y. IsHeld declared X t y) x p)))
