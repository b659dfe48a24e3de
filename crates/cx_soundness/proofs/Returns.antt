-- Results that are returned, loops and sequences keep a state typed, given that their parts do.
use Rattle.std.proofs.Common.{◌≡◌, refl, sym, ap, ◌∙◌, subst, ℕ, zero, suc, Bool, true, [], ◌∷◌, Option, Some, None}
use Rattle.cx_types.specs.declared.value_type.Scalar.TheVariants as scalars
use Rattle.cx_core.specs.Tree.{ObjectType, scalar, pointer, function_pointer, class}
use Rattle.cx_core.specs.Program as source
use Rattle.cx_core.specs.Program.{Program, ResultKind}
use Rattle.cx_core.specs.Store.{Address, Value, null}
use Rattle.cx_core.specs.Event.{going}
use Rattle.cx_core.specs.Outcome.{State, Does, Nothing, ◌>>=◌, ◌>>◌, gives, place_of, write}
use Rattle.cx_core.specs.Leaving.{Calls, full_expression}
use Rattle.cx_core.specs.Statements.{Completion, on_to_next, break, continue, return, completed, sequence, after_turn, turns, loop}
use Rattle.cx_core.specs.Calls.{result_stored, returned, returned_object}
use Rattle.cx_soundness.specs.Types.{LeafType, number_leaf, pointer_leaf, function_leaf, Result, no_result, scalar_result, class_result, reference_result, status, Declared, Given, refers, ResultName, unnamed, named, Context}
use Rattle.cx_soundness.specs.Given.{where_given, leaf_types, leaf_of, holds_if, accepts}
use Rattle.cx_soundness.specs.Statements.{returns_value, returns_reference}
use Rattle.cx_soundness.specs.Programs.{result_name_of}
use Rattle.cx_soundness.proofs.Worlds.{World, IsAt, IsReference, IsGiven, given_more, IsHeld}
use Rattle.cx_soundness.proofs.Comes.{Always, Stays, then_stays, gives_stays, Family}
use Rattle.cx_soundness.proofs.Comes as parts
use Rattle.cx_soundness.proofs.States.{Around, IsResult, IsFrame, IsException, Typed, spending, frame_now, placing, writing, result_named}
use Rattle.cx_soundness.proofs.Values.{given_held, held_given, denotes_it}
use Rattle.cx_soundness.proofs.Lives.{IsReturned, returned_more, Goes, Keeps, Any, any_stable, IsStable, Facts, most, CallsKeep}
use Rattle.cx_soundness.proofs.Leaving.{full_goes}
use Rattle.cx_soundness.proofs.Operations.{Covers, Sound}
use Rattle.cx_soundness.proofs.Initials.{InitSound}

module _ (declared : Declared) (result : Result) where
  -- how a statement of a function with the result is left
  abbrev pub IsLeft : World → Completion → Type 0
  IsLeft W (return x) = IsReturned declared W result x
  IsLeft W on_to_next = Unit {0}
  IsLeft W break = Unit {0}
  IsLeft W continue = Unit {0}

  pub left_stable : IsStable IsLeft
  left_stable V U e (return x) h = returned_more declared V U result x e h
  left_stable V U e on_to_next h = h
  left_stable V U e break h = h
  left_stable V U e continue h = h

  module _ (around : Around) where
    -- ---- sequences and loops

    pub goes_on : (context : Context) (flying : Context) (W : World) → Goes declared around context flying context W IsLeft (gives on_to_next)
    goes_on context flying W = parts.gives_comes (IsException declared) W (Typed declared around flying) (Typed declared around context) IsLeft on_to_next (tt {0})

    pub completed_goes : (now flying behind : Context) (W : World) (m : Does Nothing) → Goes declared around now flying behind W Any m → Goes declared around now flying behind W IsLeft (completed m)
    completed_goes now flying behind W m h = parts.then_comes (IsException declared) (Typed declared around behind) Any h (λ V _ _ _. goes_on behind flying V)

    pub sequence_goes : (context flying : Context) (W : World) (rest : Does Completion) (c : Completion) → IsLeft W c → Goes declared around context flying context W IsLeft rest → Goes declared around context flying context W IsLeft (sequence rest c)
    sequence_goes context flying W rest on_to_next is h = h
    sequence_goes context flying W rest (return x) is h = parts.gives_comes (IsException declared) W (Typed declared around flying) (Typed declared around context) IsLeft (return x) is
    sequence_goes context flying W rest break is h = parts.gives_comes (IsException declared) W (Typed declared around flying) (Typed declared around context) IsLeft break is
    sequence_goes context flying W rest continue is h = parts.gives_comes (IsException declared) W (Typed declared around flying) (Typed declared around context) IsLeft continue is

    module _ (context : Context) (condition : Does Bool) (step body : Does Completion)
        (hc : (W : World) → Keeps declared around context W Any condition) (hs : (W : World) → Keeps declared around context W IsLeft step) (hb : (W : World) → Keeps declared around context W IsLeft body) where
      turn_goes : (W : World) (more : Does Completion) (c : Completion) → IsLeft W c → ((V : World) → Keeps declared around context V IsLeft more) → Keeps declared around context W IsLeft (after_turn step more c)
      turn_goes W more on_to_next is h = parts.then_comes (IsException declared) (Typed declared around context) IsLeft (hs W) (λ V _ _ _. h V)
      turn_goes W more continue is h = parts.then_comes (IsException declared) (Typed declared around context) IsLeft (hs W) (λ V _ _ _. h V)
      turn_goes W more break is h = goes_on context context W
      turn_goes W more (return x) is h = parts.gives_comes (IsException declared) W (Typed declared around context) (Typed declared around context) IsLeft (return x) is

      turns_go : (n : ℕ) (W : World) → Keeps declared around context W IsLeft (turns n condition step body)
      unfolding turns
      turns_go zero W = parts.ends_comes (IsException declared) W _ (Typed declared around context) (Typed declared around context) IsLeft going (tt {0})
      turns_go (suc n) W =
          parts.first_comes (IsException declared) (Typed declared around context W) Always (spending declared W around context)
          (λ _ _. parts.then_comes (IsException declared) (Typed declared around context) Any (hc W)
          (λ V _ b _. parts.if_comes (IsException declared) V _ (Typed declared around context) (Typed declared around context) IsLeft b _ _
          (parts.then_comes (IsException declared) (Typed declared around context) IsLeft (hb V) (λ U _ c is. turn_goes U (turns n condition step body) c is (turns_go n)))
          (goes_on context context V)))

      pub loop_keeps : (W : World) → Keeps declared around context W IsLeft (loop condition step body)
      unfolding loop
      loop_keeps W = record { comes = λ s i. (turns_go s.budget W).comes s i }

  -- ---- `return`

  module _ (program : Program) (facts : Facts declared program) (calls : Calls) (keep : CallsKeep declared program (most declared program) calls) (kind : ResultKind) where
    module _ (around : Around) (context : Context) (W : World) where
      abbrev Now : State → Type 0
      Now = Typed declared around context W

      -- a scalar is stored at its place, where it has one
      leaf_stored : (t : LeafType) (x place : Value) → IsReference declared W (t ∷ []) place → IsHeld declared W t x → Stays Now Now (IsHeld declared W t) (place_of place >>= (λ a. write a (Some x)) >> gives x)
      leaf_stored t x place h is =
          then_stays Now Always
          (then_stays Now (λ a. IsAt W a (t ∷ [])) (placing declared W around context (t ∷ []) place h) (λ a at. writing declared W around context a t [] (Some x) at is))
          (λ _ _. gives_stays Now (IsHeld declared W t) x is)

      unnamed_stored : (t : LeafType) (x : Value) (place : Option Value) → IsResult declared W (unnamed (refers (t ∷ []))) place → IsHeld declared W t x → Stays Now Now (IsHeld declared W t) (result_stored program calls place x)
      unnamed_stored t x None h is = gives_stays Now (IsHeld declared W t) x is
      unnamed_stored t x (Some place) h is = leaf_stored t x place h is

      named_stored : (t : LeafType) (x : Value) (place : Option Value) → IsResult declared W (named (refers (t ∷ []))) place → IsHeld declared W t x → Stays Now Now (IsHeld declared W t) (result_stored program calls place x)
      named_stored t x None h is = absurd h
      named_stored t x (Some place) h is = leaf_stored t x place h is

      by_kind : (k : ResultKind) (type : ObjectType) (t : LeafType) (x : Value) (place : Option Value) → leaf_types declared type ≡ t ∷ [] → IsResult declared W (result_name_of declared k (scalar_result type)) place → IsHeld declared W t x
          → Stays Now Now (IsHeld declared W t) (result_stored program calls place x)
      by_kind source.scalar_object type t x place e h is = named_stored t x place (subst (λ ts. IsResult declared W (named (refers ts)) place) e h) is
      by_kind source.void type t x place e h is = unnamed_stored t x place (subst (λ ts. IsResult declared W (unnamed (refers ts)) place) e h) is
      by_kind source.scalar_value type t x place e h is = unnamed_stored t x place (subst (λ ts. IsResult declared W (unnamed (refers ts)) place) e h) is
      by_kind (source.class_object c) type t x place e h is = unnamed_stored t x place (subst (λ ts. IsResult declared W (unnamed (refers ts)) place) e h) is
      by_kind source.reference type t x place e h is = unnamed_stored t x place (subst (λ ts. IsResult declared W (unnamed (refers ts)) place) e h) is
      by_kind source.exit_status type t x place e h is = unnamed_stored t x place (subst (λ ts. IsResult declared W (unnamed (refers ts)) place) e h) is

      scalar_stored : (type : ObjectType) (v : Given) (x : Value) (place : Option Value) → holds_if declared (leaf_of type) v ≡ true → IsGiven declared W v x → IsResult declared W (result_name_of declared kind (scalar_result type)) place
          → Stays Now Now (IsReturned declared W (scalar_result type)) (result_stored program calls place x)
      scalar_stored (scalar s) v x place e is h = by_kind kind (scalar s) (number_leaf s) x place refl h (given_held declared W (number_leaf s) v x e is)
      scalar_stored (pointer to) v x place e is h = by_kind kind (pointer to) (pointer_leaf to) x place refl h (given_held declared W (pointer_leaf to) v x e is)
      scalar_stored (function_pointer k) v x place e is h = by_kind kind (function_pointer k) (function_leaf k) x place refl h (given_held declared W (function_leaf k) v x e is)
      scalar_stored (class c) v x place e is h = absurd cc

      none_stored : (v : Given) (x : Value) (place : Option Value) → place ≡ None → accepts declared (scalar scalars.Int) v ≡ true → IsGiven declared W v x → Stays Now Now (IsReturned declared W status) (result_stored program calls place x)
      none_stored v x None e a is = gives_stays Now (IsReturned declared W status) x (held_given declared W (number_leaf scalars.Int) x (given_held declared W (number_leaf scalars.Int) v x a is))
      none_stored v x (Some place) e a is = absurd cc

      stored_by : (r : Result) (v : Given) (x : Value) (place : Option Value) → returns_value declared r v ≡ true → IsGiven declared W v x → IsResult declared W (result_name_of declared kind r) place → Stays Now Now (IsReturned declared W r) (result_stored program calls place x)
      stored_by (scalar_result type) v x place e is h = scalar_stored type v x place e is h
      stored_by status v x place e is h = none_stored v x place h e is
      stored_by no_result v x place e is h = absurd cc
      stored_by (class_result c) v x place e is h = absurd cc
      stored_by (reference_result to) v x place e is h = absurd cc

    module _ (around : Around) (context : Context) (plain : context.caught ≡ None) (names : context.result ≡ result_name_of declared kind result) where
      covered : Covers context.caught around.innermost
      covered = subst (λ c. Covers c around.innermost) (sym plain) (tt {0})

      abbrev in_full : Around
      in_full = record around { temporaries = most declared program }

      value_by : (v : Option Given) (m : Does Value) → where_given v (returns_value declared result) ≡ true → Sound declared program context v m → (W : World) → Keeps declared around context W (λ V x. IsReturned declared V result x) (returned program calls m)
      value_by None m e h W = absurd cc
      value_by (Some v) m e h W =
          full_goes declared program facts (most declared program) calls keep around context context context W (λ V x. IsReturned declared V result x) _ (λ V U f x p. returned_more declared V U result x f p)
          (parts.then_comes (IsException declared) (Typed declared in_full context) (λ V x. IsGiven declared V v x) (h around.living around.innermost covered W)
          (λ V _ x is. parts.first_comes (IsException declared) (Typed declared in_full context V) (IsFrame declared V context) (frame_now declared V in_full context)
          (λ frame f. parts.stays_comes (IsException declared) V _ (Typed declared in_full context) (Typed declared in_full context) (λ U y. IsReturned declared U result y) (result_stored program calls frame.result x)
          (stored_by in_full context V result v x frame.result e is (subst (λ (n : ResultName). IsResult declared V n frame.result) names f.result)))))

      pub return_value_keeps : (v : Option Given) (m : Does Value) → where_given v (returns_value declared result) ≡ true → Sound declared program context v m → (W : World) → Keeps declared around context W IsLeft (returned program calls m >>= (λ x. gives (return x)))
      return_value_keeps v m e h W =
          parts.then_comes (IsException declared) (Typed declared around context) (λ V x. IsReturned declared V result x) (value_by v m e h W)
          (λ V _ x is. parts.gives_comes (IsException declared) V (Typed declared around context) (Typed declared around context) IsLeft (return x) is)

      reference_returned : (r : Result) (v : Given) (V : World) (x : Value) → returns_reference declared r v ≡ true → IsGiven declared V v x → IsReturned declared V r x
      reference_returned (reference_result to) v V x e is = denotes_it declared V (refers (leaf_types declared to)) v x e is
      reference_returned no_result v V x e is = absurd cc
      reference_returned (scalar_result type) v V x e is = absurd cc
      reference_returned (class_result c) v V x e is = absurd cc
      reference_returned status v V x e is = absurd cc

      pub return_reference_keeps : (v : Option Given) (m : Does Value) → where_given v (returns_reference declared result) ≡ true → Sound declared program context v m → (W : World) → Keeps declared around context W IsLeft (full_expression program calls m >>= (λ x. gives (return x)))
      return_reference_keeps None m e h W = absurd cc
      return_reference_keeps (Some v) m e h W =
          parts.then_comes (IsException declared) (Typed declared around context) (λ V x. IsGiven declared V v x)
          (full_goes declared program facts (most declared program) calls keep around context context context W (λ V x. IsGiven declared V v x) m (λ V U f x p. given_more declared V U v x f p) (h around.living around.innermost covered W))
          (λ V _ x is. parts.gives_comes (IsException declared) V (Typed declared around context) (Typed declared around context) IsLeft (return x) (reference_returned result v V x e is))

      -- a class object is initialised at its place
      pub return_object_keeps : (c : ℕ) (init : Address → Does Nothing) → result ≡ class_result c → InitSound declared program facts calls keep context (class c) init → (W : World) → Keeps declared around context W IsLeft (returned_object program calls init >> gives (return null))
      return_object_keeps c init e h W =
          parts.then_comes (IsException declared) (Typed declared around context) Any
          (full_goes declared program facts (most declared program) calls keep around context context context W Any _ any_stable
          (parts.first_comes (IsException declared) (Typed declared in_full context W) (IsFrame declared W context) (frame_now declared W in_full context)
          (λ frame f. parts.first_comes (IsException declared) (Typed declared in_full context W) (λ x. IsReference declared W (leaf_types declared (class c)) x)
          (result_named declared W in_full context (refers (leaf_types declared (class c))) frame (names ∙ ap (λ r. result_name_of declared kind r) e) f)
          (λ place p. parts.first_comes (IsException declared) (Typed declared in_full context W) (λ a. IsAt W a (leaf_types declared (class c))) (placing declared W in_full context (leaf_types declared (class c)) place p)
          (λ a at. h around.living around.innermost covered W a at)))))
          (λ V _ _ _. parts.gives_comes (IsException declared) V (Typed declared around context) (Typed declared around context) IsLeft (return null) (subst (λ r. IsReturned declared V r null) (sym e) (tt {0})))
