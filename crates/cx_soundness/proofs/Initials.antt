-- Calls, temporaries, initialisers and arguments keep a state typed, given that their parts do.
use Rattle.std.proofs.Common.{◌≡◌, refl, sym, ap, subst, ℕ, Bool, true, false, ◌&&◌, List, [], map, Option, Some, None}
use Rattle.std.specs.Prelude.{slice_get}
use Rattle.cx_core.specs.Tree as tree
use Rattle.cx_core.specs.Tree.{ObjectType, scalar, pointer, function_pointer, class, PointedResult, void_result}
use Rattle.cx_core.specs.Program as source
use Rattle.cx_core.specs.Program.{Program, Function, Class, LeafKind, ResultKind}
use Rattle.cx_core.specs.Store.{Address, Value}
use Rattle.cx_core.specs.Outcome.{whole, Does, Nothing, ◌>>=◌, gives, keep_temporary, write}
use Rattle.cx_core.specs.Leaving.{Calls, object}
use Rattle.cx_core.specs.Calls.{Callee, call_with_object, by_name, by_pointer, call_of, call_giving, call_through_giving}
use Rattle.cx_core.specs.Meaning.{result_kind, object_place}
use Rattle.cx_soundness.specs.Types.{LeafType, number_leaf, pointer_leaf, function_leaf, Parameter, Result, no_result, scalar_result, class_result, reference_result, status, Signature, Declared, Given, numbers, refers, null_reference, functions, a_report, Context}
use Rattle.cx_soundness.specs.Given.{signature_at, where_given, then_given, given_if, leaf_types, is_whole, leaf_of, leaf_given, holds_if, accepts, parameter_given, call_given, is_pointed}
use Rattle.cx_soundness.specs.Expressions.{called_given, through_given}
use Rattle.cx_soundness.specs.Programs.{result_name_of, is_kind, has_leaf}
use Rattle.cx_soundness.proofs.Same.{both_left}
use Rattle.cx_soundness.proofs.Worlds.{World, Extends, IsAt, at_more, IsFunction, IsGiven}
use Rattle.cx_soundness.proofs.Comes.{Always, Stays, then_stays, gives_stays, spend_all_stays, Family}
use Rattle.cx_soundness.proofs.Comes as parts
use Rattle.cx_soundness.proofs.States.{Around, start_of, IsWholeAt, IsException, IsResult, Typed, keeping_temporary, writing}
use Rattle.cx_soundness.proofs.Values.{IsGivenIf, held_given, given_held}
use Rattle.cx_soundness.proofs.Lives.{AreGiven, IsReturned, Keeps, Any, Facts, most, below_most, CallsKeep, some_with}
use Rattle.cx_soundness.proofs.Objects.{object_goes}
use Rattle.cx_soundness.proofs.Called.{IsCallee, IsFor, call_of_keeps, call_with_object_keeps}
use Rattle.cx_soundness.proofs.Operations.{Covers, full, Sound}

module _ (declared : Declared) (program : Program) (facts : Facts declared program) (calls : Calls) (keep_calls : CallsKeep declared program (most declared program) calls) (context : Context) where
  abbrev Has : World → Given → Value → Type 0
  Has W v x = IsGiven declared W v x

  abbrev At : ℕ → Option ObjectType → Around
  At living innermost = full declared program context living innermost

  abbrev Arguments : List Parameter → World → List Value → Type 0
  Arguments parameters V values = AreGiven declared V (map (parameter_given declared) parameters) values

  -- arguments for the parameters, which are kept in a scope of their own
  abbrev pub ArgsSound : List Parameter → Does (List Value) → Type 0
  ArgsSound parameters m = (innermost : Option ObjectType) → Covers context.caught innermost → (W : World) → Keeps declared (At (most declared program) innermost) context W (Arguments parameters) m

  -- an object of the type is initialised
  abbrev pub InitSound : ObjectType → (Address → Does Nothing) → Type 0
  InitSound type m = (living : ℕ) (innermost : Option ObjectType) → Covers context.caught innermost → (W : World) (p : Address) → IsAt W p (leaf_types declared type) → Keeps declared (At living innermost) context W Any (m p)

  -- ---- calls

  abbrev SoundIf : (living : ℕ) (innermost : Option ObjectType) → World → Option Given → Does Value → Type 0
  SoundIf living innermost W None m = Unit {0}
  SoundIf living innermost W (Some v) m = Keeps declared (At living innermost) context W (λ V x. Has V v x) m

  sound_by : (v : Option Given) (m : Does Value) → ((living : ℕ) (innermost : Option ObjectType) → Covers context.caught innermost → (W : World) → SoundIf living innermost W v m) → Sound declared program context v m
  sound_by None m h = tt {0}
  sound_by (Some v) m h = h

  if_given : (living : ℕ) (innermost : Option ObjectType) (W : World) (v : Option Given) (m : Does Value) → Keeps declared (At living innermost) context W (λ V x. IsGivenIf declared V v x) m → SoundIf living innermost W v m
  if_given living innermost W None m h = tt {0}
  if_given living innermost W (Some v) m h = h

  returned_given : (result : Result) (V : World) (x : Value) → IsReturned declared V result x → IsGivenIf declared V (call_given declared result) x
  returned_given no_result V x h = h
  returned_given (scalar_result (scalar s)) V x h = held_given declared V (number_leaf s) x h
  returned_given (scalar_result (pointer to)) V x h = held_given declared V (pointer_leaf to) x h
  returned_given (scalar_result (function_pointer k)) V x h = held_given declared V (function_leaf k) x h
  returned_given (scalar_result (class c)) V x h = absurd h
  returned_given (class_result c) V x h = tt {0}
  returned_given (reference_result to) V x h = h
  returned_given status V x h = tt {0}

  less_if : (living : ℕ) (innermost : Option ObjectType) (W : World) (result : Result) (m : Does Value) → Keeps declared (At living innermost) context W (λ V x. IsReturned declared V result x) m → SoundIf living innermost W (call_given declared result) m
  less_if living innermost W result m h =
      if_given living innermost W (call_given declared result) m
      (parts.comes_less (IsException declared) W _ _ (Typed declared (At living innermost) context) (Typed declared (At living innermost) context) (Typed declared (At living innermost) context) (Typed declared (At living innermost) context) _ _ m (λ s i. i) (λ V t i. i) (λ V t i. i)
      (λ V x p. returned_given result V x p) h)

  module _ (living : ℕ) (innermost : Option ObjectType) (c : Covers context.caught innermost) (W : World) (parameters : List Parameter) (m : Does (List Value)) (h : ArgsSound parameters m) where
    abbrev with_result : Result → Signature
    with_result result = record { parameters = parameters; result = result }

    leaf_given_back : (type : ObjectType) (t : LeafType) (callee : Callee) → leaf_of type ≡ Some t → IsCallee declared program facts calls keep_calls callee (with_result (scalar_result type))
        → SoundIf living innermost W (leaf_given declared t) (call_with_object program calls callee m)
    leaf_given_back type t callee e is =
        if_given living innermost W (leaf_given declared t) _
        (parts.comes_less (IsException declared) W _ _ (Typed declared (At living innermost) context) (Typed declared (At living innermost) context) (Typed declared (At living innermost) context) (Typed declared (At living innermost) context) _ (λ V x. IsGivenIf declared V (leaf_given declared t) x) _ (λ s i. i) (λ V u i. i) (λ V u i. i)
        (λ V x p. held_given declared V t x p)
        (call_with_object_keeps declared program facts calls keep_calls type t e parameters (At living innermost) context W callee m is (λ V f. h innermost c V)))

    object_given : (type : ObjectType) (callee : Callee) → has_leaf declared (leaf_of type) ≡ true → IsCallee declared program facts calls keep_calls callee (with_result (scalar_result type))
        → SoundIf living innermost W (call_given declared (scalar_result type)) (call_with_object program calls callee m)
    object_given (scalar s) callee e is = leaf_given_back (scalar s) (number_leaf s) callee refl is
    object_given (pointer to) callee e is = leaf_given_back (pointer to) (pointer_leaf to) callee refl is
    object_given (function_pointer k) callee e is = leaf_given_back (function_pointer k) (function_leaf k) callee refl is
    object_given (class d) callee e is = absurd cc

    module _ (f : ℕ) where
      abbrev IsNamed : Result → Type 0
      IsNamed result = signature_at declared.functions f ≡ Some (with_result result)

      abbrev HasKind : ResultKind → Type 0
      HasKind kind = (definition : Function) → slice_get program.functions f ≡ Some definition → definition.result ≡ kind

      called : (result : Result) (place : Option Value) → IsNamed result → IsFor declared program facts calls keep_calls W (by_name f) (with_result result) place
          → SoundIf living innermost W (call_given declared result) (call_of program calls (by_name f) m place)
      called result place e for = less_if living innermost W result _ (call_of_keeps declared program facts calls keep_calls (At living innermost) context W (by_name f) (with_result result) m place e for (h innermost c W))

      by_kind : (result : Result) (kind : ResultKind) → is_kind declared result kind ≡ true → IsNamed result → HasKind kind → SoundIf living innermost W (call_given declared result) (call_giving program calls kind f m)
      by_kind no_result source.void e n k = called no_result None n (λ g definition _ _. refl)
      by_kind no_result source.scalar_value e n k = absurd cc
      by_kind no_result source.scalar_object e n k = absurd cc
      by_kind no_result (source.class_object d) e n k = absurd cc
      by_kind no_result source.reference e n k = absurd cc
      by_kind no_result source.exit_status e n k = absurd cc
      by_kind (scalar_result type) source.scalar_value e n k = called (scalar_result type) None n (λ g definition there found. unnamed_place g definition there found)
        where
          unnamed_place : (g : ℕ) (definition : Function) → f ≡ g → slice_get program.functions g ≡ Some definition → IsResult declared W (result_name_of declared definition.result (scalar_result type)) None
          unnamed_place g definition there found = subst (λ kind. IsResult declared W (result_name_of declared kind (scalar_result type)) None) (sym (k definition (subst (λ i. slice_get program.functions i ≡ Some definition) (sym there) found))) (tt {0})
      by_kind (scalar_result type) source.scalar_object e n k = object_given type (by_name f) e n
      by_kind (scalar_result type) source.void e n k = absurd cc
      by_kind (scalar_result type) (source.class_object d) e n k = absurd cc
      by_kind (scalar_result type) source.reference e n k = absurd cc
      by_kind (scalar_result type) source.exit_status e n k = absurd cc
      by_kind (class_result d) kind e n k = tt {0}
      by_kind (reference_result to) source.reference e n k = called (reference_result to) None n (λ g definition _ _. refl)
      by_kind (reference_result to) source.void e n k = absurd cc
      by_kind (reference_result to) source.scalar_value e n k = absurd cc
      by_kind (reference_result to) source.scalar_object e n k = absurd cc
      by_kind (reference_result to) (source.class_object d) e n k = absurd cc
      by_kind (reference_result to) source.exit_status e n k = absurd cc
      by_kind status kind e n k = tt {0}

    -- through a pointer
    through : (result : Result) (kind : PointedResult) (x : Value) → is_pointed kind result ≡ true → IsFunction declared (with_result result) x → SoundIf living innermost W (call_given declared result) (call_through_giving program calls kind x m)
    through no_result void_result x e is = less_if living innermost W no_result _ (call_of_keeps declared program facts calls keep_calls (At living innermost) context W (by_pointer x) (with_result no_result) m None is (λ g definition _ _. refl) (h innermost c W))
    through (reference_result to) tree.reference_result x e is =
        less_if living innermost W (reference_result to) _ (call_of_keeps declared program facts calls keep_calls (At living innermost) context W (by_pointer x) (with_result (reference_result to)) m None is (λ g definition _ _. refl) (h innermost c W))
    through (scalar_result (scalar s)) tree.scalar_result x e is = object_given (scalar s) (by_pointer x) refl is
    through (scalar_result (pointer to)) tree.scalar_result x e is = object_given (pointer to) (by_pointer x) refl is
    through (scalar_result (function_pointer k)) tree.scalar_result x e is = object_given (function_pointer k) (by_pointer x) refl is
    through (scalar_result (class d)) tree.scalar_result x e is = tt {0}
    through no_result tree.scalar_result x e is = absurd cc
    through no_result tree.reference_result x e is = absurd cc
    through (scalar_result type) void_result x e is = absurd cc
    through (scalar_result type) tree.reference_result x e is = absurd cc
    through (reference_result to) void_result x e is = absurd cc
    through (reference_result to) tree.scalar_result x e is = absurd cc
    through (class_result d) kind x e is = tt {0}
    through status kind x e is = tt {0}

  first_if : {A : Type 0} (living : ℕ) (innermost : Option ObjectType) (W : World) (v : Option Given) (Q : A → Type 0) (m : Does A) (next : A → Does Value)
      → Stays (Typed declared (At living innermost) context W) (Typed declared (At living innermost) context W) Q m → ((a : A) → Q a → SoundIf living innermost W v (next a)) → SoundIf living innermost W v (m >>= next)
  first_if living innermost W None Q m next h k = tt {0}
  first_if living innermost W (Some v) Q m next h k = parts.first_comes (IsException declared) (Typed declared (At living innermost) context W) Q h k

  same_definition : (a b : Function) (o : Option Function) → o ≡ Some a → o ≡ Some b → b ≡ a
  same_definition a b o p q = cc

  named_call : (f : ℕ) (signature : Signature) (m : Does (List Value)) → signature_at declared.functions f ≡ Some signature → ArgsSound signature.parameters m
      → (living : ℕ) (innermost : Option ObjectType) → Covers context.caught innermost → (W : World) → SoundIf living innermost W (call_given declared signature.result) (result_kind program calls f >>= (λ kind. call_giving program calls kind f m))
  named_call f signature m e h living innermost c W =
      let known = facts.functions f signature e in
      let I = Typed declared (At living innermost) context W in
      first_if living innermost W (call_given declared signature.result) (λ (kind : ResultKind). kind ≡ known.0.result) (result_kind program calls f) _
      (then_stays I (λ (d : Function). d.result ≡ known.0.result) (some_with I (λ (d : Function). d.result ≡ known.0.result) (slice_get program.functions f) known.0 known.1 refl) (λ d p. gives_stays I (λ (kind : ResultKind). kind ≡ known.0.result) d.result p))
      (λ kind p. subst (λ k. SoundIf living innermost W (call_given declared signature.result) (call_giving program calls k f m)) (sym p)
      (by_kind living innermost c W signature.parameters m h f signature.result known.0.result (both_left _ _ (both_left _ _ known.2)) e
      (λ definition found. ap (λ (g : Function). g.result) (same_definition known.0 definition (slice_get program.functions f) known.1 found))))

  -- a call by the function's name
  pub call_sound : (f : ℕ) (signature : Option Signature) (are : List Parameter → Bool) (m : Does (List Value)) → signature_at declared.functions f ≡ signature
      → ((parameters : List Parameter) → are parameters ≡ true → ArgsSound parameters m) → Sound declared program context (called_given declared signature are) (result_kind program calls f >>= (λ kind. call_giving program calls kind f m))
  call_sound f None are m e h = tt {0}
  call_sound f (Some signature) are m e h = where_typed (are signature.parameters) (h signature.parameters)
    where
      where_typed : (b : Bool) → (b ≡ true → ArgsSound signature.parameters m) → Sound declared program context (given_if b (call_given declared signature.result)) (result_kind program calls f >>= (λ kind. call_giving program calls kind f m))
      where_typed false k = tt {0}
      where_typed true k = sound_by (call_given declared signature.result) _ (named_call f signature m e (k refl))

  then_if : (living : ℕ) (innermost : Option ObjectType) (W : World) (v : Option Given) (u : Given) (m : Does Value) (next : Value → Does Value)
      → Keeps declared (At living innermost) context W (λ V x. Has V u x) m → ((V : World) → Extends W V → (x : Value) → Has V u x → SoundIf living innermost V v (next x)) → SoundIf living innermost W v (m >>= next)
  then_if living innermost W None u m next h k = tt {0}
  then_if living innermost W (Some v) u m next h k = parts.then_comes (IsException declared) (Typed declared (At living innermost) context) (λ V x. Has V u x) h k

  through_typed : (kind : PointedResult) (u : Given) (are : List Parameter → Bool) (p : Does Value) (m : Does (List Value)) → Sound declared program context (Some u) p
      → ((parameters : List Parameter) → are parameters ≡ true → ArgsSound parameters m) → Sound declared program context (through_given declared kind u are) (p >>= (λ v. call_through_giving program calls kind v m))
  through_typed kind (functions signature) are p m h k = where_typed (is_pointed kind signature.result) (are signature.parameters) refl (k signature.parameters)
    where
      where_typed : (a b : Bool) → is_pointed kind signature.result ≡ a → (b ≡ true → ArgsSound signature.parameters m) → Sound declared program context (given_if (a && b) (call_given declared signature.result)) (p >>= (λ v. call_through_giving program calls kind v m))
      where_typed false b e f = tt {0}
      where_typed true false e f = tt {0}
      where_typed true true e f = sound_by (call_given declared signature.result) _
          (λ living innermost c W. then_if living innermost W (call_given declared signature.result) (functions signature) p _ (h living innermost c W)
          (λ V g x is. through living innermost c V signature.parameters m (f refl) signature.result kind x e is))
  through_typed kind (numbers fits) are p m h k = tt {0}
  through_typed kind (refers ts) are p m h k = tt {0}
  through_typed kind null_reference are p m h k = tt {0}
  through_typed kind a_report are p m h k = tt {0}

  pub through_sound : (kind : PointedResult) (v : Option Given) (are : List Parameter → Bool) (p : Does Value) (m : Does (List Value)) → Sound declared program context v p
      → ((parameters : List Parameter) → are parameters ≡ true → ArgsSound parameters m) → Sound declared program context (then_given v (λ u. through_given declared kind u are)) (p >>= (λ x. call_through_giving program calls kind x m))
  through_sound kind None are p m h k = tt {0}
  through_sound kind (Some u) are p m h k = through_typed kind u are p m h k

  -- ---- objects

  pub temporary_sound : (type : ObjectType) (typed : Bool) (init : Address → Does Nothing) → (typed ≡ true → InitSound type init)
      → Sound declared program context (given_if (is_whole declared type && typed) (Some (refers (leaf_types declared type)))) (object program calls keep_temporary type init >>= (λ n. gives (object_place n)))
  temporary_sound type typed init h = where_whole (is_whole declared type) typed refl h
    where
      where_whole : (a b : Bool) → is_whole declared type ≡ a → (b ≡ true → InitSound type init) → Sound declared program context (given_if (a && b) (Some (refers (leaf_types declared type)))) (object program calls keep_temporary type init >>= (λ n. gives (object_place n)))
      where_whole false b e k = tt {0}
      where_whole true false e k = tt {0}
      where_whole true true e k = λ living innermost c W.
          parts.then_comes (IsException declared) (Typed declared (At living innermost) context) (λ V n. IsWholeAt declared V (start_of n) type)
          (object_goes declared program facts (most declared program) calls keep_calls (At living innermost) context context context W type init keep_temporary e (λ V f a at. k refl living innermost c V a at)
          (λ V n at. keeping_temporary declared V (At living innermost) context (whole n type) (at, below_most declared program facts type e)))
          (λ V f n at. parts.gives_comes (IsException declared) V (Typed declared (At living innermost) context) (Typed declared (At living innermost) context) (λ U x. Has U (refers (leaf_types declared type)) x) (object_place n) at.at)

  written_with : (type : ObjectType) (v : Option Given) (m : Does Value) → where_given v (accepts declared type) ≡ true → Sound declared program context v m → InitSound type (λ p. m >>= (λ x. write p (Some x)))
  written_with type None m e h = absurd cc
  written_with type (Some v) m e h = λ living innermost c W p at.
      parts.then_comes (IsException declared) (Typed declared (At living innermost) context) (λ V x. Has V v x) (h living innermost c W)
      (λ V f x is. parts.stays_comes (IsException declared) V _ _ _ Any (write p (Some x)) (leaf_written type e living innermost V p (at_more W V p (leaf_types declared type) f at) x is))
    where
      leaf_written : (o : ObjectType) → holds_if declared (leaf_of o) v ≡ true → (living : ℕ) (innermost : Option ObjectType) (V : World) (p : Address) → IsAt V p (leaf_types declared o) → (x : Value) → Has V v x
          → Stays (Typed declared (At living innermost) context V) (Typed declared (At living innermost) context V) Always (write p (Some x))
      leaf_written (scalar s) e living innermost V p at x is = writing declared V (At living innermost) context p (number_leaf s) [] (Some x) at (given_held declared V (number_leaf s) v x e is)
      leaf_written (pointer to) e living innermost V p at x is = writing declared V (At living innermost) context p (pointer_leaf to) [] (Some x) at (given_held declared V (pointer_leaf to) v x e is)
      leaf_written (function_pointer k) e living innermost V p at x is = writing declared V (At living innermost) context p (function_leaf k) [] (Some x) at (given_held declared V (function_leaf k) v x e is)
      leaf_written (class d) e living innermost V p at x is = absurd cc

  pub value_sound : (type : ObjectType) (v : Option Given) (m : Does Value) → where_given v (accepts declared type) ≡ true → Sound declared program context v m → InitSound type (λ p. m >>= (λ x. write p (Some x)))
  value_sound type v m e h = written_with type v m e h
