-- Objects that are constructed, zeroed or made by calls, and arguments, keep a state typed, given that their parts do.
use Rattle.std.proofs.Common.{◌≡◌, refl, ℕ, pos, Bool, true, false, ◌&&◌, List, [], ◌∷◌, map, Option, Some, None}
use Rattle.std.specs.Prelude.{slice_get}
use Rattle.cx_core.specs.declared.number.IntegerType.{IntegerType}
use Rattle.cx_core.specs.Operators.{integer_of, fits_integer}
use Rattle.cx_core.specs.Tree.{ObjectType, class}
use Rattle.cx_core.specs.Program as source
use Rattle.cx_core.specs.Program.{Program, Function, Class, LeafKind}
use Rattle.cx_core.specs.Store.{Address, Value, address, null, place_in}
use Rattle.cx_core.specs.Outcome.{whole, State, Does, Nothing, nothing, ◌>>=◌, ◌>>◌, gives, skip, keep, keep_temporary, spend, write}
use Rattle.cx_core.specs.Leaving.{Calls, object}
use Rattle.cx_core.specs.Statements.{zero_leaf, zero_leaves, zero_object}
use Rattle.cx_core.specs.Calls.{by_name, by_pointer, call_of, temporary_of_call}
use Rattle.cx_core.specs.Meaning.{object_place}
use Rattle.cx_soundness.specs.Types.{made_class, LeafType, number_leaf, pointer_leaf, function_leaf, no_value, Parameter, Result, no_result, scalar_result, class_result, reference_result, status, Signature, Declared, Given, numbers, refers, null_reference, functions, a_report, Context}
use Rattle.cx_soundness.specs.Given.{signature_at, begins, where_given, then_given, given_if, leaf_types, is_whole, parameter_given, denotes}
use Rattle.cx_soundness.specs.Expressions.{is_constructed, gives_none, constructs, is_object_of, makes, makes_through, temporary_given}
use Rattle.cx_soundness.specs.Programs.{go_together, is_leaf_kind, is_class_typed}
use Rattle.cx_soundness.proofs.Same.{both_left, both_right}
use Rattle.cx_soundness.proofs.Ranges.{zero_is_number}
use Rattle.cx_soundness.proofs.Worlds.{World, IsAt, at_more, at_less, at_member, IsFunction, IsFunctionOf, IsGiven, given_more, IsHeld}
use Rattle.cx_soundness.proofs.Comes.{Always, Stays, then_stays, gives_stays, spend_all_stays, Family}
use Rattle.cx_soundness.proofs.Comes as parts
use Rattle.cx_soundness.proofs.States.{Around, start_of, IsWholeAt, IsException, Typed, of_objects, spending, keeping, keeping_temporary, writing}
use Rattle.cx_soundness.proofs.Values.{denotes_it}
use Rattle.cx_soundness.proofs.Lives.{AreGiven, Keeps, Any, Facts, most, below_most, CallsKeep}
use Rattle.cx_soundness.proofs.Leaving.{class_there}
use Rattle.cx_soundness.proofs.Objects.{object_goes}
use Rattle.cx_soundness.proofs.Called.{call_of_keeps}
use Rattle.cx_soundness.proofs.Operations.{Covers, full, Sound}
use Rattle.cx_soundness.proofs.Initials.{ArgsSound, InitSound}

module _ (declared : Declared) (program : Program) (facts : Facts declared program) (calls : Calls) (keep_calls : CallsKeep declared program (most declared program) calls) (context : Context) where
  abbrev At : ℕ → Option ObjectType → Around
  At living innermost = full declared program context living innermost

  abbrev I : ℕ → Option ObjectType → Family
  I living innermost = Typed declared (At living innermost) context

  abbrev ArgsKeep : List Parameter → Does (List Value) → Type 0
  ArgsKeep parameters m = ArgsSound declared program facts calls keep_calls context parameters m

  abbrev InitKeeps : ObjectType → (Address → Does Nothing) → Type 0
  InitKeeps type m = InitSound declared program facts calls keep_calls context type m

  then_skip : {A : Type 0} (living : ℕ) (innermost : Option ObjectType) (W : World) (P : World → A → Type 0) (m : Does A) → Keeps declared (At living innermost) context W P m → Keeps declared (At living innermost) context W Any (m >> skip)
  then_skip living innermost W P m h = parts.then_comes (IsException declared) (I living innermost) P h (λ V e x p. parts.gives_comes (IsException declared) V (I living innermost) (I living innermost) Any nothing (tt {0}))

  -- ---- by a constructor

  constructed_by : (f : ℕ) (type : ObjectType) (parameters : List Parameter) (result : Result) (are : List Parameter → Bool) (m : Does (List Value)) → signature_at declared.functions f ≡ Some (record { parameters = parameters; result = result })
      → (gives_none declared result && is_constructed declared type parameters are) ≡ true → ((ps : List Parameter) → are ps ≡ true → ArgsKeep ps m)
      → InitKeeps type (λ p. call_of program calls (by_name f) (m >>= (λ vs. gives (address p ∷ vs))) None >> skip)
  constructed_by f type [] no_result are m e h k = absurd cc
  constructed_by f type (q ∷ parameters) no_result are m e h k = λ living innermost c W p at.
      then_skip living innermost W _ _
      (call_of_keeps declared program facts calls keep_calls (At living innermost) context W (by_name f) (record { parameters = q ∷ parameters; result = no_result }) _ None e (λ g definition _ _. refl)
      (parts.then_comes (IsException declared) (I (most declared program) innermost) _ (k parameters (both_right (denotes (parameter_given declared q) (refers (leaf_types declared type))) _ h) innermost c W)
      (λ V d vs given. parts.gives_comes (IsException declared) V (I (most declared program) innermost) (I (most declared program) innermost) (λ U xs. AreGiven declared U (map (parameter_given declared) (q ∷ parameters)) xs) (address p ∷ vs)
      (denotes_it declared V (parameter_given declared q) (refers (leaf_types declared type)) (address p) (both_left _ (are parameters) h) (at_more W V p (leaf_types declared type) d at), given))))
  constructed_by f type parameters (scalar_result t) are m e h k = absurd cc
  constructed_by f type parameters (class_result t) are m e h k = absurd cc
  constructed_by f type parameters (reference_result t) are m e h k = absurd cc
  constructed_by f type parameters status are m e h k = absurd cc

  pub construct_sound : (f : ℕ) (type : ObjectType) (signature : Option Signature) (are : List Parameter → Bool) (m : Does (List Value)) → signature_at declared.functions f ≡ signature → constructs declared signature type are ≡ true
      → ((ps : List Parameter) → are ps ≡ true → ArgsKeep ps m) → InitKeeps type (λ p. call_of program calls (by_name f) (m >>= (λ vs. gives (address p ∷ vs))) None >> skip)
  construct_sound f type None are m e h k = absurd cc
  construct_sound f type (Some signature) are m e h k = constructed_by f type signature.parameters signature.result are m e h k

  -- ---- zeroed first

  module _ (around : Around) (W : World) where
    abbrev Now : State → Type 0
    Now = Typed declared around context W

    null_there : (o : Option Signature) → IsFunctionOf declared o null
    null_there None = tt {0}
    null_there (Some signature) = tt {0}

    zero_number : (o : Option IntegerType) → fits_integer o (pos 0) ≡ true
    zero_number None = refl
    zero_number (Some type) = zero_is_number type

    spend_write : (a : Address) (t : LeafType) (ts : List LeafType) (x : Value) → IsAt W a (t ∷ ts) → IsHeld declared W t x → Stays Now Now Always (spend >> write a (Some x))
    spend_write a t ts x at h = then_stays Now Always (spending declared W around context) (λ _ _. writing declared W around context a t ts (Some x) at h)

    leaf_zeroed : (t : LeafType) (kind : LeafKind) (ts : List LeafType) (a : Address) → is_leaf_kind declared t kind ≡ true → IsAt W a (t ∷ ts) → Stays Now Now Always (zero_leaf a kind)
    leaf_zeroed (number_leaf s) source.number_leaf ts a h at = spend_write a (number_leaf s) ts _ at (zero_number (integer_of s))
    leaf_zeroed (pointer_leaf to) source.pointer_leaf ts a h at = spend_write a (pointer_leaf to) ts _ at (tt {0})
    leaf_zeroed (function_leaf k) source.pointer_leaf ts a h at = spend_write a (function_leaf k) ts _ at (null_there (slice_get declared.function_types k))
    leaf_zeroed no_value source.empty_leaf ts a h at = gives_stays Now Always nothing (tt {0})
    leaf_zeroed (number_leaf s) source.pointer_leaf ts a h at = absurd cc
    leaf_zeroed (number_leaf s) source.empty_leaf ts a h at = absurd cc
    leaf_zeroed (pointer_leaf to) source.number_leaf ts a h at = absurd cc
    leaf_zeroed (pointer_leaf to) source.empty_leaf ts a h at = absurd cc
    leaf_zeroed (function_leaf k) source.number_leaf ts a h at = absurd cc
    leaf_zeroed (function_leaf k) source.empty_leaf ts a h at = absurd cc
    leaf_zeroed no_value source.number_leaf ts a h at = absurd cc
    leaf_zeroed no_value source.pointer_leaf ts a h at = absurd cc

    leaves_zeroed : (ts : List LeafType) (kinds : List LeafKind) (a : Address) → go_together (is_leaf_kind declared) ts kinds ≡ true → IsAt W a ts → Stays Now Now Always (zero_leaves a kinds)
    leaves_zeroed [] [] a h at = gives_stays Now Always nothing (tt {0})
    leaves_zeroed [] (kind ∷ kinds) a h at = absurd cc
    leaves_zeroed (t ∷ ts) [] a h at = absurd cc
    leaves_zeroed (t ∷ ts) (kind ∷ kinds) a h at =
        then_stays Now Always (leaf_zeroed t kind ts a (both_left _ _ h) at) (λ _ _. leaves_zeroed ts kinds (place_in a 1) (both_right (is_leaf_kind declared t kind) _ h) (at_member W a 1 (t ∷ ts) at))

    object_zeroed : (c : ℕ) (a : Address) → is_whole declared (class c) ≡ true → IsAt W a (leaf_types declared (class c)) → Stays Now Now Always (zero_object program calls c a)
    object_zeroed c a h at =
        then_stays Now (λ d. is_class_typed declared program.functions c (made_class (leaf_types declared (class c))) d ≡ true) (class_there declared program facts (most declared program) calls keep_calls around context W c h)
        (λ d typed. then_stays Now Always (leaves_zeroed (leaf_types declared (class c)) d.leaves a (both_left _ _ (both_left _ _ (both_left _ _ (both_left _ _ (both_left _ _ typed))))) at)
        (λ _ _. spend_all_stays Now (of_objects declared W around context) d.objects))

  pub zero_sound : (c : ℕ) (type : ObjectType) (typed : Bool) (init : Address → Does Nothing) → (is_whole declared (class c) && begins (leaf_types declared (class c)) (leaf_types declared type) && typed) ≡ true
      → (typed ≡ true → InitKeeps type init) → InitKeeps type (λ p. zero_object program calls c p >> init p)
  zero_sound c type typed init h k = λ living innermost d W p at.
      let whole = both_left _ _ h in
      parts.first_comes (IsException declared) (I living innermost W) Always (object_zeroed (At living innermost) W c p (both_left _ _ whole) (at_less W p (leaf_types declared (class c)) (leaf_types declared type) (both_right _ _ whole) at))
      (λ _ _. k (both_right _ _ h) living innermost d W p at)

  -- ---- by a call

  result_by : (f : ℕ) (type : ObjectType) (parameters : List Parameter) (result : Result) (m : Does (List Value)) → signature_at declared.functions f ≡ Some (record { parameters = parameters; result = result })
      → is_object_of declared type result ≡ true → ArgsKeep parameters m → InitKeeps type (λ p. call_of program calls (by_name f) m (Some (address p)) >> skip)
  result_by f type parameters (class_result d) m e h k = λ living innermost c W p at.
      then_skip living innermost W _ _
      (call_of_keeps declared program facts calls keep_calls (At living innermost) context W (by_name f) (record { parameters = parameters; result = class_result d }) m (Some (address p)) e
      (λ g definition _ _. at_less W p (leaf_types declared (class d)) (leaf_types declared type) h at) (k innermost c W))
  result_by f type parameters no_result m e h k = absurd cc
  result_by f type parameters (scalar_result t) m e h k = absurd cc
  result_by f type parameters (reference_result t) m e h k = absurd cc
  result_by f type parameters status m e h k = absurd cc

  pub result_of_sound : (f : ℕ) (type : ObjectType) (signature : Option Signature) (are : List Parameter → Bool) (m : Does (List Value)) → signature_at declared.functions f ≡ signature → makes declared signature type are ≡ true
      → ((ps : List Parameter) → are ps ≡ true → ArgsKeep ps m) → InitKeeps type (λ p. call_of program calls (by_name f) m (Some (address p)) >> skip)
  result_of_sound f type None are m e h k = absurd cc
  result_of_sound f type (Some signature) are m e h k = result_by f type signature.parameters signature.result m e (both_left _ _ h) (k signature.parameters (both_right (is_object_of declared type signature.result) _ h))

  through_by : (type : ObjectType) (parameters : List Parameter) (result : Result) (q : Does Value) (m : Does (List Value)) → Sound declared program context (Some (functions (record { parameters = parameters; result = result }))) q
      → is_object_of declared type result ≡ true → ArgsKeep parameters m → InitKeeps type (λ p. q >>= (λ x. call_of program calls (by_pointer x) m (Some (address p)) >> skip))
  through_by type parameters (class_result d) q m s h k = λ living innermost c W p at.
      parts.then_comes (IsException declared) (I living innermost) _ (s living innermost c W)
      (λ V f x is. then_skip living innermost V _ _
      (call_of_keeps declared program facts calls keep_calls (At living innermost) context V (by_pointer x) (record { parameters = parameters; result = class_result d }) m (Some (address p)) is
      (λ g definition _ _. at_less V p (leaf_types declared (class d)) (leaf_types declared type) h (at_more W V p (leaf_types declared type) f at)) (k innermost c V)))
  through_by type parameters no_result q m s h k = absurd cc
  through_by type parameters (scalar_result t) q m s h k = absurd cc
  through_by type parameters (reference_result t) q m s h k = absurd cc
  through_by type parameters status q m s h k = absurd cc

  pub result_through_sound : (type : ObjectType) (v : Option Given) (are : List Parameter → Bool) (q : Does Value) (m : Does (List Value)) → where_given v (λ u. makes_through declared u type are) ≡ true → Sound declared program context v q
      → ((ps : List Parameter) → are ps ≡ true → ArgsKeep ps m) → InitKeeps type (λ p. q >>= (λ x. call_of program calls (by_pointer x) m (Some (address p)) >> skip))
  result_through_sound type None are q m e h k = absurd cc
  result_through_sound type (Some (functions signature)) are q m e h k = through_by type signature.parameters signature.result q m h (both_left _ _ e) (k signature.parameters (both_right (is_object_of declared type signature.result) _ e))
  result_through_sound type (Some (numbers fits)) are q m e h k = absurd cc
  result_through_sound type (Some (refers ts)) are q m e h k = absurd cc
  result_through_sound type (Some null_reference) are q m e h k = absurd cc
  result_through_sound type (Some a_report) are q m e h k = absurd cc

  -- ---- by a call through a pointer, as a temporary

  temporary_by : (c : ℕ) (parameters : List Parameter) (result : Result) (m : Does (List Value)) → is_whole declared (class c) ≡ true → is_object_of declared (class c) result ≡ true → ArgsKeep parameters m
      → (living : ℕ) (innermost : Option ObjectType) → Covers context.caught innermost → (W : World) (x : Value) → IsFunction declared (record { parameters = parameters; result = result }) x
      → Keeps declared (At living innermost) context W (λ V y. IsGiven declared V (refers (leaf_types declared (class c))) y) (temporary_of_call program calls c x m)
  temporary_by c parameters (class_result d) m w h k living innermost covers W x is =
      parts.then_comes (IsException declared) (I living innermost) (λ V n. IsWholeAt declared V (start_of n) (class c))
      (object_goes declared program facts (most declared program) calls keep_calls (At living innermost) context context context W (class c) _ keep_temporary w
      (λ V f a at. then_skip living innermost V _ _
      (call_of_keeps declared program facts calls keep_calls (At living innermost) context V (by_pointer x) (record { parameters = parameters; result = class_result d }) m (Some (address a)) is
      (λ g definition _ _. at_less V a (leaf_types declared (class d)) (leaf_types declared (class c)) h at) (k innermost covers V)))
      (λ V n at. keeping_temporary declared V (At living innermost) context (whole n (class c)) (at, below_most declared program facts (class c) w)))
      (λ V f n at. parts.gives_comes (IsException declared) V (I living innermost) (I living innermost) (λ U y. IsGiven declared U (refers (leaf_types declared (class c))) y) (object_place n) at.at)
  temporary_by c parameters no_result m w h k living innermost covers W x is = absurd cc
  temporary_by c parameters (scalar_result t) m w h k living innermost covers W x is = absurd cc
  temporary_by c parameters (reference_result t) m w h k living innermost covers W x is = absurd cc
  temporary_by c parameters status m w h k living innermost covers W x is = absurd cc

  temporary_typed : (c : ℕ) (v : Given) (are : List Parameter → Bool) (q : Does Value) (m : Does (List Value)) → is_whole declared (class c) ≡ true → makes_through declared v (class c) are ≡ true → Sound declared program context (Some v) q
      → ((ps : List Parameter) → are ps ≡ true → ArgsKeep ps m) → Sound declared program context (Some (refers (leaf_types declared (class c)))) (q >>= (λ x. temporary_of_call program calls c x m))
  temporary_typed c (functions signature) are q m w e h k = λ living innermost covers W.
      parts.then_comes (IsException declared) (I living innermost) _ (h living innermost covers W)
      (λ V f x is. temporary_by c signature.parameters signature.result m w (both_left _ _ e) (k signature.parameters (both_right (is_object_of declared (class c) signature.result) _ e)) living innermost covers V x is)
  temporary_typed c (numbers fits) are q m w e h k = absurd cc
  temporary_typed c (refers ts) are q m w e h k = absurd cc
  temporary_typed c null_reference are q m w e h k = absurd cc
  temporary_typed c a_report are q m w e h k = absurd cc

  pub temporary_through_sound : (c : ℕ) (v : Option Given) (are : List Parameter → Bool) (q : Does Value) (m : Does (List Value)) → Sound declared program context v q
      → ((ps : List Parameter) → are ps ≡ true → ArgsKeep ps m) → Sound declared program context (then_given v (λ u. temporary_given declared c u are)) (q >>= (λ x. temporary_of_call program calls c x m))
  temporary_through_sound c None are q m h k = tt {0}
  temporary_through_sound c (Some v) are q m h k = where_typed (is_whole declared (class c) && makes_through declared v (class c) are) refl
    where
      where_typed : (b : Bool) → (is_whole declared (class c) && makes_through declared v (class c) are) ≡ b
          → Sound declared program context (given_if b (Some (refers (leaf_types declared (class c))))) (q >>= (λ x. temporary_of_call program calls c x m))
      where_typed false e = tt {0}
      where_typed true e = temporary_typed c v are q m (both_left _ _ e) (both_right (is_whole declared (class c)) _ e) h k

  -- ---- arguments

  pub no_args_sound : ArgsKeep [] (gives [])
  no_args_sound = λ innermost c W. parts.gives_comes (IsException declared) W (I (most declared program) innermost) (I (most declared program) innermost) (λ V xs. AreGiven declared V [] xs) [] (tt {0})

  reference_by : (q : Parameter) (ps : List Parameter) (v : Given) (m : Does Value) (n : Does (List Value)) → denotes (parameter_given declared q) v ≡ true → Sound declared program context (Some v) m → ArgsKeep ps n
      → ArgsKeep (q ∷ ps) (m >>= (λ x. n >>= (λ xs. gives (x ∷ xs))))
  reference_by q ps v m n e h k = λ innermost c W.
      parts.then_comes (IsException declared) (I (most declared program) innermost) (λ V x. IsGiven declared V v x) (h (most declared program) innermost c W)
      (λ V d x is. parts.then_comes (IsException declared) (I (most declared program) innermost) _ (k innermost c V)
      (λ U f xs given. parts.gives_comes (IsException declared) U (I (most declared program) innermost) (I (most declared program) innermost) (λ X ys. AreGiven declared X (map (parameter_given declared) (q ∷ ps)) ys) (x ∷ xs)
      (denotes_it declared U (parameter_given declared q) v x e (given_more declared V U v x f is), given)))

  pub reference_sound : (q : Parameter) (ps : List Parameter) (v : Option Given) (m : Does Value) (n : Does (List Value)) → where_given v (denotes (parameter_given declared q)) ≡ true → Sound declared program context v m → ArgsKeep ps n
      → ArgsKeep (q ∷ ps) (m >>= (λ x. n >>= (λ xs. gives (x ∷ xs))))
  reference_sound q ps None m n e h k = absurd cc
  reference_sound q ps (Some v) m n e h k = reference_by q ps v m n e h k

  pub object_sound : (q : Parameter) (ps : List Parameter) (type : ObjectType) (init : Address → Does Nothing) (n : Does (List Value)) → is_whole declared type ≡ true → denotes (parameter_given declared q) (refers (leaf_types declared type)) ≡ true
      → InitKeeps type init → ArgsKeep ps n → ArgsKeep (q ∷ ps) (object program calls keep type init >>= (λ i. n >>= (λ xs. gives (object_place i ∷ xs))))
  object_sound q ps type init n w e h k = λ innermost c W.
      let around = At (most declared program) innermost in
      parts.then_comes (IsException declared) (I (most declared program) innermost) (λ V i. IsWholeAt declared V (start_of i) type)
      (object_goes declared program facts (most declared program) calls keep_calls around context context context W type init keep w (λ V f a at. h (most declared program) innermost c V a at)
      (λ V i at. keeping declared V around context (whole i type) (at, below_most declared program facts type w)))
      (λ V d i at. parts.then_comes (IsException declared) (I (most declared program) innermost) _ (k innermost c V)
      (λ U f xs given. parts.gives_comes (IsException declared) U (I (most declared program) innermost) (I (most declared program) innermost) (λ X ys. AreGiven declared X (map (parameter_given declared) (q ∷ ps)) ys) (object_place i ∷ xs)
      (denotes_it declared U (parameter_given declared q) (refers (leaf_types declared type)) (object_place i) e (at_more V U (start_of i) (leaf_types declared type) f at.at), given)))
