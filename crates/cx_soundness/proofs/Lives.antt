-- What is done where a scope, a full-expression, a constructor, a handler or a call is left keeps a state typed, given that calls do.
use Rattle.std.proofs.Common.{◌≡◌, subst, arith, ℕ, suc, ◌+◌, ◌<◌, Bool, true, false, List, [], ◌∷◌, map, length, Option, Some, None}
use Rattle.std.specs.Prelude.{slice_get}
use Rattle.cx_core.specs.declared.number.IntegerType.TheVariants as integers
use Rattle.cx_core.specs.Words.{Terminated}
use Rattle.cx_core.specs.Event.{ended}
use Rattle.cx_core.specs.Tree.{ObjectType, scalar, pointer, function_pointer, class, Check}
use Rattle.cx_core.specs.Program as source
use Rattle.cx_core.specs.Meaning.{caller_checks}
use Rattle.cx_core.specs.Program.{Program, Checks, Function, Class, Field, Body, ResultKind}
use Rattle.cx_core.specs.Store.{Value}
use Rattle.cx_core.specs.Outcome.{Frame, State, Does, Nothing, ends, some, finally, undone_by, edge, set_frame}
use Rattle.cx_core.specs.Leaving.{Call, Calls, edge_if, within, in_unit}
use Rattle.cx_soundness.specs.Types as types
use Rattle.cx_soundness.specs.Types.{made_class, LeafType, Parameter, Result, no_result, scalar_result, class_result, reference_result, status, Signature, Declared, Given, refers, Context}
use Rattle.cx_soundness.specs.Given.{signature_at, same_integer, leaf_types, is_whole, leaf_of, parameter_given}
use Rattle.cx_soundness.specs.Programs.{height_of, result_name_of, are_checks_typed, is_function_typed, is_class_typed, is_destructor}
use Rattle.cx_soundness.proofs.Worlds.{World, Extends, IsReference, IsNull, IsANumber, IsGiven, given_more, reference_more, IsHeld, held_more}
use Rattle.cx_soundness.proofs.Comes.{IsEnd, Always, Stays, then_stays, gives_stays, ends_stays, Family}
use Rattle.cx_soundness.proofs.Comes as parts
use Rattle.cx_soundness.proofs.States.{Around, start_of, IsBelow, IsException, IsResult, IsFrame, Typed, whole_more, frame_more, frame_now, frame_set}

-- the checks that a unit makes of a function as Caller
abbrev pub checks_of : Program → ℕ → ℕ → Checks
checks_of program unit f = caller_checks program (λ made. ends (ended Terminated)) unit f

-- what is said of a value stays true where there are more objects
abbrev pub Any : {A : Type 0} → World → A → Type 0
Any W a = Unit {0}

abbrev pub IsStable : {A : Type 0} → (World → A → Type 0) → Type 0
IsStable {A} P = (V U : World) → Extends V U → (a : A) → P V a → P U a

pub any_stable : {A : Type 0} → IsStable {A = A} Any
any_stable V U e a h = h

module _ (declared : Declared) where
  -- ---- what calls are given and give

  abbrev pub AreGiven : World → List Given → List Value → Type 0
  AreGiven W [] [] = Unit {0}
  AreGiven W [] (x ∷ values) = ⊥
  AreGiven W (v ∷ given) [] = ⊥
  AreGiven W (v ∷ given) (x ∷ values) = IsGiven declared W v x × AreGiven W given values

  pub are_given_more : (W V : World) (given : List Given) (values : List Value) → Extends W V → AreGiven W given values → AreGiven V given values
  are_given_more W V [] [] e h = h
  are_given_more W V [] (x ∷ values) e h = h
  are_given_more W V (v ∷ given) [] e h = h
  are_given_more W V (v ∷ given) (x ∷ values) e h = (given_more declared W V v x e h.0, are_given_more W V given values e h.1)

  abbrev IsHeldIf : World → Option LeafType → Value → Type 0
  IsHeldIf W None x = ⊥
  IsHeldIf W (Some t) x = IsHeld declared W t x

  -- what a function gives
  abbrev pub IsReturned : World → Result → Value → Type 0
  IsReturned W no_result x = IsNull declared x
  IsReturned W (scalar_result type) x = IsHeldIf W (leaf_of type) x
  IsReturned W (class_result c) x = Unit {0}
  IsReturned W (reference_result to) x = IsReference declared W (leaf_types declared to) x
  IsReturned W status x = IsANumber declared (same_integer integers.Int) x

  held_if_more : (W V : World) (t : Option LeafType) (x : Value) → Extends W V → IsHeldIf W t x → IsHeldIf V t x
  held_if_more W V None x e h = h
  held_if_more W V (Some t) x e h = held_more declared W V t x e h

  pub returned_more : (W V : World) (result : Result) (x : Value) → Extends W V → IsReturned W result x → IsReturned V result x
  returned_more W V no_result x e h = h
  returned_more W V (scalar_result type) x e h = held_if_more W V (leaf_of type) x e h
  returned_more W V (class_result c) x e h = h
  returned_more W V (reference_result to) x e h = reference_more declared W V (leaf_types declared to) x e h
  returned_more W V status x e h = h

  -- ---- parts that leave the state typed in a context

  abbrev pub Goes : {A : Type 0} → Around → (now flying behind : Context) → (W : World) → (World → A → Type 0) → Does A → Type 0
  Goes around now flying behind W P m = parts.Comes (IsException declared) W (Typed declared around now W) (Typed declared around flying) (Typed declared around behind) P m

  abbrev pub Keeps : {A : Type 0} → Around → Context → (W : World) → (World → A → Type 0) → Does A → Type 0
  Keeps around context W P m = Goes around context context context W P m

  -- what comes last, in whatever way m is left, may make objects too
  pub finally_comes : {A : Type 0} (W : World) (I : State → Type 0) (S K T J : Family) (P : World → A → Type 0) (m : Does A) (last : Does Nothing)
      → IsStable P → parts.Comes (IsException declared) W I S K P m
      → ((V : World) → Extends W V → parts.Comes (IsException declared) V (K V) T J Any last)
      → ((V : World) → Extends W V → parts.Comes (IsException declared) V (S V) T T Any last)
      → parts.Comes (IsException declared) W I T J P (finally m last)
  finally_comes W I S K T J P m last stable h k l =
      parts.either_comes (IsException declared) W I K S T J P P m _ _ h
      (λ V e a p. parts.then_comes (IsException declared) J Any (k V e) (λ U f _ _. parts.gives_comes (IsException declared) U T J P a (stable V U f a p)))
      (λ V e x p. parts.then_comes (IsException declared) T Any (l V e) (λ U f _ _. parts.throws_comes (IsException declared) U T J P x (whole_more declared V U (start_of x.object) x.type f p)))

  pub undone_comes : {A : Type 0} (W : World) (I : State → Type 0) (S T J : Family) (P : World → A → Type 0) (m : Does A) (last : Does Nothing)
      → parts.Comes (IsException declared) W I S J P m
      → ((V : World) → Extends W V → parts.Comes (IsException declared) V (S V) T T Any last)
      → parts.Comes (IsException declared) W I T J P (undone_by m last)
  undone_comes W I S T J P m last h l =
      parts.either_comes (IsException declared) W I J S T J P P m _ _ h
      (λ V e a p. parts.gives_comes (IsException declared) V T J P a p)
      (λ V e x p. parts.then_comes (IsException declared) T Any (l V e) (λ U f _ _. parts.throws_comes (IsException declared) U T J P x (whole_more declared V U (start_of x.object) x.type f p)))

  pub edge_comes : {A : Type 0} (W : World) (I : State → Type 0) (S T J : Family) (P : World → A → Type 0) (m : Does A)
      → parts.Comes (IsException declared) W I S J P m → parts.Comes (IsException declared) W I T J P (edge m)
  edge_comes W I S T J P m h =
      parts.either_comes (IsException declared) W I J S T J P P m _ _ h
      (λ V e a p. parts.gives_comes (IsException declared) V T J P a p)
      (λ V e x p. parts.ends_comes (IsException declared) V (S V) T J P (ended Terminated) (tt {0}))

  pub edge_if_keeps : {A : Type 0} (around : Around) (context : Context) (W : World) (P : World → A → Type 0) (noexcept : Bool) (m : Does A) → Keeps around context W P m → Keeps around context W P (edge_if noexcept m)
  edge_if_keeps around context W P true m h = edge_comes W _ (Typed declared around context) (Typed declared around context) (Typed declared around context) P m h
  edge_if_keeps around context W P false m h = h

  -- ---- frames

  module _ (around : Around) (context : Context) where
    pub within_keeps : {A : Type 0} (other : Context) (W : World) (P : World → A → Type 0) (frame : Frame) (m : Does A) → IsFrame declared W other frame → Keeps around other W P m → IsStable P → Keeps around context W P (within frame m)
    within_keeps other W P frame m f h stable =
        parts.first_comes (IsException declared) _ (IsFrame declared W context) (frame_now declared W around context)
        (λ outer o. parts.first_comes (IsException declared) _ Always (frame_set declared W around context other frame f)
        (λ _ _. finally_comes W _ (Typed declared around other) (Typed declared around other) (Typed declared around context) (Typed declared around context) P m (set_frame outer) stable h
        (λ V e. back V e outer o) (λ V e. back V e outer o)))
      where
        back : (V : World) → Extends W V → (outer : Frame) → IsFrame declared W context outer → parts.Comes (IsException declared) V (Typed declared around other V) (Typed declared around context) (Typed declared around context) Any (set_frame outer)
        back V e outer o = parts.stays_comes (IsException declared) V _ _ _ Any (set_frame outer) (frame_set declared V around other context outer (frame_more declared W V context outer e o))

    pub in_unit_keeps : (W : World) (unit : ℕ) (m : Does Nothing) → Keeps around context W Any m → Keeps around context W Any (in_unit unit m)
    in_unit_keeps W unit m h =
        parts.first_comes (IsException declared) _ (IsFrame declared W context) (frame_now declared W around context)
        (λ frame f. within_keeps context W Any (record frame { unit = unit }) m (record { variables = f.variables; result = f.result }) h any_stable)

  -- ---- typed programs

  module _ (program : Program) where
    -- what is said of the functions, classes and checks of a typed program
    pub record Facts : Type 0 where
      pub functions : (f : ℕ) (signature : Signature) → signature_at declared.functions f ≡ Some signature
          → (definition : Function) × (slice_get program.functions f ≡ Some definition) × (is_function_typed declared program.classes signature definition ≡ true)
      pub classes : (c : ℕ) → is_whole declared (class c) ≡ true
          → (definition : Class) × (slice_get program.classes c ≡ Some definition) × (is_class_typed declared program.functions c (made_class (leaf_types declared (class c))) definition ≡ true)
      pub low : (c : ℕ) → is_whole declared (class c) ≡ true → height_of declared.heights c < length program.classes
      pub handler : (f : ℕ) → program.handler ≡ Some f → signature_at declared.functions f ≡ Some (record { parameters = types.report ∷ []; result = no_result })
      pub callers : (unit f : ℕ) (signature : Signature) (definition : Function) → signature_at declared.functions f ≡ Some signature → slice_get program.functions f ≡ Some definition
          → are_checks_typed declared signature definition.result (checks_of program unit f) ≡ true

    -- every class is below this
    abbrev pub most : ℕ
    most = length program.classes + 1

    pub below_most : Facts → (type : ObjectType) → is_whole declared type ≡ true → IsBelow declared most type
    below_most facts (class c) h = let l = facts.low c h in omega arith
    below_most facts (scalar s) h = tt {0}
    below_most facts (pointer to) h = tt {0}
    below_most facts (function_pointer type) h = tt {0}

    -- a function that may be called where so much is left for implicit calls
    abbrev pub IsLowBody : ℕ → Body Check → Type 0
    IsLowBody bound (source.implicit_constructor c) = suc (height_of declared.heights c) < bound
    IsLowBody bound (source.implicit_copy_constructor c) = suc (height_of declared.heights c) < bound
    IsLowBody bound (source.implicit_destructor c) = suc (height_of declared.heights c) < bound
    IsLowBody bound other = 0 < bound

    abbrev pub IsCallable : ℕ → ℕ → Type 0
    IsCallable bound f = (definition : Function) → slice_get program.functions f ≡ Some definition → IsLowBody bound definition.body

    pub record IsCall (W : World) (made : Call) : Type 0 where
      pub signature : Signature
      pub declares : signature_at declared.functions made.function ≡ Some signature
      pub arguments : AreGiven W (map (parameter_given declared) signature.parameters) made.arguments
      pub result : (definition : Function) → slice_get program.functions made.function ≡ Some definition → IsResult declared W (result_name_of declared definition.result signature.result) made.result

    abbrev pub IsDestructor : ℕ → Type 0
    IsDestructor f = (definition : Function) → slice_get program.functions f ≡ Some definition → is_destructor definition.body ≡ true

    -- no exception leaves the part
    abbrev pub Never : Family
    Never W s = ⊥

    -- calls leave the state as typed as they find it, whatever lies around, and no exception leaves a destructor
    pub record CallsKeep (bound : ℕ) (calls : Calls) : Type 0 where
      pub keep : (around : Around) (context : Context) (W : World) (made : Call) (is : IsCall W made) → IsCallable bound made.function → Keeps around context W (λ V x. IsReturned V is.signature.result x) (calls made)
      pub quiet : (around : Around) (context : Context) (W : World) (made : Call) → IsCall W made → IsCallable bound made.function → IsDestructor made.function
          → parts.Comes (IsException declared) W (Typed declared around context W) Never (Typed declared around context) Any (calls made)

same_found : {A : Type 0} (x y : A) → Some y ≡ Some x → x ≡ y
same_found x y e = cc

pub some_with : {A : Type 0} (I : State → Type 0) (P : A → Type 0) (o : Option A) (a : A) → o ≡ Some a → P a → Stays I I P (some o)
some_with I P None a e h = absurd cc
some_with I P (Some b) a e h = gives_stays I P b (subst P (same_found a b e) h)
