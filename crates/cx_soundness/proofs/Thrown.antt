-- Exceptions that are thrown and caught keep a state typed, given that their parts do.
use Rattle.std.proofs.Common.{◌≡◌, refl, sym, ap, subst, ℕ, nat_eq, true, List, [], ◌∷◌, length, Option, Some, None}
use Rattle.std.specs.List.{All}
use Rattle.std.proofs.lemmas.List.Elements.{All-head}
use Rattle.cx_types.specs.declared.value_type.Scalar.{Scalar}
use Rattle.cx_types.specs.declared.value_type.Scalar.TheVariants as scalars
use Rattle.cx_types.specs.Scalar.{same_scalar}
use Rattle.cx_core.specs.Words.{Terminated}
use Rattle.cx_core.specs.Event.{throw, catch, ended}
use Rattle.cx_core.specs.Tree.{ObjectType, scalar, pointer, function_pointer, class, CatchParameter, unnamed, reference, object}
use Rattle.cx_core.specs.Program.{Program}
use Rattle.cx_core.specs.Store.{Address}
use Rattle.cx_core.specs.Outcome.{Exception, State, Does, Nothing, nothing, skip}
use Rattle.cx_core.specs.Leaving.{Calls, full_expression}
use Rattle.cx_core.specs.Operators.{bind}
use Rattle.cx_core.specs.Statements.{Completion, same_type, type_name, throw_of, rethrow_of, rethrown, handled, variable_of}
use Rattle.cx_core.specs.Meaning.{object_place, init, catch_parameter}
use Rattle.cx_soundness.specs.Types.{Result, Declared, refers, Context}
use Rattle.cx_soundness.specs.Given.{leaf_types, is_whole}
use Rattle.cx_soundness.specs.Statements.{is_caught, object_slot, is_typed_parameter, behind_parameter}
use Rattle.cx_soundness.proofs.Same.{both_left, both_right, equal_numbers}
use Rattle.cx_soundness.proofs.Worlds.{World, IsAt}
use Rattle.cx_soundness.proofs.Comes.{Always, Stays, then_stays, gives_stays, append_stays, Family}
use Rattle.cx_soundness.proofs.Comes as parts
use Rattle.cx_soundness.proofs.States.{Around, start_of, IsWholeAt, IsException, Typed, AreHeld, of_objects, spending, held_now}
use Rattle.cx_soundness.proofs.Lives.{Goes, Keeps, Any, edge_comes, Facts, most, below_most, CallsKeep}
use Rattle.cx_soundness.proofs.Leaving.{full_goes, scope_keeps}
use Rattle.cx_soundness.proofs.Objects.{object_goes, holding_keeps}
use Rattle.cx_soundness.proofs.Operations.{Covers}
use Rattle.cx_soundness.proofs.Initials.{InitSound}
use Rattle.cx_soundness.proofs.Trees.{init_keeps}
use Rattle.cx_soundness.proofs.Slots.{of_block, fewer, binding, variable_goes}
use Rattle.cx_soundness.proofs.Returns.{IsLeft, left_stable}

equal_scalar : (a b : Scalar) → same_scalar a b ≡ true → a ≡ b
equal_scalar scalars.Bool scalars.Bool h = refl
equal_scalar scalars.Char scalars.Char h = refl
equal_scalar scalars.Int scalars.Int h = refl
equal_scalar scalars.Unsigned scalars.Unsigned h = refl
equal_scalar scalars.LongLong scalars.LongLong h = refl
equal_scalar scalars.UnsignedLongLong scalars.UnsignedLongLong h = refl
equal_scalar scalars.AssertionKind scalars.AssertionKind h = refl
equal_scalar scalars.EvaluationSemantic scalars.EvaluationSemantic h = refl
equal_scalar scalars.DetectionMode scalars.DetectionMode h = refl
equal_scalar scalars.Null scalars.Null h = refl
equal_scalar scalars.Literal scalars.Literal h = refl
equal_scalar scalars.Location scalars.Location h = refl
equal_scalar _ _ h = absurd cc

-- a type that is caught is that of the exception
equal_caught : (a b : ObjectType) → same_type a b ≡ true → is_caught b ≡ true → a ≡ b
equal_caught (scalar a) (scalar b) h k = ap scalar (equal_scalar a b h)
equal_caught (class a) (class b) h k = ap class (equal_numbers a b h)
equal_caught (scalar a) (pointer b) h k = absurd cc
equal_caught (scalar a) (function_pointer b) h k = absurd cc
equal_caught (scalar a) (class b) h k = absurd cc
equal_caught (class a) (scalar b) h k = absurd cc
equal_caught (class a) (pointer b) h k = absurd cc
equal_caught (class a) (function_pointer b) h k = absurd cc
equal_caught (pointer a) (scalar b) h k = absurd cc
equal_caught (pointer a) (pointer b) h k = absurd cc
equal_caught (pointer a) (function_pointer b) h k = absurd cc
equal_caught (pointer a) (class b) h k = absurd cc
equal_caught (function_pointer a) (scalar b) h k = absurd cc
equal_caught (function_pointer a) (pointer b) h k = absurd cc
equal_caught (function_pointer a) (function_pointer b) h k = absurd cc
equal_caught (function_pointer a) (class b) h k = absurd cc

module _ (declared : Declared) (program : Program) (facts : Facts declared program) (calls : Calls) (keep : CallsKeep declared program (most declared program) calls) (result : Result) where
  abbrev Left : World → Completion → Type 0
  Left W c = IsLeft declared result W c

  -- ---- `throw`

  pub throw_keeps : (around : Around) (context : Context) (W : World) (type : ObjectType) (i : Address → Does Nothing) → context.caught ≡ None → is_whole declared type ≡ true → InitSound declared program facts calls keep context type i
      → Keeps declared around context W Left (full_expression program calls (throw_of program calls type i))
  throw_keeps around context W type i plain w h =
      full_goes declared program facts (most declared program) calls keep around context context context W Left _ (left_stable declared result)
      (parts.then_comes (IsException declared) (Typed declared inner context) (λ V n. IsWholeAt declared V (start_of n) type)
      (object_goes declared program facts (most declared program) calls keep inner context context context W type i (λ _. skip) w
      (λ V f a at. h around.living around.innermost (subst (λ c. Covers c around.innermost) (sym plain) (tt {0})) V a at) (λ V n at. gives_stays (Typed declared inner context V) Always nothing (tt {0})))
      (λ V _ n at. parts.first_comes (IsException declared) (Typed declared inner context V) Always (spending declared V inner context)
      (λ _ _. parts.first_comes (IsException declared) (Typed declared inner context V) Always (append_stays (Typed declared inner context V) (of_objects declared V inner context) (throw (type_name program type)))
      (λ _ _. parts.throws_comes (IsException declared) V (Typed declared inner context) (Typed declared inner context) Left (record { object = n; type = type }) at))))
    where
      inner : Around
      inner = record around { temporaries = most declared program }

  rethrown_by : (around : Around) (context : Context) (W : World) (held : List Exception) → All (IsException declared W) held → Keeps declared around context W Left (rethrow_of program calls held)
  rethrown_by around context W [] all = parts.ends_comes (IsException declared) W _ (Typed declared around context) (Typed declared around context) Left (ended Terminated) (tt {0})
  rethrown_by around context W (e ∷ held) all =
      parts.first_comes (IsException declared) (Typed declared around context W) Always (append_stays (Typed declared around context W) (of_objects declared W around context) (throw (type_name program e.type)))
      (λ _ _. parts.throws_comes (IsException declared) W (Typed declared around context) (Typed declared around context) Left e (All-head (IsException declared W) e held all))

  pub rethrow_keeps : (around : Around) (context : Context) (W : World) → Keeps declared around context W Left (rethrown program calls)
  rethrow_keeps around context W =
      parts.first_comes (IsException declared) (Typed declared around context W) (AreHeld declared W around context)
      (then_stays (Typed declared around context W) Always (spending declared W around context) (λ _ _. held_now declared W around context))
      (λ held are. rethrown_by around context W held are.0)

  -- ---- handlers

  abbrev while_held : ℕ → ObjectType → Around
  while_held temporaries type = of_block declared program facts calls keep temporaries (Some type)

  pub handled_keeps : (temporaries : ℕ) (innermost : Option ObjectType) (context within : Context) (W : World) (e : Exception) (parameter : Does Nothing) (block : Does Completion) → IsException declared W e
      → ((V : World) (s : State) → Typed declared (while_held temporaries e.type) within V s → Typed declared (while_held temporaries e.type) context V s)
      → Goes declared (while_held temporaries e.type) context context within W Any parameter
      → ((V : World) → Keeps declared (while_held temporaries e.type) within V Left block)
      → Keeps declared (of_block declared program facts calls keep temporaries innermost) context W Left (handled program calls e parameter block)
  handled_keeps temporaries innermost context within W e parameter block flies wider h k =
      let around = of_block declared program facts calls keep temporaries innermost in
      let inner = while_held temporaries e.type in
      parts.first_comes (IsException declared) (Typed declared around context W) Always (append_stays (Typed declared around context W) (of_objects declared W around context) (catch (type_name program e.type)))
      (λ _ _. holding_keeps declared program facts (most declared program) calls keep around context W Left e _ (left_stable declared result) flies (below_most declared program facts e.type flies.defined)
      (scope_keeps declared program facts (most declared program) calls keep inner context W Left _ (left_stable declared result)
      (parts.then_comes (IsException declared) (Typed declared inner within) Any
      (edge_comes declared W (Typed declared inner context W) (Typed declared inner context) (Typed declared inner context) (Typed declared inner within) Any parameter h)
      (λ V _ _ _. parts.comes_less (IsException declared) V (Typed declared inner within V) (Typed declared inner within V) (Typed declared inner within) (Typed declared inner context) (Typed declared inner within) (Typed declared inner context) Left Left block (λ s i. i) wider wider (λ U x p. p) (k V)))))

  -- the parameter of a handler of the type
  pub parameter_goes : (temporaries : ℕ) (context : Context) (W : World) (type : ObjectType) (p : CatchParameter) (e : Exception) → context.caught ≡ None → e.type ≡ type → IsException declared W e → is_typed_parameter declared context type p ≡ true
      → Goes declared (while_held temporaries e.type) context context (behind_parameter declared context type p) W Any (catch_parameter program calls p e)
  parameter_goes temporaries context W type unnamed e plain same flies h = parts.gives_comes (IsException declared) W (Typed declared (while_held temporaries e.type) context) (Typed declared (while_held temporaries e.type) context) Any nothing (tt {0})
  parameter_goes temporaries context W type (reference slot) e plain same flies h =
      parts.stays_comes (IsException declared) W _ (Typed declared (while_held temporaries e.type) context) (Typed declared (while_held temporaries e.type) (object_slot declared context type)) Any (bind slot (object_place e.object))
      (binding declared W context slot (refers (leaf_types declared type)) (object_place e.object) (equal_numbers slot (length context.slots) h) (subst (λ t. IsAt W (start_of e.object) (leaf_types declared t)) same flies.at) (while_held temporaries e.type))
  parameter_goes temporaries context W type (object slot is_named i) e plain same flies h =
      let first = both_left _ _ h in
      subst (λ t. Goes declared (while_held temporaries t) context context (object_slot declared context type) W Any (variable_of program calls slot t (init program calls i))) (sym same)
      (variable_goes declared program facts calls keep temporaries (Some type) context W slot type (init program calls i) (equal_numbers slot (length context.slots) (both_left _ _ first)) (both_right (nat_eq slot (length context.slots)) _ first)
      (λ V a at. init_keeps declared program facts calls keep (record (object_slot declared context type) { caught = Some type }) i type (both_right _ _ h) (most declared program) (Some type) refl V a at))

  wider_parameter : (around : Around) (context : Context) (type : ObjectType) (p : CatchParameter) (V : World) (s : State) → Typed declared around (behind_parameter declared context type p) V s → Typed declared around context V s
  wider_parameter around context type unnamed V s i = i
  wider_parameter around context type (reference slot) V s i = fewer declared around context (refers (leaf_types declared type)) V s i
  wider_parameter around context type (object slot is_named j) V s i = fewer declared around context (refers (leaf_types declared type)) V s i

  pub caught_keeps : (temporaries : ℕ) (innermost : Option ObjectType) (context : Context) (W : World) (type : ObjectType) (p : CatchParameter) (e : Exception) (block : Does Completion) → context.caught ≡ None → IsException declared W e
      → same_type e.type type ≡ true → is_caught type ≡ true → is_typed_parameter declared context type p ≡ true
      → ((V : World) → Keeps declared (while_held temporaries e.type) (behind_parameter declared context type p) V Left block)
      → Keeps declared (of_block declared program facts calls keep temporaries innermost) context W Left (handled program calls e (catch_parameter program calls p e) block)
  caught_keeps temporaries innermost context W type p e block plain flies same caught typed k =
      handled_keeps temporaries innermost context (behind_parameter declared context type p) W e _ block flies (wider_parameter (while_held temporaries e.type) context type p)
      (parameter_goes temporaries context W type p e plain (equal_caught e.type type same caught) flies typed) k
