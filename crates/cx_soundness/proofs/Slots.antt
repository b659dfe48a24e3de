-- Variables and references that are declared: what is visible behind a declaration, and in a scope less.
use Rattle.std.proofs.Common.{◌≡◌, refl, sym, ◌∙◌, subst, arith, ℕ, zero, suc, ◌<◌, nat_eq, Bool, true, false, if◌then◌else◌, List, [], ◌∷◌, ◌++◌, length, Option, Some, None, ◌⊎◌, inl, inr}
use Rattle.std.specs.Prelude.{slice_get}
use Rattle.std.proofs.lemmas.Bool.Decides.{eqb_tells}
use Rattle.cx_core.specs.Tree.{ObjectType, Stmt, Check, Init, Expr, empty, expression, variable_declaration, reference_declaration, block, if_else, while_loop, for_loop, contract_assert, try, return_value, return_reference, return_object, rethrow}
use Rattle.cx_core.specs.Tree as tree
use Rattle.cx_core.specs.Program.{Program}
use Rattle.cx_core.specs.Store.{Address, Value, address, null}
use Rattle.cx_core.specs.Outcome.{Frame, State, Does, Nothing, nothing, whole, ◌>>◌, keep}
use Rattle.cx_core.specs.Leaving.{Calls}
use Rattle.cx_core.specs.Operators.{denoted, bind}
use Rattle.cx_core.specs.Statements.{variable_of, reference_of}
use Rattle.cx_soundness.specs.Types.{Declared, Given, refers, null_reference, Context}
use Rattle.cx_soundness.specs.Given.{leaf_types, is_whole}
use Rattle.cx_soundness.specs.Expressions.{expr_given}
use Rattle.cx_soundness.specs.Statements.{with_slot, with_place, object_slot, behind}
use Rattle.cx_soundness.proofs.Worlds.{World, IsAt, IsGiven, given_more}
use Rattle.cx_soundness.proofs.Comes.{Always, Stays, then_stays, Family}
use Rattle.cx_soundness.proofs.Comes as parts
use Rattle.cx_soundness.proofs.States.{Around, start_of, IsDenoted, IsFrame, IsWholeAt, IsException, Typed, frame_now, frame_set, keeping}
use Rattle.cx_soundness.proofs.Lives.{Goes, Keeps, Any, any_stable, Facts, most, below_most, CallsKeep}
use Rattle.cx_soundness.proofs.Leaving.{full_goes}
use Rattle.cx_soundness.proofs.Objects.{object_goes}

slot_kept : (slots : List Given) (last : Given) (k : ℕ) (v : Given) → slice_get slots k ≡ Some v → slice_get (slots ++ last ∷ []) k ≡ Some v
slot_kept [] last k v e = absurd cc
slot_kept (first ∷ slots) last zero v e = e
slot_kept (first ∷ slots) last (suc k) v e = slot_kept slots last k v e

same_found : (a b : Given) → Some a ≡ Some b → a ≡ b
same_found a b e = cc

last_or_before : (slots : List Given) (last : Given) (k : ℕ) (v : Given) → slice_get (slots ++ last ∷ []) k ≡ Some v → ((k ≡ length slots) × (last ≡ v)) ⊎ ((k < length slots) × (slice_get slots k ≡ Some v))
last_or_before [] last zero v e = inl (refl, same_found last v e)
last_or_before [] last (suc k) v e = absurd cc
last_or_before (first ∷ slots) last zero v e = inr (omega arith, e)
last_or_before (first ∷ slots) last (suc k) v e =
    elim (last_or_before slots last k v e) [ inl h ↦ inl (omega (arith, h.0), h.1) | inr h ↦ inr (omega (arith, h.0), h.1) ]

module _ (declared : Declared) where
  -- ---- what is visible behind a scope

  pub fewer : (around : Around) (context : Context) (last : Given) (V : World) (s : State) → Typed declared around (with_slot context last) V s → Typed declared around context V s
  fewer around context last V s i = record {
    objects = i.objects;
    made = i.made;
    framed = record { variables = λ slot v e. i.framed.variables slot v (slot_kept context.slots last slot v e); result = i.framed.result };
    are_living = i.are_living;
    are_temporaries = i.are_temporaries;
    are_held = i.are_held;
    innermost = i.innermost;
    globals = i.globals;
    bytes = i.bytes;
  }

  fewer_places : (around : Around) (context : Context) (v : Option Given) (V : World) (s : State) → Typed declared around (with_place context v) V s → Typed declared around context V s
  fewer_places around context None V s i = i
  fewer_places around context (Some v) V s i = fewer around context v V s i

  pub fewer_behind : (around : Around) (context : Context) (s : Stmt Check) (V : World) (t : State) → Typed declared around (behind declared context s) V t → Typed declared around context V t
  fewer_behind around context (variable_declaration slot type init) V t i = fewer around context (refers (leaf_types declared type)) V t i
  fewer_behind around context (reference_declaration slot e) V t i = fewer_places around context (expr_given declared (with_slot context null_reference) e) V t i
  fewer_behind around context empty V t i = i
  fewer_behind around context (expression a) V t i = i
  fewer_behind around context (block b) V t i = i
  fewer_behind around context (if_else c a b) V t i = i
  fewer_behind around context (while_loop c body) V t i = i
  fewer_behind around context (for_loop first c step body) V t i = i
  fewer_behind around context tree.break V t i = i
  fewer_behind around context tree.continue V t i = i
  fewer_behind around context tree.return V t i = i
  fewer_behind around context (return_value a) V t i = i
  fewer_behind around context (return_reference e) V t i = i
  fewer_behind around context (return_object init) V t i = i
  fewer_behind around context (contract_assert c predicate) V t i = i
  fewer_behind around context (tree.throw type init) V t i = i
  fewer_behind around context rethrow V t i = i
  fewer_behind around context (try b h) V t i = i

  -- ---- a name more

  module _ (W : World) (context : Context) (slot : ℕ) (last : Given) (x : Value) (is_last : slot ≡ length context.slots) (is : IsGiven declared W last x) where
    names : (frame : Frame) → IsFrame declared W context frame → (k : ℕ) (v : Given) → slice_get (context.slots ++ last ∷ []) k ≡ Some v → IsDenoted declared W v (denoted ((slot, x) ∷ frame.variables) k)
    names frame f k v e =
        elim (last_or_before context.slots last k v e) [
          | inl h ↦ elim (eqb_tells slot k) [ inl g ↦ chosen true (sym g.0) (subst (λ u. IsGiven declared W u x) h.1 is) | inr g ↦ absurd (g.1 (is_last ∙ sym h.0)) ]
          | inr h ↦ elim (eqb_tells slot k) [ inl g ↦ absurd (omega (arith, g.1, is_last, h.0)) | inr g ↦ chosen false (sym g.0) (f.variables k v h.1) ]
        ]
      where
        denoted_if : Bool → Type 0
        denoted_if b = IsDenoted declared W v (if b then Some x else denoted frame.variables k)

        chosen : (b : Bool) → b ≡ nat_eq slot k → denoted_if b → denoted_if (nat_eq slot k)
        chosen b same h = subst denoted_if same h

    pub binding : (around : Around) → Stays (Typed declared around context W) (Typed declared around (with_slot context last) W) Always (bind slot x)
    binding around =
        then_stays (Typed declared around context W) (IsFrame declared W context) (frame_now declared W around context)
        (λ frame f. frame_set declared W around context (with_slot context last) (record frame { variables = (slot, x) ∷ frame.variables }) (record { variables = names frame f; result = f.result }))

  pub before : {A : Type 0} (I N J : State → Type 0) (P : A → Type 0) (m : Does A) → ((s : State) → N s → I s) → Stays I J P m → Stays N J P m
  before I N J P m f h = record { stays = λ s n. h.stays s (f s n) }

  module _ (program : Program) (facts : Facts declared program) (calls : Calls) (keep_calls : CallsKeep declared program (most declared program) calls) where
    -- where the statements of a body stand
    abbrev pub of_block : ℕ → Option ObjectType → Around
    of_block temporaries innermost = record { living = most declared program; temporaries = temporaries; innermost = innermost }

    abbrev in_full : Option ObjectType → Around
    in_full innermost = of_block (most declared program) innermost

    -- a variable is visible in its own initialiser
    pub variable_goes : (temporaries : ℕ) (innermost : Option ObjectType) (context : Context) (W : World) (slot : ℕ) (type : ObjectType) (init : Address → Does Nothing) → slot ≡ length context.slots → is_whole declared type ≡ true
        → ((V : World) (a : Address) → IsAt V a (leaf_types declared type) → Keeps declared (in_full innermost) (object_slot declared context type) V Any (init a))
        → Goes declared (of_block temporaries innermost) context context (object_slot declared context type) W Any (variable_of program calls slot type init)
    variable_goes temporaries innermost context W slot type init e w h =
        let inner = object_slot declared context type in
        let around = in_full innermost in
        full_goes declared program facts (most declared program) calls keep_calls (of_block temporaries innermost) context context inner W Any _ any_stable
        (parts.then_comes (IsException declared) (Typed declared around inner) (λ V n. IsWholeAt declared V (start_of n) type)
        (object_goes declared program facts (most declared program) calls keep_calls around context context inner W type (λ a. bind slot (address a) >> init a) keep w
        (λ V f a at. parts.first_comes (IsException declared) (Typed declared around inner V) Always (binding V context slot (refers (leaf_types declared type)) (address a) e at around)
        (λ _ _. parts.comes_less (IsException declared) V _ (Typed declared around inner V) (Typed declared around inner) (Typed declared around context) (Typed declared around inner) (Typed declared around inner) Any Any (init a) (λ s i. i) (λ U s i. fewer around context (refers (leaf_types declared type)) U s i) (λ U s i. i) (λ U x p. p) (h V a at)))
        (λ V n at. keeping declared V around inner (whole n type) (at, below_most declared program facts type w)))
        (λ V f n at. parts.gives_comes (IsException declared) V (Typed declared around context) (Typed declared around inner) Any nothing (tt {0})))

    -- a reference denotes nothing in its own initialiser
    pub reference_goes : (temporaries : ℕ) (innermost : Option ObjectType) (context : Context) (W : World) (slot : ℕ) (v : Given) (m : Does Value) → slot ≡ length context.slots
        → ((V : World) → Keeps declared (in_full innermost) (with_slot context null_reference) V (λ U x. IsGiven declared U v x) m)
        → Goes declared (of_block temporaries innermost) context context (with_slot context v) W Any (reference_of program calls slot m)
    reference_goes temporaries innermost context W slot v m e h =
        let inner = with_slot context null_reference in
        let around = of_block temporaries innermost in
        parts.first_comes (IsException declared) (Typed declared around inner W) Always (binding W context slot null_reference null e (tt {0}) around)
        (λ _ _. parts.then_comes (IsException declared) (Typed declared around inner) (λ V x. IsGiven declared V v x)
        (parts.comes_less (IsException declared) W _ (Typed declared around inner W) (Typed declared around inner) (Typed declared around context) (Typed declared around inner) (Typed declared around inner) (λ V x. IsGiven declared V v x) (λ V x. IsGiven declared V v x) _
        (λ s i. i) (λ V s i. fewer around context null_reference V s i) (λ V s i. i) (λ V x p. p)
        (full_goes declared program facts (most declared program) calls keep_calls around inner inner inner W (λ V x. IsGiven declared V v x) m (λ V U f x p. given_more declared V U v x f p) (h W)))
        (λ V f x is. parts.stays_comes (IsException declared) V _ (Typed declared around context) (Typed declared around (with_slot context v)) Any (bind slot x)
        (before (Typed declared around context V) (Typed declared around inner V) (Typed declared around (with_slot context v) V) Always (bind slot x) (λ s i. fewer around context null_reference V s i) (binding V context slot v x e is around))))
