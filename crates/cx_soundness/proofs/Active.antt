-- Calls at each depth keep a state typed: by induction on the depth, and on the heights of classes for implicit calls.
use Rattle.std.proofs.Common.{◌≡◌, refl, sym, subst, arith, ℕ, zero, suc, ◌+◌, if◌then◌else◌, List, [], ◌∷◌, map, Option, Some, None, inl, inr}
use Rattle.std.specs.Prelude.{slice_get}
use Rattle.std.proofs.lemmas.Bool.Decides.{eqb_tells}
use Rattle.cx_core.specs.Words.{Violation}
use Rattle.cx_core.specs.Event.{handler}
use Rattle.cx_core.specs.Program.{Program, Function, ResultKind}
use Rattle.cx_core.specs.Store.{Value}
use Rattle.cx_core.specs.Outcome.{Frame, Does, nothing, set_frame}
use Rattle.cx_core.specs.Leaving.{Call, Calls, within}
use Rattle.cx_core.specs.Operators.{denoted}
use Rattle.cx_core.specs.Meaning.{numbered, unit_of, reported, acting, active}
use Rattle.cx_soundness.specs.Types.{Signature, Declared, Given, Context}
use Rattle.cx_soundness.specs.Given.{parameter_given}
use Rattle.cx_soundness.specs.Programs.{context_of}
use Rattle.cx_soundness.proofs.Worlds.{World, IsGiven}
use Rattle.cx_soundness.proofs.Comes.{Always, Stays, gives_stays, append_stays, Family}
use Rattle.cx_soundness.proofs.Comes as parts
use Rattle.cx_soundness.proofs.States.{Around, IsDenoted, IsFrame, IsResult, IsException, Typed, of_objects, spending, frame_now, frame_set, frame_more}
use Rattle.cx_soundness.proofs.Lives.{AreGiven, Any, IsStable, finally_comes, Facts, Never, IsCall, some_with}

-- ---- frames

module _ (declared : Declared) (program : Program) where
  numbered_denote : (calls : Calls) (W : World) (given : List Given) (values : List Value) (k slot : ℕ) (v : Given) → AreGiven declared W given values → slice_get given slot ≡ Some v → IsDenoted declared W v (denoted (numbered program calls k values) (k + slot))
  numbered_denote calls W [] values k slot v h e = absurd cc
  numbered_denote calls W (g ∷ given) [] k slot v h e = absurd h
  numbered_denote calls W (g ∷ given) (x ∷ values) k zero v h e =
      elim (eqb_tells k (k + 0)) [
        | inl i ↦ subst (λ b. IsDenoted declared W v (if b then Some x else denoted (numbered program calls (suc k) values) (k + 0))) (sym i.0) (subst (λ u. IsGiven declared W u x) (same_found g v e) h.0)
        | inr i ↦ absurd (i.1 (omega arith))
      ]
    where
      same_found : (a b : Given) → Some a ≡ Some b → a ≡ b
      same_found a b e = cc
  numbered_denote calls W (g ∷ given) (x ∷ values) k (suc slot) v h e =
      elim (eqb_tells k (k + suc slot)) [
        | inl i ↦ absurd (apart k slot i.1)
        | inr i ↦
            subst (λ b. IsDenoted declared W v (if b then Some x else denoted (numbered program calls (suc k) values) (k + suc slot))) (sym i.0)
            (subst (λ j. IsDenoted declared W v (denoted (numbered program calls (suc k) values) j)) (moved k slot) (numbered_denote calls W given values (suc k) slot v h.1 e))
      ]
    where
      apart : (a b : ℕ) → a ≡ a + suc b → ⊥
      apart a b e = omega (arith, e)

      moved : (a b : ℕ) → suc a + b ≡ a + suc b
      moved a b = omega arith

  frame_starts : (calls : Calls) (W : World) (signature : Signature) (kind : ResultKind) (unit : ℕ) (made : Call) → AreGiven declared W (map (parameter_given declared) signature.parameters) made.arguments → IsResult declared W (context_of declared signature kind).result made.result
      → IsFrame declared W (context_of declared signature kind) (record { unit = unit; variables = numbered program calls 0 made.arguments; result = made.result })
  frame_starts calls W signature kind unit made given place = record {
    variables = λ slot v e. subst (λ j. IsDenoted declared W v (denoted (numbered program calls 0 made.arguments) j)) (from_zero slot) (numbered_denote calls W (map (parameter_given declared) signature.parameters) made.arguments 0 slot v given e);
    result = place;
  }
    where
      from_zero : (n : ℕ) → 0 + n ≡ n
      from_zero n = omega arith

  -- ---- a call that becomes active

  module _ (facts : Facts declared program) (calls : Calls) (around : Around) (context : Context) where
    within_goes : {A : Type 0} (other : Context) (S T : Family) (W : World) (P : World → A → Type 0) (frame : Frame) (m : Does A) → IsFrame declared W other frame
        → parts.Comes (IsException declared) W (Typed declared around other W) S (Typed declared around other) P m → IsStable P
        → ((V : World) (outer : Frame) → IsFrame declared V context outer → parts.Comes (IsException declared) V (S V) T T Any (set_frame outer))
        → parts.Comes (IsException declared) W (Typed declared around context W) T (Typed declared around context) P (within frame m)
    within_goes other S T W P frame m f h stable back =
        parts.first_comes (IsException declared) (Typed declared around context W) (IsFrame declared W context) (frame_now declared W around context)
        (λ outer o. parts.first_comes (IsException declared) (Typed declared around other W) Always (frame_set declared W around context other frame f)
        (λ _ _. finally_comes declared W _ S (Typed declared around other) T (Typed declared around context) P m (set_frame outer) stable h
        (λ V e. parts.stays_comes (IsException declared) V _ T (Typed declared around context) Any (set_frame outer) (frame_set declared V around other context outer (frame_more declared W V context outer e o)))
        (λ V e. back V outer (frame_more declared W V context outer e o))))

    reporting : (W : World) (reports : Option Violation) → Stays (Typed declared around context W) (Typed declared around context W) Always (reported program calls reports)
    reporting W None = gives_stays _ Always nothing (tt {0})
    reporting W (Some v) = append_stays (Typed declared around context W) (of_objects declared W around context) (handler v)

    pub active_goes : (S T : Family) (W : World) (made : Call) (is : IsCall declared program W made) (f : Function) → slice_get program.functions made.function ≡ Some f → (P : World → Value → Type 0) → IsStable P
        → parts.Comes (IsException declared) W (Typed declared around (context_of declared is.signature f.result) W) S (Typed declared around (context_of declared is.signature f.result)) P (acting program calls f.body f made)
        → ((V : World) (outer : Frame) → IsFrame declared V context outer → parts.Comes (IsException declared) V (S V) T T Any (set_frame outer))
        → parts.Comes (IsException declared) W (Typed declared around context W) T (Typed declared around context) P (active program calls made)
    active_goes S T W made is f found P stable h back =
        parts.first_comes (IsException declared) (Typed declared around context W) Always (spending declared W around context)
        (λ _ _. parts.first_comes (IsException declared) (Typed declared around context W) (λ g. g ≡ f) (some_with (Typed declared around context W) (λ g. g ≡ f) (slice_get program.functions made.function) f found refl)
        (λ g e. parts.first_comes (IsException declared) (Typed declared around context W) Always (reporting W made.reports)
        (λ _ _. subst (λ (k : Function). parts.Comes (IsException declared) W (Typed declared around context W) T (Typed declared around context) P (within (record { unit = unit_of program calls k made; variables = numbered program calls 0 made.arguments; result = made.result }) (acting program calls k.body k made))) (sym e)
        (within_goes (context_of declared is.signature f.result) S T W P _ (acting program calls f.body f made)
        (frame_starts calls W is.signature f.result (unit_of program calls f made) made is.arguments (is.result f found)) h stable back))))

    pub frame_back : (other : Context) (V : World) (outer : Frame) → IsFrame declared V context outer → parts.Comes (IsException declared) V (Typed declared around other V) (Typed declared around context) (Typed declared around context) Any (set_frame outer)
    frame_back other V outer o = parts.stays_comes (IsException declared) V _ _ _ Any (set_frame outer) (frame_set declared V around other context outer o)

    pub never_back : (V : World) (outer : Frame) → IsFrame declared V context outer → parts.Comes (IsException declared) V (Never declared program V) (Never declared program) (Never declared program) Any (set_frame outer)
    never_back V outer o = record { comes = λ s i. absurd i }
