-- Objects that are made and initialised, and exceptions that are held, keep a state typed.
use Rattle.std.proofs.Common.{◌≡◌, ℕ, Bool, true, false, if◌then◌else◌, List, ◌∷◌, length, Some}
use Rattle.std.proofs.lemmas.List.Elements.{All-cons}
use Rattle.cx_core.specs.Tree.{ObjectType, scalar, pointer, function_pointer, class}
use Rattle.cx_core.specs.Program.{Program}
use Rattle.cx_core.specs.Store.{Address}
use Rattle.cx_core.specs.Outcome.{Living, whole, Exception, Frame, Does, Nothing, nothing, ◌>>=◌, ◌>>◌, skip, current_frame, set_held, end_lifetime}
use Rattle.cx_core.specs.Leaving.{Call, Calls, leaves_of_type, end, object, is_among, end_unless_among, holding}
use Rattle.cx_soundness.specs.Types.{Declared, Context}
use Rattle.cx_soundness.specs.Given.{leaf_types, is_whole}
use Rattle.cx_soundness.proofs.Worlds.{World, Extends, IsAt, at_more}
use Rattle.cx_soundness.proofs.Comes.{Always, Stays, then_stays, gives_stays, Family}
use Rattle.cx_soundness.proofs.Comes as parts
use Rattle.cx_soundness.proofs.States.{Around, start_of, IsBelow, IsWholeAt, IsException, IsFrame, Typed, AreHeld, whole_more, all_held_more, innermost_more, frame_now, held_now, held_set, ending, making}
use Rattle.cx_soundness.proofs.Lives.{Goes, Keeps, Any, IsStable, undone_comes, Facts, IsCallable, IsCall, CallsKeep}
use Rattle.cx_soundness.proofs.Leaving.{class_there, ends_one}

module _ (declared : Declared) (program : Program) (facts : Facts declared program) (bound : ℕ) (calls : Calls) (keep : CallsKeep declared program bound calls) where
  -- ---- making an object

  leaves_there : (around : Around) (context : Context) (W : World) (type : ObjectType) → is_whole declared type ≡ true
      → Stays (Typed declared around context W) (Typed declared around context W) Always (leaves_of_type program calls type)
  leaves_there around context W (scalar s) h = gives_stays _ Always 1 (tt {0})
  leaves_there around context W (pointer to) h = gives_stays _ Always 1 (tt {0})
  leaves_there around context W (function_pointer type) h = gives_stays _ Always 1 (tt {0})
  leaves_there around context W (class c) h =
      then_stays (Typed declared around context W) _ (class_there declared program facts bound calls keep around context W c h) (λ definition _. gives_stays (Typed declared around context W) Always (length definition.leaves) (tt {0}))

  pub object_goes : (around : Around) (now flying behind : Context) (W : World) (type : ObjectType) (init : Address → Does Nothing) (keeps : Living → Does Nothing) → is_whole declared type ≡ true
      → ((V : World) → Extends W V → (a : Address) → IsAt V a (leaf_types declared type) → Goes declared around now flying behind V Any (init a))
      → ((V : World) (n : ℕ) → IsWholeAt declared V (start_of n) type → Stays (Typed declared around behind V) (Typed declared around behind V) Always (keeps (whole n type)))
      → Goes declared around now flying behind W (λ V n. IsWholeAt declared V (start_of n) type) (object program calls keeps type init)
  object_goes around now flying behind W type init keeps h k l =
      parts.first_comes (IsException declared) (Typed declared around now W) Always (leaves_there around now W type h)
      (λ leaves _. parts.then_comes (IsException declared) (Typed declared around now) (λ V n. IsAt V (start_of n) (leaf_types declared type))
      (making declared W around now (Typed declared around flying) leaves (leaf_types declared type))
      (λ V e n at. parts.then_comes (IsException declared) (Typed declared around behind) Any
      (undone_comes declared V (Typed declared around now V) (Typed declared around flying) (Typed declared around flying) (Typed declared around behind) Any (init (start_of n)) (end_lifetime n) (k V e (start_of n) at)
      (λ U f. parts.stays_comes (IsException declared) U _ (Typed declared around flying) (Typed declared around flying) Any (end_lifetime n) (ending declared U around flying n)))
      (λ U f _ _. parts.first_comes (IsException declared) (Typed declared around behind U) Always (l U n (record { at = at_more V U (start_of n) (leaf_types declared type) f at; defined = h }))
      (λ _ _. parts.gives_comes (IsException declared) U (Typed declared around flying) (Typed declared around behind) (λ X i. IsWholeAt declared X (start_of i) type) n (record { at = at_more V U (start_of n) (leaf_types declared type) f at; defined = h })))))

  -- ---- holding an exception

  ends_unless : (around : Around) (context : Context) (W : World) (e : Exception) (others : List Exception) → IsException declared W e → IsBelow declared bound e.type → Keeps declared around context W Any (end_unless_among program calls e others)
  ends_unless around context W e others h k = by_test (is_among program calls e others)
    where
      by_test : (b : Bool) → Keeps declared around context W Any (if b then skip else end program calls (whole e.object e.type))
      by_test true = parts.gives_comes (IsException declared) W (Typed declared around context) (Typed declared around context) Any nothing (tt {0})
      by_test false = ends_one declared program facts bound calls keep around context W (Typed declared around context) (whole e.object e.type) (h, k)

  abbrev while_held : Around → ObjectType → Around
  while_held around type = record around { innermost = Some type }

  given_up : (around : Around) (context : Context) (W : World) (e : Exception) (held others : List Exception) → IsException declared W e → IsBelow declared bound e.type → AreHeld declared W around context held
      → parts.Comes (IsException declared) W (Typed declared (while_held around e.type) context W) (Typed declared around context) (Typed declared around context) Any (set_held held >> end_unless_among program calls e others)
  given_up around context W e held others h k l =
      parts.first_comes (IsException declared) (Typed declared around context W) Always (held_set declared W (while_held around e.type) context around.innermost held l.0 l.1)
      (λ _ _. ends_unless around context W e others h k)

  held_more : (around : Around) (context : Context) (W V : World) (held : List Exception) → Extends W V → AreHeld declared W around context held → AreHeld declared V around context held
  held_more around context W V held e h = (all_held_more declared W V held e h.0, innermost_more declared W V around.innermost held e h.1)

  pub holding_keeps : {A : Type 0} (around : Around) (context : Context) (W : World) (P : World → A → Type 0) (e : Exception) (m : Does A) → IsStable P → IsException declared W e → IsBelow declared bound e.type
      → Keeps declared (while_held around e.type) context W P m → Keeps declared around context W P (holding program calls e m)
  holding_keeps around context W P e m stable h k l =
      parts.first_comes (IsException declared) (Typed declared around context W) (AreHeld declared W around context) (held_now declared W around context)
      (λ held are. parts.first_comes (IsException declared) (Typed declared (while_held around e.type) context W) Always (held_set declared W around context (Some e.type) (e ∷ held) (All-cons (IsException declared W) e held h are.0) h.at)
      (λ _ _. parts.either_comes (IsException declared) W _ (Typed declared (while_held around e.type) context) (Typed declared (while_held around e.type) context) (Typed declared around context) (Typed declared around context) P P m _ _ l
      (λ V f a p. parts.then_comes (IsException declared) (Typed declared around context) Any
      (given_up around context V e held held (whole_more declared W V (start_of e.object) e.type f h) k (held_more around context W V held f are))
      (λ U g _ _. parts.gives_comes (IsException declared) U (Typed declared around context) (Typed declared around context) P a (stable V U g a p)))
      (λ V f x p. parts.then_comes (IsException declared) (Typed declared around context) Any
      (given_up around context V e held (x ∷ held) (whole_more declared W V (start_of e.object) e.type f h) k (held_more around context W V held f are))
      (λ U g _ _. parts.throws_comes (IsException declared) U (Typed declared around context) (Typed declared around context) P x (whole_more declared V U (start_of x.object) x.type g p)))))

  -- ---- a call that gives nothing

  pub calls_once : (around : Around) (context : Context) (W : World) (made : Frame → Call) → ((frame : Frame) → IsCall declared program W (made frame)) → ((frame : Frame) → IsCallable declared program bound (made frame).function)
      → Keeps declared around context W Any (current_frame >>= (λ frame. calls (made frame) >> skip))
  calls_once around context W made is low =
      parts.first_comes (IsException declared) (Typed declared around context W) (IsFrame declared W context) (frame_now declared W around context)
      (λ frame f. parts.then_comes (IsException declared) (Typed declared around context) _ (keep.keep around context W (made frame) (is frame) (low frame))
      (λ V e x p. parts.gives_comes (IsException declared) V (Typed declared around context) (Typed declared around context) Any nothing (tt {0})))
