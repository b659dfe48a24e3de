-- Calls within each depth keep a state typed: by induction on the depth, and within it on what is left for implicit calls.
use Rattle.std.proofs.Common.{◌≡◌, refl, sym, ap, subst, arith, ℕ, zero, suc, ◌<◌, Bool, true, false, ◌&&◌, if◌then◌else◌, List, [], ◌∷◌, map, Option, Some}
use Rattle.std.specs.Prelude.{slice_get}
use Rattle.cx_core.specs.Words.{TooDeep}
use Rattle.cx_core.specs.Event.{ended}
use Rattle.cx_core.specs.Tree.{ObjectType, class, Check, Stmts}
use Rattle.cx_core.specs.Program as source
use Rattle.cx_core.specs.Program.{Program, Function, Body, ResultKind, is_counted}
use Rattle.cx_core.specs.Store.{Value}
use Rattle.cx_core.specs.Outcome.{Does}
use Rattle.cx_core.specs.Leaving.{Call, Calls}
use Rattle.cx_core.specs.Meaning.{acting, active, is_implicit_at, implicit_within, calls_within}
use Rattle.cx_soundness.specs.Types.{LeafType, Parameter, object, report, Result, no_result, scalar_result, class_result, reference_result, status, Signature, Declared, refers, Context}
use Rattle.cx_soundness.specs.Given.{signature_at, begins, leaf_types, is_whole, parameter_given}
use Rattle.cx_soundness.specs.Statements.{returns_none}
use Rattle.cx_soundness.specs.Programs.{height_of, context_of, is_kind, are_checks_typed, is_of, are_of, is_suited, is_body_typed, is_destructor}
use Rattle.cx_soundness.proofs.Same.{both_left, both_right}
use Rattle.cx_soundness.proofs.Worlds.{World, IsNull}
use Rattle.cx_soundness.proofs.Comes.{Always, Stays, Family}
use Rattle.cx_soundness.proofs.Comes as parts
use Rattle.cx_soundness.proofs.States.{Around, IsResult, IsException, Typed}
use Rattle.cx_soundness.proofs.Lives.{IsReturned, returned_more, Keeps, Any, any_stable, edge_if_keeps, Facts, most, IsLowBody, IsCallable, IsDestructor, Never, IsCall, CallsKeep}
use Rattle.cx_soundness.proofs.Functions as functions
use Rattle.cx_soundness.proofs.Implicit as implicit
use Rattle.cx_soundness.proofs.Active.{active_goes, frame_back, never_back}

module _ (declared : Declared) (program : Program) (facts : Facts declared program) where
  is_nothing : (r : Result) → returns_none declared r ≡ true → r ≡ no_result
  is_nothing no_result h = refl
  is_nothing (scalar_result t) h = absurd cc
  is_nothing (class_result c) h = absurd cc
  is_nothing (reference_result t) h = absurd cc
  is_nothing status h = absurd cc

  null_returned : (r : Result) (W : World) (x : Value) → returns_none declared r ≡ true → IsNull declared x → IsReturned declared W r x
  null_returned r W x h n = subst (λ k. IsReturned declared W k x) (sym (is_nothing r h)) n

  first_slot : (parameters : List Parameter) (type : ObjectType) → is_of declared parameters type ≡ true
      → (ts : List LeafType) × (slice_get (map (parameter_given declared) parameters) 0 ≡ Some (refers ts)) × (begins (leaf_types declared type) ts ≡ true)
  first_slot [] type h = absurd cc
  first_slot (report ∷ parameters) type h = absurd cc
  first_slot (object o ∷ parameters) type h = (leaf_types declared o, refl, h)

  two_slots : (parameters : List Parameter) (type : ObjectType) → are_of declared parameters type ≡ true
      → (ts us : List LeafType) × (slice_get (map (parameter_given declared) parameters) 0 ≡ Some (refers ts)) × (begins (leaf_types declared type) ts ≡ true)
      × (slice_get (map (parameter_given declared) parameters) 1 ≡ Some (refers us)) × (begins (leaf_types declared type) us ≡ true)
  two_slots [] type h = absurd cc
  two_slots (report ∷ parameters) type h = absurd cc
  two_slots (object o ∷ []) type h = absurd (none h)
    where
      none : (begins (leaf_types declared type) (leaf_types declared o) && false) ≡ true → ⊥
      none h = no_truth (both_right (begins (leaf_types declared type) (leaf_types declared o)) false h)
        where
          no_truth : false ≡ true → ⊥
          no_truth e = cc
  two_slots (object o ∷ report ∷ parameters) type h = absurd (no_truth (both_right (begins (leaf_types declared type) (leaf_types declared o)) false h))
    where
      no_truth : false ≡ true → ⊥
      no_truth e = cc
  two_slots (object o ∷ object p ∷ parameters) type h = (leaf_types declared o, leaf_types declared p, refl, both_left _ _ h, refl, both_right (begins (leaf_types declared type) (leaf_types declared o)) _ h)

  -- ---- what is counted

  abbrev pub IsCountedAt : ℕ → Type 0
  IsCountedAt f = (definition : Function) → slice_get program.functions f ≡ Some definition → is_counted definition.body ≡ true

  pub record CountedKeep (calls : Calls) : Type 0 where
    pub keep : (around : Around) (context : Context) (W : World) (made : Call) (is : IsCall declared program W made) → IsCountedAt made.function → Keeps declared around context W (λ V x. IsReturned declared V is.signature.result x) (calls made)
    pub quiet : (around : Around) (context : Context) (W : World) (made : Call) → IsCall declared program W made → IsCountedAt made.function → IsDestructor declared program made.function
        → parts.Comes (IsException declared) W (Typed declared around context W) (Never declared program) (Typed declared around context) Any (calls made)

  module _ (signature : Signature) (f : Function) (made : Call) (declares : signature_at declared.functions made.function ≡ Some signature) (found : slice_get program.functions made.function ≡ Some f)
      (kinded : is_kind declared signature.result f.result ≡ true) (checks_typed : are_checks_typed declared signature f.result f.checks ≡ true) where
    abbrev during : Context
    during = context_of declared signature f.result

    abbrev Returned : World → Value → Type 0
    Returned V x = IsReturned declared V signature.result x

    module _ (calls : Calls) (keep : CallsKeep declared program (most declared program) calls) where
      null_destructor : (around : Around) (T : Family) (W : World) (c : ℕ) (b : Stmts Check) → is_suited declared (source.destructor c b) f.checks signature.result ≡ true → is_body_typed declared program.classes signature f.result (source.destructor c b) ≡ true
          → parts.Comes (IsException declared) W (Typed declared around during W) T (Typed declared around during) (λ V x. IsNull declared x) (acting program calls (source.destructor c b) f made)
      null_destructor around T W c b s h =
          let one = both_left _ _ h in
          functions.destructor_quiet declared program facts calls keep signature f made declares found kinded checks_typed around T W c b (is_nothing signature.result s) (both_left _ _ one) (both_right (is_whole declared (class c)) _ one) (both_right (is_whole declared (class c) && is_of declared signature.parameters (class c)) _ h)

      counted_acts : (around : Around) (W : World) (b : Body Check) → is_counted b ≡ true → is_suited declared b f.checks signature.result ≡ true → is_body_typed declared program.classes signature f.result b ≡ true
          → IsResult declared W during.result made.result → Keeps declared around during W Returned (acting program calls b f made)
      counted_acts around W (source.function b) e s h place = edge_if_keeps declared around during W Returned f.noexcept _ (functions.function_keeps declared program facts calls keep signature f made declares found kinded checks_typed around W b h place)
      counted_acts around W (source.constructor fields b) e s h place =
          edge_if_keeps declared around during W Returned f.noexcept _
          (functions.constructor_keeps declared program facts calls keep signature f made declares found kinded checks_typed around W fields b (is_nothing signature.result s) (both_left _ _ h) (both_right _ _ h))
      counted_acts around W (source.destructor c b) e s h place =
          parts.comes_less (IsException declared) W _ _ (Typed declared around during) (Typed declared around during) (Typed declared around during) (Typed declared around during) (λ V x. IsNull declared x) Returned _ (λ t i. i) (λ V t i. i) (λ V t i. i)
          (λ V x n. null_returned signature.result V x s n) (null_destructor around (Typed declared around during) W c b s h)
      counted_acts around W (source.implicit_constructor c) e s h place = absurd cc
      counted_acts around W (source.implicit_copy_constructor c) e s h place = absurd cc
      counted_acts around W (source.implicit_destructor c) e s h place = absurd cc

      counted_quiet : (around : Around) (W : World) (b : Body Check) → is_counted b ≡ true → is_destructor b ≡ true → is_suited declared b f.checks signature.result ≡ true → is_body_typed declared program.classes signature f.result b ≡ true
          → parts.Comes (IsException declared) W (Typed declared around during W) (Never declared program) (Typed declared around during) Any (acting program calls b f made)
      counted_quiet around W (source.destructor c b) e d s h =
          parts.comes_less (IsException declared) W _ _ (Never declared program) (Never declared program) (Typed declared around during) (Typed declared around during) (λ V x. IsNull declared x) Any _ (λ t i. i) (λ V t i. i) (λ V t i. i) (λ V x n. tt {0})
          (null_destructor around (Never declared program) W c b s h)
      counted_quiet around W (source.function b) e d s h = absurd cc
      counted_quiet around W (source.constructor fields b) e d s h = absurd cc
      counted_quiet around W (source.implicit_constructor c) e d s h = absurd cc
      counted_quiet around W (source.implicit_copy_constructor c) e d s h = absurd cc
      counted_quiet around W (source.implicit_destructor c) e d s h = absurd cc

    module _ (bound : ℕ) (calls : Calls) (keep : CallsKeep declared program bound calls) where
      null_implicit : (around : Around) (T : Family) (W : World) (c : ℕ) → suc (height_of declared.heights c) < suc bound → is_suited declared (source.implicit_destructor c) f.checks signature.result ≡ true → is_body_typed declared program.classes signature f.result (source.implicit_destructor c) ≡ true
          → parts.Comes (IsException declared) W (Typed declared around during W) T (Typed declared around during) (λ V x. IsNull declared x) (acting program calls (source.implicit_destructor c) f made)
      null_implicit around T W c l s h =
          let slot = first_slot signature.parameters (class c) (both_right (is_whole declared (class c)) _ h) in
          implicit.destructor_quiet declared program facts bound calls keep during c (both_left _ _ h) (omega arith) around T f W slot.0 slot.1 slot.2 (both_right (returns_none declared signature.result) _ (both_left _ _ s)) (both_right _ _ s)

      weaken : (around : Around) (W : World) (m : Does Value) → returns_none declared signature.result ≡ true → Keeps declared around during W (λ V x. IsNull declared x) m → Keeps declared around during W Returned m
      weaken around W m s h =
          parts.comes_less (IsException declared) W _ _ (Typed declared around during) (Typed declared around during) (Typed declared around during) (Typed declared around during) (λ V x. IsNull declared x) Returned m (λ t i. i) (λ V t i. i) (λ V t i. i) (λ V x n. null_returned signature.result V x s n) h

      implicit_acts : (around : Around) (W : World) (b : Body Check) → is_counted b ≡ false → IsLowBody declared program (suc bound) b → is_suited declared b f.checks signature.result ≡ true → is_body_typed declared program.classes signature f.result b ≡ true
          → Keeps declared around during W Returned (acting program calls b f made)
      implicit_acts around W (source.implicit_constructor c) e l s h =
          let one = both_left _ _ h in
          let slot = first_slot signature.parameters (class c) (both_right (is_whole declared (class c)) _ one) in
          weaken around W _ s (implicit.default_keeps declared program facts bound calls keep during c (both_left _ _ one) (omega arith) around W slot.0 slot.1 slot.2 (both_right (is_whole declared (class c) && is_of declared signature.parameters (class c)) _ h))
      implicit_acts around W (source.implicit_copy_constructor c) e l s h =
          let slots = two_slots signature.parameters (class c) (both_right (is_whole declared (class c)) _ h) in
          weaken around W _ s (implicit.copy_keeps declared program facts bound calls keep during c (both_left _ _ h) (omega arith) around W slots.0 slots.1 slots.2 slots.3 slots.4 slots.5)
      implicit_acts around W (source.implicit_destructor c) e l s h = weaken around W _ (both_left _ _ (both_left _ _ s)) (null_implicit around (Typed declared around during) W c l s h)
      implicit_acts around W (source.function b) e l s h = absurd cc
      implicit_acts around W (source.constructor fields b) e l s h = absurd cc
      implicit_acts around W (source.destructor c b) e l s h = absurd cc

      implicit_quiet : (around : Around) (W : World) (b : Body Check) → is_counted b ≡ false → is_destructor b ≡ true → IsLowBody declared program (suc bound) b → is_suited declared b f.checks signature.result ≡ true → is_body_typed declared program.classes signature f.result b ≡ true
          → parts.Comes (IsException declared) W (Typed declared around during W) (Never declared program) (Typed declared around during) Any (acting program calls b f made)
      implicit_quiet around W (source.implicit_destructor c) e d l s h =
          parts.comes_less (IsException declared) W _ _ (Never declared program) (Never declared program) (Typed declared around during) (Typed declared around during) (λ V x. IsNull declared x) Any _ (λ t i. i) (λ V t i. i) (λ V t i. i) (λ V x n. tt {0})
          (null_implicit around (Never declared program) W c l s h)
      implicit_quiet around W (source.implicit_constructor c) e d l s h = absurd cc
      implicit_quiet around W (source.implicit_copy_constructor c) e d l s h = absurd cc
      implicit_quiet around W (source.function b) e d l s h = absurd cc
      implicit_quiet around W (source.constructor fields b) e d l s h = absurd cc
      implicit_quiet around W (source.destructor c b) e d l s h = absurd cc

  -- ---- calls that become active

  module _ (calls : Calls) (keep : CallsKeep declared program (most declared program) calls) where
    counted_active : (around : Around) (context : Context) (W : World) (made : Call) (is : IsCall declared program W made) → IsCountedAt made.function → Keeps declared around context W (λ V x. IsReturned declared V is.signature.result x) (active program calls made)
    counted_active around context W made is counted =
        let known = facts.functions made.function is.signature is.declares in
        let suited = both_right _ _ (both_left _ _ known.2) in
        active_goes declared program facts calls around context (Typed declared around (context_of declared is.signature known.0.result)) (Typed declared around context) W made is known.0 known.1
        (λ V x. IsReturned declared V is.signature.result x) (λ V U e x p. returned_more declared V U is.signature.result x e p)
        (counted_acts is.signature known.0 made is.declares known.1 (both_left _ _ (both_left _ _ known.2)) (both_left _ _ suited) calls keep around W known.0.body (counted known.0 known.1)
        (both_right (are_checks_typed declared is.signature known.0.result known.0.checks) _ suited) (both_right _ _ known.2) (is.result known.0 known.1))
        (frame_back declared program facts calls around context (context_of declared is.signature known.0.result))

    counted_active_quiet : (around : Around) (context : Context) (W : World) (made : Call) → IsCall declared program W made → IsCountedAt made.function → IsDestructor declared program made.function
        → parts.Comes (IsException declared) W (Typed declared around context W) (Never declared program) (Typed declared around context) Any (active program calls made)
    counted_active_quiet around context W made is counted destructor =
        let known = facts.functions made.function is.signature is.declares in
        let suited = both_right _ _ (both_left _ _ known.2) in
        active_goes declared program facts calls around context (Never declared program) (Never declared program) W made is known.0 known.1 Any any_stable
        (counted_quiet is.signature known.0 made is.declares known.1 (both_left _ _ (both_left _ _ known.2)) (both_left _ _ suited) calls keep around W known.0.body (counted known.0 known.1) (destructor known.0 known.1)
        (both_right (are_checks_typed declared is.signature known.0.result known.0.checks) _ suited) (both_right _ _ known.2))
        (never_back declared program facts calls around context)

  module _ (bound : ℕ) (calls : Calls) (keep : CallsKeep declared program bound calls) where
    implicit_active : (around : Around) (context : Context) (W : World) (made : Call) (is : IsCall declared program W made) → ((f : Function) → slice_get program.functions made.function ≡ Some f → is_counted f.body ≡ false) → IsCallable declared program (suc bound) made.function
        → Keeps declared around context W (λ V x. IsReturned declared V is.signature.result x) (active program calls made)
    implicit_active around context W made is uncounted low =
        let known = facts.functions made.function is.signature is.declares in
        let suited = both_right _ _ (both_left _ _ known.2) in
        active_goes declared program facts calls around context (Typed declared around (context_of declared is.signature known.0.result)) (Typed declared around context) W made is known.0 known.1
        (λ V x. IsReturned declared V is.signature.result x) (λ V U e x p. returned_more declared V U is.signature.result x e p)
        (implicit_acts is.signature known.0 made is.declares known.1 (both_left _ _ (both_left _ _ known.2)) (both_left _ _ suited) bound calls keep around W known.0.body (uncounted known.0 known.1) (low known.0 known.1)
        (both_right (are_checks_typed declared is.signature known.0.result known.0.checks) _ suited) (both_right _ _ known.2))
        (frame_back declared program facts calls around context (context_of declared is.signature known.0.result))

    implicit_active_quiet : (around : Around) (context : Context) (W : World) (made : Call) → IsCall declared program W made → ((f : Function) → slice_get program.functions made.function ≡ Some f → is_counted f.body ≡ false) → IsCallable declared program (suc bound) made.function
        → IsDestructor declared program made.function
        → parts.Comes (IsException declared) W (Typed declared around context W) (Never declared program) (Typed declared around context) Any (active program calls made)
    implicit_active_quiet around context W made is uncounted low destructor =
        let known = facts.functions made.function is.signature is.declares in
        let suited = both_right _ _ (both_left _ _ known.2) in
        active_goes declared program facts calls around context (Never declared program) (Never declared program) W made is known.0 known.1 Any any_stable
        (implicit_quiet is.signature known.0 made is.declares known.1 (both_left _ _ (both_left _ _ known.2)) (both_left _ _ suited) bound calls keep around W known.0.body (uncounted known.0 known.1) (destructor known.0 known.1) (low known.0 known.1)
        (both_right (are_checks_typed declared is.signature known.0.result known.0.checks) _ suited) (both_right _ _ known.2))
        (never_back declared program facts calls around context)

  -- ---- implicit calls, by what is left for them

  same_function : (a b : Function) → Some a ≡ Some b → a ≡ b
  same_function a b e = cc

  implicit_in : (functions : List Function) (f : ℕ) (definition : Function) → slice_get functions f ≡ Some definition → is_implicit_at (record program { functions = functions }) f ≡ (if is_counted definition.body then false else true)
  implicit_in [] f definition e = absurd cc
  implicit_in (g ∷ functions) zero definition e = ap (λ (d : Function). if is_counted d.body then false else true) (same_function g definition e)
  implicit_in (g ∷ functions) (suc f) definition e = implicit_in functions f definition e

  not_low : (b : Body Check) → IsLowBody declared program 0 b → ⊥
  not_low (source.implicit_constructor c) h = omega arith
  not_low (source.implicit_copy_constructor c) h = omega arith
  not_low (source.implicit_destructor c) h = omega arith
  not_low (source.function b) h = omega arith
  not_low (source.constructor fields b) h = omega arith
  not_low (source.destructor c b) h = omega arith

  one_function : (a b : Function) (o : Option Function) → o ≡ Some a → o ≡ Some b → a ≡ b
  one_function a b o p q = cc

  -- what the definition has each definition there has
  there : (f : ℕ) (definition : Function) (P : Function → Type 0) → slice_get program.functions f ≡ Some definition → P definition → (g : Function) → slice_get program.functions f ≡ Some g → P g
  there f definition P e h g found = subst P (one_function definition g (slice_get program.functions f) e found) h

  module _ (counted : Calls) (keep : CountedKeep counted) where
    abbrev Within : ℕ → Calls
    Within n = implicit_within program n counted

    keep_if : (n : ℕ) (around : Around) (context : Context) (W : World) (made : Call) (is : IsCall declared program W made) → IsCallable declared program (suc n) made.function → CallsKeep declared program n (Within n)
        → (f : Function) → slice_get program.functions made.function ≡ Some f → (b : Bool) → is_counted f.body ≡ b
        → Keeps declared around context W (λ V x. IsReturned declared V is.signature.result x) (if (if b then false else true) then active program (Within n) made else counted made)
    keep_if n around context W made is low lower f found true e = keep.keep around context W made is (there made.function f (λ g. is_counted g.body ≡ true) found e)
    keep_if n around context W made is low lower f found false e = implicit_active n (Within n) lower around context W made is (there made.function f (λ g. is_counted g.body ≡ false) found e) low

    keep_by : (n : ℕ) (around : Around) (context : Context) (W : World) (made : Call) (is : IsCall declared program W made) → IsCallable declared program (suc n) made.function → CallsKeep declared program n (Within n)
        → (f : Function) → slice_get program.functions made.function ≡ Some f → Keeps declared around context W (λ V x. IsReturned declared V is.signature.result x) (Within (suc n) made)
    unfolding implicit_within
    keep_by n around context W made is low lower f found =
        subst (λ b. Keeps declared around context W (λ V x. IsReturned declared V is.signature.result x) (if b then active program (Within n) made else counted made)) (sym (implicit_in program.functions made.function f found))
        (keep_if n around context W made is low lower f found (is_counted f.body) refl)

    quiet_if : (n : ℕ) (around : Around) (context : Context) (W : World) (made : Call) → IsCall declared program W made → IsCallable declared program (suc n) made.function → IsDestructor declared program made.function → CallsKeep declared program n (Within n)
        → (f : Function) → slice_get program.functions made.function ≡ Some f → (b : Bool) → is_counted f.body ≡ b
        → parts.Comes (IsException declared) W (Typed declared around context W) (Never declared program) (Typed declared around context) Any (if (if b then false else true) then active program (Within n) made else counted made)
    quiet_if n around context W made is low destructor lower f found true e = keep.quiet around context W made is (there made.function f (λ g. is_counted g.body ≡ true) found e) destructor
    quiet_if n around context W made is low destructor lower f found false e = implicit_active_quiet n (Within n) lower around context W made is (there made.function f (λ g. is_counted g.body ≡ false) found e) low destructor

    quiet_by : (n : ℕ) (around : Around) (context : Context) (W : World) (made : Call) → IsCall declared program W made → IsCallable declared program (suc n) made.function → IsDestructor declared program made.function → CallsKeep declared program n (Within n)
        → (f : Function) → slice_get program.functions made.function ≡ Some f → parts.Comes (IsException declared) W (Typed declared around context W) (Never declared program) (Typed declared around context) Any (Within (suc n) made)
    unfolding implicit_within
    quiet_by n around context W made is low destructor lower f found =
        subst (λ b. parts.Comes (IsException declared) W (Typed declared around context W) (Never declared program) (Typed declared around context) Any (if b then active program (Within n) made else counted made)) (sym (implicit_in program.functions made.function f found))
        (quiet_if n around context W made is low destructor lower f found (is_counted f.body) refl)

    pub implicit_keep : (n : ℕ) → CallsKeep declared program n (implicit_within program n counted)
    implicit_keep zero = record {
      keep = λ around context W made is low. let known = facts.functions made.function is.signature is.declares in absurd (not_low known.0.body (low known.0 known.1));
      quiet = λ around context W made is low destructor. let known = facts.functions made.function is.signature is.declares in absurd (not_low known.0.body (low known.0 known.1));
    }
    implicit_keep (suc n) = record {
      keep = λ around context W made is low. keep_by n around context W made is low (implicit_keep n) (facts.functions made.function is.signature is.declares).0 (facts.functions made.function is.signature is.declares).1;
      quiet = λ around context W made is low destructor. quiet_by n around context W made is low destructor (implicit_keep n) (facts.functions made.function is.signature is.declares).0 (facts.functions made.function is.signature is.declares).1;
    }

  -- ---- calls within a depth

  pub calls_keep : (n : ℕ) → CountedKeep (calls_within program n)
  unfolding calls_within
  calls_keep zero = record {
    keep = λ around context W made is counted. parts.ends_comes (IsException declared) W _ (Typed declared around context) (Typed declared around context) (λ V x. IsReturned declared V is.signature.result x) (ended TooDeep) (tt {0});
    quiet = λ around context W made is counted destructor. parts.ends_comes (IsException declared) W _ (Never declared program) (Typed declared around context) Any (ended TooDeep) (tt {0});
  }
  calls_keep (suc n) = record {
    keep = λ around context W made is counted. counted_active (implicit_within program (most declared program) (calls_within program n)) (implicit_keep (calls_within program n) (calls_keep n) (most declared program)) around context W made is counted;
    quiet = λ around context W made is counted destructor. counted_active_quiet (implicit_within program (most declared program) (calls_within program n)) (implicit_keep (calls_within program n) (calls_keep n) (most declared program)) around context W made is counted destructor;
  }
