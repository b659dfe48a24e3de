-- Implicit constructors, copies and destructors keep a state typed, given that calls of the functions of lower classes do.
use Rattle.std.proofs.Common.{◌≡◌, refl, sym, subst, arith, ℕ, suc, ◌<◌, true, ◌&&◌, List, [], ◌∷◌, drop, Option, Some, None}
use Rattle.std.specs.Prelude.{slice_get}
use Rattle.cx_core.specs.Words.{Definer}
use Rattle.cx_core.specs.Tree.{ObjectType, scalar, pointer, function_pointer, class, Check, Specifier, done}
use Rattle.cx_core.specs.Program.{Program, Function, Class, Field}
use Rattle.cx_core.specs.Store.{Address, address, null, place_in}
use Rattle.cx_core.specs.Outcome.{nothing, ◌>>=◌, some}
use Rattle.cx_core.specs.Block.{evaluations}
use Rattle.cx_core.specs.Leaving.{Calls, class_at, construct_at}
use Rattle.cx_core.specs.Statements.{on_to_next, field_of}
use Rattle.cx_core.specs.Meaning.{checked, stmts, stmt, copy_leaf, copy_object, copy_fields, copy_members, default_field, default_fields, implicit_copy, implicit_default, destructor_call}
use Rattle.cx_soundness.specs.Types.{made_class, LeafType, number_leaf, pointer_leaf, function_leaf, Declared, refers, Context}
use Rattle.cx_soundness.specs.Given.{signature_at, begins, leaf_types, is_whole}
use Rattle.cx_soundness.specs.Programs.{height_of, all_are, is_called_on, is_called_on_two, is_some, has_default_of, has_default, have_defaults, has_none, is_lower, is_field_of, is_default, has_leaves, is_class_typed}
use Rattle.cx_soundness.proofs.Same.{both_left, both_right, begins_through, begins_dropped}
use Rattle.cx_soundness.proofs.Worlds.{World, IsAt, at_more, at_less, at_member, IsNull, IsLeaf}
use Rattle.cx_soundness.proofs.Comes.{Always, Stays, then_stays, gives_stays, Family}
use Rattle.cx_soundness.proofs.Comes as parts
use Rattle.cx_soundness.proofs.States.{Around, IsBelow, IsException, Typed, spending, naming, placing, reading_leaf, writing}
use Rattle.cx_soundness.proofs.Lives.{Keeps, Any, any_stable, Facts, CallsKeep, some_with}
use Rattle.cx_soundness.proofs.Leaving.{less_than, callable, call_on_one, call_on_two, scope_keeps, constructing_keeps}
use Rattle.cx_soundness.proofs.Objects.{calls_once}
use Rattle.cx_soundness.proofs.Fields.{this_placed, field_keeps, destructor_goes}

module _ (declared : Declared) (program : Program) (facts : Facts declared program) (bound : ℕ) (calls : Calls) (keep : CallsKeep declared program bound calls) where
  module _ (context : Context) (t : ℕ) (whole_class : is_whole declared (class t) ≡ true) (low : height_of declared.heights t < bound) where
    abbrev layout : List LeafType
    layout = leaf_types declared (class t)

    abbrev height : ℕ
    height = height_of declared.heights t

    abbrev IsTypedClass : ℕ → Class → Type 0
    IsTypedClass c d = is_class_typed declared program.functions c (made_class (leaf_types declared (class c))) d ≡ true

    class_with : (around : Around) (W : World) (c : ℕ) (P : Class → Type 0) → is_whole declared (class c) ≡ true → ((d : Class) → slice_get program.classes c ≡ Some d → IsTypedClass c d → P d)
        → Stays (Typed declared around context W) (Typed declared around context W) P (class_at program calls c)
    class_with around W c P w h = let found = facts.classes c w in some_with (Typed declared around context W) P (slice_get program.classes c) found.0 found.1 (h found.0 found.1 found.2)

    lower_field : (c : ℕ) → is_lower declared height (class c) ≡ true → suc (height_of declared.heights c) < bound
    lower_field c h = let l = less_than _ _ h in omega arith

    -- ---- construction

    default_by : (around : Around) (W : World) (ts : List LeafType) (leaf c : ℕ) (o : Option ℕ) → around.living ≡ bound → slice_get context.slots 0 ≡ Some (refers ts) → begins (leaf_types declared (class c)) (drop leaf ts) ≡ true
        → is_whole declared (class c) ≡ true → suc (height_of declared.heights c) < bound → is_some declared o ≡ true → is_default declared program.functions c (height_of declared.heights c) o ≡ true
        → Keeps declared around context W Any (some o >>= (λ default. field_of program calls leaf (class c) (λ a. construct_at program calls default a [])))
    default_by around W ts leaf c None same e b w l s h = absurd cc
    default_by around W ts leaf c (Some f) same e b w l s h =
        parts.first_comes (IsException declared) (Typed declared around context W) (λ g. g ≡ f) (gives_stays (Typed declared around context W) (λ g. g ≡ f) f refl)
        (λ g p. subst (λ k. Keeps declared around context W Any (field_of program calls leaf (class c) (λ a. construct_at program calls k a []))) (sym p)
        (field_keeps declared program facts bound calls keep around context W ts leaf (class c) _ e b w (subst (λ n. suc (height_of declared.heights c) < n) (sym same) l)
        (λ V a x at. calls_once declared program facts bound calls keep (record around { temporaries = bound }) context V (λ frame. record { function = f; caller = Some frame.unit; unit = frame.unit; reports = None; arguments = address a ∷ []; result = None })
        (λ frame. call_on_one declared program facts V (class c) _ a (both_left _ _ h) refl refl at)
        (λ frame. callable declared program facts bound (height_of declared.heights c) f (both_right (is_called_on declared (signature_at declared.functions f) (class c)) _ h) l))))

    default_field_keeps : (around : Around) (W : World) (ts : List LeafType) (leaf : ℕ) (type : ObjectType) → around.living ≡ bound → slice_get context.slots 0 ≡ Some (refers ts)
        → begins (leaf_types declared type) (drop leaf ts) ≡ true → is_whole declared type ≡ true → is_lower declared height type ≡ true → has_default declared program.classes type ≡ true
        → Keeps declared around context W Any (default_field program calls leaf type)
    default_field_keeps around W ts leaf (scalar s) same e b w l h = parts.gives_comes (IsException declared) W (Typed declared around context) (Typed declared around context) Any nothing (tt {0})
    default_field_keeps around W ts leaf (pointer to) same e b w l h = parts.gives_comes (IsException declared) W (Typed declared around context) (Typed declared around context) Any nothing (tt {0})
    default_field_keeps around W ts leaf (function_pointer k) same e b w l h = parts.gives_comes (IsException declared) W (Typed declared around context) (Typed declared around context) Any nothing (tt {0})
    default_field_keeps around W ts leaf (class c) same e b w l h =
        parts.first_comes (IsException declared) (Typed declared around context W) (λ d. IsTypedClass c d × (is_some declared d.default_constructor ≡ true))
        (class_with around W c (λ d. IsTypedClass c d × (is_some declared d.default_constructor ≡ true)) w (λ d found typed. (typed, subst (λ o. has_default_of declared o ≡ true) found h)))
        (λ d p. default_by around W ts leaf c d.default_constructor same e b w (lower_field c l) p.1 (both_right _ _ (both_left _ _ p.0)))

    default_fields_keep : (around : Around) (ts : List LeafType) (fields : List Field) (W : World) → around.living ≡ bound → slice_get context.slots 0 ≡ Some (refers ts) → ((leaf : ℕ) (type : ObjectType) → begins (leaf_types declared type) (drop leaf layout) ≡ true → begins (leaf_types declared type) (drop leaf ts) ≡ true)
        → all_are (is_field_of declared height layout) fields ≡ true → all_are (λ (f : Field). has_default declared program.classes f.type) fields ≡ true → Keeps declared around context W Any (default_fields program calls fields)
    default_fields_keep around ts [] W same e wider h k = parts.gives_comes (IsException declared) W (Typed declared around context) (Typed declared around context) Any nothing (tt {0})
    default_fields_keep around ts (f ∷ fields) W same e wider h k =
        let one = both_left _ _ h in
        let two = both_left _ _ one in
        parts.then_comes (IsException declared) (Typed declared around context) Any
        (default_field_keeps around W ts f.leaf f.type same e (wider f.leaf f.type (both_left _ _ two)) (both_right (begins (leaf_types declared f.type) (drop f.leaf layout)) _ two) (both_right (begins (leaf_types declared f.type) (drop f.leaf layout) && is_whole declared f.type) _ one) (both_left _ _ k))
        (λ V _ _ _. default_fields_keep around ts fields V same e wider (both_right (is_field_of declared height layout f) _ h) (both_right (has_default declared program.classes f.type) _ k))

    -- the field of an object that begins with the class's leaves
    wider_field : (ts : List LeafType) (leaf : ℕ) (type : ObjectType) → begins layout ts ≡ true → begins (leaf_types declared type) (drop leaf layout) ≡ true → begins (leaf_types declared type) (drop leaf ts) ≡ true
    wider_field ts leaf type b h = begins_through (leaf_types declared type) (drop leaf layout) (drop leaf ts) h (begins_dropped leaf layout ts b)

    fields_typed : (d : Class) → IsTypedClass t d → all_are (is_field_of declared height layout) d.fields ≡ true
    fields_typed d h = both_right _ _ (both_left _ _ (both_left _ _ (both_left _ _ (both_left _ _ h))))

    -- ---- copies

    leaf_copied : (around : Around) (W : World) (from to : Address) (l : LeafType) (r s : List LeafType) → IsAt W from (l ∷ r) → IsAt W to (l ∷ s) → Keeps declared around context W Any (copy_leaf program calls from to)
    leaf_copied around W from to l r s h k =
        parts.stays_comes (IsException declared) W _ _ _ Any _
        (then_stays (Typed declared around context W) (IsLeaf declared W l)
        (then_stays (Typed declared around context W) Always (spending declared W around context) (λ _ _. reading_leaf declared W around context from l r h))
        (λ leaf is. writing declared W around context to l s leaf k is))

    object_copied : (around : Around) (W : World) (type : ObjectType) (from to : Address) → is_whole declared type ≡ true → is_lower declared height type ≡ true → IsAt W from (leaf_types declared type) → IsAt W to (leaf_types declared type)
        → Keeps declared around context W Any (copy_object program calls type from to)
    object_copied around W (scalar s) from to w l h k = leaf_copied around W from to (number_leaf s) [] [] h k
    object_copied around W (pointer p) from to w l h k = leaf_copied around W from to (pointer_leaf p) [] [] h k
    object_copied around W (function_pointer f) from to w l h k = leaf_copied around W from to (function_leaf f) [] [] h k
    object_copied around W (class c) from to w l h k =
        parts.first_comes (IsException declared) (Typed declared around context W) (IsTypedClass c) (class_with around W c (IsTypedClass c) w (λ d found typed. typed))
        (λ d typed. let copies = both_right _ _ (both_left _ _ (both_left _ _ typed)) in
        calls_once declared program facts bound calls keep around context W (λ frame. record { function = d.copy_constructor; caller = Some frame.unit; unit = frame.unit; reports = None; arguments = address to ∷ address from ∷ []; result = None })
        (λ frame. call_on_two declared program facts W (class c) _ to from (both_left _ _ copies) refl refl k h)
        (λ frame. callable declared program facts bound (height_of declared.heights c) d.copy_constructor (both_right (is_called_on_two declared (signature_at declared.functions d.copy_constructor) (class c)) _ copies) (lower_field c l)))

    below_field : (around : Around) (type : ObjectType) → around.living ≡ bound → is_lower declared height type ≡ true → IsBelow declared around.living type
    below_field around (class c) same h = subst (λ n. suc (height_of declared.heights c) < n) (sym same) (lower_field c h)
    below_field around (scalar s) same h = tt {0}
    below_field around (pointer p) same h = tt {0}
    below_field around (function_pointer f) same h = tt {0}

    fields_copied : (around : Around) (ts : List LeafType) (from : Address) (fields : List Field) (W : World) → around.living ≡ bound → slice_get context.slots 0 ≡ Some (refers ts) → begins layout ts ≡ true → IsAt W from layout
        → all_are (is_field_of declared height layout) fields ≡ true → Keeps declared around context W Any (copy_fields program calls from fields)
    fields_copied around ts from [] W same e b at h = parts.gives_comes (IsException declared) W (Typed declared around context) (Typed declared around context) Any nothing (tt {0})
    fields_copied around ts from (f ∷ fields) W same e b at h =
        let one = both_left _ _ h in
        let two = both_left _ _ one in
        let begun = both_left _ _ two in
        let w = both_right (begins (leaf_types declared f.type) (drop f.leaf layout)) _ two in
        let l = both_right (begins (leaf_types declared f.type) (drop f.leaf layout) && is_whole declared f.type) _ one in
        parts.then_comes (IsException declared) (Typed declared around context) Any
        (field_keeps declared program facts bound calls keep around context W ts f.leaf f.type _ e (wider_field ts f.leaf f.type b begun) w (below_field around f.type same l)
        (λ V a x to. object_copied (record around { temporaries = bound }) V f.type (place_in from f.leaf) a w l
        (at_less V (place_in from f.leaf) (leaf_types declared f.type) (drop f.leaf layout) begun (at_member V from f.leaf layout (at_more W V from layout x at))) to))
        (λ V x _ _. fields_copied around ts from fields V same e b (at_more W V from layout x at) (both_right (is_field_of declared height layout f) _ h))

    empty_copied : (around : Around) (W : World) (leaves : List LeafType) (from to : Address) → has_leaves declared [] leaves ≡ true → IsAt W from leaves → IsAt W to leaves → Keeps declared around context W Any (copy_leaf program calls from to)
    empty_copied around W [] from to h f k = absurd cc
    empty_copied around W (l ∷ ls) from to h f k = leaf_copied around W from to l ls ls f k

    members_copied : (around : Around) (ts : List LeafType) (from to : Address) (fields : List Field) (W : World) → around.living ≡ bound → slice_get context.slots 0 ≡ Some (refers ts) → begins layout ts ≡ true → IsAt W from layout → IsAt W to layout
        → all_are (is_field_of declared height layout) fields ≡ true → has_leaves declared fields layout ≡ true → Keeps declared around context W Any (copy_members program calls fields from to)
    members_copied around ts from to [] W same e b at of h k = empty_copied around W layout from to k at of
    members_copied around ts from to (f ∷ fields) W same e b at of h k = fields_copied around ts from (f ∷ fields) W same e b at h

    pub copy_keeps : (around : Around) (W : World) (ts us : List LeafType) → slice_get context.slots 0 ≡ Some (refers ts) → begins layout ts ≡ true → slice_get context.slots 1 ≡ Some (refers us) → begins layout us ≡ true
        → Keeps declared around context W (λ V x. IsNull declared x) (implicit_copy program calls t)
    copy_keeps around W ts us e b g c =
        let inner : Around = record around { living = bound } in
        constructing_keeps declared program facts bound calls keep around context W (λ V x. IsNull declared x) _ (λ V U x y p. p)
        (parts.first_comes (IsException declared) (Typed declared inner context W) (IsTypedClass t) (class_with inner W t (IsTypedClass t) whole_class (λ d found typed. typed))
        (λ d typed. parts.first_comes (IsException declared) (Typed declared inner context W) (λ a. IsAt W a ts) (this_placed declared program facts bound calls keep inner context W ts e)
        (λ to at. parts.first_comes (IsException declared) (Typed declared inner context W) (λ a. IsAt W a us)
        (then_stays (Typed declared inner context W) _ (naming declared W inner context 1 (refers us) g) (λ x h. placing declared W inner context us x h))
        (λ from of. parts.then_comes (IsException declared) (Typed declared inner context) Any
        (members_copied inner ts from to d.fields W refl e b (at_less W from layout us c of) (at_less W to layout ts b at) (fields_typed d typed) (both_right _ _ typed))
        (λ V _ _ _. parts.gives_comes (IsException declared) V (Typed declared inner context) (Typed declared inner context) (λ U x. IsNull declared x) null (tt {0}))))))

    pub default_keeps : (around : Around) (W : World) (ts : List LeafType) → slice_get context.slots 0 ≡ Some (refers ts) → begins layout ts ≡ true → have_defaults declared program.classes (slice_get program.classes t) ≡ true
        → Keeps declared around context W (λ V x. IsNull declared x) (implicit_default program calls t)
    default_keeps around W ts e b h =
        let inner : Around = record around { living = bound } in
        constructing_keeps declared program facts bound calls keep around context W (λ V x. IsNull declared x) _ (λ V U x y p. p)
        (parts.first_comes (IsException declared) (Typed declared inner context W) (λ d. IsTypedClass t d × (all_are (λ (f : Field). has_default declared program.classes f.type) d.fields ≡ true))
        (class_with inner W t (λ d. IsTypedClass t d × (all_are (λ (f : Field). has_default declared program.classes f.type) d.fields ≡ true)) whole_class (λ d found typed. (typed, subst (λ o. have_defaults declared program.classes o ≡ true) found h)))
        (λ d p. parts.then_comes (IsException declared) (Typed declared inner context) Any
        (default_fields_keep inner ts d.fields W refl e (λ leaf type k. wider_field ts leaf type b k) (fields_typed d p.0) p.1)
        (λ V _ _ _. parts.gives_comes (IsException declared) V (Typed declared inner context) (Typed declared inner context) (λ U x. IsNull declared x) null (tt {0}))))

    -- ---- destruction

    no_checks : (around : Around) (W : World) (checks : List (Specifier Check)) → has_none declared checks ≡ true → Keeps declared around context W Any (checked program calls Definer checks)
    unfolding evaluations
    no_checks around W [] h = parts.gives_comes (IsException declared) W (Typed declared around context) (Typed declared around context) Any nothing (tt {0})
    no_checks around W (s ∷ checks) h = absurd cc

    nothing_done : (around : Around) (W : World) → Keeps declared around context W Any (stmts program calls done)
    unfolding stmt
    nothing_done around W = parts.gives_comes (IsException declared) W (Typed declared around context) (Typed declared around context) Any on_to_next (tt {0})

    pub destructor_quiet : (around : Around) (T : Family) (f : Function) (W : World) (ts : List LeafType) → slice_get context.slots 0 ≡ Some (refers ts) → begins layout ts ≡ true → has_none declared f.checks.preconditions ≡ true → has_none declared f.checks.postconditions ≡ true
        → parts.Comes (IsException declared) W (Typed declared around context W) T (Typed declared around context) (λ V x. IsNull declared x) (destructor_call program calls f t done)
    destructor_quiet around T f W ts e b h k =
        destructor_goes declared program facts bound calls keep around context T W t ts _ _ Any e b whole_class low
        (λ V. parts.then_comes (IsException declared) (Typed declared around context) Any (no_checks around V f.checks.preconditions h)
        (λ U _ _ _. scope_keeps declared program facts bound calls keep around context U Any _ any_stable (nothing_done (record around { living = bound }) U)))
        (λ V. no_checks around V f.checks.postconditions k)
