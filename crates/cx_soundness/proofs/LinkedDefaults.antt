-- A class that may be constructed without arguments in a unit may be so in the program, and typed units, each with declarations that are alike, agree.
use Rattle.std.proofs.Common.{◌≡◌, refl, sym, ap, ◌∙◌, subst, append_assoc, ℕ, zero, suc, Bool, true, List, [], ◌∷◌, ◌++◌, map, Option, Some, None}
use Rattle.std.specs.Prelude.{slice_get}
use Rattle.cx_core.specs.Tree.{ObjectType, scalar, pointer, function_pointer, class}
use Rattle.cx_core.specs.Program.{Field, Class}
use Rattle.cx_core.specs.Unit.{UnitClass}
use Rattle.cx_core.specs.Renamed.{Names, renamed_type, renamed_field, renamed_class, renamed_function_or_none}
use Rattle.cx_core.specs.Numbers.{Planned}
use Rattle.cx_core.specs.Linked.{class_names, names_of, class_from}
use Rattle.cx_core.specs.Apart.{LinkingKeepsApart}
use Rattle.cx_soundness.specs.Types.{LeafType, Layout, made_class, Declared}
use Rattle.cx_soundness.specs.Given.{same_object, is_made}
use Rattle.cx_soundness.specs.Programs.{go_together, all_are, is_some, has_default_of, has_default, have_defaults}
use Rattle.cx_soundness.specs.Units.{class_or_empty, class_or_none, is_typed_unit, is_definition_of, is_unit_class_typed, DefaultsStay}
use Rattle.cx_soundness.specs.Linking.{ByName, same_if_any, declared_by, linked_classes, is_layout_alike, is_definition_alike, is_class_alike, are_alike, is_typed_planned, are_globals_defined, are_globals_distinct}
use Rattle.cx_soundness.proofs.Same.{both_left, both_right, both_true, equal_objects}
use Rattle.cx_soundness.proofs.LinkedUnits.{AreTypedUnits, no_unit, typed_unit}
use Rattle.cx_soundness.proofs.LinkedFunctions.{same_some, at_map, number_of_name}
use Rattle.cx_soundness.proofs.LinkedClasses.{layout_there, none_and, unit_classes_at, unit_classes}
use Rattle.cx_soundness.proofs.LinkedNames.{none_of_map, stands_there, AtBoth, together_at}
use Rattle.cx_soundness.proofs.LinkedAlike.{class_among, classes_alike, layouts_alike, names_once, agrees, kinds_agree, heights_agree, types_agree}

all_at : {A : Type 0} (p : A → Bool) (list : List A) → all_are p list ≡ true → (i : ℕ) (a : A) → slice_get list i ≡ Some a → p a ≡ true
all_at p [] h i a e = absurd cc
all_at p (b ∷ list) h zero a e = subst (λ x. p x ≡ true) (same_some b a e) (both_left _ _ h)
all_at p (b ∷ list) h (suc i) a e = all_at p list (both_right (p b) _ h) i a e

module _ (units : List Planned) (named : ByName) (defined : are_globals_defined units named ≡ true) (distinct : are_globals_distinct units ≡ true) where
  abbrev program : Declared
  program = declared_by units named

  abbrev there : List Class
  there = linked_classes units named

  module _ (earlier : List Planned) (p : Planned) (later : List Planned) (split : earlier ++ p ∷ later ≡ units) (unit : Declared) (alike : are_alike units named p unit ≡ true) where
    abbrev names : Names
    names = names_of units p

    abbrev here : List Class
    here = map class_or_none p.unit.classes

    -- the definition of the class that the program has
    abbrev found : UnitClass → Class
    found c = class_from units c.name units

    here_at : (e : ℕ) (c : UnitClass) → slice_get p.unit.classes e ≡ Some c → slice_get here e ≡ Some (class_or_none c)
    here_at e c k = at_map class_or_none p.unit.classes e c k

    there_at : (e : ℕ) (c : UnitClass) → slice_get p.unit.classes e ≡ Some c → slice_get there (names.class_number e) ≡ Some (found c)
    there_at e c k =
        ap (λ n. slice_get there n) (number_of_name (class_names units) _ e c.name (at_map (λ (d : UnitClass). d.name) p.unit.classes e c k))
        ∙ stands_there (λ name. class_from units name units) (class_names units) c.name (class_among units named defined distinct earlier p later split unit alike e c k)

    definition_alike : (e : ℕ) (c : UnitClass) → slice_get p.unit.classes e ≡ Some c → is_definition_alike units named p c.name c.definition ≡ true
    definition_alike e c k = all_at (is_class_alike units named p) p.unit.classes (classes_alike units named defined distinct earlier p later split unit alike) e c k

    -- ---- classes of fields

    some_alike : (a b : Option ℕ) → same_if_any (λ f g. true) (renamed_function_or_none names a) b ≡ true → is_some unit a ≡ true → is_some program b ≡ true
    some_alike None b h k = absurd cc
    some_alike (Some f) None h k = absurd cc
    some_alike (Some f) (Some g) h k = refl

    class_default : (c : UnitClass) (d : Option Class) → is_definition_alike units named p c.name d ≡ true → is_some unit (class_or_empty c.name d).default_constructor ≡ true → is_some program (found c).default_constructor ≡ true
    class_default c None h k = absurd cc
    class_default c (Some d) h k = some_alike d.default_constructor (found c).default_constructor (both_right (go_together (λ f g. same_object f.type g.type) (renamed_class names d).fields (found c).fields) _ h) k

    default_at : (e : ℕ) (c : Option UnitClass) → slice_get p.unit.classes e ≡ c → has_default_of unit (slice_get here e) ≡ true → has_default_of program (slice_get there (names.class_number e)) ≡ true
    default_at e None k h = absurd (no_default (slice_get here e) (none_of_map class_or_none p.unit.classes e k) h)
      where
        no_default : (o : Option Class) → o ≡ None → has_default_of unit o ≡ true → ⊥
        no_default None f g = cc
        no_default (Some d) f g = cc
    default_at e (Some c) k h =
        subst (λ o. has_default_of program o ≡ true) (sym (there_at e c k))
        (class_default c c.definition (definition_alike e c k) (subst (λ o. has_default_of unit o ≡ true) (here_at e c k) h))

    default_stays : (type : ObjectType) → has_default unit here type ≡ true → has_default program there (renamed_type names type) ≡ true
    default_stays (class e) h = default_at e (slice_get p.unit.classes e) refl h
    default_stays (scalar s) h = refl
    default_stays (pointer to) h = refl
    default_stays (function_pointer type) h = refl

    fields_stay : (fs gs : List Field) → go_together (λ f g. same_object f.type g.type) (map (renamed_field names) fs) gs ≡ true → all_are (λ f. has_default unit here f.type) fs ≡ true → all_are (λ g. has_default program there g.type) gs ≡ true
    fields_stay [] [] h k = refl
    fields_stay [] (g ∷ gs) h k = absurd cc
    fields_stay (f ∷ fs) [] h k = absurd cc
    fields_stay (f ∷ fs) (g ∷ gs) h k =
        both_true _ _ (subst (λ type. has_default program there type ≡ true) (equal_objects _ _ (both_left _ _ h)) (default_stays f.type (both_left _ _ k)))
        (fields_stay fs gs (both_right (same_object (renamed_type names f.type) g.type) _ h) (both_right (has_default unit here f.type) _ k))

    -- ---- a class that the unit makes objects of

    module _ (typed : is_typed_unit unit p.unit ≡ true) where
      of_definition : (c : ℕ) (layout : List LeafType) (k : UnitClass) (d : Option Class) → is_definition_of unit p.unit c layout d ≡ true → is_definition_alike units named p k.name d ≡ true
          → have_defaults unit here (Some (class_or_empty k.name d)) ≡ true → have_defaults program there (Some (found k)) ≡ true
      of_definition c layout k None h a e = absurd cc
      of_definition c layout k (Some d) h a e = fields_stay d.fields (found k).fields (both_left _ _ a) e

      defaults_stay : DefaultsStay names unit program here there
      defaults_stay c whole h = by_both (slice_get unit.layouts c) (slice_get p.unit.classes c) refl refl whole (together_at (is_layout_alike units named p) unit.layouts p.unit.classes (layouts_alike units named defined distinct earlier p later split unit alike) c)
        where
          by_both : (l : Option Layout) (k : Option UnitClass) → slice_get unit.layouts c ≡ l → slice_get p.unit.classes c ≡ k → is_made l ≡ true → AtBoth (is_layout_alike units named p) l k
              → have_defaults program there (slice_get there (names.class_number c)) ≡ true
          by_both None None e f m b = absurd cc
          by_both None (Some k) e f m b = absurd b
          by_both (Some l) None e f m b = absurd b
          by_both (Some l) (Some k) e f m b =
              let layout = layout_there (Some l) m in
              let known = subst (λ n. is_unit_class_typed unit p.unit n (made_class layout.0) k ≡ true) (none_and c) (unit_classes_at unit p 0 unit.layouts p.unit.classes (unit_classes units named unit p typed) c layout.0 k (e ∙ layout.1) f) in
              subst (λ o. have_defaults program there o ≡ true) (sym (there_at c k f))
              (of_definition c layout.0 k k.definition known (definition_alike c k f) (subst (λ o. have_defaults unit here o ≡ true) (here_at c k f) h))

  -- ---- all units

  module _ (keeps : LinkingKeepsApart) where
    typed_from : (earlier later : List Planned) (declared : List Declared) → earlier ++ later ≡ units → go_together (is_typed_planned units named) later declared ≡ true → AreTypedUnits units named later
    typed_from earlier [] [] split h = no_unit
    typed_from earlier [] (d ∷ declared) split h = absurd cc
    typed_from earlier (p ∷ later) [] split h = absurd cc
    typed_from earlier (p ∷ later) (unit ∷ declared) split h =
        let first = both_left (is_typed_planned units named p unit) _ h in
        let alike = both_left (are_alike units named p unit) _ first in
        let typed = both_right (are_alike units named p unit) _ first in
        typed_unit p later unit
        (agrees units named defined distinct earlier p later split unit alike (keeps earlier p later (names_once units named defined distinct earlier p later split unit alike)))
        (defaults_stay earlier p later split unit alike typed)
        (kinds_agree units named defined distinct earlier p later split unit alike)
        (heights_agree units named defined distinct earlier p later split unit alike)
        (types_agree units named defined distinct earlier p later split unit alike)
        typed
        (typed_from (earlier ++ p ∷ []) later declared (append_assoc earlier (p ∷ []) later ∙ split) (both_right (is_typed_planned units named p unit) _ h))

    pub typed_units : (declared : List Declared) → go_together (is_typed_planned units named) units declared ≡ true → AreTypedUnits units named units
    typed_units declared h = typed_from [] units declared refl h
