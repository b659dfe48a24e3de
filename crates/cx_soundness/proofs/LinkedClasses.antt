-- The classes of a program that typed units are linked into are typed.
use Rattle.std.proofs.Common.{◌≡◌, refl, sym, ap, ◌∙◌, subst, arith, ℕ, zero, suc, ◌+◌, Bool, true, false, ◌||◌, ◌&&◌, if◌then◌else◌, nat_lt, List, [], ◌∷◌, map, drop, Option, Some, None}
use Rattle.std.specs.Prelude.{bytes_eq, slice_get}
use Rattle.std.proofs.lemmas.Slice.Eq.{bytes_eq-Decides}
use Rattle.cx_core.specs.Tree.{ObjectType, scalar, pointer, function_pointer, class}
use Rattle.cx_core.specs.Program as kinds
use Rattle.cx_core.specs.Program.{LeafKind, Field, Function, Class}
use Rattle.cx_core.specs.Unit.{UnitClass, is_defined}
use Rattle.cx_core.specs.Renamed.{Names, renamed_type, renamed_field, renamed_class, renamed_function_or_none}
use Rattle.cx_core.specs.Numbers.{Planned}
use Rattle.cx_core.specs.Linked.{class_names, number_in, names_of, class_or, class_among, class_from}
use Rattle.cx_soundness.specs.Types.{LeafType, number_leaf, pointer_leaf, function_leaf, no_value, Layout, unknown_class, known_class, made_class, object, no_result, Signature, Declared}
use Rattle.cx_soundness.specs.Given.{signature_at, begins, leaf_types, layout_in, is_made, is_whole}
use Rattle.cx_soundness.specs.Programs.{go_together, all_are, height_of, is_called_on, is_called_on_two, is_leaf_kind, is_lower, is_field_of, is_low_function, is_default, has_leaves, destroys, is_class_typed, are_classes_typed}
use Rattle.cx_soundness.specs.Units.{renamed_leaf, renamed_signature_or_none, is_unit_function_typed, is_unit_class_typed, are_unit_classes_typed, is_definition_of, is_low_in, destroys_in, is_default_in, is_typed_unit, Agrees}
use Rattle.cx_soundness.specs.Linking.{ByName, declared_by, is_class_found_among, is_class_found, is_default_low, is_made_low, is_made_rightly, are_made_rightly}
use Rattle.cx_soundness.proofs.LinkedUnits.{HeightsAgree, AreTypedUnits, no_unit, typed_unit}
use Rattle.cx_soundness.proofs.Same.{both_left, both_right, both_true}
use Rattle.cx_soundness.proofs.RenamedTypes.{whole_same, begins_types, signatures_same}
use Rattle.cx_soundness.proofs.RenamedOperators.{dropped_same}
use Rattle.cx_soundness.proofs.LinkedFunctions.{same_some, at_map, number_of_name}
use Rattle.cx_soundness.proofs.LinkedTables.{every_of, number_of_nth}

pub layout_there : (o : Option Layout) → is_made o ≡ true → (layout : List LeafType) × (o ≡ Some (made_class layout))
layout_there None h = absurd cc
layout_there (Some unknown_class) h = absurd cc
layout_there (Some (known_class layout)) h = absurd cc
layout_there (Some (made_class layout)) h = (layout, refl)

-- ---- what is asked of a class besides how its objects are made

module _ (declared : Declared) where
  abbrev is_default_on : ℕ → Option ℕ → Bool
  is_default_on c None = true
  is_default_on c (Some f) = is_called_on declared (signature_at declared.functions f) (class c)

  abbrev has_members : ℕ → List LeafType → Class → Bool
  has_members c layout definition =
      (go_together (is_leaf_kind declared) layout definition.leaves && all_are (is_field_of declared (height_of declared.heights c) layout) definition.fields)
      && (is_called_on declared (signature_at declared.functions definition.destructor) (class c) && is_called_on_two declared (signature_at declared.functions definition.copy_constructor) (class c))
      && (is_default_on c definition.default_constructor && has_leaves declared definition.fields layout)

-- ---- the class of one unit

module _ (names : Names) (unit program : Declared) (agrees : Agrees names unit program) (heights : (c : ℕ) → is_whole unit (class c) ≡ true → height_of program.heights (names.class_number c) ≡ height_of unit.heights c) where
  abbrev rl : LeafType → LeafType
  rl t = renamed_leaf names t

  leaf_kind_same : (t : LeafType) (k : LeafKind) → is_leaf_kind program (rl t) k ≡ is_leaf_kind unit t k
  leaf_kind_same (number_leaf s) kinds.number_leaf = refl
  leaf_kind_same (number_leaf s) kinds.pointer_leaf = refl
  leaf_kind_same (number_leaf s) kinds.empty_leaf = refl
  leaf_kind_same (pointer_leaf to) kinds.number_leaf = refl
  leaf_kind_same (pointer_leaf to) kinds.pointer_leaf = refl
  leaf_kind_same (pointer_leaf to) kinds.empty_leaf = refl
  leaf_kind_same (function_leaf type) kinds.number_leaf = refl
  leaf_kind_same (function_leaf type) kinds.pointer_leaf = refl
  leaf_kind_same (function_leaf type) kinds.empty_leaf = refl
  leaf_kind_same no_value kinds.number_leaf = refl
  leaf_kind_same no_value kinds.pointer_leaf = refl
  leaf_kind_same no_value kinds.empty_leaf = refl

  leaf_kinds : (ts : List LeafType) (ks : List LeafKind) → go_together (is_leaf_kind unit) ts ks ≡ true → go_together (is_leaf_kind program) (map rl ts) ks ≡ true
  leaf_kinds [] [] h = refl
  leaf_kinds [] (k ∷ ks) h = absurd cc
  leaf_kinds (t ∷ ts) [] h = absurd cc
  leaf_kinds (t ∷ ts) (k ∷ ks) h = both_true _ _ (leaf_kind_same t k ∙ both_left _ _ h) (leaf_kinds ts ks (both_right (is_leaf_kind unit t k) _ h))

  lower_same : (height : ℕ) (type : ObjectType) → is_whole unit type ≡ true → is_lower unit height type ≡ true → is_lower program height (renamed_type names type) ≡ true
  lower_same height (class c) whole h = ap (λ n. nat_lt n height) (heights c whole) ∙ h
  lower_same height (scalar s) whole h = refl
  lower_same height (pointer to) whole h = refl
  lower_same height (function_pointer k) whole h = refl

  field_typed : (height : ℕ) (ts : List LeafType) (f : Field) → is_field_of unit height ts f ≡ true → is_field_of program height (map rl ts) (renamed_field names f) ≡ true
  field_typed height ts f h =
      let first = both_left _ (is_lower unit height f.type) h in
      let whole = both_right (begins (leaf_types unit f.type) (drop f.leaf ts)) _ first in
      both_true _ _
      (both_true _ _
      (ap (λ us. begins (leaf_types program (renamed_type names f.type)) us) (dropped_same names unit program agrees f.leaf ts) ∙ begins_types names unit program agrees f.type (drop f.leaf ts) ∙ both_left _ (is_whole unit f.type) first)
      (whole_same names unit program agrees f.type ∙ whole))
      (lower_same height f.type whole (both_right (begins (leaf_types unit f.type) (drop f.leaf ts) && is_whole unit f.type) _ h))

  fields_typed : (height : ℕ) (ts : List LeafType) (fs : List Field) → all_are (is_field_of unit height ts) fs ≡ true → all_are (is_field_of program height (map rl ts)) (map (renamed_field names) fs) ≡ true
  fields_typed height ts [] h = refl
  fields_typed height ts (f ∷ fs) h = both_true _ _ (field_typed height ts f (both_left _ _ h)) (fields_typed height ts fs (both_right (is_field_of unit height ts f) _ h))

  leaves_there : (fs : List Field) (ts : List LeafType) → has_leaves unit fs ts ≡ true → has_leaves program (map (renamed_field names) fs) (map rl ts) ≡ true
  leaves_there (f ∷ fs) ts h = refl
  leaves_there [] (t ∷ ts) h = refl
  leaves_there [] [] h = absurd cc

  module _ (c : ℕ) where
    called_of : (o : Option Signature) → is_called_on program (renamed_signature_or_none names o) (class (names.class_number c)) ≡ is_called_on unit o (class c)
    called_of None = refl
    called_of (Some s) = signatures_same names unit program agrees s (record { parameters = object (class c) ∷ []; result = no_result })

    called_two_of : (o : Option Signature) → is_called_on_two program (renamed_signature_or_none names o) (class (names.class_number c)) ≡ is_called_on_two unit o (class c)
    called_two_of None = refl
    called_two_of (Some s) = signatures_same names unit program agrees s (record { parameters = object (class c) ∷ object (class c) ∷ []; result = no_result })

    called_same : (f : ℕ) → is_called_on program (signature_at program.functions (names.function_number f)) (class (names.class_number c)) ≡ is_called_on unit (signature_at unit.functions f) (class c)
    called_same f = ap (λ o. is_called_on program o (class (names.class_number c))) (agrees.functions_agree f) ∙ called_of (signature_at unit.functions f)

    called_two_same : (f : ℕ) → is_called_on_two program (signature_at program.functions (names.function_number f)) (class (names.class_number c)) ≡ is_called_on_two unit (signature_at unit.functions f) (class c)
    called_two_same f = ap (λ o. is_called_on_two program o (class (names.class_number c))) (agrees.functions_agree f) ∙ called_two_of (signature_at unit.functions f)

    default_same : (o : Option ℕ) → is_default_on program (names.class_number c) (renamed_function_or_none names o) ≡ is_default_on unit c o
    default_same None = refl
    default_same (Some f) = called_same f

    members_typed : is_whole unit (class c) ≡ true → (layout : List LeafType) (definition : Class) → has_members unit c layout definition ≡ true → has_members program (names.class_number c) (map rl layout) (renamed_class names definition) ≡ true
    members_typed whole layout definition h =
        let first = both_left _ (is_default_on unit c definition.default_constructor && has_leaves unit definition.fields layout) h in
        let shape = both_left _ (is_called_on unit (signature_at unit.functions definition.destructor) (class c) && is_called_on_two unit (signature_at unit.functions definition.copy_constructor) (class c)) first in
        let kinds_known = both_left _ (all_are (is_field_of unit (height_of unit.heights c) layout) definition.fields) shape in
        let fields_known = both_right (go_together (is_leaf_kind unit) layout definition.leaves) _ shape in
        let calls = both_right (go_together (is_leaf_kind unit) layout definition.leaves && all_are (is_field_of unit (height_of unit.heights c) layout) definition.fields) _ first in
        let last = both_right ((go_together (is_leaf_kind unit) layout definition.leaves && all_are (is_field_of unit (height_of unit.heights c) layout) definition.fields) && (is_called_on unit (signature_at unit.functions definition.destructor) (class c) && is_called_on_two unit (signature_at unit.functions definition.copy_constructor) (class c))) _ h in
        both_true _ _
        (both_true _ _
        (both_true _ _ (leaf_kinds layout definition.leaves kinds_known)
        (subst (λ n. all_are (is_field_of program n (map rl layout)) (map (renamed_field names) definition.fields) ≡ true) (sym (heights c whole)) (fields_typed (height_of unit.heights c) layout definition.fields fields_known)))
        (both_true _ _ (called_same definition.destructor ∙ both_left _ _ calls) (called_two_same definition.copy_constructor ∙ both_right (is_called_on unit (signature_at unit.functions definition.destructor) (class c)) _ calls)))
        (both_true _ _ (default_same definition.default_constructor ∙ both_left _ _ last) (leaves_there definition.fields layout (both_right (is_default_on unit c definition.default_constructor) _ last)))

-- ---- what the tests of units and of programs have in common

module _ (a b called low ends called_two low_two default leaves : Bool) where
  abbrev IsAsked : Type 0
  IsAsked = (a && b && (called && low && ends) && (called_two && low_two) && default && leaves) ≡ true

  asked_parts : IsAsked → ((a && b) ≡ true) × (called ≡ true) × (called_two ≡ true) × (default ≡ true) × (leaves ≡ true)
  asked_parts h =
      let upto_default = both_left (a && b && (called && low && ends) && (called_two && low_two) && default) leaves h in
      let upto_two = both_left (a && b && (called && low && ends) && (called_two && low_two)) default upto_default in
      let upto_one = both_left (a && b && (called && low && ends)) (called_two && low_two) upto_two in (
        both_left (a && b) (called && low && ends) upto_one,
        both_left called low (both_left (called && low) ends (both_right (a && b) (called && low && ends) upto_one)),
        both_left called_two low_two (both_right (a && b && (called && low && ends)) (called_two && low_two) upto_two),
        both_right (a && b && (called && low && ends) && (called_two && low_two)) default upto_default,
        both_right (a && b && (called && low && ends) && (called_two && low_two) && default) leaves h,
      )

  asked_of : (a && b) ≡ true → called ≡ true → low ≡ true → ends ≡ true → called_two ≡ true → low_two ≡ true → default ≡ true → leaves ≡ true → IsAsked
  asked_of ab c l e t m d v =
      both_true _ _ (both_true _ _ (both_true _ _ (both_true _ _ ab (both_true _ _ (both_true _ _ c l) e)) (both_true _ _ t m)) d) v

default_on : (unit : Declared) (p : Planned) (c height : ℕ) (o : Option ℕ) → is_default_in unit p.unit c height o ≡ true → is_default_on unit c o ≡ true
default_on unit p c height None h = refl
default_on unit p c height (Some f) h = both_left _ _ h

unit_members : (unit : Declared) (p : Planned) (c : ℕ) (layout : List LeafType) (definition : Class) → is_definition_of unit p.unit c layout (Some definition) ≡ true → has_members unit c layout definition ≡ true
unit_members unit p c layout definition h =
    let height = height_of unit.heights c in
    let parts = asked_parts (go_together (is_leaf_kind unit) layout definition.leaves) (all_are (is_field_of unit height layout) definition.fields)
    (is_called_on unit (signature_at unit.functions definition.destructor) (class c)) (is_low_in unit p.unit height (slice_get p.unit.functions definition.destructor)) (destroys_in unit p.unit (slice_get p.unit.functions definition.destructor))
    (is_called_on_two unit (signature_at unit.functions definition.copy_constructor) (class c)) (is_low_in unit p.unit height (slice_get p.unit.functions definition.copy_constructor))
    (is_default_in unit p.unit c height definition.default_constructor) (has_leaves unit definition.fields layout) h in
    both_true _ _ (both_true _ _ parts.0 (both_true _ _ parts.1 parts.2)) (both_true _ _ (default_on unit p c height definition.default_constructor parts.3) parts.4)

default_of : (program : Declared) (functions : List Function) (c height : ℕ) (o : Option ℕ) → is_default_on program c o ≡ true → is_default_low program functions height o ≡ true → is_default program functions c height o ≡ true
default_of program functions c height None h k = refl
default_of program functions c height (Some f) h k = both_true _ _ h k

program_class : (program : Declared) (functions : List Function) (c : ℕ) (layout : List LeafType) (definition : Class) → has_members program c layout definition ≡ true → is_made_low program functions (height_of program.heights c) definition ≡ true
    → is_class_typed program functions c (made_class layout) definition ≡ true
program_class program functions c layout definition h low =
    let height = height_of program.heights c in
    let a = go_together (is_leaf_kind program) layout definition.leaves in
    let b = all_are (is_field_of program height layout) definition.fields in
    let called = is_called_on program (signature_at program.functions definition.destructor) (class c) in
    let called_two = is_called_on_two program (signature_at program.functions definition.copy_constructor) (class c) in
    let default = is_default_on program c definition.default_constructor in
    let leaves = has_leaves program definition.fields layout in
    let low_one = is_low_function program height (slice_get functions definition.destructor) in
    let ends = destroys program (slice_get functions definition.destructor) in
    let low_two = is_low_function program height (slice_get functions definition.copy_constructor) in
    let low_default = is_default_low program functions height definition.default_constructor in
    let first = both_left ((a && b) && (called && called_two)) (default && leaves) h in
    let calls = both_right (a && b) (called && called_two) first in
    let last = both_right ((a && b) && (called && called_two)) (default && leaves) h in
    let upto_two = both_left ((low_one && ends) && low_two) low_default low in
    let one = both_left (low_one && ends) low_two upto_two in
    asked_of a b called low_one ends called_two low_two (is_default program functions c height definition.default_constructor) leaves
    (both_left (a && b) (called && called_two) first) (both_left called called_two calls) (both_left low_one ends one) (both_right low_one ends one)
    (both_right called called_two calls) (both_right (low_one && ends) low_two upto_two)
    (default_of program functions c height definition.default_constructor (both_left default leaves last) (both_right ((low_one && ends) && low_two) low_default low)) (both_right default leaves last)

-- ---- tables

pub unit_classes_at : (unit : Declared) (p : Planned) (k : ℕ) (layouts : List Layout) (classes : List UnitClass) → are_unit_classes_typed unit p.unit k layouts classes ≡ true
    → (j : ℕ) (layout : List LeafType) (c : UnitClass) → slice_get layouts j ≡ Some (made_class layout) → slice_get classes j ≡ Some c → is_unit_class_typed unit p.unit (k + j) (made_class layout) c ≡ true
unit_classes_at unit p k [] classes h j layout c e f = absurd cc
unit_classes_at unit p k (l ∷ layouts) [] h j layout c e f = absurd cc
unit_classes_at unit p k (l ∷ layouts) (d ∷ classes) h zero layout c e f =
    subst (λ n. is_unit_class_typed unit p.unit n (made_class layout) c ≡ true) (same k)
    (subst (λ x. is_unit_class_typed unit p.unit k (made_class layout) x ≡ true) (same_some d c f) (subst (λ o. is_unit_class_typed unit p.unit k o d ≡ true) (same_some l (made_class layout) e) (both_left _ _ h)))
  where
    same : (n : ℕ) → n ≡ n + 0
    same n = omega arith
unit_classes_at unit p k (l ∷ layouts) (d ∷ classes) h (suc j) layout c e f =
    subst (λ n. is_unit_class_typed unit p.unit n (made_class layout) c ≡ true) (moved k j) (unit_classes_at unit p (suc k) layouts classes (both_right (is_unit_class_typed unit p.unit k l d) _ h) j layout c e f)
  where
    moved : (a b : ℕ) → suc a + b ≡ a + suc b
    moved a b = omega arith

pub none_and : (n : ℕ) → 0 + n ≡ n
none_and n = omega arith

class_tables : (program : Declared) (functions : List Function) (f : List ℕ → Layout) (g : List ℕ → Class) (k : ℕ) (names : List (List ℕ)) → ((i : ℕ) (name : List ℕ) → slice_get names i ≡ Some name → is_class_typed program functions (k + i) (f name) (g name) ≡ true)
    → are_classes_typed program functions k (map f names) (map g names) ≡ true
class_tables program functions f g k [] h = refl
class_tables program functions f g k (n ∷ names) h =
    both_true _ _ (subst (λ m. is_class_typed program functions m (f n) (g n) ≡ true) (same k) (h 0 n refl))
    (class_tables program functions f g (suc k) names (λ i name e. subst (λ m. is_class_typed program functions m (f name) (g name) ≡ true) (moved k i) (h (suc i) name e)))
  where
    same : (n : ℕ) → n + 0 ≡ n
    same n = omega arith

    moved : (a b : ℕ) → a + suc b ≡ suc a + b
    moved a b = omega arith

-- ---- the classes of the program

module _ (units : List Planned) (named : ByName) where
  abbrev program : Declared
  program = declared_by units named

  module _ (name : List ℕ) (P : Class → Type 0) where
    among : (p : Planned) (classes : List UnitClass) (later : Class) (found_later : Bool)
        → ((j : ℕ) (c : UnitClass) (definition : Class) → slice_get classes j ≡ Some c → c.name ≡ name → c.definition ≡ Some definition → P (renamed_class (names_of units p) definition))
        → (found_later ≡ true → P later) → is_class_found_among name classes found_later ≡ true → P (class_among units name p classes later)
    among p [] later found_later at behind found = behind found
    among p (c ∷ classes) later found_later at behind found =
        by_test (λ has. among p classes later found_later (λ j d definition e f g. at (suc j) d definition e f g) behind has) (bytes_eq c.name name) refl found
      where
        of_definition : (o : Option Class) → c.definition ≡ o → c.name ≡ name → (is_defined o || found_later) ≡ true → P (class_or units c.name p o later)
        of_definition None e same has = behind has
        of_definition (Some definition) e same has = at 0 c definition refl same e

        by_test : (is_class_found_among name classes found_later ≡ true → P (class_among units name p classes later)) → (t : Bool) → bytes_eq c.name name ≡ t
            → (if t then (is_defined c.definition || found_later) else is_class_found_among name classes found_later) ≡ true
            → P (if t then class_or units name p c.definition later else class_among units name p classes later)
        by_test others true same has = of_definition c.definition refl ((bytes_eq-Decides c.name name).0 same) has
        by_test others false same has = others has

  pub unit_classes : (unit : Declared) (p : Planned) → is_typed_unit unit p.unit ≡ true → are_unit_classes_typed unit p.unit 0 unit.layouts p.unit.classes ≡ true
  unfolding is_typed_unit
  unit_classes unit p typed = both_right (go_together (is_unit_function_typed unit p.unit) unit.functions p.unit.functions) _ (both_left _ _ (both_left _ _ typed))

  -- a class that the program knows, at its number
  module _ (c : ℕ) (name : List ℕ) (layout : List LeafType) (e : slice_get (class_names units) c ≡ Some name) (made : named.layout_of name ≡ made_class layout) where
    at_number : number_in (class_names units) name ≡ c
    at_number = (number_of_nth [] _ c name e).0

    layout_at : slice_get program.layouts c ≡ Some (made_class layout)
    layout_at = at_map named.layout_of (class_names units) c name e ∙ ap (λ l. Some l) made

    of_unit : (p : Planned) (unit : Declared) → Agrees (names_of units p) unit program → HeightsAgree units named p unit → is_typed_unit unit p.unit ≡ true
        → (j : ℕ) (d : UnitClass) (definition : Class) → slice_get p.unit.classes j ≡ Some d → d.name ≡ name → d.definition ≡ Some definition → has_members program c layout (renamed_class (names_of units p) definition) ≡ true
    of_unit p unit agrees heights typed j d definition f same g =
        let names = names_of units p in
        let number = number_of_name (class_names units) _ j d.name (at_map (λ (x : UnitClass). x.name) p.unit.classes j d f) ∙ (ap (λ n. number_in (class_names units) n) same ∙ at_number) in
        let whole_there = subst (λ n. is_whole program (class n) ≡ true) (sym number) (ap is_made layout_at) in
        let whole = sym (agrees.whole_agree j) ∙ whole_there in
        let found = layout_there (slice_get unit.layouts j) whole in
        let here = subst (λ o. is_definition_of unit p.unit j found.0 o ≡ true) g (subst (λ n. is_unit_class_typed unit p.unit n (made_class found.0) d ≡ true) (none_and j) (unit_classes_at unit p 0 unit.layouts p.unit.classes (unit_classes unit p typed) j found.0 d found.1 f)) in
        let members = members_typed names unit program agrees heights j whole found.0 definition (unit_members unit p j found.0 definition here) in
        let leaves = sym (ap layout_in layout_at) ∙ (ap (λ n. leaf_types program (class n)) (sym number) ∙ (agrees.leaves_agree j ∙ ap (λ o. map (renamed_leaf names) (layout_in o)) found.1)) in
        subst (λ ts. has_members program c ts (renamed_class names definition) ≡ true) (sym leaves)
        (subst (λ n. has_members program n (map (renamed_leaf names) found.0) (renamed_class names definition) ≡ true) number members)

    from : (later : List Planned) → AreTypedUnits units named later → is_class_found name later ≡ true → has_members program c layout (class_from units name later) ≡ true
    from [] no_unit found = absurd cc
    from (p ∷ later) (typed_unit _ _ unit agrees defaults kinds heights globals typed rest) found =
        among name (λ definition. has_members program c layout definition ≡ true) p p.unit.classes (class_from units name later) (is_class_found name later)
        (of_unit p unit agrees heights typed) (λ behind. from later rest behind) found

  module _ (all : AreTypedUnits units named units) (functions : List Function) (rightly : are_made_rightly units named functions ≡ true) where
    class_typed : (c : ℕ) (name : List ℕ) → slice_get (class_names units) c ≡ Some name → is_class_typed program functions c (named.layout_of name) (class_from units name units) ≡ true
    class_typed c name e = by_layout (named.layout_of name) refl
      where
        heights_at : (o : Option ℕ) → slice_get program.heights c ≡ o → o ≡ Some (named.height_of name) → height_of program.heights c ≡ named.height_of name
        heights_at o f g = ap number_or (f ∙ g)
          where
            number_or : Option ℕ → ℕ
            number_or None = 0
            number_or (Some n) = n

        by_layout : (l : Layout) → named.layout_of name ≡ l → is_class_typed program functions c l (class_from units name units) ≡ true
        by_layout unknown_class f = refl
        by_layout (known_class layout) f = refl
        by_layout (made_class layout) f =
            let asked = subst (λ l. is_made_rightly l (is_class_found name units && is_made_low program functions (named.height_of name) (class_from units name units)) ≡ true) f
            (every_of (λ n. is_made_rightly (named.layout_of n) (is_class_found n units && is_made_low program functions (named.height_of n) (class_from units n units))) (class_names units) rightly c name e) in
            program_class program functions c layout (class_from units name units) (from c name layout e f units all (both_left _ _ asked))
            (subst (λ n. is_made_low program functions n (class_from units name units) ≡ true) (sym (heights_at _ refl (at_map named.height_of (class_names units) c name e))) (both_right (is_class_found name units) _ asked))

    pub classes_typed : are_classes_typed program functions 0 program.layouts (map (λ name. class_from units name units) (class_names units)) ≡ true
    classes_typed = class_tables program functions named.layout_of (λ name. class_from units name units) 0 (class_names units) (λ i name e. subst (λ n. is_class_typed program functions n (named.layout_of name) (class_from units name units) ≡ true) (sym (none_and i)) (class_typed i name e))
