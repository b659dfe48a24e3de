-- Where what a unit declares is, by name, what the program declares, it is so under the program's numbers.
use Rattle.std.proofs.Common.{◌≡◌, refl, sym, ap, ◌∙◌, subst, arith, ℕ, ◌+◌, Bool, true, ◌&&◌, nat_eq, List, [], ◌∷◌, ◌++◌, map, length, Option, Some, None}
use Rattle.std.specs.Prelude.{slice_get}
use Rattle.std.specs.List.{flat_map}
use Rattle.cx_core.specs.Tree.{ObjectType, class}
use Rattle.cx_core.specs.Program as source
use Rattle.cx_core.specs.Program.{ResultKind, Field, Class}
use Rattle.cx_core.specs.Unit.{FunctionType, UnitFunction, UnitClass, UnitGlobal}
use Rattle.cx_core.specs.Renamed.{Names, renamed_type, renamed_type_or_none, renamed_field, renamed_class}
use Rattle.cx_core.specs.Renamed as core
use Rattle.cx_core.specs.Numbers.{Planned}
use Rattle.cx_core.specs.Linked.{is_among, function_names, function_type_names, class_names, global_names, declared_globals, defined_globals, names_of}
use Rattle.cx_core.specs.Apart.{NamesOnce, KeepsApart}
use Rattle.cx_soundness.specs.Types.{LeafType, Layout, unknown_class, known_class, made_class, Signature, Declared}
use Rattle.cx_soundness.specs.Given.{same_object, same_leaf, same_signature, layout_in, is_made, leaf_types, is_whole, signature_in, signature_at, type_in, type_at}
use Rattle.cx_soundness.specs.Programs.{go_together, all_are, height_in}
use Rattle.cx_soundness.specs.Units.{renamed_leaf, renamed_signature, renamed_signature_or_none, renamed_layout, Agrees}
use Rattle.cx_soundness.specs.Linking.{ByName, same_if_any, same_kind, same_leaves, same_layout, are_distinct_after, are_named_once, declared_by, is_function_alike, is_function_type_alike, is_global_alike, is_layout_alike, is_height_alike, is_class_alike, are_alike, is_unused_or, are_globals_defined, are_globals_distinct}
use Rattle.cx_soundness.proofs.Same.{both_left, both_right, equal_numbers, equal_objects, equal_leaves, equal_signatures}
use Rattle.cx_soundness.proofs.LinkedUnits.{KindsAgree, HeightsAgree, GlobalsAgree}
use Rattle.cx_soundness.proofs.LinkedFunctions.{same_some, at_map, number_of_name}
use Rattle.cx_soundness.proofs.LinkedNames.{told_apart, among_right, among_each, placed, among_distinct, all_among, are_distinct, none_behind, as_long, number_behind, AtBoth, together_at, mapped, table_agrees}
use Rattle.cx_soundness.proofs.LinkedGlobals.{type_found, no_fewer, unused_or_found}

-- ---- declarations that are found equal

equal_if_any : {A : Type 0} (same : A → A → Bool) → ((a b : A) → same a b ≡ true → a ≡ b) → (a b : Option A) → same_if_any same a b ≡ true → a ≡ b
equal_if_any same equal None None h = refl
equal_if_any same equal None (Some b) h = absurd cc
equal_if_any same equal (Some a) None h = absurd cc
equal_if_any same equal (Some a) (Some b) h = ap (λ x. Some x) (equal a b h)

equal_kinds : (a b : ResultKind) → same_kind a b ≡ true → a ≡ b
equal_kinds source.void source.void h = refl
equal_kinds source.scalar_value source.scalar_value h = refl
equal_kinds source.scalar_object source.scalar_object h = refl
equal_kinds (source.class_object c) (source.class_object d) h = ap source.class_object (equal_numbers c d h)
equal_kinds source.reference source.reference h = refl
equal_kinds source.exit_status source.exit_status h = refl
equal_kinds _ _ h = absurd cc

equal_lists : (ts us : List LeafType) → same_leaves ts us ≡ true → ts ≡ us
equal_lists [] [] h = refl
equal_lists [] (u ∷ us) h = absurd cc
equal_lists (t ∷ ts) [] h = absurd cc
equal_lists (t ∷ ts) (u ∷ us) h =
    let first = equal_leaves t u (both_left _ _ h) in
    let rest = equal_lists ts us (both_right (same_leaf t u) _ h) in
    cc

equal_layouts : (a b : Layout) → same_layout a b ≡ true → a ≡ b
equal_layouts unknown_class unknown_class h = refl
equal_layouts (known_class a) (known_class b) h = ap known_class (equal_lists a b h)
equal_layouts (made_class a) (made_class b) h = ap made_class (equal_lists a b h)
equal_layouts _ _ h = absurd cc

module _ (units : List Planned) (named : ByName) (defined : are_globals_defined units named ≡ true) (distinct : are_globals_distinct units ≡ true) where
  abbrev program : Declared
  program = declared_by units named

  abbrev defined_names : List (List ℕ)
  defined_names = map (λ g. g.0) (defined_globals units)

  module _ (earlier : List Planned) (p : Planned) (later : List Planned) (split : earlier ++ p ∷ later ≡ units) (unit : Declared) (alike : are_alike units named p unit ≡ true) where
    abbrev names : Names
    names = names_of units p

    -- ---- what is alike

    abbrev functions_are : Bool
    functions_are = go_together (is_function_alike units named p) unit.functions p.unit.functions

    abbrev function_types_are : Bool
    function_types_are = go_together (is_function_type_alike units named p) unit.function_types p.unit.function_types

    abbrev globals_are : Bool
    globals_are = go_together (is_global_alike units named p) unit.globals p.unit.globals

    abbrev layouts_are : Bool
    layouts_are = go_together (is_layout_alike units named p) unit.layouts p.unit.classes

    abbrev heights_are : Bool
    heights_are = go_together (is_height_alike units named p) unit.heights p.unit.classes

    abbrev classes_are : Bool
    classes_are = all_are (is_class_alike units named p) p.unit.classes

    upto_classes : (functions_are && function_types_are && globals_are && layouts_are && heights_are && classes_are) ≡ true
    upto_classes = both_left _ (are_named_once p.unit) alike

    upto_heights : (functions_are && function_types_are && globals_are && layouts_are && heights_are) ≡ true
    upto_heights = both_left _ classes_are upto_classes

    upto_layouts : (functions_are && function_types_are && globals_are && layouts_are) ≡ true
    upto_layouts = both_left _ heights_are upto_heights

    upto_globals : (functions_are && function_types_are && globals_are) ≡ true
    upto_globals = both_left _ layouts_are upto_layouts

    upto_types : (functions_are && function_types_are) ≡ true
    upto_types = both_left _ globals_are upto_globals

    functions_alike : functions_are ≡ true
    functions_alike = both_left _ function_types_are upto_types

    function_types_alike : function_types_are ≡ true
    function_types_alike = both_right functions_are _ upto_types

    globals_alike : globals_are ≡ true
    globals_alike = both_right (functions_are && function_types_are) _ upto_globals

    pub layouts_alike : layouts_are ≡ true
    layouts_alike = both_right (functions_are && function_types_are && globals_are) _ upto_layouts

    heights_alike : heights_are ≡ true
    heights_alike = both_right (functions_are && function_types_are && globals_are && layouts_are) _ upto_heights

    pub classes_alike : classes_are ≡ true
    classes_alike = both_right (functions_are && function_types_are && globals_are && layouts_are && heights_are) _ upto_classes

    named_once : are_named_once p.unit ≡ true
    named_once = both_right (functions_are && function_types_are && globals_are && layouts_are && heights_are && classes_are) _ alike

    pub names_once : NamesOnce p.unit
    names_once =
        let functions = are_distinct_after [] (map (λ f. f.name) p.unit.functions) in
        let types = are_distinct_after [] (map (λ t. t.name) p.unit.function_types) in
        let classes = are_distinct_after [] (map (λ c. c.name) p.unit.classes) in
        let globals = are_distinct_after [] (map (λ g. g.name) p.unit.globals) in
        let three = both_left (functions && types && classes) globals named_once in
        let two = both_left (functions && types) classes three in
        record {
          functions = are_distinct [] _ (both_left functions types two);
          function_types = are_distinct [] _ (both_right functions types two);
          classes = are_distinct [] _ (both_right (functions && types) classes three);
          globals = are_distinct [] _ (both_right (functions && types && classes) globals named_once);
        }

    -- ---- names of the unit are among those of the program

    among_units : (f : Planned → List (List ℕ)) (i : ℕ) (n : List ℕ) → slice_get (f p) i ≡ Some n → is_among (flat_map f units) n ≡ true
    among_units f i n e = subst (λ all. is_among (flat_map f all) n ≡ true) split (among_each f earlier p later n (placed (f p) i n e))

    function_among : (i : ℕ) (f : UnitFunction) → slice_get p.unit.functions i ≡ Some f → is_among (function_names units) f.name ≡ true
    function_among i f e = among_distinct [] _ f.name refl (among_units (λ q. map (λ g. g.name) q.unit.functions) i f.name (at_map (λ (g : UnitFunction). g.name) p.unit.functions i f e))

    function_type_among : (i : ℕ) (t : FunctionType) → slice_get p.unit.function_types i ≡ Some t → is_among (function_type_names units) t.name ≡ true
    function_type_among i t e = among_distinct [] _ t.name refl (among_units (λ q. map (λ g. g.name) q.unit.function_types) i t.name (at_map (λ (g : FunctionType). g.name) p.unit.function_types i t e))

    pub class_among : (i : ℕ) (c : UnitClass) → slice_get p.unit.classes i ≡ Some c → is_among (class_names units) c.name ≡ true
    class_among i c e = among_distinct [] _ c.name refl (among_units (λ q. map (λ g. g.name) q.unit.classes) i c.name (at_map (λ (g : UnitClass). g.name) p.unit.classes i c e))

    global_among : (i : ℕ) (g : UnitGlobal) → slice_get p.unit.globals i ≡ Some g → is_among (global_names units) g.name ≡ true
    global_among i g e =
        among_distinct [] _ g.name refl (among_right g.name defined_names (declared_globals units) (among_units (λ q. map (λ h. h.name) q.unit.globals) i g.name (at_map (λ (h : UnitGlobal). h.name) p.unit.globals i g e)))

    -- ---- functions and their types

    function_equal : (o : Option Signature) (f : UnitFunction) → is_function_alike units named p o f ≡ true → renamed_signature_or_none names o ≡ named.signature_of f.name
    function_equal o f h = equal_if_any same_signature equal_signatures _ _ (both_left _ _ h)

    functions_agree : (f : ℕ) → signature_at program.functions (names.function_number f) ≡ renamed_signature_or_none names (signature_at unit.functions f)
    functions_agree f =
        ap signature_in (table_agrees (is_function_alike units named p) (renamed_signature_or_none names) named.signature_of (λ g. g.name) (function_names units) unit.functions p.unit.functions function_equal function_among functions_alike f)
        ∙ inside (slice_get unit.functions f)
      where
        inside : (o : Option (Option Signature)) → signature_in (mapped (renamed_signature_or_none names) o) ≡ renamed_signature_or_none names (signature_in o)
        inside None = refl
        inside (Some o) = refl

    function_types_agree : (type : ℕ) → slice_get program.function_types (names.function_type_number type) ≡ renamed_signature_or_none names (slice_get unit.function_types type)
    function_types_agree type =
        table_agrees (is_function_type_alike units named p) (renamed_signature names) named.function_type_of (λ t. t.name) (function_type_names units) unit.function_types p.unit.function_types (λ s t h. equal_signatures _ _ h) function_type_among function_types_alike type
        ∙ inside (slice_get unit.function_types type)
      where
        inside : (o : Option Signature) → mapped (renamed_signature names) o ≡ renamed_signature_or_none names o
        inside None = refl
        inside (Some s) = refl

    pub kinds_agree : KindsAgree units named p p.unit.functions
    kinds_agree j f e = by_both (slice_get unit.functions j) (slice_get p.unit.functions j) e (together_at (is_function_alike units named p) unit.functions p.unit.functions functions_alike j)
      where
        by_both : (o : Option (Option Signature)) (g : Option UnitFunction) → g ≡ Some f → AtBoth (is_function_alike units named p) o g → core.renamed_result names f.result ≡ named.kind_of f.name
        by_both None None h b = absurd cc
        by_both None (Some g) h b = absurd b
        by_both (Some o) None h b = absurd b
        by_both (Some o) (Some g) h b =
            subst (λ (k : UnitFunction). core.renamed_result names k.result ≡ named.kind_of k.name) (same_some g f h)
            (equal_kinds _ _ (both_right (same_if_any same_signature (renamed_signature_or_none names o) (named.signature_of g.name)) _ b))

    -- ---- classes

    layouts_agree : (c : ℕ) → slice_get program.layouts (names.class_number c) ≡ mapped (renamed_layout names) (slice_get unit.layouts c)
    layouts_agree c = table_agrees (is_layout_alike units named p) (renamed_layout names) named.layout_of (λ d. d.name) (class_names units) unit.layouts p.unit.classes (λ l d h. equal_layouts _ _ h) class_among layouts_alike c

    leaves_agree : (c : ℕ) → leaf_types program (class (names.class_number c)) ≡ map (renamed_leaf names) (leaf_types unit (class c))
    leaves_agree c = ap layout_in (layouts_agree c) ∙ inside (slice_get unit.layouts c)
      where
        inside : (o : Option Layout) → layout_in (mapped (renamed_layout names) o) ≡ map (renamed_leaf names) (layout_in o)
        inside None = refl
        inside (Some unknown_class) = refl
        inside (Some (known_class leaves)) = refl
        inside (Some (made_class leaves)) = refl

    whole_agree : (c : ℕ) → is_whole program (class (names.class_number c)) ≡ is_whole unit (class c)
    whole_agree c = ap is_made (layouts_agree c) ∙ inside (slice_get unit.layouts c)
      where
        inside : (o : Option Layout) → is_made (mapped (renamed_layout names) o) ≡ is_made o
        inside None = refl
        inside (Some unknown_class) = refl
        inside (Some (known_class leaves)) = refl
        inside (Some (made_class leaves)) = refl

    pub heights_agree : HeightsAgree units named p unit
    heights_agree c whole =
        ap height_in (table_agrees (is_height_alike units named p) (λ h. h) named.height_of (λ d. d.name) (class_names units) unit.heights p.unit.classes (λ h d e. equal_numbers h (named.height_of d.name) e) class_among heights_alike c)
        ∙ inside (slice_get unit.heights c)
      where
        inside : (o : Option ℕ) → height_in (mapped (λ h. h) o) ≡ height_in o
        inside None = refl
        inside (Some h) = refl

    -- ---- globals

    global_equal : (o : Option ObjectType) (g : UnitGlobal) → is_global_alike units named p o g ≡ true → renamed_type_or_none names o ≡ named.type_of g.name
    global_equal o g h = equal_if_any same_object equal_objects _ _ h

    globals_agree : (i : ℕ) → type_at program.globals (names.global_number i) ≡ renamed_type_or_none names (type_at unit.globals i)
    globals_agree i = by_both (slice_get unit.globals i) (slice_get p.unit.globals i) refl (together_at (is_global_alike units named p) unit.globals p.unit.globals globals_alike i)
      where
        by_both : (o : Option (Option ObjectType)) (g : Option UnitGlobal) → slice_get p.unit.globals i ≡ g → AtBoth (is_global_alike units named p) o g → type_at program.globals (names.global_number i) ≡ renamed_type_or_none names (type_in o)
        by_both None None e b =
            let few = no_fewer [] defined_names (declared_globals units) distinct in
            let length_of = as_long named.type_of defined_names in
            ap (λ n. type_at program.globals n) (number_behind (global_names units) (λ (g : UnitGlobal). g.name) p.unit.globals i e)
            ∙ ap type_in (none_behind program.globals (length (global_names units) + i) (omega (arith, few, length_of)))
        by_both None (Some g) e b = absurd b
        by_both (Some o) None e b = absurd b
        by_both (Some o) (Some g) e b =
            ap (λ n. type_at program.globals n) (number_of_name (global_names units) _ i g.name (at_map (λ (h : UnitGlobal). h.name) p.unit.globals i g e))
            ∙ (type_found named.type_of [] defined_names (declared_globals units) g.name distinct
            ∙ (unused_or_found (named.type_of g.name) (is_among defined_names g.name) (all_among (λ n. is_unused_or (named.type_of n) (is_among defined_names n)) (global_names units) g.name defined (global_among i g e))
            ∙ sym (global_equal o g b)))

    pub types_agree : GlobalsAgree units named p unit
    types_agree j g e = by_both (slice_get unit.globals j) (slice_get p.unit.globals j) e (together_at (is_global_alike units named p) unit.globals p.unit.globals globals_alike j)
      where
        by_both : (o : Option (Option ObjectType)) (h : Option UnitGlobal) → h ≡ Some g → AtBoth (is_global_alike units named p) o h → named.type_of g.name ≡ renamed_type_or_none names (type_in o)
        by_both None None k b = absurd cc
        by_both None (Some h) k b = absurd b
        by_both (Some o) None k b = absurd b
        by_both (Some o) (Some h) k b = subst (λ (x : UnitGlobal). named.type_of x.name ≡ renamed_type_or_none names o) (same_some h g k) (sym (global_equal o h b))

    -- ---- together

    pub agrees : KeepsApart earlier p later → Agrees names unit program
    agrees keeps = record {
      functions_agree = functions_agree;
      function_types_agree = function_types_agree;
      globals_agree = globals_agree;
      leaves_agree = leaves_agree;
      whole_agree = whole_agree;
      classes_apart = subst (λ all. (a b : ℕ) → nat_eq ((names_of all p).class_number a) ((names_of all p).class_number b) ≡ nat_eq a b) split (told_apart _ keeps.classes);
      function_types_apart = subst (λ all. (a b : ℕ) → nat_eq ((names_of all p).function_type_number a) ((names_of all p).function_type_number b) ≡ nat_eq a b) split (told_apart _ keeps.function_types);
    }
