-- The functions of a program that typed units are linked into are typed.
use Rattle.std.proofs.Common.{◌≡◌, refl, sym, ap, ◌∙◌, subst, ℕ, zero, suc, Bool, true, false, ◌||◌, if◌then◌else◌, List, [], ◌∷◌, map, Option, Some, None}
use Rattle.std.specs.Prelude.{bytes_eq, slice_get}
use Rattle.std.proofs.lemmas.Slice.Eq.{bytes_eq-Decides}
use Rattle.cx_core.specs.Words.{Definer}
use Rattle.cx_core.specs.Tree.{Assertion}
use Rattle.cx_core.specs.Program.{Body, Function, Class}
use Rattle.cx_core.specs.Unit.{UnitFunction, is_defined}
use Rattle.cx_core.specs.Numbers.{Planned, Numbers}
use Rattle.cx_core.specs.Linked.{function_names, number_in, number_of_index, names_of, check_of, check_at, checks_of, or_defined, definition_among, definition_from, caller_among}
use Rattle.cx_soundness.specs.Types.{Signature, Declared}
use Rattle.cx_soundness.specs.Given.{signature_at}
use Rattle.cx_soundness.specs.Statements.{is_placed_check}
use Rattle.cx_soundness.specs.Programs.{go_together, are_checks_typed, is_function_typed}
use Rattle.cx_soundness.specs.Units.{class_or_none, is_placed_in, is_unit_function_typed, is_typed_unit, renamed_signature, renamed_signature_or_none, Agrees, DefaultsStay}
use Rattle.cx_soundness.specs.Linking.{ByName, declared_by, linked_classes, is_found_among, is_found}
use Rattle.cx_soundness.proofs.LinkedUnits.{KindsAgree, AreTypedUnits, no_unit, typed_unit}
use Rattle.cx_soundness.proofs.Same.{both_left, both_right}
use Rattle.cx_soundness.proofs.RenamedBodies.{definitions_stay_typed, checks_stay_typed}

pub same_some : {A : Type 0} (a b : A) → Some a ≡ Some b → a ≡ b
same_some a b e = cc

-- what stands for an assertion is placed if the assertion is
placed_of : (p : Planned) (times : List ℕ → ℕ) (o : Option Assertion) → is_placed_check (check_of p times o) ≡ is_placed_in o
placed_of p times None = refl
placed_of p times (Some a) = refl

pub at_map : {A B : Type 0} (f : A → B) (list : List A) (i : ℕ) (a : A) → slice_get list i ≡ Some a → slice_get (map f list) i ≡ Some (f a)
at_map f [] i a e = absurd cc
at_map f (x ∷ list) zero a e = ap (λ y. Some (f y)) (same_some x a e)
at_map f (x ∷ list) (suc i) a e = at_map f list i a e

-- the number of an index is that of the name that stands there
pub number_of_name : (all table : List (List ℕ)) (i : ℕ) (name : List ℕ) → slice_get table i ≡ Some name → number_of_index all table i ≡ number_in all name
number_of_name all table i name e = rw e refl

module _ (units : List Planned) (named : ByName) (numbers : Numbers) where
  abbrev program : Declared
  program = declared_by units named

  abbrev classes : List Class
  classes = linked_classes units named

  abbrev signature_under : List ℕ → Option Signature
  signature_under name = signature_at program.functions (number_in (function_names units) name)

  -- a definition of the function of this name, if the program has its signature
  abbrev IsTyped : List ℕ → Function → Type 0
  IsTyped name f = (s : Signature) → signature_under name ≡ Some s → is_function_typed program classes s f ≡ true

  module _ (p : Planned) (unit : Declared) (agrees : Agrees (names_of units p) unit program)
      (defaults : DefaultsStay (names_of units p) unit program (map class_or_none p.unit.classes) classes) (definer : ℕ) (later : Function) (found_later : Bool) where
    abbrev Alike : List (Option Signature) → List UnitFunction → Type 0
    Alike signatures functions = (j : ℕ) (f : UnitFunction) → slice_get functions j ≡ Some f → signature_under f.name ≡ renamed_signature_or_none (names_of units p) (signature_at signatures j)

    -- the first function that has the name
    here : (f : UnitFunction) (o : Option Signature) (b : Option (Body ℕ)) → f.body ≡ b → signature_under f.name ≡ renamed_signature_or_none (names_of units p) o → is_unit_function_typed unit p.unit o f ≡ true
        → (found_later ≡ true → IsTyped f.name later) → (is_defined b || found_later) ≡ true → IsTyped f.name (or_defined units numbers definer p f b later)
    here f o None e alike typed behind found s has = behind found s has
    here f None (Some b) e alike typed behind found s has = by_none (sym has ∙ alike)
      where
        by_none : Some s ≡ None → is_function_typed program classes s (or_defined units numbers definer p f (Some b) later) ≡ true
        by_none h = absurd cc
    here f (Some own) (Some b) e alike typed behind found s has =
        let same = same_some (renamed_signature (names_of units p) own) s (sym alike ∙ has) in
        subst (λ k. is_function_typed program classes k (or_defined units numbers definer p f (Some b) later) ≡ true) same
        (definitions_stay_typed (names_of units p) unit program p.unit classes (check_at p (numbers definer Definer)) agrees defaults (λ a. placed_of p (numbers definer Definer) (slice_get p.unit.assertions a)) own f b definer e typed)

    among : (name : List ℕ) (signatures : List (Option Signature)) (functions : List UnitFunction) → Alike signatures functions → go_together (is_unit_function_typed unit p.unit) signatures functions ≡ true
        → (found_later ≡ true → IsTyped name later) → is_found_among name functions found_later ≡ true → IsTyped name (definition_among units numbers name definer p functions later)
    among name signatures [] alike typed behind found = behind found
    among name [] (f ∷ functions) alike typed behind found = absurd cc
    among name (o ∷ signatures) (f ∷ functions) alike typed behind found = by_test (λ has. among name signatures functions (λ j. alike (suc j)) (both_right (is_unit_function_typed unit p.unit o f) _ typed) behind has) (bytes_eq f.name name) refl found
      where
        by_test : (is_found_among name functions found_later ≡ true → IsTyped name (definition_among units numbers name definer p functions later)) → (t : Bool) → bytes_eq f.name name ≡ t → (if t then (is_defined f.body || found_later) else is_found_among name functions found_later) ≡ true
            → IsTyped name (if t then or_defined units numbers definer p f f.body later else definition_among units numbers name definer p functions later)
        by_test others true same has =
            let e = (bytes_eq-Decides f.name name).0 same in
            subst (λ n. IsTyped n (or_defined units numbers definer p f f.body later)) e
            (here f o f.body refl (alike 0 f refl) (both_left _ _ typed) (subst (λ n. found_later ≡ true → IsTyped n later) (sym e) behind) has)
        by_test others false same has = others has

  pub functions_of_unit : (unit : Declared) (p : Planned) → is_typed_unit unit p.unit ≡ true → go_together (is_unit_function_typed unit p.unit) unit.functions p.unit.functions ≡ true
  unfolding is_typed_unit
  functions_of_unit unit p typed = both_left _ _ (both_left _ _ (both_left _ _ typed))

  pub signatures_alike : (p : Planned) (unit : Declared) → Agrees (names_of units p) unit program → (j : ℕ) (f : UnitFunction) → slice_get p.unit.functions j ≡ Some f
      → signature_under f.name ≡ renamed_signature_or_none (names_of units p) (signature_at unit.functions j)
  signatures_alike p unit agrees j f e =
      ap (λ n. signature_at program.functions n) (sym (number_of_name (function_names units) _ j f.name (at_map (λ (g : UnitFunction). g.name) p.unit.functions j f e))) ∙ agrees.functions_agree j

  pub from : (name : List ℕ) (definer : ℕ) (later : List Planned) → AreTypedUnits units named later → is_found name later ≡ true → IsTyped name (definition_from units numbers name definer later)
  from name definer [] no_unit found = absurd cc
  from name definer (p ∷ later) (typed_unit _ _ unit agrees defaults kinds heights globals typed rest) found =
      among p unit agrees defaults definer (definition_from units numbers name (suc definer) later) (is_found name later) name unit.functions p.unit.functions (signatures_alike p unit agrees) (functions_of_unit unit p typed)
      (λ behind. from name (suc definer) later rest behind) found

  -- ---- kinds of functions

  kind_among : (p : Planned) (definer : ℕ) (later : Function) (found_later : Bool) (name : List ℕ) (functions : List UnitFunction) → KindsAgree units named p functions
      → (found_later ≡ true → later.result ≡ named.kind_of name) → is_found_among name functions found_later ≡ true → (definition_among units numbers name definer p functions later).result ≡ named.kind_of name
  kind_among p definer later found_later name [] kinds behind found = behind found
  kind_among p definer later found_later name (f ∷ functions) kinds behind found =
      by_test (λ has. kind_among p definer later found_later name functions (λ j g e. kinds (suc j) g e) behind has) (bytes_eq f.name name) refl found
    where
      of_body : (b : Option (Body ℕ)) → named.kind_of f.name ≡ named.kind_of name → (is_defined b || found_later) ≡ true → (or_defined units numbers definer p f b later).result ≡ named.kind_of name
      of_body None same has = behind has
      of_body (Some b) same has = kinds 0 f refl ∙ same

      by_test : (is_found_among name functions found_later ≡ true → (definition_among units numbers name definer p functions later).result ≡ named.kind_of name)
          → (t : Bool) → bytes_eq f.name name ≡ t → (if t then (is_defined f.body || found_later) else is_found_among name functions found_later) ≡ true
          → (if t then or_defined units numbers definer p f f.body later else definition_among units numbers name definer p functions later).result ≡ named.kind_of name
      by_test others true same has = of_body f.body (ap named.kind_of ((bytes_eq-Decides f.name name).0 same)) has
      by_test others false same has = others has

  pub kind_from : (name : List ℕ) (definer : ℕ) (later : List Planned) → AreTypedUnits units named later → is_found name later ≡ true → (definition_from units numbers name definer later).result ≡ named.kind_of name
  kind_from name definer [] no_unit found = absurd cc
  kind_from name definer (p ∷ later) (typed_unit _ _ unit agrees defaults kinds heights globals typed rest) found =
      kind_among p definer (definition_from units numbers name (suc definer) later) (is_found name later) name p.unit.functions kinds (λ behind. kind_from name (suc definer) later rest behind) found

  -- ---- the checks of Callers

  module _ (p : Planned) (unit : Declared) (agrees : Agrees (names_of units p) unit program) (times : List ℕ → ℕ) where
    pub caller_typed : (name : List ℕ) (s : Signature) → signature_under name ≡ Some s → (signatures : List (Option Signature)) (functions : List UnitFunction)
        → ((j : ℕ) (f : UnitFunction) → slice_get functions j ≡ Some f → signature_under f.name ≡ renamed_signature_or_none (names_of units p) (signature_at signatures j))
        → go_together (is_unit_function_typed unit p.unit) signatures functions ≡ true → KindsAgree units named p functions
        → are_checks_typed program s (named.kind_of name) (caller_among units name p times functions) ≡ true
    caller_typed name s has signatures [] alike typed kinds = refl
    caller_typed name s has [] (f ∷ functions) alike typed kinds = absurd cc
    caller_typed name s has (o ∷ signatures) (f ∷ functions) alike typed kinds =
        by_test (caller_typed name s has signatures functions (λ j. alike (suc j)) (both_right (is_unit_function_typed unit p.unit o f) _ typed) (λ j g e. kinds (suc j) g e)) (bytes_eq f.name name) refl
      where
        of_own : (own : Option Signature) → signature_under f.name ≡ renamed_signature_or_none (names_of units p) own → signature_under f.name ≡ Some s → is_unit_function_typed unit p.unit own f ≡ true
            → are_checks_typed program s (named.kind_of f.name) (checks_of units p times f) ≡ true
        of_own None here has typed = by_none (sym has ∙ here)
          where
            by_none : Some s ≡ None → are_checks_typed program s (named.kind_of f.name) (checks_of units p times f) ≡ true
            by_none h = absurd cc
        of_own (Some own) here has typed =
            let same = same_some (renamed_signature (names_of units p) own) s (sym here ∙ has) in
            subst (λ k. are_checks_typed program k (named.kind_of f.name) (checks_of units p times f) ≡ true) same
            (subst (λ k. are_checks_typed program (renamed_signature (names_of units p) own) k (checks_of units p times f) ≡ true) (kinds 0 f refl)
            (checks_stay_typed (names_of units p) unit program p.unit (check_at p times) agrees (λ a. placed_of p times (slice_get p.unit.assertions a)) own f typed))

        by_test : are_checks_typed program s (named.kind_of name) (caller_among units name p times functions) ≡ true → (t : Bool) → bytes_eq f.name name ≡ t
            → are_checks_typed program s (named.kind_of name) (if t then checks_of units p times f else caller_among units name p times functions) ≡ true
        by_test others true same =
            let e = (bytes_eq-Decides f.name name).0 same in
            subst (λ n. are_checks_typed program s (named.kind_of n) (checks_of units p times f) ≡ true) e
            (of_own o (alike 0 f refl) (subst (λ n. signature_under n ≡ Some s) (sym e) has) (both_left _ _ typed))
        by_test others false same = others
