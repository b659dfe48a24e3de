-- What a typed program's test says of its functions, classes, checks and handler.
use Rattle.std.proofs.Common.{◌≡◌, refl, sym, ap, subst, arith, ℕ, zero, suc, ◌+◌, ◌<◌, Bool, true, ◌&&◌, List, [], ◌∷◌, length, Option, Some, None}
use Rattle.std.specs.Prelude.{slice_get, nat_lt}
use Rattle.cx_core.specs.Tree.{class}
use Rattle.cx_core.specs.Program.{Program, Checks, Function, Class}
use Rattle.cx_soundness.specs.Types as types
use Rattle.cx_soundness.specs.Types.{Layout, unknown_class, known_class, made_class, LeafType, no_result, status, Signature, Declared}
use Rattle.cx_soundness.specs.Given.{signature_at, layout_in, is_made, leaf_types, is_whole}
use Rattle.cx_soundness.specs.Programs.{go_together, all_are, height_of, are_checks_typed, is_function_typed, is_unused_or_typed, is_caller_typed, is_class_typed, are_classes_typed, handles, is_handler, is_main, are_callers_typed, is_unused_or_global, is_low, is_typed_program}
use Rattle.cx_soundness.proofs.Same.{both_left, both_right, equal_signatures}
use Rattle.cx_soundness.proofs.Leaving.{less_than}
use Rattle.cx_soundness.proofs.Lives.{Facts}

found_alike : {A : Type 0} (a b : A) → Some a ≡ Some b → a ≡ b
found_alike a b e = cc

pub together : {A B : Type 0} (p : A → B → Bool) (xs : List A) (ys : List B) → go_together p xs ys ≡ true → (i : ℕ) (x : A) → slice_get xs i ≡ Some x → (y : B) × (slice_get ys i ≡ Some y) × (p x y ≡ true)
together p [] ys h i x e = absurd cc
together p (a ∷ xs) [] h i x e = absurd cc
together p (a ∷ xs) (b ∷ ys) h zero x e = (b, refl, subst (λ z. p z b ≡ true) (found_alike a x e) (both_left _ _ h))
together p (a ∷ xs) (b ∷ ys) h (suc i) x e = together p xs ys (both_right (p a b) _ h) i x e

abbrev checks_in : Option Checks → Checks
checks_in None = record { preconditions = []; postconditions = [] }
checks_in (Some checks) = checks

abbrev checks_by : ℕ → Option (List Checks) → Checks
checks_by f None = checks_in None
checks_by f (Some list) = checks_in (slice_get list f)

module _ (declared : Declared) where
  used_at : (classes : List Class) (signatures : List (Option Signature)) (functions : List Function) → go_together (is_unused_or_typed declared classes) signatures functions ≡ true → (f : ℕ) (signature : Signature) → signature_at signatures f ≡ Some signature
      → (definition : Function) × (slice_get functions f ≡ Some definition) × (is_function_typed declared classes signature definition ≡ true)
  used_at classes [] functions h f signature e = absurd cc
  used_at classes (s ∷ signatures) [] h f signature e = absurd cc
  used_at classes (s ∷ signatures) (d ∷ functions) h zero signature e = (d, refl, subst (λ k. is_unused_or_typed declared classes k d ≡ true) e (both_left _ _ h))
  used_at classes (s ∷ signatures) (d ∷ functions) h (suc f) signature e = used_at classes signatures functions (both_right (is_unused_or_typed declared classes s d) _ h) f signature e

  classes_at : (functions : List Function) (k : ℕ) (layouts : List Layout) (classes : List Class) → are_classes_typed declared functions k layouts classes ≡ true
      → (i : ℕ) (layout : List LeafType) → slice_get layouts i ≡ Some (made_class layout) → (definition : Class) × (slice_get classes i ≡ Some definition) × (is_class_typed declared functions (k + i) (made_class layout) definition ≡ true)
  classes_at functions k [] classes h i layout e = absurd cc
  classes_at functions k (l ∷ layouts) [] h i layout e = absurd cc
  classes_at functions k (l ∷ layouts) (c ∷ classes) h zero layout e =
      (c, refl, subst (λ n. is_class_typed declared functions n (made_class layout) c ≡ true) (same k) (subst (λ o. is_class_typed declared functions k o c ≡ true) (found_alike l (made_class layout) e) (both_left _ _ h)))
    where
      same : (n : ℕ) → n ≡ n + 0
      same n = omega arith
  classes_at functions k (l ∷ layouts) (c ∷ classes) h (suc i) layout e =
      let later = classes_at functions (suc k) layouts classes (both_right (is_class_typed declared functions k l c) _ h) i layout e in
      (later.0, later.1, subst (λ n. is_class_typed declared functions n (made_class layout) later.0 ≡ true) (moved k i) later.2)
    where
      moved : (a b : ℕ) → suc a + b ≡ a + suc b
      moved a b = omega arith

  layout_there : (o : Option Layout) → is_made o ≡ true → (layout : List LeafType) × (o ≡ Some (made_class layout))
  layout_there None h = absurd cc
  layout_there (Some unknown_class) h = absurd cc
  layout_there (Some (known_class layout)) h = absurd cc
  layout_there (Some (made_class layout)) h = (layout, refl)

  low_height : (n : ℕ) (heights : List ℕ) (c : ℕ) → 0 < n → all_are (is_low declared n) heights ≡ true → height_of heights c < n
  low_height n [] c l h = l
  low_height n (height ∷ heights) zero l h = less_than height n (both_left _ _ h)
  low_height n (height ∷ heights) (suc c) l h = low_height n heights c l (both_right (nat_lt height n) _ h)

  within_list : (classes : List Class) (i : ℕ) (c : Class) → slice_get classes i ≡ Some c → 0 < length classes
  within_list [] i c e = absurd cc
  within_list (d ∷ classes) i c e = omega arith

  no_checks_typed : (signature : Signature) (f : Function) → are_checks_typed declared signature f.result (record { preconditions = []; postconditions = [] }) ≡ true
  no_checks_typed signature f = refl

  list_at : (signatures : List (Option Signature)) (functions : List Function) (list : List Checks) → are_callers_typed declared signatures functions list ≡ true
      → (f : ℕ) (signature : Signature) (definition : Function) → signature_at signatures f ≡ Some signature → slice_get functions f ≡ Some definition → are_checks_typed declared signature definition.result (checks_in (slice_get list f)) ≡ true
  list_at signatures functions [] h f signature definition e g = refl
  list_at [] functions (c ∷ list) h f signature definition e g = absurd cc
  list_at (s ∷ signatures) [] (c ∷ list) h f signature definition e g = absurd cc
  list_at (s ∷ signatures) (d ∷ functions) (c ∷ list) h zero signature definition e g =
      subst (λ (k : Function). is_caller_typed declared (Some signature) k c ≡ true) (found_alike d definition g) (subst (λ k. is_caller_typed declared k d c ≡ true) e (both_left _ _ h))
  list_at (s ∷ signatures) (d ∷ functions) (c ∷ list) h (suc f) signature definition e g = list_at signatures functions list (both_right (is_caller_typed declared s d c) _ h) f signature definition e g

  callers_at : (signatures : List (Option Signature)) (functions : List Function) (callers : List (List Checks)) → all_are (are_callers_typed declared signatures functions) callers ≡ true
      → (unit f : ℕ) (signature : Signature) (definition : Function) → signature_at signatures f ≡ Some signature → slice_get functions f ≡ Some definition → are_checks_typed declared signature definition.result (checks_by f (slice_get callers unit)) ≡ true
  callers_at signatures functions [] h unit f signature definition e g = refl
  callers_at signatures functions (list ∷ callers) h zero f signature definition e g = list_at signatures functions list (both_left _ _ h) f signature definition e g
  callers_at signatures functions (list ∷ callers) h (suc unit) f signature definition e g = callers_at signatures functions callers (both_right (are_callers_typed declared signatures functions list) _ h) unit f signature definition e g

  handled_by : (o : Option Signature) → handles declared o ≡ true → o ≡ Some (record { parameters = types.report ∷ []; result = no_result })
  handled_by None h = absurd cc
  handled_by (Some signature) h = ap Some (equal_signatures signature (record { parameters = types.report ∷ []; result = no_result }) h)

  main_by : (o : Option Signature) → is_main declared o ≡ true → o ≡ Some (record { parameters = []; result = status })
  main_by None h = absurd cc
  main_by (Some signature) h = ap Some (equal_signatures signature (record { parameters = []; result = status }) h)

  module _ (program : Program) (typed : is_typed_program declared program ≡ true) where
    abbrev all_but_handler : Bool
    all_but_handler =
        go_together (is_unused_or_typed declared program.classes) declared.functions program.functions
        && are_classes_typed declared program.functions 0 declared.layouts program.classes
        && all_are (is_low declared (length program.classes)) declared.heights
        && go_together (is_unused_or_global declared) declared.globals program.globals
        && all_are (are_callers_typed declared declared.functions program.functions) program.callers
        && is_main declared (signature_at declared.functions program.main)

    opened : (all_but_handler && is_handler declared program.handler) ≡ true
    unfolding is_typed_program
    opened = typed

    but_handler : all_but_handler ≡ true
    but_handler = both_left _ _ opened

    pub main_is : signature_at declared.functions program.main ≡ Some (record { parameters = []; result = status })
    main_is = main_by (signature_at declared.functions program.main) (both_right _ _ but_handler)

    pub globals_are : go_together (is_unused_or_global declared) declared.globals program.globals ≡ true
    globals_are = both_right _ _ (both_left _ _ (both_left _ _ but_handler))

    handler_is : (handler : Option ℕ) (f : ℕ) → is_handler declared handler ≡ true → handler ≡ Some f → signature_at declared.functions f ≡ Some (record { parameters = types.report ∷ []; result = no_result })
    handler_is None f h e = absurd cc
    handler_is (Some g) f h e = handled_by (signature_at declared.functions f) (subst (λ k. handles declared (signature_at declared.functions k) ≡ true) (found_alike g f e) h)

    class_is : (c : ℕ) → is_whole declared (class c) ≡ true → (definition : Class) × (slice_get program.classes c ≡ Some definition) × (is_class_typed declared program.functions c (made_class (leaf_types declared (class c))) definition ≡ true)
    class_is c w =
        let layout = layout_there (slice_get declared.layouts c) w in
        let found = classes_at program.functions 0 declared.layouts program.classes (both_right _ _ (both_left _ _ (both_left _ _ (both_left _ _ (both_left _ _ but_handler))))) c layout.0 layout.1 in (
          found.0,
          found.1,
          subst (λ ts. is_class_typed declared program.functions c (made_class ts) found.0 ≡ true) (sym (ap layout_in layout.1)) (subst (λ n. is_class_typed declared program.functions n (made_class layout.0) found.0 ≡ true) (from_zero c) found.2),
        )
      where
        from_zero : (n : ℕ) → 0 + n ≡ n
        from_zero n = omega arith

    pub facts : Facts declared program
    facts = record {
      functions = λ f signature e. used_at program.classes declared.functions program.functions (both_left _ _ (both_left _ _ (both_left _ _ (both_left _ _ (both_left _ _ but_handler))))) f signature e;
      classes = class_is;
      low = λ c w. let found = class_is c w in
          low_height (length program.classes) declared.heights c (within_list program.classes c found.0 found.1) (both_right _ _ (both_left _ _ (both_left _ _ (both_left _ _ but_handler))));
      handler = λ f e. handler_is program.handler f (both_right all_but_handler _ opened) e;
      callers = λ unit f signature definition e g. callers_at declared.functions program.functions program.callers (both_right _ _ (both_left _ _ but_handler)) unit f signature definition e g;
    }
