-- A typed program never comes to undefined behaviour that no well made program has, and what `main` returns is a number of `int`.
use Rattle.std.proofs.Common.{◌≡◌, ◌≢◌, refl, sym, ap, ◌∙◌, subst, arith, append_assoc, length-append, add-one, ℕ, zero, suc, ◌+◌, ℤ, true, List, [], ◌∷◌, ◌++◌, map, length, Option, Some, None}
use Rattle.std.specs.Prelude.{slice_get}
use Rattle.std.specs.List.{All}
use Rattle.std.proofs.lemmas.List.Elements.{All-nil, All-cons}
use Rattle.cx_core.specs.declared.number.IntegerType.TheVariants as integers
use Rattle.cx_core.specs.Words.{Returned, Undefined, Mixed}
use Rattle.cx_core.specs.Number.{in_range}
use Rattle.cx_core.specs.Tree.{ObjectType, scalar, pointer, function_pointer, class, Constant}
use Rattle.cx_core.specs.Tree as tree
use Rattle.cx_core.specs.Program as source
use Rattle.cx_core.specs.Program.{Program, Function, Body, ResultKind, is_counted}
use Rattle.cx_core.specs.Store.{Value, number, address, null, function, violation, Leaf}
use Rattle.cx_core.specs.Event.{Evaluation, ended}
use Rattle.cx_core.specs.Outcome.{Outcome, on, thrown, over}
use Rattle.cx_core.specs.Operators.{constant}
use Rattle.cx_core.specs.Runs.{AreBytes}
use Rattle.cx_core.specs.Meaning.{meaning_of, mean, mean_within, start, main_call, globals_from, calls_within}
use Rattle.cx_soundness.specs.Types.{LeafType, number_leaf, pointer_leaf, function_leaf, status, Signature, Declared, Given, no_name, Context}
use Rattle.cx_soundness.specs.Given.{leaf_types, type_at, accepts, constant_given}
use Rattle.cx_soundness.specs.Programs.{go_together, is_unused_or_global, is_suited, are_checks_typed, is_typed_program}
use Rattle.cx_soundness.specs.Laws.{TypedProgramsAreWellMade}
use Rattle.cx_soundness.proofs.Same.{both_left, both_right}
use Rattle.cx_soundness.proofs.Worlds.{World, IsGiven, IsHeld, IsLeaf}
use Rattle.cx_soundness.proofs.Comes.{IsEnd}
use Rattle.cx_soundness.proofs.Comes as parts
use Rattle.cx_soundness.proofs.Stores.{IsObject}
use Rattle.cx_soundness.proofs.States.{Around, AreGlobals, IsLiving, IsException, Typed}
use Rattle.cx_soundness.proofs.Values.{given_held}
use Rattle.cx_soundness.proofs.Lives.{IsReturned, most, IsCall}
use Rattle.cx_soundness.proofs.Typed.{main_is, globals_are, facts}
use Rattle.cx_soundness.proofs.Depth.{IsCountedAt, calls_keep}

module _ (declared : Declared) where
  -- ---- the globals

  constant_is : (c : Constant) (W : World) → IsGiven declared W (constant_given c) (constant c)
  constant_is (tree.number n) W = λ t e. e
  constant_is tree.nullptr W = tt {0}

  same : (a b : LeafType) → Some a ≡ Some b → a ≡ b
  same a b e = cc

  same_leaf : (a b : Leaf) → Some a ≡ Some b → a ≡ b
  same_leaf a b e = cc

  held_by : (c : Constant) (W : World) (l u : LeafType) (x : Leaf) → l ≡ u → Some (constant c) ≡ x → IsHeld declared W l (constant c) → IsLeaf declared W u x
  held_by c W l u x p q k = subst (λ y. IsLeaf declared W u y) q (subst (λ v. IsHeld declared W v (constant c)) p k)

  -- the one leaf of a global
  global_leaf : (type : ObjectType) (c : Constant) (W : World) → accepts declared type (constant_given c) ≡ true
      → (i : ℕ) (t : LeafType) (leaf : Leaf) → slice_get (leaf_types declared type) i ≡ Some t → slice_get (Some (constant c) ∷ []) i ≡ Some leaf → IsLeaf declared W t leaf
  global_leaf type c W h (suc i) t leaf e g = absurd cc
  global_leaf (scalar s) c W h zero t leaf e g = held_by c W (number_leaf s) t leaf (same _ _ e) (same_leaf _ _ g) (given_held declared W (number_leaf s) (constant_given c) (constant c) h (constant_is c W))
  global_leaf (pointer to) c W h zero t leaf e g = held_by c W (pointer_leaf to) t leaf (same _ _ e) (same_leaf _ _ g) (given_held declared W (pointer_leaf to) (constant_given c) (constant c) h (constant_is c W))
  global_leaf (function_pointer f) c W h zero t leaf e g = held_by c W (function_leaf f) t leaf (same _ _ e) (same_leaf _ _ g) (given_held declared W (function_leaf f) (constant_given c) (constant c) h (constant_is c W))
  global_leaf (class d) c W h zero t leaf e g = absurd cc

  at_end : (before : World) (leaves : List LeafType) (more : World) → slice_get (before ++ leaves ∷ more) (length before) ≡ Some leaves
  at_end [] leaves more = refl
  at_end (first ∷ before) leaves more = at_end before leaves more

  one_longer : (before : World) (leaves : List LeafType) → length (before ++ leaves ∷ []) ≡ suc (length before)
  one_longer before leaves = length-append before (leaves ∷ []) ∙ (omega arith)

  -- of a global that no code names nothing is known
  abbrev global_leaves : Option ObjectType → List LeafType
  global_leaves None = []
  global_leaves (Some type) = leaf_types declared type

  known_leaf : (type : Option ObjectType) (c : Constant) (W : World) → is_unused_or_global declared type c ≡ true
      → (i : ℕ) (t : LeafType) (leaf : Leaf) → slice_get (global_leaves type) i ≡ Some t → slice_get (Some (constant c) ∷ []) i ≡ Some leaf → IsLeaf declared W t leaf
  known_leaf None c W h i t leaf e g = absurd cc
  known_leaf (Some type) c W h i t leaf e g = global_leaf type c W h i t leaf e g

  global_objects : (before : World) (globals : List (Option ObjectType)) (constants : List Constant) (W : World) → W ≡ before ++ map global_leaves globals → (n : ℕ) → n ≡ length before
      → go_together (is_unused_or_global declared) globals constants ≡ true → All (IsObject declared W) (globals_from n constants)
  global_objects before [] [] W e n m h = All-nil (IsObject declared W)
  global_objects before [] (c ∷ constants) W e n m h = absurd cc
  global_objects before (g ∷ globals) [] W e n m h = absurd cc
  global_objects before (g ∷ globals) (c ∷ constants) W e n m h =
      All-cons (IsObject declared W) (record { number = n; leaves = Some (constant c) ∷ [] }) (globals_from (suc n) constants)
      (record { types = global_leaves g; made = subst (λ V. slice_get V n ≡ Some (global_leaves g)) (sym e) (subst (λ k. slice_get (before ++ global_leaves g ∷ map global_leaves globals) k ≡ Some (global_leaves g)) (sym m) (at_end before (global_leaves g) (map global_leaves globals))); hold = known_leaf g c W (both_left _ _ h) })
      (global_objects (before ++ global_leaves g ∷ []) globals constants W (e ∙ sym (append_assoc before (global_leaves g ∷ []) (map global_leaves globals))) (suc n) (ap suc m ∙ sym (one_longer before (global_leaves g)))
      (both_right (is_unused_or_global declared g c) _ h))

  as_many : (globals : List (Option ObjectType)) (constants : List Constant) → go_together (is_unused_or_global declared) globals constants ≡ true → length (map global_leaves globals) ≡ length constants
  as_many [] [] h = refl
  as_many [] (c ∷ constants) h = absurd cc
  as_many (g ∷ globals) [] h = absurd cc
  as_many (g ∷ globals) (c ∷ constants) h = ap suc (as_many globals constants (both_right (is_unused_or_global declared g c) _ h))

  mapped : (globals : List (Option ObjectType)) (i : ℕ) (type : ObjectType) → type_at globals i ≡ Some type → slice_get (map global_leaves globals) i ≡ Some (leaf_types declared type)
  mapped [] i type e = absurd cc
  mapped (g ∷ globals) zero type e = ap (λ o. Some (global_leaves o)) e
  mapped (g ∷ globals) (suc i) type e = mapped globals i type e

  -- ---- the start of a run

  module _ (program : Program) (typed : is_typed_program declared program ≡ true) where
    abbrev first_world : World
    first_world = [] ∷ map global_leaves declared.globals

    abbrev outside : Around
    outside = record { living = most declared program; temporaries = most declared program; innermost = None }

    abbrev nowhere : Context
    nowhere = record { slots = []; result = no_name; caught = None }

    first_globals : AreGlobals declared first_world
    first_globals i type e = record {
      leaves = leaf_types declared type;
      made = subst (λ n. slice_get first_world n ≡ Some (leaf_types declared type)) (sym (add-one i)) (mapped declared.globals i type e);
      stand = λ j t k. subst (λ n. slice_get (leaf_types declared type) n ≡ Some t) (from_zero j) k;
    }
      where
        from_zero : (n : ℕ) → n ≡ 0 + n
        from_zero n = omega arith

    started : (begins : List Evaluation) (input : List ℕ) (budget : ℕ) → AreBytes input → Typed declared outside nowhere first_world (start program begins input budget)
    started begins input budget bytes = record {
      objects = global_objects ([] ∷ []) declared.globals program.globals first_world refl 1 refl (globals_are declared program typed);
      made = ap suc (as_many declared.globals program.globals (globals_are declared program typed)) ∙ sym (add-one (length program.globals));
      framed = record { variables = λ slot v e. absurd (none slot v e); result = refl };
      are_living = All-nil (IsLiving declared first_world (most declared program));
      are_temporaries = All-nil (IsLiving declared first_world (most declared program));
      are_held = All-nil (IsException declared first_world);
      innermost = tt {0};
      globals = first_globals;
      bytes = bytes;
    }
      where
        none : (slot : ℕ) (v : Given) → slice_get [] slot ≡ Some v → ⊥
        none slot v e = cc

    -- ---- `main`

    abbrev of_main : Signature
    of_main = record { parameters = []; result = status }

    main_call_is : IsCall declared program first_world (main_call program)
    main_call_is = record { signature = of_main; declares = main_is declared program typed; arguments = tt {0}; result = λ definition found. refl }

    -- it is no constructor or destructor
    main_body : (kind : ResultKind) (b : Body tree.Check) (checks : source.Checks) → is_suited declared b checks status ≡ true → is_counted b ≡ true
    main_body kind (source.function b) checks h = refl
    main_body kind (source.constructor fields b) checks h = absurd cc
    main_body kind (source.destructor c b) checks h = absurd cc
    main_body kind (source.implicit_constructor c) checks h = absurd cc
    main_body kind (source.implicit_copy_constructor c) checks h = absurd cc
    main_body kind (source.implicit_destructor c) checks h = absurd cc

    one_function : (a b : Function) (o : Option Function) → o ≡ Some a → o ≡ Some b → a ≡ b
    one_function a b o p q = cc

    main_counted : IsCountedAt declared program (facts declared program typed) program.main
    main_counted definition found =
        let known = (facts declared program typed).functions program.main of_main (main_is declared program typed) in
        subst (λ (g : Function). is_counted g.body ≡ true) (one_function known.0 definition (slice_get program.functions program.main) known.1 found)
        (main_body known.0.result known.0.body known.0.checks (both_right (are_checks_typed declared of_main known.0.result known.0.checks) _ (both_right _ _ (both_left _ _ known.2))))

    abbrev Comes : Outcome Value → Type 0
    Comes o = parts.ComesTo (IsException declared) first_world (Typed declared outside nowhere) (Typed declared outside nowhere) (λ V x. IsReturned declared V status x) o

    main_comes : (begins : List Evaluation) (input : List ℕ) (budget : ℕ) → AreBytes input → Comes (calls_within program 4096 (main_call program) (start program begins input budget))
    unfolding main_call_is
    main_comes begins input budget bytes =
        ((calls_keep declared program (facts declared program typed) 4096).keep outside nowhere first_world (main_call program) main_call_is main_counted).comes (start program begins input budget) (started begins input budget bytes)

    never_mixed : (o : Outcome Value) → Comes o → (meaning_of o).answer ≢ ended (Undefined Mixed)
    never_mixed (on (number n) t) h e = absurd cc
    never_mixed (on (address a) t) h e = absurd h.2
    never_mixed (on null t) h e = absurd h.2
    never_mixed (on (function f) t) h e = absurd h.2
    never_mixed (on (violation v) t) h e = absurd h.2
    never_mixed (thrown x t) h e = absurd cc
    never_mixed (over answer trace) h e = subst IsEnd e h

    the_same : (m n : ℤ) → ended (Returned m) ≡ ended (Returned n) → m ≡ n
    the_same m n e = cc

    returns_int : (o : Outcome Value) (n : ℤ) → Comes o → (meaning_of o).answer ≡ ended (Returned n) → in_range integers.Int n ≡ true
    returns_int (on (number m) t) n h e = subst (λ x. in_range integers.Int x ≡ true) (the_same m n e) (h.2 integers.Int refl)
    returns_int (on (address a) t) n h e = absurd h.2
    returns_int (on null t) n h e = absurd h.2
    returns_int (on (function f) t) n h e = absurd h.2
    returns_int (on (violation v) t) n h e = absurd h.2
    returns_int (thrown x t) n h e = absurd cc
    returns_int (over answer trace) n h e = absurd (subst IsEnd e h)

pub well_made : TypedProgramsAreWellMade
unfolding mean mean_within
well_made declared program typed = (
  (λ begins input budget bytes. never_mixed declared program typed _ (main_comes declared program typed begins input budget bytes)),
  (λ begins input budget n bytes. returns_int declared program typed _ n (main_comes declared program typed begins input budget bytes)),
)
