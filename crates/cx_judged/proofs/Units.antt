-- A list without a fault is a unit that is built, or it is outside.
use Rattle.std.proofs.Common.{◌≡◌, ℕ, suc, ◌<◌, ◌≤◌, ◌&&◌, ◌^◌, true, false, List, [], ◌∷◌, length, Option, Some, None, IfSome, codes, bytes_eq, refl, sym, ◌∙◌, ap, arith, inl, inr, ⊎_elim}
use Rattle.std.specs.Prelude.{◌⊎◌}
use Rattle.std.proofs.lemmas.Bool.{and_parts}
use Rattle.std.proofs.lemmas.List.Elements.{All-cons, All-nil}
use Rattle.std.proofs.lemmas.Option.{MatchOption-at_some, none-some}
use Rattle.cx_syntax.specs.declared.mark.Punct.TheVariants as P
use Rattle.cx_syntax.specs.Place.{IsTree}
use Rattle.cx_syntax.specs.Spell.{Marks, Spots, name, numbered, sign, spell, spell_item, spell_params, spell_stmts, spell_suffix}
use Rattle.cx_syntax.specs.Tree as grammar
use Rattle.cx_syntax.specs.Tree.{Item, Params, Suffix, UnitTree, block, defined, function, more_items, more_specs, no_items, no_params, no_specs, params, suffix}
use Rattle.cx_includes.specs.declared.assembled.Assembled.{Assembled}
use Rattle.cx_faults.specs.Faults.{marks_of}
use Rattle.cx_core.specs.declared.statement.Statement.{Statement}
use Rattle.cx_core.specs.declared.unit.Body.TheVariants as bodies
use Rattle.cx_core.specs.declared.unit.CoreUnit.{CoreUnit}
use Rattle.cx_core.specs.declared.unit.Function.{Function}
use Rattle.cx_core.specs.declared.unit.ResultKind.TheVariants as results
use Rattle.cx_core.specs.Tree.{Stmts}
use Rattle.cx_core.specs.View.{stmts_of}
use Rattle.cx_typed.specs.Typed.{IsIndex}
use Rattle.cx_front.specs.Front.{DeclaresMain, IsOutside, IsUnitOf, all_assertions_in, body_in, bytes_of, has_short_tokens, is_bare, is_empty, is_int, main_in, main_type, most_tokens, name_of_file, statements_in, stmts_in, table_in, type_in, word_at}
use Rattle.cx_front.proofs.Numbered.{words_are_short}
use Rattle.cx_front.proofs.Options.{only_is, only_some}
use Rattle.cx_front.proofs.Sizes.{AreSizedStatements, stmts_sized, type_grows}
use Rattle.cx_front.proofs.TypedStatements.{stmts_are}
use Rattle.cx_front.proofs.TypedStatements as front
use Rattle.cx_front.proofs.Units.{length_marks}
use Rattle.cx_judged.specs.Laws.{BuiltIsNotOutside, BuiltOrOutside, IsInside}
use Rattle.cx_judged.proofs.Grammars.{one_tree}
use Rattle.cx_judged.proofs.Choices.{at_most_or_more}
use Rattle.cx_judged.proofs.Statements.{listed, statements_are}

-- ---- how many tokens the statements of `main` have

-- no more than the list, whatever follows them
abbrev HasFew : ℕ → grammar.Stmts → Type 0
HasFew most b = (w : Spots) × (length (spell_stmts b w) ≤ most)

params_grow : (p : Params) (w : Spots) → is_empty p ≡ true → length w ≤ length (spell_params p w)
params_grow (no_params i j) w h = omega arith
params_grow other w h = absurd (cc)

suffix_grows : (s : Suffix) (w : Spots) → is_bare s ≡ true → length w ≤ length (spell_suffix s w)
suffix_grows (suffix None no_specs) w h = omega arith
suffix_grows (suffix None (more_specs s t)) w h = absurd (cc)
suffix_grows (suffix (Some x) s) w h = absurd (cc)

main_has_few : (list : Assembled) (item : Item) → IfSome (main_in list item) (HasFew (length (spell_item item [])))
main_has_few list (function None t n i p s (defined (block j b k))) =
    let named = bytes_eq (word_at list i) (codes "main") in
    only_is (HasFew (length (spell_item (function None t n i p s (defined (block j b k))) []))) (is_int (type_in t) && is_empty p && is_bare s && named) (Some b) (λ h.
    let head = and_parts (is_int (type_in t) && is_empty p && is_bare s) named h in
    let bare = and_parts (is_int (type_in t) && is_empty p) (is_bare s) head.0 in
    let int = and_parts (is_int (type_in t)) (is_empty p) bare.0 in
    let body = sign P.OpenBrace j (spell_stmts b (sign P.CloseBrace k [])) in
    let rest = spell_params p (spell_suffix s body) in
    (sign P.CloseBrace k [], omega (arith, type_grows t (name n i rest), params_grow p (spell_suffix s body) int.1, suffix_grows s body bare.1)))
main_has_few list other = tt

statements_are_few : (list : Assembled) (tree : UnitTree) → IfSome (statements_in list tree) (HasFew (length (spell tree)))
statements_are_few list (more_items no_items item) = main_has_few list item
statements_are_few list other = tt

length_numbered : (n : ℕ) (marks : Marks) → length (numbered n marks) ≡ length marks
length_numbered n [] = refl
length_numbered n (m ∷ w) = ap suc (length_numbered (suc n) w)

-- ---- the unit of a tree

module _ (list : Assembled) (tree : UnitTree) (is : IsTree (marks_of list) tree) where
  -- the only tree has no statements that are built
  no_unit : body_in list (statements_in list tree) ≡ None → (unit : CoreUnit) → IsUnitOf list unit → ⊥
  no_unit none unit other =
      let one : other.tree ≡ tree = is.2 other.tree other.is_tree.0 other.is_tree.1 in
      none-some (stmts_of other.statements) (sym none ∙ ap (λ t. body_in list (statements_in list t)) (sym one) ∙ other.body)

  abbrev main_of : (made : List Statement) → length made < 2 ^ 63 → Function
  main_of made few = record {
    name = codes "main";
    of = 0;
    signature = codes "int ( )";
    specifiers = [];
    is_inline = false;
    inline_text = [];
    is_needed = false;
    noexcept = false;
    named_parameters = 0;
    result = results.ExitStatus;
    preconditions = [];
    postconditions = [];
    body = Some (bodies.Function (listed made few));
    declaration_tokens = 4;
    definition_tokens = length list.placed;
  }

  abbrev unit_with : (made : List Statement) → length made < 2 ^ 63 → CoreUnit
  unit_with made few = record {
    name = name_of_file list 0;
    classes = [];
    globals = [];
    functions = main_of made few ∷ [];
    function_types = main_type ∷ [];
    definitions = 0 ∷ [];
    assertions = table_in list (statements_in list tree);
    calls = [];
    tokens = length list.placed;
    bytes = bytes_of list;
  }

  is_unit : (made : List Statement) (few : length made < 2 ^ 63) → body_in list (statements_in list tree) ≡ Some (stmts_of made) → IsUnitOf list (unit_with made few)
  is_unit made few body = record {
    tree = tree;
    is_tree = is;
    statements = made;
    alone = record { no_classes = refl; no_globals = refl; main = main_of made few; alone = refl; is_named = refl; may_throw = refl; gives_status = refl; no_preconditions = refl; no_postconditions = refl; is_defined = refl };
    declares = All-cons (DeclaresMain list) (main_of made few) [] (record { type = refl; signature = refl; specifiers = refl; not_inline = refl; no_inline_text = refl; not_needed = refl; no_parameters = refl; declaration = refl; definition = refl }) (All-nil (DeclaresMain list));
    function_types = refl;
    definitions = refl;
    body = body;
    assertions = refl;
    name = refl;
    no_calls = refl;
    tokens = refl;
    bytes = refl;
  }

  module _ (few : length list.placed ≤ most_tokens) where
    size : length (spell tree) ≡ length list.placed
    size = ap length is.1 ∙ length_numbered 0 (marks_of list) ∙ length_marks list

    built : (b : grammar.Stmts) (body : Stmts ℕ) → statements_in list tree ≡ Some b → body_in list (statements_in list tree) ≡ Some body → IsInside list
    built b body there e =
        let parts = only_some (has_short_tokens list) (stmts_in list 1 0 [] b) body (sym (ap (body_in list) there) ∙ e) in
        let table = all_assertions_in list 1 b in
        let inside : HasFew (length (spell tree)) b = MatchOption-at_some _ _ b there (statements_are_few list tree) in
        let typed : front.AreStatements list table [] 1 b body = MatchOption-at_some _ _ body parts.1 (stmts_are list table 1 0 [] b) in
        let sized : AreSizedStatements list 1 b body = MatchOption-at_some _ _ body parts.1 (stmts_sized list (words_are_short list parts.0) 1 0 [] b) in
        let weight = sized.weight inside.0 in
        let made = statements_are (IsIndex table) [] body (typed.typed (record { counted = omega arith; within = omega arith })) (omega (arith, weight, inside.1, size, few)) in
        let short : length made.made < 2 ^ 63 = omega (arith, made.few, weight, inside.1, size, few) in
        (unit_with made.made short, is_unit made.made short (e ∙ ap Some (sym made.are)), few)

    of_statements : (o : Option grammar.Stmts) (body : Stmts ℕ) → statements_in list tree ≡ o → body_in list (statements_in list tree) ≡ Some body → IsInside list
    of_statements None body there e = absurd (none-some body (sym (ap (body_in list) there) ∙ e))
    of_statements (Some b) body there e = built b body there e

    of_body : (o : Option (Stmts ℕ)) → body_in list (statements_in list tree) ≡ o → IsInside list ⊎ IsOutside list
    of_body None e = inr (inl (no_unit e))
    of_body (Some body) e = inl (of_statements (statements_in list tree) body refl e)

pub built_or_outside : BuiltOrOutside
built_or_outside list faultless =
    let it = one_tree (marks_of list) faultless.grammatical in
    ⊎_elim
    (λ few. of_body list it.0 it.1 few (body_in list (statements_in list it.0)) refl)
    (λ many. inr (inr many))
    (at_most_or_more (length list.placed) most_tokens)

pub built_is_not_outside : BuiltIsNotOutside
built_is_not_outside list inside (inl none) = none inside.0 inside.1
built_is_not_outside list inside (inr many) = let few = inside.2 in omega arith
