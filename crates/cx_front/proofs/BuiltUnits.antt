-- The unit of a tree is one that is lowered.
use Rattle.std.proofs.Common.{◌≡◌, ℕ, suc, ◌≤◌, ◌&&◌, true, List, [], ◌∷◌, length, Option, Some, None, IfSome, All, codes, bytes_eq, refl, sym, ap, ◌∙◌, subst, arith}
use Rattle.std.proofs.lemmas.Bool.{and_parts}
use Rattle.std.proofs.lemmas.List.{length-map}
use Rattle.std.proofs.lemmas.Option.{MatchOption-at_some, none-some}
use Rattle.cx_syntax.specs.declared.mark.Punct.TheVariants as P
use Rattle.cx_syntax.specs.Tree as grammar
use Rattle.cx_syntax.specs.Tree.{Item, Params, Suffix, UnitTree, block, defined, function, more_items, more_specs, no_items, no_params, no_specs, params, suffix}
use Rattle.cx_syntax.specs.Spell.{Marks, Spots, numbered, sign, name, spell, spell_item, spell_params, spell_stmts, spell_suffix}
use Rattle.cx_marks.proofs.Steps.{marks_length}
use Rattle.cx_includes.specs.declared.assembled.Assembled.{Assembled}
use Rattle.cx_faults.specs.Faults.{marks_of, tokens_of, token_at}
use Rattle.cx_core.specs.declared.unit.CoreUnit.{CoreUnit}
use Rattle.cx_core.specs.declared.unit.Assertion.{Assertion}
use Rattle.cx_typed.specs.Typed.{AreTypedIn}
use Rattle.cx_core.specs.View.{stmts_of}
use Rattle.cx_typed.specs.Built.{IsBuilt}
use Rattle.cx_front.specs.Front.{word_at, type_in, all_assertions_in, stmts_in, is_int, is_empty, is_bare, main_in, statements_in, has_short_tokens, body_in, table_in, IsUnitOf, most_tokens}
use Rattle.cx_front.specs.Laws.{UnitsAreBuilt}
use Rattle.cx_front.proofs.Options.{only_is, only_some}
use Rattle.cx_front.proofs.TypedStatements.{AreStatements, stmts_are}
use Rattle.cx_front.proofs.Sizes.{AreSizedStatements, type_grows, stmts_sized}
use Rattle.cx_front.proofs.Numbered.{HasShortName, name_is_short, words_are_short, all_files_are_short, all_are_numbered}

-- ---- how many tokens the statements have

-- the statements have no more tokens than the list, whatever follows them
abbrev HasFew : ℕ → grammar.Stmts → Type 0
HasFew most b = (w : Spots) × (length (spell_stmts b w) ≤ most)

params_grow : (p : Params) (w : Spots) → is_empty p ≡ true → length w ≤ length (spell_params p w)
params_grow (no_params i j) w h = omega arith
params_grow other w h = absurd (cc)

suffix_grows : (s : Suffix) (w : Spots) → is_bare s ≡ true → length w ≤ length (spell_suffix s w)
suffix_grows (suffix None no_specs) w h = omega arith
suffix_grows (suffix None (more_specs s t)) w h = absurd (cc)
suffix_grows (suffix (Some x) s) w h = absurd (cc)

main_has_few : (list : Assembled) (item : Item) → IfSome (main_in list item) (HasFew (length (spell_item item [])))
main_has_few list (function None t n i p s (defined (block j b k))) =
    let named = bytes_eq (word_at list i) (codes "main") in
    only_is (HasFew (length (spell_item (function None t n i p s (defined (block j b k))) []))) (is_int (type_in t) && is_empty p && is_bare s && named) (Some b) (λ h.
    let head = and_parts (is_int (type_in t) && is_empty p && is_bare s) named h in
    let bare = and_parts (is_int (type_in t) && is_empty p) (is_bare s) head.0 in
    let int = and_parts (is_int (type_in t)) (is_empty p) bare.0 in
    let body = sign P.OpenBrace j (spell_stmts b (sign P.CloseBrace k [])) in
    let rest = spell_params p (spell_suffix s body) in
    (sign P.CloseBrace k [], omega (arith, type_grows t (name n i rest), params_grow p (spell_suffix s body) int.1, suffix_grows s body bare.1)))
main_has_few list other = tt

statements_are_few : (list : Assembled) (tree : UnitTree) → IfSome (statements_in list tree) (HasFew (length (spell tree)))
statements_are_few list (more_items no_items item) = main_has_few list item
statements_are_few list other = tt

length_numbered : (n : ℕ) (marks : Marks) → length (numbered n marks) ≡ length marks
length_numbered n [] = refl
length_numbered n (m ∷ w) = ap suc (length_numbered (suc n) w)

length_marks : (list : Assembled) → length (marks_of list) ≡ length list.placed
length_marks list = marks_length (tokens_of list) (tokens_of list) 0 ∙ length-map list.placed (token_at list)

-- ---- the unit

module _ (list : Assembled) (unit : CoreUnit) (short : All HasShortName list.files) (few : length list.placed ≤ most_tokens) (is : IsUnitOf list unit) where
  made : (b : grammar.Stmts) → statements_in list is.tree ≡ Some b → (has_short_tokens list ≡ true) × (stmts_in list 1 0 [] b ≡ Some (stmts_of is.statements))
  made b e = only_some (has_short_tokens list) (stmts_in list 1 0 [] b) (stmts_of is.statements) (ap (body_in list) (sym e) ∙ is.body)

  built_of : (b : grammar.Stmts) → statements_in list is.tree ≡ Some b → IsBuilt unit is.statements
  built_of b e =
      let table = all_assertions_in list 1 b in
      let its : unit.assertions ≡ table = is.assertions ∙ ap (table_in list) e in
      let size : length (spell is.tree) ≡ length list.placed = ap (λ (w : Spots). length w) is.is_tree.1 ∙ length_numbered 0 (marks_of list) ∙ length_marks list in
      let inside : HasFew (length (spell is.tree)) b = MatchOption-at_some _ _ b e (statements_are_few list is.tree) in
      let typed : AreStatements list table [] 1 b (stmts_of is.statements) =
      MatchOption-at_some _ _ (stmts_of is.statements) (made b e).1 (stmts_are list table 1 0 [] b) in
      let sized : AreSizedStatements list 1 b (stmts_of is.statements) =
      MatchOption-at_some _ _ (stmts_of is.statements) (made b e).1 (stmts_sized list (words_are_short list (made b e).0) 1 0 [] b) in
      record {
        alone = is.alone;
        typed = subst (λ (assertions : List Assertion). AreTypedIn assertions [] (stmts_of is.statements)) (sym its) (typed.typed (record { counted = omega arith; within = omega arith }));
        light = omega (arith, sized.weight inside.0, inside.1, size, few);
        numbered = rw its (all_are_numbered list 1 b);
        few_assertions = rw its (omega (arith, sized.count inside.0, inside.1, size, few));
        short_comments = rw its (omega (arith, sized.comments inside.0, inside.1, size, few));
        short_files = rw its (all_files_are_short list short 1 b);
        short_name = rw is.name (name_is_short list short 0);
      }

  found : (o : Option grammar.Stmts) → statements_in list is.tree ≡ o → IsBuilt unit is.statements
  found None e = absurd (none-some (stmts_of is.statements) (ap (body_in list) (sym e) ∙ is.body))
  found (Some b) e = built_of b e

pub units_are_built : UnitsAreBuilt
units_are_built list unit short few is = (is.statements, found list unit short few is (statements_in list is.tree) refl)
