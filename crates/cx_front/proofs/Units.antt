-- The unit of the only tree of a list.
use Rattle.std.proofs.Common.{◌≡◌, ◌+◌, true, false, List, [], ◌++◌, Option, Some, None, length, refl, sym, ap, ◌∙◌, subst}
use Rattle.std.specs.Prelude.{Result, Ok, Err, IfOk, MatchOption, OnSome}
use Rattle.std.proofs.lemmas.List.{length-map}
use Rattle.cx_syntax.specs.Tree.{Stmts, UnitTree}
use Rattle.cx_syntax.specs.Spell.{Marks}
use Rattle.cx_syntax.specs.Place.{IsTree}
use Rattle.cx_includes.specs.declared.assembled.Assembled.{Assembled}
use Rattle.cx_marks.proofs.Steps.{marks_length}
use Rattle.cx_faults.specs.Faults.{marks_of, tokens_of, token_at}
use Rattle.cx_core.specs.declared.unit.Assertion.{Assertion}
use Rattle.cx_core.specs.declared.unit.CoreUnit.{CoreUnit}
use Rattle.cx_core.specs.declared.statement.Statement.{Statement}
use Rattle.cx_core.specs.View as view
use Rattle.cx_front.specs.Front.{Names, all_assertions_in, body_in, has_short_tokens, statements_in, stmts_in, table_in, IsUnitOf}
use Rattle.cx_front.specs.Made.{IsUnitWith, MadeOf, MadeUnit}

-- ---- statements in a body

pub given_some : {A : Type 0} {P : Type 0} (o : Option A) (x : A) → o ≡ Some x → OnSome o P → P
given_some None x is p = absurd (cc)
given_some (Some y) x is p = p

pub made_of : (list : Assembled) (tree : Stmts) (unit : CoreUnit) (statements : List Statement) (table more : List Assertion) (names : Names) → table ≡ [] → names ≡ [] → unit.assertions ≡ more
    → (Some (view.stmts_of statements) ≡ stmts_in list (length table + 1) (length names) names tree)
    → more ≡ table ++ all_assertions_in list (length table + 1) tree → IsUnitWith list statements unit → MadeOf list tree unit
made_of list tree unit statements table more names no_table no_names kept stands added is = record {
  statements = statements;
  is = is;
  body =
      ap (λ (v : Names). stmts_in list 1 (length v) v tree) (sym no_names)
      ∙ ap (λ (t : List Assertion). stmts_in list (length t + 1) (length names) names tree) (sym no_table)
      ∙ sym stands;
  assertions = kept ∙ added ∙ ap (λ (t : List Assertion). t ++ all_assertions_in list (length t + 1) tree) no_table;
}

pub none_of : (list : Assembled) (tree : Stmts) (more table : List Assertion) (names : Names) → table ≡ [] → names ≡ []
    → (None ≡ stmts_in list (length table + 1) (length names) names tree)
    → stmts_in list 1 0 [] tree ≡ None
none_of list tree more table names no_table no_names stands =
    ap (λ (v : Names). stmts_in list 1 (length v) v tree) (sym no_names)
    ∙ ap (λ (t : List Assertion). stmts_in list (length t + 1) (length names) names tree) (sym no_table)
    ∙ sym stands

-- ---- the body of a tree

pub made_unit : (list : Assembled) (tree : UnitTree) (b : Stmts) (unit : CoreUnit) → statements_in list tree ≡ Some b → has_short_tokens list ≡ true → MadeOf list b unit → MadeUnit list tree unit
made_unit list tree b unit is short made = record {
  statements = made.statements;
  is = made.is;
  body = ap (body_in list) is ∙ rw short made.body;
  assertions = made.assertions ∙ sym (ap (table_in list) is);
}

no_unit : (list : Assembled) (tree : UnitTree) (unit : CoreUnit) → (body_in list (statements_in list tree) ≡ None) → MadeUnit list tree unit → ⊥
no_unit list tree unit none made =
    let here : body_in list (statements_in list tree) ≡ None = none in
    let there : body_in list (statements_in list tree) ≡ Some (view.stmts_of made.statements) = made.body in
    absurd (cc)

pub no_statements : (list : Assembled) (tree : UnitTree) → statements_in list tree ≡ None → (unit : CoreUnit) → MadeUnit list tree unit → ⊥
no_statements list tree none unit made = no_unit list tree unit (ap (body_in list) none) made

pub long_tokens : (list : Assembled) (tree : UnitTree) (b : Stmts) → statements_in list tree ≡ Some b → has_short_tokens list ≡ false → (unit : CoreUnit) → MadeUnit list tree unit → ⊥
long_tokens list tree b is long unit made = no_unit list tree unit (ap (body_in list) is ∙ rw long refl) made

both_answers : (list : Assembled) (tree : UnitTree) (b : Stmts) (told : Option CoreUnit) → statements_in list tree ≡ Some b → has_short_tokens list ≡ true
    → MatchOption told (stmts_in list 1 0 [] b ≡ None) (MadeOf list b) → MatchOption told ((unit : CoreUnit) → MadeUnit list tree unit → ⊥) (MadeUnit list tree)
both_answers list tree b None is short none = λ unit made. no_unit list tree unit (ap (body_in list) is ∙ rw short none) made
both_answers list tree b (Some unit) is short made = made_unit list tree b unit is short made

pub unit_answer : {E : Type 0} (list : Assembled) (tree : UnitTree) (b : Stmts) (r : Result (Option CoreUnit) E) → statements_in list tree ≡ Some b → has_short_tokens list ≡ true
    → IfOk r (λ told. MatchOption told (stmts_in list 1 0 [] b ≡ None) (MadeOf list b)) → IfOk r (λ told. MatchOption told ((unit : CoreUnit) → MadeUnit list tree unit → ⊥) (MadeUnit list tree))
unit_answer list tree b (Ok told) is short made = both_answers list tree b told is short made
unit_answer list tree b (Err e) is short made = made

-- ---- the tree of a list

pub length_marks : (list : Assembled) → length (marks_of list) ≡ length list.placed
length_marks list = marks_length (tokens_of list) (tokens_of list) 0 ∙ length-map list.placed (token_at list)

-- what was told of the tree of a list is told of the list
of_tree : (list : Assembled) (marks : Marks) (tree : UnitTree) (told : Option CoreUnit) → marks ≡ marks_of list → IsTree marks tree
    → MatchOption told ((unit : CoreUnit) → MadeUnit list tree unit → ⊥) (MadeUnit list tree) → MatchOption told ((unit : CoreUnit) → IsUnitOf list unit → ⊥) (IsUnitOf list)
of_tree list marks tree None same is none =
    λ unit other.
    let its : IsTree (marks_of list) tree = subst (λ (ts : Marks). IsTree ts tree) same is in
    let one : other.tree ≡ tree = its.2 other.tree other.is_tree.0 other.is_tree.1 in
    none unit (record {
      statements = other.statements;
      is = record { alone = other.alone; declares = other.declares; function_types = other.function_types; definitions = other.definitions; name = other.name; no_calls = other.no_calls; tokens = other.tokens; bytes = other.bytes };
      body = ap (λ (t : UnitTree). body_in list (statements_in list t)) (sym one) ∙ other.body;
      assertions = other.assertions ∙ ap (λ (t : UnitTree). table_in list (statements_in list t)) one;
    })
of_tree list marks tree (Some unit) same is made = record {
  tree = tree;
  is_tree = subst (λ (ts : Marks). IsTree ts tree) same is;
  statements = made.statements;
  alone = made.is.alone;
  declares = made.is.declares;
  function_types = made.is.function_types;
  definitions = made.is.definitions;
  body = made.body;
  assertions = made.assertions;
  name = made.is.name;
  no_calls = made.is.no_calls;
  tokens = made.is.tokens;
  bytes = made.is.bytes;
}

pub tree_answer : {E : Type 0} (list : Assembled) (marks : Marks) (tree : UnitTree) (r : Result (Option CoreUnit) E) → marks ≡ marks_of list → IsTree marks tree
    → IfOk r (λ told. MatchOption told ((unit : CoreUnit) → MadeUnit list tree unit → ⊥) (MadeUnit list tree)) → IfOk r (λ told. MatchOption told ((unit : CoreUnit) → IsUnitOf list unit → ⊥) (IsUnitOf list))
tree_answer list marks tree (Ok told) same is made = of_tree list marks tree told same is made
tree_answer list marks tree (Err e) same is made = made
