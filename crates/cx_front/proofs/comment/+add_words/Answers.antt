use Rattle.std.proofs.Common.{◌≡◌, ℕ, List, [], ◌∷◌, ◌++◌, sym, ap, ◌∙◌}
use Rattle.cx_syntax.specs.declared.tree.expression.Expr.{Expr}
use Rattle.cx_syntax.specs.Tree as tree
use Rattle.cx_syntax.specs.View.{expr_of}
use Rattle.cx_front.specs.Front.{word_at, words_in}
use Rattle.cx_front.specs.Made.{spelled}
use Rattle.cx_front.proofs.Arms.{on_ok}
use Rattle.cx_front.proofs.LeafOpened.{opened-binary, opened-paren}
use Rattle.cx_front.proofs.Words.{spelled_append}
use Rattle.cx_front.proofs.comment.+add_words.Goals as goal

pub returns-in_ok-add_words-in-Paren : goal.returns-in_ok-add_words-in-Paren
returns-in_ok-add_words-in-Paren t c =
    let list = c.args.list.now in
    let old = c.args.words.now in
    let inner = words_in list (expr_of c.in-Paren.inner.value) in
    let first : c.add_word-in-Paren.new.words ≡ old ++ 32 ∷ word_at list c.in-Paren.at = cc (c.in_ok-add_word-in-Paren.ensures) in
    let second : c.add_words.new.words ≡ spelled c.add_word-in-Paren.new.words inner = cc (c.in_ok-add_words-in-Paren.ensures) in
    let whole : c.add_words.new.words ++ 32 ∷ word_at list c.in-Paren.close ≡ spelled old (words_in list (expr_of c.args.tree.now)) =
    ap (λ (w : List ℕ). w ++ 32 ∷ word_at list c.in-Paren.close) (second ∙ ap (λ (w : List ℕ). spelled w inner) first)
    ∙ sym (spelled_append (old ++ 32 ∷ word_at list c.in-Paren.at) inner (word_at list c.in-Paren.close ∷ []))
    ∙ ap (λ (e : tree.Expr). spelled old (words_in list e)) (sym (opened-paren c.in-Paren.at c.in-Paren.inner c.in-Paren.close))
    ∙ ap (λ (e : Expr). spelled old (words_in list (expr_of e))) (sym c.in-Paren.is) in
    on_ok (c.add_word-in-Paren-2.new.words ≡ c.add_words.new.words ++ 32 ∷ word_at list c.in-Paren.close) (c.add_word-in-Paren-2.new.words ≡ spelled old (words_in list (expr_of c.args.tree.now))) c.add_word-in-Paren-2.result (λ h. h ∙ whole) c.add_word-in-Paren-2.ensures

pub returns-in_ok-add_word-in-Binary : goal.returns-in_ok-add_word-in-Binary
returns-in_ok-add_word-in-Binary t c =
    let list = c.args.list.now in
    let old = c.args.words.now in
    let left = words_in list (expr_of c.in-Binary.left.value) in
    let right = words_in list (expr_of c.in-Binary.right.value) in
    let first : c.add_words-in-Binary.new.words ≡ spelled old left = cc (c.in_ok-add_words-in-Binary.ensures) in
    let second : c.add_word-in-Binary.new.words ≡ c.add_words-in-Binary.new.words ++ 32 ∷ word_at list c.in-Binary.operator = cc (c.in_ok-add_word-in-Binary.ensures) in
    let whole : spelled c.add_word-in-Binary.new.words right ≡ spelled old (words_in list (expr_of c.args.tree.now)) =
    ap (λ (w : List ℕ). spelled w right) (second ∙ ap (λ (w : List ℕ). w ++ 32 ∷ word_at list c.in-Binary.operator) first)
    ∙ sym (spelled_append old left (word_at list c.in-Binary.operator ∷ right))
    ∙ ap (λ (e : tree.Expr). spelled old (words_in list e)) (sym (opened-binary c.in-Binary.at c.in-Binary.left c.in-Binary.punct c.in-Binary.operator c.in-Binary.right))
    ∙ ap (λ (e : Expr). spelled old (words_in list (expr_of e))) (sym c.in-Binary.is) in
    let same : c.deref-in-Binary-2.result.now ≡ c.in-Binary.right.value = cc in
    on_ok (c.add_words-in-Binary-2.new.words ≡ spelled c.add_word-in-Binary.new.words (words_in list (expr_of c.deref-in-Binary-2.result.now))) (c.add_words-in-Binary-2.new.words ≡ spelled old (words_in list (expr_of c.args.tree.now))) c.add_words-in-Binary-2.result
    (λ h. h ∙ ap (λ (e : Expr). spelled c.add_word-in-Binary.new.words (words_in list (expr_of e))) same ∙ whole) c.add_words-in-Binary-2.ensures
