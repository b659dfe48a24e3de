use Rattle.std.proofs.Common.{◌≡◌, ◌∙◌, ap, sym, map, Bool, rules}
use Rattle.std.specs.Prelude.{◌&&◌}
use Rattle.std.specs.List.{list_all}
use Rattle.std.proofs.lemmas.List.Folds.{list_all-map}
use Rattle.cx_words.specs.Value.{is_name}
use Rattle.cx_words.specs.Words.{is_name_or_none, text_of}
use Rattle.cx_words.proofs.words.has_names.Goals as goal
use Rattle.cx_words.proofs.words.has_names.Goals.{then-are_names, else-are_names, then-is_name_or_none, else-is_name_or_none}

-- all three, of which each value is the one before and one more
all_three : (a b c one two three : Bool) → one ≡ a → two ≡ (one && b) → three ≡ (two && c) → three ≡ (a && b && c)
all_three a b c one two three is1 is2 is3 = is3 ∙ ap (λ x. x && c) (is2 ∙ ap (λ x. x && b) is1)

pub returns-then-is_name_or_none-2 : goal.returns-then-is_name_or_none-2
returns-then-is_name_or_none-2 c =
    let g = c.args.given.now in
    let names = c.are_names.ensures ∙ ap (list_all (λ name. is_name name.now)) c.items.ensures ∙ sym (list_all-map is_name (λ name. name.now) g.names) in
    let all = all_three (list_all is_name (map (λ name. name.now) g.names)) (is_name_or_none (text_of g.output)) (is_name_or_none (text_of g.plan))
    c.are_names.result c.if-are_names.value c.if-is_name_or_none.value names
    (elim c.if-are_names.branch [ then-are_names w ↦ search rules | else-are_names w ↦ search rules ])
    (elim c.if-is_name_or_none.branch [ then-is_name_or_none w ↦ search rules | else-is_name_or_none w ↦ search rules ]) in
    c.is_name_or_none-then-is_name_or_none-2.ensures ∙ ap (λ b. b && is_name_or_none (text_of g.journal)) (sym c.if-is_name_or_none-2.true ∙ all)

pub returns-else-is_name_or_none-2 : goal.returns-else-is_name_or_none-2
returns-else-is_name_or_none-2 c =
    let g = c.args.given.now in
    let names = c.are_names.ensures ∙ ap (list_all (λ name. is_name name.now)) c.items.ensures ∙ sym (list_all-map is_name (λ name. name.now) g.names) in
    let all = all_three (list_all is_name (map (λ name. name.now) g.names)) (is_name_or_none (text_of g.output)) (is_name_or_none (text_of g.plan))
    c.are_names.result c.if-are_names.value c.if-is_name_or_none.value names
    (elim c.if-are_names.branch [ then-are_names w ↦ search rules | else-are_names w ↦ search rules ])
    (elim c.if-is_name_or_none.branch [ then-is_name_or_none w ↦ search rules | else-is_name_or_none w ↦ search rules ]) in
    c.if-is_name_or_none-2.false ∙ ap (λ b. b && is_name_or_none (text_of g.journal)) (sym c.if-is_name_or_none-2.false ∙ all)
