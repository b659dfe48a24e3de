use Rattle.std.proofs.Common.{◌≡◌, Some, if◌then◌else◌, get_or, sym, ap, ◌∙◌, bytes_eq, false}
use Rattle.std.specs.Prelude.{codes}
use Rattle.std.proofs.lemmas.Slice.Eq.{bytes_eq-Decides}
use Rattle.cx_syntax.specs.declared.token.TokenKind.TheVariants as T
use Rattle.cx_marks.specs.Seen.{known_name, noted}
use Rattle.cx_marks.proofs.Steps.{knows_name, marked_name, marked_std, no_token, std_name, token_at}
use Rattle.cx_marks.proofs.scan.told_name.Goals as goal

is_std : (c : goal.Then-eq) → (get_or c.args.tokens.now c.args.at no_token).bytes.now ≡ codes "std"
is_std c = (bytes_eq-Decides _ c.as_slice.result.now).0 (sym c.if-eq.ensures) ∙ c.as_slice.ensures

pub returns-then-eq-clause-told : goal.returns-then-eq-clause-told
returns-then-eq-clause-told c = λ t at. marked_std c.args.tokens.now c.args.at t (is_std c) at

pub returns-then-eq-clause-knows : goal.returns-then-eq-clause-knows
returns-then-eq-clause-knows c = std_name c.args.names.now c.args.tokens.now c.args.at c.requires.within (is_std c) c.requires.knows

is_name : (c : goal.After-mark_by) → (get_or c.args.tokens.now c.args.at no_token).kind ≡ T.Name
is_name c = c.requires.name _ (token_at c.args.tokens.now c.args.at c.requires.within)

is_other : (c : goal.After-mark_by) → bytes_eq (get_or c.args.tokens.now c.args.at no_token).bytes.now (codes "std") ≡ false
is_other c = ap (bytes_eq (get_or c.args.tokens.now c.args.at no_token).bytes.now) (sym c.as_slice.ensures) ∙ sym c.if-eq.ensures

pub returns-clause-told : goal.returns-clause-told
returns-clause-told c = λ t at.
    c.mark_by.ensures ∙ marked_name c.args.names.now c.args.tokens.now c.args.at c.in_ok-known.known t c.requires.within (is_name c) (is_other c)
    (c.in_ok-known.ensures.told ∙ ap (noted (known_name c.args.names.now (get_or c.args.tokens.now c.args.at no_token).bytes.now) c.args.at) c.requires.key)
    c.requires.knows at

pub returns-clause-knows : goal.returns-clause-knows
returns-clause-knows c =
    knows_name c.args.names.now c.note.new.names c.args.tokens.now c.args.at c.requires.within (is_name c) (is_other c)
    (λ name. c.in_ok-known.ensures.names name ∙ ap (λ k. if bytes_eq (get_or c.args.tokens.now c.args.at no_token).bytes.now name then Some (noted (known_name c.args.names.now (get_or c.args.tokens.now c.args.at no_token).bytes.now) c.args.at k) else known_name c.args.names.now name) c.requires.key)
    c.requires.knows
