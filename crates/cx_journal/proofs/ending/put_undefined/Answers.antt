use Rattle.std.proofs.Common.{◌≡◌, ◌++◌, List, ℕ, codes, ap, ◌∙◌, append_assoc}
use Rattle.cx_journal.proofs.ending.put_undefined.Goals as goal

put_after : (before word told after name : List ℕ) → told ≡ before ++ word → after ≡ told ++ name → after ≡ before ++ (word ++ name)
put_after before word told after name first second = second ∙ ap (λ t. t ++ name) first ∙ append_assoc before word name

pub returns : goal.returns
returns c =
    let name = c.as_bytes.ensures.value ∙ c.kind_text.ensures in
    put_after _ (codes "undefined: ") _ _ _ c.in_ok-append.ensures.ok c.in_ok-append-2.ensures.ok ∙ ap (λ t. c.args.out.now ++ (codes "undefined: " ++ t)) name
