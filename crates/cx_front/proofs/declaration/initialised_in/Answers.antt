use Rattle.std.proofs.Common.{◌≡◌, [], ◌∷◌, ◌++◌, length, sym, ap, ◌∙◌, arith}
use Rattle.std.specs.Prelude.{option_map}
use Rattle.cx_syntax.specs.declared.tree.statement.Init.{Init}
use Rattle.cx_syntax.specs.View.{expr_of, init_of}
use Rattle.cx_front.specs.Front.{Names, declared, expr_in, initialised_in}
use Rattle.cx_front.proofs.declaration.initialised_in.Goals as goal

pub returns-in_ok-value-in-Equals-clause-told : goal.returns-in_ok-value-in-Equals-clause-told
returns-in_ok-value-in-Equals-clause-told c =
    let names = c.args.names.now.items in
    let seen : c.as_slice.result.now ≡ names ++ record { name = c.args.name; of = c.args.of } ∷ [] = c.as_slice.ensures.value ∙ c.in_ok-push-in-Equals.ensures.items in
    let count : length names ≡ c.in_ok-slot-in-Equals.slot = omega (arith, c.in_ok-slot-in-Equals.ensures, c.len.ensures) in
    c.declared.ensures names count
    ∙ ap (option_map (declared names c.args.of)) (c.in_ok-value-in-Equals.ensures ∙ ap (λ (v : Names). expr_in c.args.list.now v (expr_of c.in-Equals.value)) seen)
    ∙ ap (λ (t : Init). initialised_in c.args.list.now names c.args.name (init_of t) c.args.of) (sym c.in-Equals.is)
