use Rattle.std.proofs.Common.{◌≡◌, List, [], ap, ◌∙◌, arith}
use Rattle.std.proofs.lemmas.Result.{IfOk-weaker}
use Rattle.cx_core.specs.declared.statement.Statement.{Statement}
use Rattle.cx_core.specs.View.{stmts_of}
use Rattle.cx_typed.specs.Typed.{IsIndex}
use Rattle.cx_typed.specs.Unit.{body_of, IsMainAlone}
use Rattle.cx_lower.specs.Emitted.{asserted_code}
use Rattle.cx_lower.specs.Tables.{image_of, image_with}
use Rattle.cx_lower.proofs.Literals.{stmts_fit}
use Rattle.cx_lower.proofs.Evaluated.{image_is}
use Rattle.cx_lower.proofs.image.make_image.Goals as goal

pub image_of-requires-clause-fits : goal.image_of-requires-clause-fits
image_of-requires-clause-fits c =
    let unit = c.args.unit.now in
    rw (c.statements_of.ensures c.requires.built.0 c.requires.built.1.alone) (stmts_fit (IsIndex unit.assertions) (stmts_of c.requires.built.0) [] c.requires.built.1.typed)

pub image_of-requires-clause-light : goal.image_of-requires-clause-light
image_of-requires-clause-light c = rw (c.statements_of.ensures c.requires.built.0 c.requires.built.1.alone) c.requires.built.1.light

pub returns : goal.returns
returns c =
    let unit = c.args.unit.now in
    let semantic = c.args.semantic in
    let built = c.requires.built.1 in
    let made = λ (b : List Statement). image_with (asserted_code semantic unit.assertions) unit (stmts_of b) in
    record {
      image = IfOk-weaker c.image_of.result (λ image. image ≡ made c.statements_of.result.now) (λ image. (statements : List Statement) → IsMainAlone unit statements → image ≡ image_of unit (body_of semantic unit statements))
          (λ image is statements alone. is ∙ ap made (c.statements_of.ensures statements alone) ∙ image_is semantic unit built.numbered (omega (arith, built.few_assertions)) statements) c.image_of.ensures;
    }
