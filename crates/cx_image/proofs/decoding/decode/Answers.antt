use Rattle.std.proofs.Common.{ap, subst, ◌∙◌, arith}
use Rattle.cx_fields.specs.Reading.{Gives}
use Rattle.cx_image.specs.Reading.{read_image}
use Rattle.cx_image.proofs.ImageFormat.{is_found, image_again}
use Rattle.cx_image.proofs.decoding.decode.Goals as goal

pub returns-clause-found : goal.returns-clause-found
returns-clause-found c = is_found c.args.bytes.now c.whole.result (λ i. omega (arith, c.type_inv.bytes i)) c.whole.ensures

pub returns-clause-only : goal.returns-clause-only
returns-clause-only c = λ image s w e. subst (λ read. Gives (λ image. image) c.whole.result read) (ap read_image e ∙ image_again image s w) c.whole.ensures
