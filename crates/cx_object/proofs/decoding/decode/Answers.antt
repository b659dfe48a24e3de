use Rattle.std.proofs.Common.{ap, subst, ◌∙◌, arith}
use Rattle.cx_fields.specs.Reading.{Gives}
use Rattle.cx_object.specs.Reading.{read_object}
use Rattle.cx_object.proofs.ObjectLaws.{is_found, object_again}
use Rattle.cx_object.proofs.decoding.decode.Goals as goal

pub returns-clause-found : goal.returns-clause-found
returns-clause-found c = is_found c.args.bytes.now c.whole.result (λ i. omega (arith, c.type_inv.bytes i)) c.whole.ensures

pub returns-clause-only : goal.returns-clause-only
returns-clause-only c = λ object s w e. subst (λ read. Gives (λ object. object) c.whole.result read) (ap read_object e ∙ object_again object s w) c.whole.ensures
