use Rattle.std.proofs.Common.{subst, ◌∙◌}
use Rattle.cx_syntax.specs.Place.{Grammatical, IsPlace}
use Rattle.cx_syntax.specs.Spell.{Marks}
use Rattle.cx_parser.specs.declared.recognizer.ParseFault.TheVariants.{SyntaxAt}
use Rattle.cx_parser.specs.Reads.{IsFault}
use Rattle.cx_faults.proofs.first.syntax_place.Goals as goal

pub returns-in-Ok : goal.returns-in-Ok
returns-in-Ok c = subst Grammatical (c.as_slice.ensures.value ∙ c.in_ok-marks.ensures) c.in-Ok.ensures

pub returns-in-Err-SyntaxAt : goal.returns-in-Err-SyntaxAt
returns-in-Err-SyntaxAt c =
    let placed : IsFault c.as_slice.result.now (SyntaxAt c.in-Err-SyntaxAt.at) = subst (IsFault c.as_slice.result.now) c.in-Err-SyntaxAt.field-0-is c.in-Err-SyntaxAt.ensures in
    subst (λ (ts : Marks). IsPlace ts c.in-Err-SyntaxAt.at) (c.as_slice.ensures.value ∙ c.in_ok-marks.ensures) placed
