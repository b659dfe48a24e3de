use Rattle.cx_emit.specs.Configuration.{Flies}
use Rattle.cx_emit.proofs.Places.{flies_on}
use Rattle.cx_emit.proofs.Expressions.{used_follows}
use Rattle.cx_emit.proofs.laws.operands_are_followed.Goals as goal

pub returns : goal.returns
returns c = λ image function outer program calls a from to st. used_follows image function (Flies image function outer) (flies_on image function outer) program calls a from to st
