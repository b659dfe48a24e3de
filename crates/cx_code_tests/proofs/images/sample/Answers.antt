use Rattle.cx_code_tests.proofs.Sample.{storable_when}
use Rattle.std.proofs.Common.{rules}
use Rattle.cx_code_tests.proofs.images.sample.Goals as goal

pub returns : goal.returns
returns c = storable_when _ (search rules)
