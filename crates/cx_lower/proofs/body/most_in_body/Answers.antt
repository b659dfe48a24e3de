use Rattle.std.proofs.Common.{arith}
use Rattle.cx_core.specs.View.{stmts_of}
use Rattle.cx_lower.proofs.Lengths.{few_stmts}
use Rattle.cx_lower.proofs.body.most_in_body.Goals as goal

pub most_in_block-requires : goal.most_in_block-requires
most_in_block-requires c = omega (arith, few_stmts (stmts_of c.args.b.now) 0)

pub returns-clause-few : goal.returns-clause-few
returns-clause-few c = omega (arith, few_stmts (stmts_of c.args.b.now) 0)
