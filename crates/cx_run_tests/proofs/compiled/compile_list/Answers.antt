use Rattle.std.proofs.Common.{arith, ap, length}
use Rattle.cx_run_tests.proofs.UnitTold.{unit_told}
use Rattle.cx_run_tests.proofs.compiled.compile_list.Goals as goal

pub unit_of-requires-clause-few : goal.unit_of-requires-clause-few
unit_of-requires-clause-few c = omega (arith, ap length c.items.ensures)

pub lower-requires : goal.lower-requires
lower-requires c = record {
  built = c.units_are_built.ensures c.args.list.now c.in-Some.unit c.requires.short (omega (arith, ap length c.items.ensures)) (unit_told c.args.list.now c.in_ok-unit.field-0 c.in-Some.unit c.in-Some.is c.in_ok-unit.ensures);
}
