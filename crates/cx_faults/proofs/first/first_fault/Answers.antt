use Rattle.std.proofs.Common.{arith}
use Rattle.cx_faults.proofs.Bounds.{bounded}
use Rattle.cx_faults.proofs.Firsts.{is_open, only_open, is_syntax, only_syntax, no_fault, place_told, none_told}
use Rattle.cx_faults.proofs.first.first_fault.Goals as goal

pub returns-then-from-number-clause-cause : goal.returns-then-from-number-clause-cause
returns-then-from-number-clause-cause c = is_open c.args.list.now c.in_ok-open.open c.in_ok-open.ensures (omega (arith, c.if-from-number.true, c.from.ensures, c.number.ensures))

pub returns-then-from-number-clause-only_fault : goal.returns-then-from-number-clause-only_fault
returns-then-from-number-clause-only_fault c = only_open c.args.list.now c.in_ok-open.open c.in_ok-open.ensures (omega (arith, c.if-from-number.true, c.from.ensures, c.number.ensures))

pub syntax_place-requires-clause-few : goal.syntax_place-requires-clause-few
syntax_place-requires-clause-few c = let bounds = bounded c.requires.list.0 c.requires.list.1 c.args.list.now c.requires.list.2 in omega (arith, bounds.few)

pub place_at-requires-clause-some : goal.place_at-requires-clause-some
place_at-requires-clause-some c = let bounds = bounded c.requires.list.0 c.requires.list.1 c.args.list.now c.requires.list.2 in bounds.some

pub place_at-requires-clause-short : goal.place_at-requires-clause-short
place_at-requires-clause-short c = let bounds = bounded c.requires.list.0 c.requires.list.1 c.args.list.now c.requires.list.2 in omega (arith, bounds.short)

pub returns-in-Some-clause-cause : goal.returns-in-Some-clause-cause
returns-in-Some-clause-cause c = is_syntax c.args.list.now c.in_ok-open.open c.in-Some.at c.place_at.result c.in_ok-open.ensures (omega (arith, c.if-from-number.false, c.from.ensures, c.number.ensures)) (place_told c.args.list.now c.in_ok-at.field-0 c.in-Some.at c.in-Some.is c.in_ok-at.ensures) c.place_at.ensures.place

pub returns-in-Some-clause-only_fault : goal.returns-in-Some-clause-only_fault
returns-in-Some-clause-only_fault c = only_syntax c.args.list.now c.in_ok-open.open c.in-Some.at c.place_at.result c.in_ok-open.ensures (omega (arith, c.if-from-number.false, c.from.ensures, c.number.ensures)) (place_told c.args.list.now c.in_ok-at.field-0 c.in-Some.at c.in-Some.is c.in_ok-at.ensures) c.place_at.ensures.place

pub returns-in-None-clause-only_fault : goal.returns-in-None-clause-only_fault
returns-in-None-clause-only_fault c = no_fault c.args.list.now (record { shallow = omega (arith, c.in_ok-open.ensures, c.if-from-number.false, c.from.ensures, c.number.ensures); grammatical = none_told c.args.list.now c.in_ok-at.field-0 c.in-None.is c.in_ok-at.ensures })
