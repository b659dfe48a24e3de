use Rattle.std.proofs.Common.{◌≡◌, arith, ap, length, inl, inr}
use Rattle.cx_sound.specs.Unread.{ReadsNothing}
use Rattle.cx_code.specs.declared.image.Image.{Image}
use Rattle.cx_tool.proofs.Compiled.{still_compiled, still_so, whatever, only_wants}
use Rattle.cx_tool.proofs.Stops.{unit_told, none_told}
use Rattle.cx_tool.proofs.exec.image_of.Goals as goal

pub unit_of-requires-clause-few : goal.unit_of-requires-clause-few
unit_of-requires-clause-few c = omega (arith, ap length c.items.ensures)

pub lower-requires : goal.lower-requires
lower-requires c = record {
  built = c.units_are_built.ensures c.args.list.now c.in-Some.unit c.requires.short (omega (arith, ap length c.items.ensures)) (unit_told c.args.list.now c.in_ok-unit.field-0 c.in-Some.unit c.in-Some.is c.in_ok-unit.ensures);
}

pub returns-in-None-clause-cause : goal.returns-in-None-clause-cause
returns-in-None-clause-cause c = elim c.unbuilt-in-None.ensures [ inl e ↦ inr (e, inl (none_told c.args.list.now c.in_ok-unit.field-0 c.in-None.is c.in_ok-unit.ensures)) | inr e ↦ inl e ]

pub returns-in_ok-lower-in-Some-clause-no_handler : goal.returns-in_ok-lower-in-Some-clause-no_handler
returns-in_ok-lower-in-Some-clause-no_handler c = still_so (λ (image : Image). image.handler ≡ 0) c.in_ok-lower-in-Some.field-0 c.verified.result c.verified.ensures.same c.in_ok-lower-in-Some.ensures.no_handler

pub returns-in_ok-lower-in-Some-clause-reads : goal.returns-in_ok-lower-in-Some-clause-reads
returns-in_ok-lower-in-Some-clause-reads c = still_so ReadsNothing c.in_ok-lower-in-Some.field-0 c.verified.result c.verified.ensures.same c.in_ok-lower-in-Some.ensures.reads

pub returns-in_ok-lower-in-Some-clause-few : goal.returns-in_ok-lower-in-Some-clause-few
returns-in_ok-lower-in-Some-clause-few c = whatever c.verified.result (omega (arith, ap length c.items.ensures))

pub returns-in_ok-lower-in-Some-clause-cause : goal.returns-in_ok-lower-in-Some-clause-cause
returns-in_ok-lower-in-Some-clause-cause c = only_wants c.verified.result c.verified.ensures.want (λ answer e. inl e)

pub returns-in_ok-lower-in-Some-clause-compiled : goal.returns-in_ok-lower-in-Some-clause-compiled
returns-in_ok-lower-in-Some-clause-compiled c =
    still_compiled c.args.list.now c.args.semantic c.in_ok-lower-in-Some.field-0 c.verified.result c.verified.ensures.same (record {
      valid = c.in_ok-lower-in-Some.ensures.valid;
      unit = c.in-Some.unit;
      spelled = unit_told c.args.list.now c.in_ok-unit.field-0 c.in-Some.unit c.in-Some.is c.in_ok-unit.ensures;
      faithful = c.in_ok-lower-in-Some.ensures.faithful;
    })
