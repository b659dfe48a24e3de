use Rattle.cx_soundness.proofs.laws.linked_units_are_well_made.Goals as goal

pub returns : goal.returns
returns c = λ units declared named numbers typed linked. c.typed_programs_are_well_made.ensures _ _ (c.linked_units_are_typed.ensures units declared named numbers typed linked)
