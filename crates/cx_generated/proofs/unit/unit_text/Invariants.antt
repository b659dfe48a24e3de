use Rattle.std.proofs.Common.{◌≡◌, ◌++◌, ◌-◌}
use Rattle.std.specs.List.{flat_map}
use Rattle.cx_generated.specs.Generated.{numbers_from, definition_line, declaration_line}
use Rattle.cx_generated.proofs.unit.unit_text.Given as goal

abbrev pub invariant-loop-function : goal.invariant-loop-function
invariant-loop-function l =
    l.text ++ flat_map (definition_line l.unit) (numbers_from l.function (17 - l.function)) ≡ declaration_line l.unit ++ flat_map (definition_line l.unit) (numbers_from 1 16)
