-- What is told of the unit of a list.
use Rattle.std.proofs.Common.{◌≡◌, Option, Some, subst}
use Rattle.std.specs.Prelude.{MatchOption}
use Rattle.cx_includes.specs.declared.assembled.Assembled.{Assembled}
use Rattle.cx_core.specs.declared.unit.CoreUnit.{CoreUnit}
use Rattle.cx_front.specs.Front.{IsUnitOf}

pub unit_told : (list : Assembled) (told : Option CoreUnit) (unit : CoreUnit) → told ≡ Some unit → MatchOption told ((other : CoreUnit) → IsUnitOf list other → ⊥) (IsUnitOf list) → IsUnitOf list unit
unit_told list told unit e is = subst (λ (o : Option CoreUnit). MatchOption o ((other : CoreUnit) → IsUnitOf list other → ⊥) (IsUnitOf list)) e is
