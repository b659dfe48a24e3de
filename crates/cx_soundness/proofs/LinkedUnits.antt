-- What it is for the units of a program to be typed, each with declarations of its own that agree with those of the program.
use Rattle.std.proofs.Common.{◌≡◌, ℕ, true, List, [], ◌∷◌, map, Some}
use Rattle.std.specs.Prelude.{slice_get}
use Rattle.cx_core.specs.Tree.{class}
use Rattle.cx_core.specs.Unit.{UnitFunction, UnitGlobal}
use Rattle.cx_core.specs.Renamed.{renamed_result, renamed_type_or_none}
use Rattle.cx_core.specs.Numbers.{Planned}
use Rattle.cx_core.specs.Linked.{names_of}
use Rattle.cx_soundness.specs.Types.{Declared}
use Rattle.cx_soundness.specs.Given.{is_whole, type_at}
use Rattle.cx_soundness.specs.Programs.{height_of}
use Rattle.cx_soundness.specs.Units.{class_or_none, is_typed_unit, Agrees, DefaultsStay}
use Rattle.cx_soundness.specs.Linking.{ByName, declared_by, linked_classes}

module _ (units : List Planned) (named : ByName) where
  -- a unit's functions are of the kinds that the program's are
  abbrev pub KindsAgree : Planned → List UnitFunction → Type 0
  KindsAgree p functions = (j : ℕ) (f : UnitFunction) → slice_get functions j ≡ Some f → renamed_result (names_of units p) f.result ≡ named.kind_of f.name

  -- the classes that it makes objects of are as high as the program's
  abbrev pub HeightsAgree : Planned → Declared → Type 0
  HeightsAgree p declared = (c : ℕ) → is_whole declared (class c) ≡ true → height_of (declared_by units named).heights ((names_of units p).class_number c) ≡ height_of declared.heights c

  -- and its globals are of their types
  abbrev pub GlobalsAgree : Planned → Declared → Type 0
  GlobalsAgree p declared = (j : ℕ) (g : UnitGlobal) → slice_get p.unit.globals j ≡ Some g → named.type_of g.name ≡ renamed_type_or_none (names_of units p) (type_at declared.globals j)

  pub data AreTypedUnits : List Planned → Type 0 where
    no_unit : AreTypedUnits []
    typed_unit : (p : Planned) (later : List Planned) (declared : Declared)
        → Agrees (names_of units p) declared (declared_by units named)
        → DefaultsStay (names_of units p) declared (declared_by units named) (map class_or_none p.unit.classes) (linked_classes units named)
        → KindsAgree p p.unit.functions
        → HeightsAgree p declared
        → GlobalsAgree p declared
        → is_typed_unit declared p.unit ≡ true
        → AreTypedUnits later
        → AreTypedUnits (p ∷ later)
