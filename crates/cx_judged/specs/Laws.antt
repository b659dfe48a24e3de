-- Laws of units and their lists: that each has an answer, and which answers exclude each other; this project's own.
use Rattle.std.specs.Prelude.{◌⊎◌, ◌≤◌, ℕ, List, length}
use Rattle.cx_outside.specs.Folder.{Folder}
use Rattle.cx_syntax.specs.Place.{IsTree}
use Rattle.cx_syntax.specs.Tree.{UnitTree}
use Rattle.cx_includes.specs.declared.assembled.Assembled.{Assembled}
use Rattle.cx_includes.specs.declared.assembly.AssembleFault.{AssembleFault}
use Rattle.cx_includes.specs.Assembled.{IsListOf}
use Rattle.cx_includes.specs.Fault.{IsFirstFault}
use Rattle.cx_faults.specs.declared.fault.ListFault.{ListFault}
use Rattle.cx_faults.specs.Faults.{IsFaultless, IsListFault, marks_of}
use Rattle.cx_core.specs.declared.unit.CoreUnit.{CoreUnit}
use Rattle.cx_front.specs.Front.{IsOutside, IsUnitOf, most_tokens}

-- Whatever the files hold, a unit has an assembled list or a first fault.
abbrev pub ListOrFault : Type 0
ListOrFault = (folder : Folder) (name : List ℕ) → ((list : Assembled) × IsListOf folder name list) ⊎ ((fault : AssembleFault) × IsFirstFault folder name fault)

-- A list is without a fault or has one.
abbrev pub FaultlessOrFault : Type 0
FaultlessOrFault = (list : Assembled) → IsFaultless list ⊎ ((fault : ListFault) × IsListFault list fault)

-- A list without a fault has none.
abbrev pub FaultlessHasNoFault : Type 0
FaultlessHasNoFault = (list : Assembled) (fault : ListFault) → IsFaultless list → IsListFault list fault → ⊥

-- A list without a fault has a tree, its only one.
abbrev pub FaultlessHasTree : Type 0
FaultlessHasTree = (list : Assembled) → IsFaultless list → (tree : UnitTree) × IsTree (marks_of list) tree

-- a list that is built: it is a unit, and isn't too long
abbrev pub IsInside : Assembled → Type 0
IsInside list = (unit : CoreUnit) × IsUnitOf list unit × (length list.placed ≤ most_tokens)

-- A list without a fault is built or outside what is built.
abbrev pub BuiltOrOutside : Type 0
BuiltOrOutside = (list : Assembled) → IsFaultless list → IsInside list ⊎ IsOutside list

-- A list that is built isn't outside.
abbrev pub BuiltIsNotOutside : Type 0
BuiltIsNotOutside = (list : Assembled) → IsInside list → IsOutside list → ⊥
