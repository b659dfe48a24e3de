-- Where the words or the files tell that no file may be written, none was.
use Rattle.std.proofs.Common.{◌≡◌, ◌⊎◌, ℕ, List, Option, Some, None, inl, inr, sym, ap, subst, ◌∙◌}
use Rattle.cx_outside.specs.Folder.{Folder}
use Rattle.cx_includes.specs.declared.assembled.Assembled.{Assembled}
use Rattle.cx_includes.specs.declared.assembly.AssembleFault.{AssembleFault}
use Rattle.cx_includes.specs.Fault.{IsFirstFault}
use Rattle.cx_includes.specs.Assembled.{IsListOf, IsListOver}
use Rattle.cx_faults.specs.Faults.{IsListFault}
use Rattle.cx_faults.proofs.Firsts.{no_fault}
use Rattle.cx_front.specs.Front.{IsOutside}
use Rattle.cx_code.specs.declared.image.Image.{Image}
use Rattle.cx_code.specs.declared.run.Run.{Run}
use Rattle.cx_tool.specs.Words.{Request, request_of, long_name, NamesUnit, OfRequest}
use Rattle.cx_tool.specs.Seen.{FilesSeen}
use Rattle.cx_tool.specs.Report.{IsOfFile, HasPut}
use Rattle.cx_tool.specs.Causes.{MayNotPut}
use Rattle.cx_tool.proofs.Stops.{no_outside}

-- what the law of one assembly says
pub record OneAssembly : Type 0 where
  pub list : (folder : Folder) (name : List ℕ) (a b : Assembled) → IsListOf folder name a → IsListOf folder name b → a ≡ b
  pub apart : (folder : Folder) (name : List ℕ) (list : Assembled) (fault : AssembleFault) → IsListOf folder name list → IsFirstFault folder name fault → ⊥

listed : (told : Option Folder) (folder : Folder) (unit : List ℕ) (list : Assembled) → told ≡ Some folder → IsListOver told unit list → IsListOf folder unit list
listed told folder unit list e over = subst (λ (t : Option Folder). IsListOver t unit list) e over

same_request : (words : List (List ℕ)) (a b : Request) → request_of words ≡ Some a → request_of words ≡ Some b → a ≡ b
same_request words a b one other = let e : Some a ≡ Some b = sym one ∙ other in cc

the_unit : (words : List (List ℕ)) (asked : Request) (unit : List ℕ) → request_of words ≡ Some asked → NamesUnit words unit → unit ≡ asked.unit
the_unit words asked unit some names = sym (ap (λ (a : Request). a.unit) (same_request words asked names.0 some names.1) ∙ names.3)

-- the image of a unit is put only where the unit has no fault and is built
refuted : OneAssembly → (words : List (List ℕ)) (files : FilesSeen) (asked : Request) → request_of words ≡ Some asked → long_name asked ≡ None → (image : Image) → IsOfFile files.old asked.unit asked.semantic image → MayNotPut words files.old → ⊥
refuted one words files asked some short image source (MayNotPut.no_request none) = let e : None ≡ Some asked = sym none ∙ some in cc
refuted one words files asked some short image source (MayNotPut.long_name count has) =
    let same = same_request words has.0 asked has.1 some in
    let its : long_name asked ≡ Some count = subst (λ (a : Request). long_name a ≡ Some count) same has.2 in
    let e : None ≡ Some count = sym short ∙ its in cc
refuted one words files asked some short image source (MayNotPut.fault folder unit fault told names fault_is) =
    let e = the_unit words asked unit some names in
    one.apart folder asked.unit source.list fault (listed files.old folder asked.unit source.list told source.listed) (subst (λ (u : List ℕ). IsFirstFault folder u fault) e fault_is)
refuted one words files asked some short image source (MayNotPut.list_fault folder unit list fault told names its is) =
    let e = the_unit words asked unit some names in
    let same = one.list folder asked.unit list source.list (subst (λ (u : List ℕ). IsListOf folder u list) e its) (listed files.old folder asked.unit source.list told source.listed) in
    no_fault source.list source.faultless fault (subst (λ (l : Assembled). IsListFault l fault) same is)
refuted one words files asked some short image source (MayNotPut.outside folder unit list told names its fine outside) =
    let e = the_unit words asked unit some names in
    let same = one.list folder asked.unit list source.list (subst (λ (u : List ℕ). IsListOf folder u list) e its) (listed files.old folder asked.unit source.list told source.listed) in
    no_outside source.list source.compiled.unit source.compiled.spelled source.few (subst IsOutside same outside)

pub never_put : OneAssembly → (words : List (List ℕ)) (run : Run) (files : FilesSeen) → (files.new ≡ files.old) ⊎ OfRequest words (λ asked. HasPut asked run files) → MayNotPut words files.old → files.new ≡ files.old
never_put one words run files put may_not =
    elim put [ inl same ↦ same | inr has ↦ absurd (refuted one words files has.0 has.1 has.2 has.3.image has.3.source may_not) ]
