-- Each unit that the files tell gets an answer.
use Rattle.std.proofs.Common.{ℕ, List, inl, inr, subst}
use Rattle.cx_outside.specs.Folder.{Folder}
use Rattle.cx_includes.specs.declared.assembled.Assembled.{Assembled}
use Rattle.cx_includes.specs.declared.assembly.AssembleFault.{AssembleFault}
use Rattle.cx_includes.specs.Fault.{IsFirstFault}
use Rattle.cx_includes.specs.Assembled.{IsListOf}
use Rattle.cx_faults.specs.declared.fault.ListFault.{ListFault}
use Rattle.cx_faults.specs.Faults.{IsFaultless, IsListFault}
use Rattle.cx_front.specs.Front.{IsOutside}
use Rattle.cx_judged.specs.Laws.{ListOrFault, FaultlessOrFault, FaultlessHasNoFault, BuiltOrOutside, BuiltIsNotOutside, IsInside}
use Rattle.cx_tool.specs.declared.answer.Answer.{Answer}
use Rattle.cx_tool.specs.declared.answer.Answer.TheVariants as answers
use Rattle.cx_tool.specs.Seen.{Seen}
use Rattle.cx_tool.specs.Faults.{fault_answer, list_fault_answer}
use Rattle.cx_tool.specs.Report.{Comes}
use Rattle.cx_tool.specs.Causes.{IsWithoutFault, GetsRun, IsAnswered}
use Rattle.cx_tool.proofs.Unput.{OneAssembly}

-- what the laws of lists and their faults say
pub record Judged : Type 0 where
  pub lists : ListOrFault
  pub faults : FaultlessOrFault
  pub no_fault : FaultlessHasNoFault
  pub built : BuiltOrOutside
  pub inside : BuiltIsNotOutside

without_fault : OneAssembly → Judged → (folder : Folder) (unit : List ℕ) (list : Assembled) → IsListOf folder unit list → IsFaultless list → IsInside list → IsWithoutFault folder unit
without_fault one judged folder unit list is fine inside = record {
  no_fault = λ fault first. one.apart folder unit list fault is first;
  no_list_fault = λ other fault its due. judged.no_fault list fault fine (subst (λ (l : Assembled). IsListFault l fault) (one.list folder unit other list its is) due);
  built = λ other its its_fine outside. judged.inside list inside (subst IsOutside (one.list folder unit other list its is) outside);
}

pub answered : OneAssembly → Judged → (words : List (List ℕ)) (seen : Seen) (folder : Folder) (unit : List ℕ) (answer : Answer)
    → ((fault : AssembleFault) → IsFirstFault folder unit fault → Comes answer (fault_answer unit fault))
    → ((list : Assembled) (fault : ListFault) → IsListOf folder unit list → IsListFault list fault → Comes answer (list_fault_answer unit list fault))
    → ((list : Assembled) → IsListOf folder unit list → IsFaultless list → IsOutside list → Comes answer (answers.Unbuilt unit))
    → (IsWithoutFault folder unit → GetsRun words seen answer)
    → IsAnswered words seen folder unit answer
answered one judged words seen folder unit answer fault list_fault unbuilt runs =
    elim (judged.lists folder unit) [
      | inr first ↦ IsAnswered.fault first.0 first.1 (fault first.0 first.1)
      | inl listed ↦ elim (judged.faults listed.0) [
        | inr due ↦ IsAnswered.list_fault listed.0 due.0 listed.1 due.1 (list_fault listed.0 due.0 listed.1 due.1)
        | inl fine ↦ elim (judged.built listed.0 fine) [
          | inr outside ↦ IsAnswered.unbuilt listed.0 listed.1 fine outside (unbuilt listed.0 listed.1 fine outside)
          | inl inside ↦ let faultless = without_fault one judged folder unit listed.0 listed.1 fine inside in IsAnswered.runs faultless (runs faultless)
        ]
      ]
    ]
