-- What is answered in place of an image.
use Rattle.std.proofs.Common.{◌≡◌, ◌⊎◌, ℕ, ◌≤◌, List, length, Option, Some, None, Result, Ok, Err, inl, inr, refl, sym, subst, ◌∙◌, arith}
use Rattle.std.specs.Prelude.{IfErr, MatchOption, slice_get}
use Rattle.std.specs.Result.{IsErrAnd}
use Rattle.cx_outside.specs.Folder.{Folder, WhereTold}
use Rattle.cx_lexer.specs.declared.fault.LexFault.TheVariants as lexical
use Rattle.cx_includes.specs.declared.assembled.Assembled.{Assembled}
use Rattle.cx_includes.specs.declared.assembly.AssembleFault.{AssembleFault}
use Rattle.cx_includes.specs.declared.assembly.AssembleFault.TheVariants as faults
use Rattle.cx_includes.specs.declared.part.Part.{Part}
use Rattle.cx_includes.specs.Directive.{name_in}
use Rattle.cx_includes.specs.Unit.{Taken}
use Rattle.cx_includes.specs.Fault.{IsFirstFault, Fails, IsAtFault}
use Rattle.cx_includes.specs.Assembled.{HasCause, IsListOver}
use Rattle.cx_includes.specs.Assembled as includes
use Rattle.cx_tool.specs.declared.answer.Answer.{Answer}
use Rattle.cx_tool.specs.declared.answer.Answer.TheVariants as answers
use Rattle.cx_core.specs.declared.unit.CoreUnit.{CoreUnit}
use Rattle.cx_front.specs.Front.{IsUnitOf, IsOutside, most_tokens}
use Rattle.cx_faults.specs.declared.fault.ListFault.{ListFault}
use Rattle.cx_faults.specs.declared.fault.ListFault.TheVariants as list_faults
use Rattle.cx_faults.specs.Faults.{IsFaultless, IsListFault, open_count, place_of}
use Rattle.cx_faults.proofs.Firsts.{no_fault}
use Rattle.cx_tool.specs.Faults.{fault_answer, list_fault_answer, HasFault, IsListAnswer}
use Rattle.cx_tool.specs.Report.{Comes}
use Rattle.cx_tool.specs.Causes.{IsWithoutFault}
use Rattle.cx_tool.specs.Exec.{HasStopCause, IsStoppedBy, IsWant}

-- a fault that isn't the unit's, where no call failed
pub only_want : (fault : AssembleFault) (content : Option Folder) (unit : List ℕ) (rose : Type 0) (answer : Answer) → includes.IsWant fault → HasCause content unit rose fault → (rose → ⊥) → Comes answer (fault_answer unit fault) → answer ≡ answers.OutOfMemory
only_want faults.OutOfMemory content unit rose answer want cause none comes = elim comes [ inl e ↦ e | inr e ↦ e ]
only_want faults.Failed content unit rose answer want cause none comes = absurd (none cause)
only_want (faults.Missing name) content unit rose answer want cause none comes = absurd want
only_want (faults.Lex file line column fault) content unit rose answer want cause none comes = absurd want
only_want (faults.BadLine file line) content unit rose answer want cause none comes = absurd want
only_want (faults.Depth file line) content unit rose answer want cause none comes = absurd want
only_want (faults.Large count) content unit rose answer want cause none comes = absurd want

-- want of memory is handed on by a `?`
pub wants : {X : Type 0} (r : Result X Answer) (x : Answer) → IsErrAnd r (λ e. e ≡ x) → x ≡ answers.OutOfMemory → IsWant r
wants (Ok v) x h e = absurd h
wants (Err y) x h e = h ∙ e

pub wants_memory : {X : Type 0} (wanted : Answer) (r : Result X Answer) (x : Answer) → IsErrAnd r (λ e. e ≡ x) → x ≡ answers.OutOfMemory → IsStoppedBy wanted r
wants_memory wanted (Ok v) x h e = absurd h
wants_memory wanted (Err y) x h e = inr (h ∙ e)

-- a list of a unit that may be built is not outside
pub no_outside : (list : Assembled) (tree : CoreUnit) → IsUnitOf list tree → length list.placed ≤ most_tokens → IsOutside list → ⊥
no_outside list tree is few outside = elim outside [ inl none ↦ none tree is | inr many ↦ absurd (omega arith) ]

-- a unit without a fault has no list with one
pub no_list_cause : (content : Option Folder) (folder : Folder) (unit : List ℕ) (list : Assembled) (answer : Answer) → content ≡ Some folder → IsListOver content unit list → IsWithoutFault folder unit
    → (answer ≡ answers.OutOfMemory) ⊎ IsListAnswer unit list answer → answer ≡ answers.OutOfMemory
no_list_cause content folder unit list answer told listed faultless cause =
    elim cause [ inl e ↦ e | inr its ↦ absurd (faultless.no_list_fault list its.fault (subst (λ (c : Option Folder). IsListOver c unit list) told listed) its.is) ]

-- and none that isn't built
pub no_build_cause : (content : Option Folder) (folder : Folder) (unit : List ℕ) (list : Assembled) (answer : Answer) → content ≡ Some folder → IsListOver content unit list → IsFaultless list → IsWithoutFault folder unit
    → (answer ≡ answers.OutOfMemory) ⊎ ((answer ≡ answers.Unbuilt unit) × IsOutside list) → answer ≡ answers.OutOfMemory
no_build_cause content folder unit list answer told listed fine faultless cause =
    elim cause [ inl e ↦ e | inr unbuilt ↦ absurd (faultless.built list (subst (λ (c : Option Folder). IsListOver c unit list) told listed) fine unbuilt.1) ]

-- what is told of a list's unit
pub unit_told : (list : Assembled) (told : Option CoreUnit) (unit : CoreUnit) → told ≡ Some unit → MatchOption told ((other : CoreUnit) → IsUnitOf list other → ⊥) (IsUnitOf list) → IsUnitOf list unit
unit_told list told unit e is = subst (λ (o : Option CoreUnit). MatchOption o ((other : CoreUnit) → IsUnitOf list other → ⊥) (IsUnitOf list)) e is

pub none_told : (list : Assembled) (told : Option CoreUnit) → told ≡ None → MatchOption told ((other : CoreUnit) → IsUnitOf list other → ⊥) (IsUnitOf list) → (unit : CoreUnit) → IsUnitOf list unit → ⊥
none_told list told e is = subst (λ (o : Option CoreUnit). MatchOption o ((other : CoreUnit) → IsUnitOf list other → ⊥) (IsUnitOf list)) e is

-- what a `?` hands on keeps its cause
pub handed_on : {X : Type 0} (r : Result X Answer) (x : Answer) (P : Answer → Type 0) → IsErrAnd r (λ e. e ≡ x) → P x → IfErr r P
handed_on (Ok v) x P h p = absurd h
handed_on (Err y) x P h p = subst P (sym h) p

-- a unit that isn't built, or memory is wanted
pub build_cause : (content : Option Folder) (rose : Type 0) (unit : List ℕ) (list : Assembled) (answer : Answer) → IsListOver content unit list → IsFaultless list
    → (answer ≡ answers.OutOfMemory) ⊎ ((answer ≡ answers.Unbuilt unit) × IsOutside list) → HasStopCause answer content rose unit
build_cause content rose unit list answer listed fine cause = elim cause [
  | inl e ↦ subst (λ (a : Answer). HasStopCause a content rose unit) (sym e) tt
  | inr h ↦ subst (λ (a : Answer). HasStopCause a content rose unit) (sym h.0) (refl, record { list = list; listed = listed; faultless = fine; outside = h.1 })
]

-- what a `?` hands on is the answer that is due
pub stops : {X : Type 0} (wanted : Answer) (r : Result X Answer) (x : Answer) → IsErrAnd r (λ e. e ≡ x) → Comes x wanted → IsStoppedBy wanted r
stops wanted (Ok v) x h comes = absurd h
stops wanted (Err y) x h comes = subst (λ (a : Answer). Comes a wanted) (sym h) comes

-- a list without a fault wants memory alone
pub only_memory : (unit : List ℕ) (list other : Assembled) (answer : Answer) → IsFaultless list → other ≡ list → (answer ≡ answers.OutOfMemory) ⊎ IsListAnswer unit other answer → answer ≡ answers.OutOfMemory
only_memory unit list other answer fine same cause =
    elim cause [ inl e ↦ e | inr its ↦ absurd (no_fault other (subst IsFaultless (sym same) fine) its.fault its.is) ]

-- the first fault of a unit's list, or memory is wanted
pub list_cause : (content : Option Folder) (rose : Type 0) (unit : List ℕ) (list : Assembled) (answer : Answer) → IsListOver content unit list → (answer ≡ answers.OutOfMemory) ⊎ IsListAnswer unit list answer
    → HasStopCause answer content rose unit
list_cause content rose unit list answer listed cause =
    elim cause [ inl e ↦ subst (λ (a : Answer). HasStopCause a content rose unit) (sym e) tt | inr its ↦ by_fault its.fault its.is its.answered ]
  where
    by_fault : (fault : ListFault) → IsListFault list fault → answer ≡ list_fault_answer unit list fault → HasStopCause answer content rose unit
    by_fault fault (IsListFault.opened many) e =
        let its : IsListAnswer unit list (list_fault_answer unit list (list_faults.OpenTokens (open_count list))) = record { fault = list_faults.OpenTokens (open_count list); is = IsListFault.opened many; answered = refl } in
        subst (λ (a : Answer). HasStopCause a content rose unit) (sym e) (inr (record { list = list; listed = listed; its = its }))
    by_fault fault (IsListFault.syntax shallow place is) e =
        let there = list_faults.Syntax (place_of list (slice_get list.placed place)) in
        let its : IsListAnswer unit list (list_fault_answer unit list there) = record { fault = there; is = IsListFault.syntax shallow place is; answered = refl } in
        subst (λ (a : Answer). HasStopCause a content rose unit) (sym e) (refl, inr (record { list = list; listed = listed; its = its }))

-- ---- a file that is missing

at_fault_missing : (folder : Folder) (depth : ℕ) (name text : List ℕ) (now : Taken) (part : Part) (fault : AssembleFault) → IsAtFault folder depth name text now part fault → (other : List ℕ) → fault ≡ faults.Missing other → folder other ≡ None
at_fault_missing folder depth name text now part fault (IsAtFault.lexical) other e = cc
at_fault_missing folder depth name text now part fault (IsAtFault.bad_line) other e = cc
at_fault_missing folder depth name text now part fault (IsAtFault.long_name long) other e = cc
at_fault_missing folder depth name text now part fault (IsAtFault.deep short fresh le) other e = cc
at_fault_missing folder depth name text now part fault (IsAtFault.missing {span} short shallow none) other e = let same : name_in text span ≡ other = cc in subst (λ (n : List ℕ). folder n ≡ None) same none
at_fault_missing folder depth name text now part fault (IsAtFault.large short fresh shallow told large) other e = cc

fails_missing : (folder : Folder) (depth : ℕ) (name text : List ℕ) (parts : List Part) (before : Taken) (fault : AssembleFault) → Fails folder depth name text parts before fault → (other : List ℕ) → fault ≡ faults.Missing other → folder other ≡ None
fails_missing folder depth name text parts before fault (Fails.here {part} {now} rest takes at) other e = at_fault_missing folder _ name text now part fault at other e
fails_missing folder depth name text parts before fault (Fails.within rest span line inner all takes opens reading fails) other e = fails_missing folder _ _ inner all _ fault fails other e

-- the first fault of a missing file names one that the files lack
pub is_missing : (folder : Folder) (unit : List ℕ) (fault : AssembleFault) → IsFirstFault folder unit fault → (other : List ℕ) → fault ≡ faults.Missing other → folder other ≡ None
is_missing folder unit fault (IsFirstFault.no_unit none) other e = let same : unit ≡ other = cc in subst (λ (n : List ℕ). folder n ≡ None) same none
is_missing folder unit fault (IsFirstFault.large_unit told large) other e = cc
is_missing folder unit fault (IsFirstFault.first told small reading fails) other e = fails_missing folder _ unit _ _ _ fault fails other e

missing_of : (fault : AssembleFault) (unit name : List ℕ) → answers.NoFile name ≡ fault_answer unit fault → fault ≡ faults.Missing name
missing_of faults.OutOfMemory unit name e = cc
missing_of (faults.Missing other) unit name e = let same : name ≡ other = cc in cc
missing_of faults.Failed unit name e = cc
missing_of (faults.Lex file line column lexical.OutOfMemory) unit name e = cc
missing_of (faults.Lex file line column (lexical.BadByte at)) unit name e = cc
missing_of (faults.Lex file line column (lexical.OpenComment at)) unit name e = cc
missing_of (faults.Lex file line column (lexical.OpenText at)) unit name e = cc
missing_of (faults.Lex file line column (lexical.TooWide at)) unit name e = cc
missing_of (faults.Lex file line column (lexical.LongName at count)) unit name e = cc
missing_of (faults.BadLine file line) unit name e = cc
missing_of (faults.Depth file line) unit name e = cc
missing_of (faults.Large count) unit name e = cc

-- so the files lack the file that an answer names
pub no_such_file : (content : Option Folder) (rose : Type 0) (unit name : List ℕ) → HasFault content rose unit (answers.NoFile name) → WhereTold content (λ folder. folder name ≡ None) rose
no_such_file None rose unit name has = subst (λ (fault : AssembleFault). HasCause None unit rose fault) (missing_of has.fault unit name has.answered) has.cause
no_such_file (Some folder) rose unit name has =
    let same = missing_of has.fault unit name has.answered in
    let first : IsFirstFault folder unit (faults.Missing name) = subst (λ (fault : AssembleFault). HasCause (Some folder) unit rose fault) same has.cause in
    is_missing folder unit (faults.Missing name) first name refl
