use Rattle.std.proofs.Common.{ℕ, List, Option, Err, inr, sym, ap, subst, ◌∙◌}
use Rattle.cx_outside.specs.Told.{Rose-later}
use Rattle.cx_tool.specs.declared.answer.Answer.{Answer}
use Rattle.cx_tool.specs.declared.answer.Answer.TheVariants as answers
use Rattle.cx_front.specs.Front.{IsOutside}
use Rattle.cx_outside.specs.Fault.{Rose}
use Rattle.cx_outside.specs.Folder.{Folder, BothTold, Puts}
use Rattle.cx_code.specs.Spelling.{image_spelling}
use Rattle.cx_tool.specs.Exec.{HasStopCause, IsStoppedBy}
use Rattle.cx_faults.specs.Faults.{IsListFault}
use Rattle.cx_faults.proofs.Firsts.{no_fault}
use Rattle.cx_tool.specs.Faults.{list_fault_answer}
use Rattle.cx_includes.specs.declared.assembled.Assembled.{Assembled}
use Rattle.cx_tool.proofs.Stops.{wants, wants_memory, stops, only_memory, no_list_cause, no_build_cause, no_outside, handed_on, build_cause, list_cause}
use Rattle.cx_tool.proofs.exec.put_image.Goals as goal

pub returns-in_err-list-clause-unbuilt_comes : goal.returns-in_err-list-clause-unbuilt_comes
returns-in_err-list-clause-unbuilt_comes g c =
    λ folder list told is fine outside none.
    wants_memory (answers.Unbuilt c.args.unit_name.now) c.from_residual.result c.in_err-list.field-0.0 c.from_residual.ensures.1 (c.in_err-list.ensures.list_comes folder list told is none)

pub returns-in_err-list-clause-built_comes : goal.returns-in_err-list-clause-built_comes
returns-in_err-list-clause-built_comes g c =
    λ folder told faultless none.
    wants c.from_residual.result c.in_err-list.field-0.0 c.from_residual.ensures.1 (c.in_err-list.ensures.want folder told faultless.no_fault none)

pub returns-in_err-valid-clause-built_comes : goal.returns-in_err-valid-clause-built_comes
returns-in_err-valid-clause-built_comes g c =
    λ folder told faultless none.
    wants c.from_residual-in_err-valid.result c.in_err-valid.field-0.0 c.from_residual-in_err-valid.ensures.1 (no_build_cause (g.F.Files.content c.args.files.now) folder c.args.unit_name.now c.in_ok-list.list c.in_err-valid.field-0.0 told c.in_ok-list.ensures.list c.in_ok-without_fault.ensures.faultless faultless c.in_err-valid.ensures.cause)

pub returns-in-Ok-clause-unbuilt_comes : goal.returns-in-Ok-clause-unbuilt_comes
returns-in-Ok-clause-unbuilt_comes g c =
    λ folder list told is fine outside none.
    let same = c.in_ok-list.ensures.list_comes folder list told is (λ rose. none (Rose-later (g.F.Files.faults c.args.files.now) (g.F.Files.faults c.assembled.new.files) (g.F.Files.faults c.put.new.self) c.put.ensures.later rose)) in
    let compiled = c.in_ok-valid.ensures.compiled in
    no_outside c.in_ok-list.list compiled.unit compiled.spelled c.in_ok-valid.ensures.few (subst IsOutside (sym same) outside)

pub returns-in_err-valid-clause-cause : goal.returns-in_err-valid-clause-cause
returns-in_err-valid-clause-cause g c =
    let rose = Rose (g.F.Files.faults c.args.files.now) (g.F.Files.faults c.assembled.new.files) in
    let content = g.F.Files.content c.args.files.now in
    handed_on c.from_residual-in_err-valid.result c.in_err-valid.field-0.0 (λ (answer : Answer). HasStopCause answer content rose c.args.unit_name.now) c.from_residual-in_err-valid.ensures.1
    (build_cause content rose c.args.unit_name.now c.in_ok-list.list c.in_err-valid.field-0.0 c.in_ok-list.ensures.list c.in_ok-without_fault.ensures.faultless c.in_err-valid.ensures.cause)

pub returns-in-Ok-clause-ok : goal.returns-in-Ok-clause-ok
returns-in-Ok-clause-ok g c =
    let same = c.bytes-2.ensures ∙ (c.in_ok-bytes.ensures ∙ ap image_spelling c.image.ensures.same) in
    let told = subst (λ (bytes : List ℕ). BothTold (g.F.Files.content c.assembled.new.files) (g.F.Files.content c.put.new.self) (Puts c.args.image_name.now bytes)) same c.in-Ok.ensures.puts in (
      record { list = c.in_ok-list.list; listed = c.in_ok-list.ensures.list; faultless = c.in_ok-without_fault.ensures.faultless; few = c.in_ok-valid.ensures.few; compiled = c.in_ok-valid.ensures.compiled },
      subst (λ (content : Option Folder). BothTold content (g.F.Files.content c.put.new.self) (Puts c.args.image_name.now (image_spelling c.in_ok-valid.valid))) c.in_ok-list.ensures.stays told,
    )

pub returns-in_err-list-clause-list_fault_comes : goal.returns-in_err-list-clause-list_fault_comes
returns-in_err-list-clause-list_fault_comes g c =
    λ folder list fault told is due none.
    wants_memory (list_fault_answer c.args.unit_name.now list fault) c.from_residual.result c.in_err-list.field-0.0 c.from_residual.ensures.1 (c.in_err-list.ensures.list_comes folder list told is none)

pub returns-in_err-without_fault-clause-cause : goal.returns-in_err-without_fault-clause-cause
returns-in_err-without_fault-clause-cause g c =
    let rose = Rose (g.F.Files.faults c.args.files.now) (g.F.Files.faults c.assembled.new.files) in
    let content = g.F.Files.content c.args.files.now in
    handed_on c.from_residual-in_err-without_fault.result c.in_err-without_fault.field-0.0 (λ (answer : Answer). HasStopCause answer content rose c.args.unit_name.now) c.from_residual-in_err-without_fault.ensures.1
    (list_cause content rose c.args.unit_name.now c.in_ok-list.list c.in_err-without_fault.field-0.0 c.in_ok-list.ensures.list c.in_err-without_fault.ensures.cause)

pub returns-in_err-without_fault-clause-list_fault_comes : goal.returns-in_err-without_fault-clause-list_fault_comes
returns-in_err-without_fault-clause-list_fault_comes g c =
    λ folder list fault told is due none.
    let same = c.in_ok-list.ensures.list_comes folder list told is none in
    let comes = c.in_err-without_fault.ensures.fault_comes fault (subst (λ (l : Assembled). IsListFault l fault) (sym same) due) in
    subst (λ (l : Assembled). IsStoppedBy (list_fault_answer c.args.unit_name.now l fault) c.from_residual-in_err-without_fault.result) same
    (stops (list_fault_answer c.args.unit_name.now c.in_ok-list.list fault) c.from_residual-in_err-without_fault.result c.in_err-without_fault.field-0.0 c.from_residual-in_err-without_fault.ensures.1 comes)

pub returns-in_err-without_fault-clause-unbuilt_comes : goal.returns-in_err-without_fault-clause-unbuilt_comes
returns-in_err-without_fault-clause-unbuilt_comes g c =
    λ folder list told is fine outside none.
    let same = c.in_ok-list.ensures.list_comes folder list told is none in
    wants_memory (answers.Unbuilt c.args.unit_name.now) c.from_residual-in_err-without_fault.result c.in_err-without_fault.field-0.0 c.from_residual-in_err-without_fault.ensures.1 (only_memory c.args.unit_name.now list c.in_ok-list.list c.in_err-without_fault.field-0.0 fine same c.in_err-without_fault.ensures.cause)

pub returns-in_err-without_fault-clause-built_comes : goal.returns-in_err-without_fault-clause-built_comes
returns-in_err-without_fault-clause-built_comes g c =
    λ folder told faultless none.
    wants c.from_residual-in_err-without_fault.result c.in_err-without_fault.field-0.0 c.from_residual-in_err-without_fault.ensures.1 (no_list_cause (g.F.Files.content c.args.files.now) folder c.args.unit_name.now c.in_ok-list.list c.in_err-without_fault.field-0.0 told c.in_ok-list.ensures.list faultless c.in_err-without_fault.ensures.cause)

pub returns-in_err-valid-clause-list_fault_comes : goal.returns-in_err-valid-clause-list_fault_comes
returns-in_err-valid-clause-list_fault_comes g c =
    λ folder list fault told is due none.
    let same = c.in_ok-list.ensures.list_comes folder list told is none in
    absurd (no_fault c.in_ok-list.list c.in_ok-without_fault.ensures.faultless fault (subst (λ (l : Assembled). IsListFault l fault) (sym same) due))

pub returns-in-Ok-clause-list_fault_comes : goal.returns-in-Ok-clause-list_fault_comes
returns-in-Ok-clause-list_fault_comes g c =
    λ folder list fault told is due none.
    let same = c.in_ok-list.ensures.list_comes folder list told is (λ rose. none (Rose-later (g.F.Files.faults c.args.files.now) (g.F.Files.faults c.assembled.new.files) (g.F.Files.faults c.put.new.self) c.put.ensures.later rose)) in
    no_fault c.in_ok-list.list c.in_ok-without_fault.ensures.faultless fault (subst (λ (l : Assembled). IsListFault l fault) (sym same) due)

pub returns-clause-put : goal.returns-clause-put
returns-clause-put g c =
    let rose = subst (λ (before : ℕ). Rose before (g.F.Files.put_faults c.put.new.self)) c.in_ok-list.ensures.puts (c.in-Err-Failed.ensures.failed_count (ap Err c.in-Err-Failed.field-0-is)) in
    inr (rose, (c.in_ok-valid.valid, record { list = c.in_ok-list.list; listed = c.in_ok-list.ensures.list; faultless = c.in_ok-without_fault.ensures.faultless; few = c.in_ok-valid.ensures.few; compiled = c.in_ok-valid.ensures.compiled }))
