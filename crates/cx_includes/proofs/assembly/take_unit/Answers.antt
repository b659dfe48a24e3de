use Rattle.std.proofs.Common.{ap, subst}
use Rattle.std.proofs.lemmas.Result.{err_from_is_err_and}
use Rattle.cx_outside.specs.Fault.{Rose}
use Rattle.cx_outside.specs.Told.{Rose-earlier}
use Rattle.cx_includes.specs.Unit.{Taken}
use Rattle.cx_includes.specs.Taking.{Goes, IsDue, IsFileFault, taken, source_at}
use Rattle.cx_includes.proofs.Whole.{list_over, short_names, fault_of, unit_refused}
use Rattle.cx_includes.proofs.Takings.{due_weaker}
use Rattle.cx_includes.proofs.assembly.take_unit.Goals as goal

pub returns-in_err-file-clause-fault : goal.returns-in_err-file-clause-fault
returns-in_err-file-clause-fault g c =
    let p = err_from_is_err_and c.from_residual.result c.from_residual.ensures.1 in
    rw (p.1, p.2) (unit_refused (g.F.Files.content c.args.files.now) (Rose (g.F.Files.faults c.args.files.now) (g.F.Files.faults c.open_first.new.files)) c.args.name.now c.new-taking.result.bytes c.in_err-file.field-0.0 (ap (λ (t : Taken). t.bytes) c.new-taking.ensures.taken) c.in_err-file.ensures.fault)

pub returns-in_err-take_file-clause-fault : goal.returns-in_err-take_file-clause-fault
returns-in_err-take_file-clause-fault g c =
    let content = g.F.Files.content c.args.files.now in
    let m = c.open_first.new.self in
    let n = c.take_file.new.self in
    let fault = c.in_err-take_file.field-0.0 in
    let rose = Rose (g.F.Files.faults c.open_first.new.files) (g.F.Files.faults c.take_file.new.files) in
    let all = Rose (g.F.Files.faults c.args.files.now) (g.F.Files.faults c.take_file.new.files) in
    let stays = c.in_ok-file.ensures.stays in
    let p = err_from_is_err_and c.from_residual-in_err-take_file.result c.from_residual-in_err-take_file.ensures.1 in
    rw (p.1, p.2) (fault_of content c.args.name.now c.new-taking.result m n c.in_ok-file.file c.new-taking.ensures.taken c.new-taking.ensures.sources c.in_ok-file.ensures.pushed c.in_ok-file.ensures.sound all fault
    (subst (λ k. Goes k m n) stays c.in_err-take_file.ensures.goes)
    (due_weaker content rose all n (IsFileFault 0 (source_at m c.in_ok-file.file) (taken m)) (IsFileFault 0 (source_at m c.in_ok-file.file) (taken m)) (λ h. Rose-earlier _ _ _ c.in_ok-file.ensures.later h) (λ folder f agrees at. at) fault
    (subst (λ k. IsDue k rose n (IsFileFault 0 (source_at m c.in_ok-file.file) (taken m)) fault) stays c.in_err-take_file.ensures.fault)))

pub returns-clause-list : goal.returns-clause-list
returns-clause-list g c =
    let content = g.F.Files.content c.args.files.now in
    let m = c.open_first.new.self in
    let n = c.take_file.new.self in
    list_over content c.args.name.now c.new-taking.result m n c.in_ok-file.file c.new-taking.ensures.taken c.new-taking.ensures.sources c.in_ok-file.ensures.pushed c.in_ok-file.ensures.sound c.in_ok-unit.unit
    c.in_ok-take_file.ensures.takes (subst (λ k. Goes k m n) c.in_ok-file.ensures.stays c.in_ok-take_file.ensures.goes) c.in_ok-take_file.ensures.sound c.in_ok-unit.ensures

pub returns-clause-short : goal.returns-clause-short
returns-clause-short g c =
    let content = g.F.Files.content c.args.files.now in
    let m = c.open_first.new.self in
    let n = c.take_file.new.self in
    short_names content c.args.name.now c.new-taking.result m n c.in_ok-file.file c.new-taking.ensures.taken c.new-taking.ensures.sources c.in_ok-file.ensures.pushed c.in_ok-file.ensures.sound c.in_ok-unit.unit
    (subst (λ k. Goes k m n) c.in_ok-file.ensures.stays c.in_ok-take_file.ensures.goes) c.in_ok-unit.ensures
