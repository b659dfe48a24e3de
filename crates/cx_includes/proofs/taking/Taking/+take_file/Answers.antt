use Rattle.std.proofs.Common.{◌+◌, arith, refl, ◌∙◌, subst}
use Rattle.std.proofs.lemmas.Result.{err_from_is_err_and}
use Rattle.std.proofs.lemmas.List.{take_all}
use Rattle.cx_outside.specs.Fault.{Rose}
use Rattle.cx_outside.specs.Told.{Rose-earlier}
use Rattle.cx_includes.specs.Unit.{Takes}
use Rattle.cx_includes.specs.Taking.{Goes, Passes, IsDue, IsPartFault, IsFileFault, taken, source_at}
use Rattle.cx_includes.proofs.Takings.{goes_same, goes_then, agrees_before, source_kept, inside_kept, lies, next_part, next_file, part_due, inner_due}
use Rattle.cx_includes.proofs.taking.Taking.+take_file.Goals as goal
use Rattle.cx_includes.proofs.taking.Taking.+take_file.Goals.{in-Some+in_ok-take_file-in-Some, in-None}

pub loop-next-init : goal.loop-next-init
loop-next-init g t c = record { sound = c.requires.sound; goes = goes_same _ c.args.self.now; takes = λ folder agrees. Takes.none; stays = refl; puts = refl; later = omega arith }

pub pass-requires-clause-lies : goal.pass-requires-clause-lies
pass-requires-clause-lies g t c =
    let a = c.args.self.now in
    let b = c.loop-next.self in
    let file = c.args.file in
    let inside = inside_kept a b file c.loop-next.invariant.goes.grows c.requires.inside in
    lies b file c.loop-next.next c.part_at-part.result c.loop-next.invariant.sound inside c.part_at-part.ensures

pub returns-in_err-inner-clause-goes : goal.returns-in_err-inner-clause-goes
returns-in_err-inner-clause-goes g t c =
    goes_then _ c.args.self.now c.loop-next.self c.pass.new.self c.loop-next.invariant.goes (subst (λ k. Goes k c.loop-next.self c.pass.new.self) c.loop-next.invariant.stays c.in_err-inner.ensures.goes)

pub returns-in_err-inner-clause-fault : goal.returns-in_err-inner-clause-fault
returns-in_err-inner-clause-fault g t c =
    let a = c.args.self.now in
    let b = c.loop-next.self in
    let file = c.args.file in
    let fault = c.in_err-inner.field-0.0 in
    let rose = Rose (g.F.Files.faults c.loop-next.files) (g.F.Files.faults c.pass.new.files) in
    let p = err_from_is_err_and c.from_residual.result c.from_residual.ensures.1 in
    rw (p.1, p.2) (part_due (g.F.Files.content c.args.files.now) rose (Rose (g.F.Files.faults c.args.files.now) (g.F.Files.faults c.pass.new.files)) c.args.depth a b c.pass.new.self file c.loop-next.next c.part_at-part.result fault
    (λ h. Rose-earlier _ _ _ c.loop-next.invariant.later h) c.requires.inside c.loop-next.invariant.goes.grows c.in_err-inner.ensures.goes.grows c.part_at-part.ensures c.loop-next.invariant.takes
    (subst (λ k. IsDue k rose c.pass.new.self (IsPartFault c.args.depth (source_at b file).file (taken b) c.part_at-part.result) fault) c.loop-next.invariant.stays c.in_err-inner.ensures.fault))

pub returns-in_err-take_file-in-Some-clause-goes : goal.returns-in_err-take_file-in-Some-clause-goes
returns-in_err-take_file-in-Some-clause-goes g t c =
    goes_then _ c.args.self.now c.pass.new.self c.take_file.new.self
    (goes_then _ c.args.self.now c.loop-next.self c.pass.new.self c.loop-next.invariant.goes (subst (λ k. Goes k c.loop-next.self c.pass.new.self) c.loop-next.invariant.stays c.in_ok-inner.ensures.goes))
    (subst (λ k. Goes k c.pass.new.self c.take_file.new.self) (c.in_ok-inner.ensures.stays ∙ c.loop-next.invariant.stays) c.in_err-take_file-in-Some.ensures.goes)

pub returns-in_err-take_file-in-Some-clause-fault : goal.returns-in_err-take_file-in-Some-clause-fault
returns-in_err-take_file-in-Some-clause-fault g t c =
    let a = c.args.self.now in
    let b = c.loop-next.self in
    let m = c.pass.new.self in
    let n = c.take_file.new.self in
    let file = c.args.file in
    let inner = c.in-Some.inner in
    let fault = c.in_err-take_file-in-Some.field-0.0 in
    let rose = Rose (g.F.Files.faults c.pass.new.files) (g.F.Files.faults c.take_file.new.files) in
    let opens = subst (Passes c.args.depth (source_at b file).file c.part_at-part.result b m) c.in-Some.is c.in_ok-inner.ensures.passed in
    let p = err_from_is_err_and c.from_residual-in_err-take_file-in-Some.result c.from_residual-in_err-take_file-in-Some.ensures.1 in
    rw (p.1, p.2) (inner_due (g.F.Files.content c.args.files.now) rose (Rose (g.F.Files.faults c.args.files.now) (g.F.Files.faults c.take_file.new.files)) c.args.depth a b m n file c.loop-next.next inner c.part_at-part.result fault
    (λ h. Rose-earlier _ _ _ c.loop-next.invariant.later (Rose-earlier _ _ _ c.in_ok-inner.ensures.later h)) c.requires.inside c.loop-next.invariant.goes.grows c.in_ok-inner.ensures.goes.grows c.in_err-take_file-in-Some.ensures.goes.grows c.part_at-part.ensures c.loop-next.invariant.takes
    opens c.in_ok-inner.ensures.sound
    (subst (λ k. IsDue k rose n (IsFileFault (c.args.depth + 1) (source_at m inner) (taken m)) fault) (c.in_ok-inner.ensures.stays ∙ c.loop-next.invariant.stays) c.in_err-take_file-in-Some.ensures.fault))

pub loop-next-preserved : goal.loop-next-preserved
loop-next-preserved g t c =
    let a = c.args.self.now in
    let b = c.loop-next.self in
    let m = c.pass.new.self in
    let file = c.args.file in
    let same = source_kept a b file c.loop-next.invariant.goes.grows c.requires.inside in
    let goes_m = goes_then (g.F.Files.content c.args.files.now) a b m c.loop-next.invariant.goes (subst (λ k. Goes k b m) c.loop-next.invariant.stays c.in_ok-inner.ensures.goes) in
    elim c.match-branch-2.branch [
      | in-Some+in_ok-take_file-in-Some w ↦
          let n = w.take_file.new.self in
          let opens = subst (Passes c.args.depth (source_at b file).file c.part_at-part.result b m) w.in-Some.is c.in_ok-inner.ensures.passed in
          rw (w.self-is, w.files-is) (record {
            sound = w.in_ok-take_file-in-Some.ensures.sound;
            goes = goes_then _ a m n goes_m (subst (λ k. Goes k m n) (c.in_ok-inner.ensures.stays ∙ c.loop-next.invariant.stays) w.in_ok-take_file-in-Some.ensures.goes);
            takes = λ folder agrees.
                let agrees_m = agrees_before folder m n w.in_ok-take_file-in-Some.ensures.goes.grows agrees in
                let agrees_b = agrees_before folder b m c.in_ok-inner.ensures.goes.grows agrees_m in
                next_file folder c.args.depth a b file c.loop-next.next c.part_at-part.result c.part_at-part.ensures same (c.loop-next.invariant.takes folder agrees_b) m n w.in-Some.inner opens c.in_ok-inner.ensures.sound agrees_m (w.in_ok-take_file-in-Some.ensures.takes folder agrees);
            stays = w.in_ok-take_file-in-Some.ensures.stays ∙ c.in_ok-inner.ensures.stays ∙ c.loop-next.invariant.stays;
            puts = w.in_ok-take_file-in-Some.ensures.puts ∙ c.in_ok-inner.ensures.puts ∙ c.loop-next.invariant.puts;
            later = omega (arith, w.in_ok-take_file-in-Some.ensures.later, c.in_ok-inner.ensures.later, c.loop-next.invariant.later);
          })
      | in-None w ↦
          let passed = subst (Passes c.args.depth (source_at b file).file c.part_at-part.result b m) w.in-None.is c.in_ok-inner.ensures.passed in
          rw (w.self-is, w.files-is) (record {
            sound = c.in_ok-inner.ensures.sound;
            goes = goes_m;
            takes = λ folder agrees.
                let agrees_b = agrees_before folder b m c.in_ok-inner.ensures.goes.grows agrees in
                next_part folder c.args.depth a b file c.loop-next.next c.part_at-part.result c.part_at-part.ensures same (c.loop-next.invariant.takes folder agrees_b) m (passed folder agrees);
            stays = c.in_ok-inner.ensures.stays ∙ c.loop-next.invariant.stays;
            puts = c.in_ok-inner.ensures.puts ∙ c.loop-next.invariant.puts;
            later = omega (arith, c.in_ok-inner.ensures.later, c.loop-next.invariant.later);
          })
    ]

pub returns-clause-takes : goal.returns-clause-takes
returns-clause-takes g t c = λ folder agrees.
    let source = source_at c.args.self.now c.args.file in
    subst (λ l. Takes folder c.args.depth source.file.name source.file.text l (taken c.args.self.now) (taken c.loop-next.self)) (take_all c.loop-next.next source.parts (omega (arith, c.part_count-count.ensures))) (c.loop-next.invariant.takes folder agrees)
