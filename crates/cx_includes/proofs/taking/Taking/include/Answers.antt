use Rattle.std.proofs.Common.{arith, ap, sym, ◌∙◌, length, subst, MatchOption, false, ◌≡◌}
use Rattle.std.proofs.lemmas.Result.{err_from_is_err_and}
use Rattle.cx_outside.specs.Fault.{Rose}
use Rattle.cx_includes.proofs.Including.{fresh, passed_again, opens_again, opens_first, grows_pushed, due_long, due_deep, due_refused, known_name}
use Rattle.cx_includes.specs.Taking.{source_at, index_in, IsHad}
use Rattle.cx_includes.proofs.taking.Taking.include.Goals as goal

pub returns-then-bytes-gt-LONGEST_FILE_NAME-clause-fault : goal.returns-then-bytes-gt-LONGEST_FILE_NAME-clause-fault
returns-then-bytes-gt-LONGEST_FILE_NAME-clause-fault g c =
    due_long (g.F.Files.content c.args.files.now) (Rose (g.F.Files.faults c.args.files.now) (g.F.Files.faults c.args.files.now)) c.args.self.now (source_at c.args.self.now c.args.file).file c.args.span c.args.line c.args.depth c.in_ok-name.name c.in_ok-long_name.field-0 c.requires.sound c.requires.ordered c.requires.lies c.in_ok-name.ensures (omega (arith, ap length c.bytes.ensures)) c.in_ok-long_name.ensures

pub returns-then-is_once-clause-passed : goal.returns-then-is_once-clause-passed
returns-then-is_once-clause-passed g c =
    passed_again c.args.self.now c.requires.sound c.in_ok-name.name c.get-known.result c.is_once.result (sym (c.get-known.ensures ∙ ap (λ n. index_in c.args.self.now.names n) c.bytes-2.ensures)) c.is_once.ensures c.if-is_once.true (source_at c.args.self.now c.args.file).file c.args.span c.args.line c.args.depth c.in_ok-name.ensures (omega (arith, ap length c.bytes.ensures))

pub returns-then-depth-ge-MOST_OPEN-clause-fault : goal.returns-then-depth-ge-MOST_OPEN-clause-fault
returns-then-depth-ge-MOST_OPEN-clause-fault g c =
    due_deep (g.F.Files.content c.args.files.now) (Rose (g.F.Files.faults c.args.files.now) (g.F.Files.faults c.args.files.now)) c.args.self.now (source_at c.args.self.now c.args.file).file c.args.span c.args.line c.args.depth c.in_ok-name.name c.in_ok-name_of.field-0 c.requires.sound c.in_ok-name.ensures (omega (arith, ap length c.bytes.ensures)) c.in_ok-name_of.ensures c.if-depth-ge-MOST_OPEN.true
    (fresh c.args.self.now c.requires.sound c.in_ok-name.name c.get-known.result c.is_once.result (sym (c.get-known.ensures ∙ ap (λ n. index_in c.args.self.now.names n) c.bytes-2.ensures)) c.is_once.ensures c.if-is_once.false)

pub returns-in_err-open_again-in-Some-clause-fault : goal.returns-in_err-open_again-in-Some-clause-fault
returns-in_err-open_again-in-Some-clause-fault g c =
    let old = c.args.self.now in
    let content = g.F.Files.content c.args.files.now in
    let rose = Rose (g.F.Files.faults c.args.files.now) (g.F.Files.faults c.open_again.new.files) in
    let fault = c.in_err-open_again-in-Some.field-0.0 in
    let known = c.get-known.ensures ∙ ap (λ n. index_in old.names n) c.bytes-2.ensures in
    let some = sym known ∙ c.in-Some.is in
    let p = err_from_is_err_and c.from_residual-in_err-open_again-in-Some.result c.from_residual-in_err-open_again-in-Some.ensures.1 in
    rw (p.1, p.2) (due_refused content rose old c.open_again.new.self (source_at old c.args.file).file c.args.span c.args.line c.args.depth c.in_ok-name.name fault (ap (λ v. v.items) c.in_err-open_again-in-Some.ensures.sources) c.in_ok-name.ensures (omega (arith, ap length c.bytes.ensures)) (omega arith)
    (fresh old c.requires.sound c.in_ok-name.name c.get-known.result c.is_once.result (sym known) c.is_once.ensures c.if-is_once.false)
    (subst (λ n. IsHad content rose n old.bytes fault) (known_name old c.requires.sound c.in_ok-name.name c.in-Some.inner some) c.in_err-open_again-in-Some.ensures.fault))

pub returns-in-Some-clause-passed : goal.returns-in-Some-clause-passed
returns-in-Some-clause-passed g c =
    let old = c.args.self.now in
    let known = c.get-known.ensures ∙ ap (λ n. index_in old.names n) c.bytes-2.ensures in
    let tells = subst (λ o. MatchOption o (c.is_once.result ≡ false) (λ k. c.is_once.result ≡ (source_at old k).once)) c.in-Some.is c.is_once.ensures in
    opens_again old c.open_again.new.self c.requires.sound c.in_ok-name.name c.in-Some.inner c.is_once.result (source_at old c.args.file).file c.args.span c.args.line c.args.depth (sym known ∙ c.in-Some.is) tells c.if-is_once.false c.in_ok-name.ensures (omega (arith, ap length c.bytes.ensures)) (omega arith)
    c.in_ok-open_again-in-Some.ensures.sources c.in_ok-open_again-in-Some.ensures.taken c.in_ok-open_again-in-Some.ensures.fits

pub returns-in_err-inner-in-None-clause-fault : goal.returns-in_err-inner-in-None-clause-fault
returns-in_err-inner-in-None-clause-fault g c =
    let old = c.args.self.now in
    let content = g.F.Files.content c.args.files.now in
    let rose = Rose (g.F.Files.faults c.args.files.now) (g.F.Files.faults c.open_first.new.files) in
    let fault = c.in_err-inner-in-None.field-0.0 in
    let known = c.get-known.ensures ∙ ap (λ n. index_in old.names n) c.bytes-2.ensures in
    let p = err_from_is_err_and c.from_residual-in_err-inner-in-None.result c.from_residual-in_err-inner-in-None.ensures.1 in
    rw (p.1, p.2) (due_refused content rose old c.open_first.new.self (source_at old c.args.file).file c.args.span c.args.line c.args.depth c.in_ok-name.name fault c.in_err-inner-in-None.ensures.sources c.in_ok-name.ensures (omega (arith, ap length c.bytes.ensures)) (omega arith)
    (fresh old c.requires.sound c.in_ok-name.name c.get-known.result c.is_once.result (sym known) c.is_once.ensures c.if-is_once.false)
    (subst (λ n. IsHad content rose n old.bytes fault) c.bytes-in-None.ensures c.in_err-inner-in-None.ensures.fault))

pub returns-clause-goes : goal.returns-clause-goes
returns-clause-goes g c =
    grows_pushed _ c.args.self.now c.open_first.new.self c.bytes-in-None.result.now c.in_ok-inner-in-None.inner (omega (arith, ap length c.bytes.ensures, ap length c.bytes-in-None.ensures)) c.in_ok-inner-in-None.ensures.pushed

pub returns-clause-passed : goal.returns-clause-passed
returns-clause-passed g c =
    let old = c.args.self.now in
    let known = c.get-known.ensures ∙ ap (λ n. index_in old.names n) (c.bytes-2.ensures ∙ sym c.bytes-in-None.ensures) in
    opens_first _ old c.open_first.new.self c.requires.sound c.bytes-in-None.result.now c.in_ok-inner-in-None.inner (source_at old c.args.file).file c.args.span c.args.line c.args.depth (sym known ∙ c.in-None.is) (c.bytes-in-None.ensures ∙ c.in_ok-name.ensures)
    (omega (arith, ap length c.bytes.ensures, ap length c.bytes-in-None.ensures)) (omega arith) c.in_ok-inner-in-None.ensures.pushed
