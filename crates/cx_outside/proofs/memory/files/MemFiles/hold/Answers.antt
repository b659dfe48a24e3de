use Rattle.std.proofs.Common.{Some, ap, ◌∙◌}
use Rattle.cx_outside.proofs.Keyed.{puts}
use Rattle.cx_outside.proofs.memory.files.MemFiles.hold.Goals as goal

pub returns-clause-ok : goal.returns-clause-ok
returns-clause-ok c =
    let put = c.in_ok-insert.ensures.updates in
    puts (λ k. k.items) c.args.self.now.files.entries c.insert.new.self.entries c.in_ok-key.key c.args.name.now c.args.bytes.now
    c.in_ok-key.ensures.items (put.1 ∙ ap Some c.in_ok-file.ensures) put.3
