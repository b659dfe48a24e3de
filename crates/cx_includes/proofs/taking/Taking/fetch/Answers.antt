use Rattle.std.proofs.Common.{Err, ap, ◌+◌}
use Rattle.cx_includes.proofs.Refusals.{had_missing, had_large}
use Rattle.cx_includes.proofs.taking.Taking.fetch.Goals as goal

pub returns-in_ok-copy_of-in-Err-Missing-clause-fault : goal.returns-in_ok-copy_of-in-Err-Missing-clause-fault
returns-in_ok-copy_of-in-Err-Missing-clause-fault g c =
    had_missing (g.F.Files.content c.args.files.now) _ c.args.name.now _ c.args.self.now.bytes c.in_ok-copy_of-in-Err-Missing.ensures (c.in-Err-Missing.ensures.missing (ap Err c.in-Err-Missing.field-0-is))

pub returns-in-Err-Long-clause-fault : goal.returns-in-Err-Long-clause-fault
returns-in-Err-Long-clause-fault g c =
    had_large (g.F.Files.content c.args.files.now) _ c.args.name.now c.args.self.now.bytes _ (ap (λ n. n + 1) c.from.ensures) c.requires (c.in-Err-Long.ensures.long (ap Err c.in-Err-Long.field-0-is))
