use Rattle.std.proofs.Common.{ℕ, List, Err, refl, ap, subst, ◌∙◌}
use Rattle.cx_outside.specs.Folder.{BothTold, Puts}
use Rattle.cx_tool.specs.Exec.{IsJournaled}
use Rattle.cx_tool.proofs.journal.put_text.Goals as goal

pub returns-in-Ok-clause-journaled : goal.returns-in-Ok-clause-journaled
returns-in-Ok-clause-journaled g c =
    let puts = subst (λ (bytes : List ℕ). BothTold (g.F.Files.content c.args.files.now) (g.F.Files.content c.put.new.self) (Puts c.args.name.now bytes)) (c.bytes.ensures ∙ c.requires.text) c.in-Ok.ensures.puts in
    IsJournaled.put c.args.name.now c.requires.whole refl c.requires.short puts refl

pub returns-in-Err-OutOfMemory-clause-journaled : goal.returns-in-Err-OutOfMemory-clause-journaled
returns-in-Err-OutOfMemory-clause-journaled g c =
    IsJournaled.no_memory c.args.name.now c.requires.whole refl refl (c.in-Err-OutOfMemory.ensures.memory (ap Err c.in-Err-OutOfMemory.field-0-is))

pub returns-in-Err-Failed-clause-journaled : goal.returns-in-Err-Failed-clause-journaled
returns-in-Err-Failed-clause-journaled g c =
    let is = ap Err c.in-Err-Failed.field-0-is in
    let told = c.in-Err-Failed.ensures in
    IsJournaled.failed c.args.name.now c.requires.whole refl (told.failed is) (told.failed_count is) (told.failed_put is) refl
