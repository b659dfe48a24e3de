use Rattle.std.proofs.Common.{refl, ap}
use Rattle.std.specs.Prelude.{option_map}
use Rattle.cx_outside.specs.declared.limit.Limit.TheVariants as limits
use Rattle.cx_tool.specs.declared.answer.Answer.TheVariants as answers
use Rattle.cx_tool.specs.Exec.{IsJournaled}
use Rattle.cx_tool.proofs.journal.ended.Goals as goal

pub returns-in-Ok-clause-journaled : goal.returns-in-Ok-clause-journaled
returns-in-Ok-clause-journaled g c =
    rw c.in-Some.is c.put_text.ensures.journaled

pub returns-in-Err-TooLong-clause-journaled : goal.returns-in-Err-TooLong-clause-journaled
returns-in-Err-TooLong-clause-journaled g c =
    let its = rw (c.in-Err-TooLong.is, c.in-Err-TooLong.field-0-is, c.number.ensures) at c.journal_text.ensures in
    IsJournaled.long c.in-Some.name.now c.in-Err-TooLong.count c.requires.whole (ap (option_map (λ bytes. bytes.now)) c.in-Some.is) its (ap (answers.TooMany limits.JournalText) c.in-Err-TooLong.count-is) refl

pub returns-in-Err-OutOfMemory-clause-journaled : goal.returns-in-Err-OutOfMemory-clause-journaled
returns-in-Err-OutOfMemory-clause-journaled g c =
    IsJournaled.no_memory c.in-Some.name.now c.requires.whole (ap (option_map (λ bytes. bytes.now)) c.in-Some.is) refl refl
