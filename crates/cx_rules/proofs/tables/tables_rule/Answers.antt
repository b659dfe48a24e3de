use Rattle.std.proofs.Common.{IfSome, slice_get}
use Rattle.cx_code.specs.Rules.{IsEntry, IsHookAt}
use Rattle.cx_rules.proofs.Judging.{denied}
use Rattle.cx_rules.proofs.Tabled.{dropper_first, main_first, handler_first, none_first}
use Rattle.cx_rules.proofs.tables.tables_rule.Goals as goal

pub returns-in-Some : goal.returns-in-Some
returns-in-Some c = dropper_first c.args.image.now c.in-Some.of c.in-Some.ensures.0 c.in-Some.ensures.1

pub returns-then-not-has_entry : goal.returns-then-not-has_entry
returns-then-not-has_entry c =
    main_first c.args.image.now c.in_default.ensures (denied c.has_entry.result (IfSome (slice_get c.args.image.now.functions c.args.image.now.main) IsEntry) c.if-not-has_entry.true c.has_entry.ensures)

pub returns-then-not-is_hook_at : goal.returns-then-not-is_hook_at
returns-then-not-is_hook_at c =
    handler_first c.args.image.now c.in_default.ensures (c.has_entry.ensures.0 c.if-not-has_entry.false)
    (denied c.is_hook_at.result (IsHookAt c.args.image.now c.args.image.now.handler) c.if-not-is_hook_at.true c.is_hook_at.ensures)

pub returns : goal.returns
returns c = none_first c.args.image.now c.in_default.ensures (c.has_entry.ensures.0 c.if-not-has_entry.false) (c.is_hook_at.ensures.0 c.if-not-is_hook_at.false)
