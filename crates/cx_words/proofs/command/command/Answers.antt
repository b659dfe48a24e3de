use Rattle.std.proofs.Common.{◌∙◌, ap, ap₂, true}
use Rattle.clap.specs.Words.{with_rule}
use Rattle.clap.specs.Simple.{app_of_fields, on_top}
use Rattle.cx_words.proofs.command.command.Goals as goal

pub returns : goal.returns
returns c =
    let unnamed = ap app_of_fields c.no_binary_name.ensures ∙ ap (on_top (λ s. record s { no_binary_name = true })) c.new.ensures.app in
    let helpless = ap app_of_fields c.disable_help_flag.ensures ∙ ap (on_top (λ s. record s { disable_help_flag = true })) unnamed in
    let bare = ap app_of_fields c.disable_version_flag.ensures ∙ ap (on_top (λ s. record s { disable_version_flag = true })) helpless in
    let with_verb = c.in_ok-arg.ensures.shape c.verb.ensures.own ∙ ap₂ with_rule bare c.verb.ensures.rule in
    let with_names = c.in_ok-arg-2.ensures.shape c.names.ensures.own ∙ ap₂ with_rule with_verb c.names.ensures.rule in
    let with_output = c.in_ok-arg-3.ensures.shape c.output.ensures.own ∙ ap₂ with_rule with_names c.output.ensures.rule in
    let with_plan = c.in_ok-arg-4.ensures.shape c.option.ensures.own ∙ ap₂ with_rule with_output c.option.ensures.rule in
    let with_steps = c.in_ok-arg-5.ensures.shape c.option-2.ensures.own ∙ ap₂ with_rule with_plan c.option-2.ensures.rule in
    let with_semantic = c.in_ok-arg-6.ensures.shape c.option-3.ensures.own ∙ ap₂ with_rule with_steps c.option-3.ensures.rule in
    c.in_ok-command.ensures.shape c.option-4.ensures.own ∙ ap₂ with_rule with_semantic c.option-4.ensures.rule
