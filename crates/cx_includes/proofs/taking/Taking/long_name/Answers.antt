use Rattle.std.proofs.Common.{◌+◌, ◌<◌, ◌^◌, length, ap, subst, sym, ◌∙◌}
use Rattle.cx_includes.specs.declared.source.Source.{Source}
use Rattle.cx_includes.specs.Taking.{no_source}
use Rattle.cx_includes.proofs.Soundness.{read_source}
use Rattle.cx_includes.proofs.taking.Taking.long_name.Goals as goal

pub passed-column-requires-clause-small : goal.passed-column-requires-clause-small
passed-column-requires-clause-small c =
    let source = c.requires.sound.sources c.args.file no_source c.requires.inside in
    let text = c.bytes-text.ensures ∙ ap (λ (s : Source). s.file.text) (read_source c.args.self.now c.args.file c.index.result.now c.requires.inside c.index.ensures) in
    subst (λ l. length l + 2 < 2 ^ 32) (sym text) source.small
