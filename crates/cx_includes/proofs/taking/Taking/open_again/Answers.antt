use Rattle.std.proofs.Common.{◌+◌, length, ap, ◌∙◌}
use Rattle.cx_includes.specs.declared.source.Source.{Source}
use Rattle.cx_includes.proofs.Soundness.{read_source, opened_again}
use Rattle.cx_includes.proofs.taking.Taking.open_again.Goals as goal

pub returns-clause-taken : goal.returns-clause-taken
returns-clause-taken g c =
    let text = c.bytes-length.ensures ∙ ap (λ (s : Source). s.file.text) (read_source c.args.self.now c.args.file c.index.result.now c.requires.inside c.index.ensures) in
    opened_again c.args.self.now c.args.file _ c.requires.sound c.requires.inside (ap (λ l. c.args.self.now.bytes + length l) text)
