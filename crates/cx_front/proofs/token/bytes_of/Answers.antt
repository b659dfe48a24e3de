use Rattle.std.proofs.Common.{◌≤◌, List, ℕ, length, sym, ap, ◌∙◌}
use Rattle.std.specs.List.{slice_range}
use Rattle.cx_includes.specs.declared.assembled.SourceFile.{SourceFile}
use Rattle.cx_front.proofs.Files.{is_there, text_is}
use Rattle.cx_front.proofs.token.bytes_of.Goals as goal

pub file_text-requires : goal.file_text-requires
file_text-requires c = is_there c.args.list.now.files c.args.placed.now.file (λ (source : SourceFile). c.args.placed.now.token.end ≤ length source.text) c.requires.1

pub text_of-requires-clause-within : goal.text_of-requires-clause-within
text_of-requires-clause-within c =
    (text_is c.args.list.now.files c.args.placed.now.file c.args.placed.now.token.end c.file_text.result.now c.requires.1 c.file_text.ensures).1

pub returns : goal.returns
returns c =
    c.text_of.ensures ∙ ap (λ (text : List ℕ). slice_range text c.args.placed.now.token.start c.args.placed.now.token.end) (sym (text_is c.args.list.now.files c.args.placed.now.file c.args.placed.now.token.end c.file_text.result.now c.requires.1 c.file_text.ensures).0)
