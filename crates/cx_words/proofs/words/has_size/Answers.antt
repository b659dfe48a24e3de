use Rattle.std.proofs.Common.{◌∙◌, sym}
use Rattle.std.specs.Prelude.{is_some}
use Rattle.std.proofs.lemmas.List.Folds.{list_all-map}
use Rattle.cx_words.specs.Value.{most_made, number_in}
use Rattle.cx_words.proofs.words.has_size.Goals as goal

pub returns-in-Make : goal.returns-in-Make
returns-in-Make c = rw c.in-Make.is (c.are_sizes.ensures ∙ sym (list_all-map (λ name. is_some (number_in most_made name)) (λ name. name.now) c.args.names.now))
