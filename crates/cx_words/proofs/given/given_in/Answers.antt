use Rattle.std.proofs.Common.{◌∙◌, codes}
use Rattle.clap.specs.Words.{found_of}
use Rattle.clap.proofs.WalkLemmas.{first_value-rows}
use Rattle.cx_words.proofs.given.given_in.Goals as goal

pub returns : goal.returns
returns c =
    let found = found_of c.args.matches.now in
    let verb = c.get_str.ensures ∙ first_value-rows found (codes "verb") in
    let output = c.get_str-2.ensures ∙ first_value-rows found (codes "output") in
    let plan = c.get_str-3.ensures ∙ first_value-rows found (codes "plan") in
    let steps = c.get_str-4.ensures ∙ first_value-rows found (codes "steps") in
    let semantic = c.get_str-5.ensures ∙ first_value-rows found (codes "semantic") in
    let journal = c.get_str-6.ensures ∙ first_value-rows found (codes "journal") in
    λ i. record {
      verb = verb i;
      names = c.in_ok-names_in.ensures i;
      output = output i;
      plan = plan i;
      steps = steps i;
      semantic = semantic i;
      journal = journal i;
    }
