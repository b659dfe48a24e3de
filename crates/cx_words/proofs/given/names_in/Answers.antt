use Rattle.std.proofs.Common.{◌∙◌, ap, map, codes, []}
use Rattle.std.specs.Prelude.{unwrap_or}
use Rattle.std.proofs.lemmas.Result.{IfOk-weaker}
use Rattle.clap.specs.Words.{found_of}
use Rattle.clap.proofs.WalkLemmas.{raw_values-rows}
use Rattle.cx_words.proofs.given.names_in.Goals as goal

pub returns-in-Some : goal.returns-in-Some
returns-in-Some c =
    let all = c.in-Some.ensures ∙ raw_values-rows (found_of c.args.matches.now) (codes "names") in
    IfOk-weaker c.copied.result _ _ (λ names h. ap (map (λ name. name.now)) h ∙ ap (λ found. unwrap_or found []) all) c.copied.ensures

pub returns-in-None : goal.returns-in-None
returns-in-None c =
    let all = c.in-None.ensures ∙ raw_values-rows (found_of c.args.matches.now) (codes "names") in
    ap (map (λ name. name.now)) c.new.ensures ∙ ap (λ found. unwrap_or found []) all
