use Rattle.std.proofs.Common.{arith, ap, length, ◌∙◌}
use Rattle.std.proofs.lemmas.List.{length_push}
use Rattle.cx_includes.proofs.Soundness.{sound_token}
use Rattle.cx_includes.proofs.taking.Taking.take_token.Goals as goal

pub returns-clause-sound : goal.returns-clause-sound
returns-clause-sound c =
    let longer = ap length c.in_ok-push.ensures.ok ∙ length_push c.args.self.now.placed _ in
    let counted = c.in_ok-number.ensures in
    let same = ap length c.items.ensures in
    sound_token c.args.self.now c.push.new.self _ c.requires.sound c.in_ok-push.ensures.ok (omega arith) c.requires.inside c.requires.ordered c.requires.lies
