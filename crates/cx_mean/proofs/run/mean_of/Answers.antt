use Rattle.std.proofs.Common.{refl, map}
use Rattle.std.proofs.lemmas.List.{reverse-reverse}
use Rattle.cx_plain_state.specs.Seen.{state_of, event_of, evaluation_of}
use Rattle.cx_mean.proofs.run.mean_of.Goals as goal

pub returns : goal.returns
unfolding state_of
returns c =
    let h = c.in_ok-answer.ensures (map evaluation_of c.args.begins.now) c.args.input.now c.args.budget c.in_ok-state.ensures in
    rw (h, reverse-reverse (map event_of c.run.new.state.trace.items)) refl
