use Rattle.std.proofs.Common.{◌≡◌, ℕ, Option, is_some, ap, ◌∙◌}
use Rattle.cx_frame.specs.Frames.{frame_in}
use Rattle.cx_machine.specs.Kept.{counts_in, counts_due, one_less}
use Rattle.cx_machine.proofs.Told.{held_once_less, still_kept}
use Rattle.cx_machine.proofs.state.Machine.let_go.Goals as goal
use Rattle.cx_machine.proofs.state.Machine.let_go.Goals.{After-drop_one}

-- the counts are those of what is held and pending now
told : (c : After-drop_one) → counts_in c.drop_one.new.self ≡ counts_due c.args.self.now.held c.args.self.now.frame.pending c.args.self.now.below
told c =
    c.drop_one.ensures.less ∙ ap (λ counts. one_less counts c.args.exception.number) c.requires ∙ held_once_less c.args.self.now.held c.args.self.now.frame.pending c.args.self.now.below c.args.exception

pub returns-clause-told : goal.returns-clause-told
returns-clause-told c = told c

pub returns-clause-kept : goal.returns-clause-kept
returns-clause-kept c =
    c.drop_one.ensures.left ∙ ap (λ (counts : ℕ → Option ℕ). is_some (counts c.args.exception.number)) (told c) ∙ still_kept c.args.exception c.args.self.now.held (frame_in c.args.self.now.frame) c.args.self.now.below
