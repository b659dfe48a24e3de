use Rattle.std.proofs.Common.{arith}
use Rattle.cx_simulation.specs.ImageMachine.{image_step}
use Rattle.cx_simulation.proofs.Parts.{follows_less}
use Rattle.cx_emit.specs.Configuration.{running_at, IsAt, Flies}
use Rattle.cx_emit.specs.Laws.{of_statement}
use Rattle.cx_emit.proofs.Asserting.{Never}
use Rattle.cx_emit.proofs.Evaluating.{check_follows}
use Rattle.cx_emit.proofs.laws.checks_are_followed.Goals as goal

pub returns : goal.returns
returns c = λ image function outer program calls party check predicate from to default st n operands s m a told.
    follows_less (image_step image) n s (running_at m from operands) of_statement of_statement (λ _ d t. IsAt function to operands s m d t) (λ _ d t. IsAt function to operands s m d t) (Never s m) (Flies image function outer s m) _
    (record { goes_on = omega arith; left = omega arith; in_hand = omega arith }) (λ _ d t g. g) (λ e d t f. absurd f)
    (check_follows image function program calls default party check predicate from to st n operands s m a told)
