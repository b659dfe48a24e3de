use Rattle.cx_core.proofs.Budget as law
use Rattle.cx_core.proofs.laws.larger_budget_only_adds_events.Goals as goal

pub returns : goal.returns
returns c = law.larger_budget_only_adds_events
