use Rattle.cx_core.proofs.Budget as law
use Rattle.cx_core.proofs.laws.larger_budget_changes_no_ending.Goals as goal

pub returns : goal.returns
returns c = law.larger_budget_changes_no_ending
