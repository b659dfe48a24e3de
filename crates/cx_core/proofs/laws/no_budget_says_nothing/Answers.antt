use Rattle.cx_core.proofs.Budget as law
use Rattle.cx_core.proofs.laws.no_budget_says_nothing.Goals as goal

pub returns : goal.returns
returns c = law.no_budget_says_nothing
