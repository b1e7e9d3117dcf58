-- The laws, from their lemmas.
use Rattle.decision_laws.proofs.AllDecide.{goal_decides, process_decides}
use Rattle.decision_laws.proofs.all_goals_decide.Goals as goal

pub returns-clause-goals : goal.returns-clause-goals
returns-clause-goals c = goal_decides

pub returns-clause-processes : goal.returns-clause-processes
returns-clause-processes c = process_decides
