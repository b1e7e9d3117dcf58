-- The laws, proved in a file of their own.
use Rattle.leading_laws.proofs.Decisions.{goals_decide_alike, clauses_are_alike, cells_are_alike}
use Rattle.leading_laws.proofs.goals_decide_alike.Goals as goal

pub returns-clause-decisions : goal.returns-clause-decisions
returns-clause-decisions c = goals_decide_alike

pub returns-clause-clauses : goal.returns-clause-clauses
returns-clause-clauses c = clauses_are_alike

pub returns-clause-cells : goal.returns-clause-cells
returns-clause-cells c = cells_are_alike
