-- The law, proved in a file of its own.
use Rattle.state_laws.proofs.StayingDecisions.{a_decision_stays}
use Rattle.state_laws.proofs.staying_decisions.Goals as goal

pub returns : goal.returns
returns c = a_decision_stays
