-- The law, proved beside the definitions.
use Rattle.fcp_model.proofs.OneDecision.{one_decision}
use Rattle.fcp_laws.proofs.decisions.Goals as goal

pub returns : goal.returns
returns c = one_decision
