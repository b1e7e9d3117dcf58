use Rattle.fcp_reader.proofs.TextLaws.{fault_is_no_goal_law}
use Rattle.fcp_reader.proofs.laws.fault_is_no_goal.Goals as goal

pub returns : goal.returns
returns c = fault_is_no_goal_law
