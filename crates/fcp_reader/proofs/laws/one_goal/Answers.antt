use Rattle.fcp_reader.proofs.TextLaws.{one_goal_law}
use Rattle.fcp_reader.proofs.laws.one_goal.Goals as goal

pub returns : goal.returns
returns c = one_goal_law
