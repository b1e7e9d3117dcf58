use Rattle.fcp_text.proofs.Standing as standing
use Rattle.fcp_text.proofs.laws.tokens_stand_in_order.Goals as goal

pub returns : goal.returns
returns c = standing.tokens_stand_in_order
