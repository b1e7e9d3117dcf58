use Rattle.fcp_text.proofs.Standing as standing
use Rattle.fcp_text.proofs.laws.tokens_are_spelled_well.Goals as goal

pub returns : goal.returns
returns c = standing.tokens_are_spelled_well
