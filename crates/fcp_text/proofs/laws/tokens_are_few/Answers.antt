use Rattle.fcp_text.proofs.Standing as standing
use Rattle.fcp_text.proofs.laws.tokens_are_few.Goals as goal

pub returns : goal.returns
returns c = standing.tokens_are_few
