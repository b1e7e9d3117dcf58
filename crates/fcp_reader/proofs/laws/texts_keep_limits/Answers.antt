use Rattle.fcp_reader.proofs.TextLimits.{texts_keep_limits_law}
use Rattle.fcp_reader.proofs.laws.texts_keep_limits.Goals as goal

pub returns : goal.returns
returns c = texts_keep_limits_law
