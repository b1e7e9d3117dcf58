use Rattle.stored_expressions.proofs.Stores.{stored_so}
use Rattle.stored_expressions.proofs.stored.Goals as goal

pub returns : goal.returns
returns c = stored_so
