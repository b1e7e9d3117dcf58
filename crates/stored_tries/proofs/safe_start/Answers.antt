use Rattle.stored_tries.proofs.Stores.{start}
use Rattle.stored_tries.proofs.safe_start.Goals as goal

pub returns : goal.returns
returns g c kept w words r stored args rest waits = start g.met.W.Words.laws kept w stored words r args rest waits
