use Rattle.stored_tries.proofs.Handing.{wait}
use Rattle.stored_tries.proofs.safe_wait.Goals as goal

pub returns : goal.returns
returns c = wait
