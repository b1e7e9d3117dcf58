use Rattle.stored_tries.proofs.Calling.{may_call}
use Rattle.stored_tries.proofs.stands_beside.Goals as goal

pub returns : goal.returns
returns g c = may_call g.met.W.Words.laws
