use Rattle.ready_lists.proofs.Matching.{ready_are_those}
use Rattle.ready_lists.proofs.states.Goals as goal

pub returns : goal.returns
returns c = ready_are_those
