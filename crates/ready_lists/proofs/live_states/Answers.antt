use Rattle.ready_lists.proofs.Matching.{live_are_those}
use Rattle.ready_lists.proofs.live_states.Goals as goal

pub returns : goal.returns
returns c = live_are_those
