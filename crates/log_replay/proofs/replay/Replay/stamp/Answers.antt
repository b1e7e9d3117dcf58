use Rattle.log_replay.proofs.Stamps.{may_stamp}
use Rattle.log_replay.proofs.replay.Replay.stamp.Goals as goal

pub stamp-requires-clause-may : goal.stamp-requires-clause-may
stamp-requires-clause-may c = may_stamp _ _ _ _ _ _ c.new.ensures.items c.new-2.ensures.items
