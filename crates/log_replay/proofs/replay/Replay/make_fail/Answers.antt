use Rattle.log_replay.proofs.StepAnswers.{fail_done}
use Rattle.log_replay.proofs.replay.Replay.make_fail.Goals as goal

pub returns-clause-done : goal.returns-clause-done
returns-clause-done c = λ m from cells evs may.
    fail_done m from cells evs c.args.self.now c.args.mover c.args.address c.requires.moving may c.requires.kind c.stamp.new.self
    c.stamp.ensures
