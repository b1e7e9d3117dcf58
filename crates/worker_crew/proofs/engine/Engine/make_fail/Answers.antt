use Rattle.std.proofs.Common.{refl}
use Rattle.worker_crew.proofs.Ending.{fail_ended}
use Rattle.worker_crew.proofs.engine.Engine.make_fail.Goals as goal

pub returns : goal.returns
returns c = λ t task failed.
    fail_ended t c.args.address c.args.self.now failed c.ends.ensures.fail c.front_moves.ensures.event c.in-Fail.process c.in-Fail.is _
    c.fail.result c.fail.ensures refl
