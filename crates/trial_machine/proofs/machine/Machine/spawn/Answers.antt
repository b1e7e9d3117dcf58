use Rattle.std.proofs.Common.{arith}
use Rattle.trial_machine.proofs.Spawning.{child_put}
use Rattle.trial_machine.proofs.machine.Machine.spawn.Goals as goal

pub returns-clause-steps : goal.returns-clause-steps
returns-clause-steps c =
    child_put c.args.self.now c.put_child.new.self c.count-self.result c.args.procedure c.args.first c.args.parts
    c.in_ok-put_child.ensures.adds c.put_child.ensures.keeps c.count-self.ensures c.ranges.procedure.fits
    (omega (arith, c.ranges.parts.fits))
