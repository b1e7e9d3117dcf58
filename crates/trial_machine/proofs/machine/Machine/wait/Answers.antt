use Rattle.trial_machine.proofs.Assignments.{wait_decided}
use Rattle.trial_machine.proofs.machine.Machine.wait.Goals as goal

pub returns-clause-decides : goal.returns-clause-decides
returns-clause-decides g c =
    wait_decided c.args.self.now c.leave.new.self c.args.process 2 c.requires.call c.requires.says c.requires.opened
    c.requires.waits c.requires.none c.in_ok-leave.ensures.left c.in_ok-leave.ensures.safe c.once.ensures.kept
