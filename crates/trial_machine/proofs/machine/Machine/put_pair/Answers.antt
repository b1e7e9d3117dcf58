use Rattle.trial_machine.proofs.Putting.{pair_put}
use Rattle.trial_machine.proofs.machine.Machine.put_pair.Goals as goal

pub returns-clause-steps : goal.returns-clause-steps
returns-clause-steps c =
    pair_put c.args.self.now c.put_pair.new.self c.args.slot c.args.left c.args.right c.in_ok-put_pair.ensures.becomes
    c.in_ok-put_pair.ensures.room c.put_pair.ensures.keeps
