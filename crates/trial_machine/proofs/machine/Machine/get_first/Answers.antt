use Rattle.trial_machine.proofs.Spawning.{place_open, first_put}
use Rattle.trial_machine.proofs.machine.Machine.get_first.Goals as goal

pub get_first-requires-clause-unbound : goal.get_first-requires-clause-unbound
get_first-requires-clause-unbound c =
    place_open c.args.self.now c.args.slot c.args.var c.in-Some.at c.requires c.in-Some.ensures.0 c.in-Some.ensures.1
    c.in-Some.ensures.2

pub returns-clause-steps : goal.returns-clause-steps
returns-clause-steps c =
    first_put c.args.self.now c.get_first.new.self c.count-self.result c.args.slot c.args.var c.in-Some.at c.in-Some.ensures.0
    c.in-Some.ensures.1 c.in-Some.ensures.2 c.get_first.ensures.filled c.get_first.ensures.becomes c.get_first.ensures.keeps
    c.count-self.ensures
