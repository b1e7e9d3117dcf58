use Rattle.std.proofs.Common.{[], ap}
use Rattle.trial_laws.specs.AtHand.{AtHand}
use Rattle.trial_machine.proofs.Spawning.{try_begun}
use Rattle.trial_machine.proofs.machine.Machine.begin_try.Goals as goal

pub returns-clause-begins : goal.returns-clause-begins
returns-clause-begins c =
    try_begun c.args.self.now c.begin.new.self c.args.clause c.args.next c.args.vars c.in_ok-begin.ensures.begun c.begin.ensures.keeps
    c.ranges.vars.fits

pub returns-clause-next : goal.returns-clause-next
returns-clause-next c = ap (λ (q : AtHand). q.next) (c.in_ok-begin.ensures.begun [] [] [])
