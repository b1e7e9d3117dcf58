use Rattle.try_desk.specs.Held.{held}
use Rattle.trial_machine.proofs.TestSides.{side_more}
use Rattle.trial_machine.proofs.tests.steps_for.Goals as goal

pub loop-i-preserved : goal.loop-i-preserved
loop-i-preserved c =
    side_more (held c.args.slots.now) c.args.code.now.steps c.args.from c.loop-i.i c.in_ok-step.ensures.0 c.in_ok-step.step
    c.loop-i.line.items c.put_step.new.line.items c.loop-i.invariant c.in_ok-put_step.ensures c.in_ok-step.ensures.1
    c.in_ok-step.ensures.2
