use Rattle.std.proofs.Common.{◌≡◌, map}
use Rattle.machine_code.specs.Reading.{steps_at}
use Rattle.try_desk.specs.Held.{held}
use Rattle.trial_machine.specs.Sides.{held_step}
use Rattle.trial_machine.proofs.tests.steps_for.Given as goal

abbrev pub invariant-loop-i : goal.invariant-loop-i
invariant-loop-i l = l.line.items ≡ map (held_step (held l.slots)) (steps_at l.code.steps l.from l.i)
