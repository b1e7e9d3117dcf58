use Rattle.std.proofs.Common.{rules}
use Rattle.machine_code.specs.Sound.{NamesBelow, StepsBelow}
use Rattle.machine_code.proofs.SlotBounds.{one_from, from_later, all_from}
use Rattle.machine_code.proofs.named_slots.slots_named.Goals as goal

pub loop-instr-preserved : goal.loop-instr-preserved
loop-instr-preserved c =
    one_from NamesBelow _ _ _ _ _ _ c.loop-instr-test.true c.above.ensures c.loop-instr.invariant (search rules) (search rules)

pub loop-step-init : goal.loop-step-init
loop-step-init c = (all_from NamesBelow _ _ _ c.loop-instr.invariant (search rules), λ m le. tt)

pub loop-step-preserved : goal.loop-step-preserved
loop-step-preserved c = (
  from_later NamesBelow _ _ _ c.loop-step.invariant.0 (search rules),
  one_from StepsBelow _ _ _ _ _ _ c.loop-step-test.true c.in_ok-above_step.ensures c.loop-step.invariant.1 (search rules) (search rules),
)

pub returns-in-Ok-clause-steps : goal.returns-in-Ok-clause-steps
returns-in-Ok-clause-steps c = all_from StepsBelow _ _ _ c.loop-step.invariant.1 (search rules) _ (search rules)
