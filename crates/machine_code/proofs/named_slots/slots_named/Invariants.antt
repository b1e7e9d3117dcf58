use Rattle.std.proofs.Common.{take}
use Rattle.machine_code.specs.Sound.{NamesBelow, StepsBelow}
use Rattle.machine_code.proofs.SlotBounds.{FromOn}
use Rattle.machine_code.proofs.named_slots.slots_named.Given as goal

abbrev pub invariant-loop-instr : goal.invariant-loop-instr
invariant-loop-instr l = FromOn NamesBelow l.slots (take l.instr-index l.instrs)

abbrev pub invariant-loop-step : goal.invariant-loop-step
invariant-loop-step l = FromOn NamesBelow l.slots l.instrs × FromOn StepsBelow l.slots (take l.step-index l.steps)
