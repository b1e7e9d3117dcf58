use Rattle.std.proofs.Common.{take}
use Rattle.try_desk.specs.Held.{NoneLater}
use Rattle.try_desk.proofs.slots.reset.Given as goal

abbrev pub invariant-loop-i : goal.invariant-loop-i
invariant-loop-i l = NoneLater (take l.i l.slots) 0
