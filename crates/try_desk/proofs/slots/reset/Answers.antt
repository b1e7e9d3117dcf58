use Rattle.std.proofs.Common.{false, arith}
use Rattle.try_desk.proofs.SlotWords.{reset_one}
use Rattle.try_desk.proofs.slots.reset.Goals as goal

pub loop-i-preserved : goal.loop-i-preserved
loop-i-preserved c = reset_one c.loop-i.slots c.loop-i.i 6 false (omega arith) c.loop-i.invariant
