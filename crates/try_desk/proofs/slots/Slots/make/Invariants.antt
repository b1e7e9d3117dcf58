use Rattle.std.proofs.Common.{◌≡◌, length}
use Rattle.try_desk.specs.Held.{NoneLater}
use Rattle.try_desk.proofs.slots.Slots.make.Given as goal

abbrev pub invariant-loop-i : goal.invariant-loop-i
invariant-loop-i l = (length l.slots.items ≡ l.i) × NoneLater l.slots.items 0
