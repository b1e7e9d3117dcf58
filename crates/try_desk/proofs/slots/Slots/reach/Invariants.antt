use Rattle.std.proofs.Common.{◌≡◌, length}
use Rattle.try_desk.specs.Held.{held}
use Rattle.try_desk.proofs.slots.Slots.reach.Given as goal

abbrev pub invariant-loop-i : goal.invariant-loop-i
invariant-loop-i l = (length l.self.slots ≡ l.i) × ((held l.self ≡ held l.fn.self) × (l.self.args ≡ l.fn.self.args))
