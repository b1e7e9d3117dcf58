use Rattle.std.proofs.Common.{◌≡◌, length, take}
use Rattle.fcp_model.specs.Goals.{AreNumbersOf}
use Rattle.fcp_model.proofs.goal.LoadedGoal.of.Given as goal

-- the numbers so far are those of the items so far
abbrev pub invariant-loop-at : goal.invariant-loop-at
invariant-loop-at l = AreNumbersOf l.loaded (take l.at l.item-items) (take l.at l.numbers) × (length l.numbers ≡ 256)
