use Rattle.goal_layout.proofs.AllItems.{IsLayingItems}
use Rattle.goal_layout.proofs.layout.lay_all.Given as goal

abbrev pub invariant-loop-at : goal.invariant-loop-at
invariant-loop-at l = IsLayingItems l.goal l.at l.fn.words l.words l.first
