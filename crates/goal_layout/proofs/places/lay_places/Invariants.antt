use Rattle.goal_layout.proofs.Placing.{IsNaming}
use Rattle.goal_layout.proofs.places.lay_places.Given as goal

abbrev pub invariant-loop-number : goal.invariant-loop-number
invariant-loop-number l = IsNaming l.fn.words l.words l.number
