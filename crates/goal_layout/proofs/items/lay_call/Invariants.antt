use Rattle.goal_layout.proofs.Calling.{IsCalling}
use Rattle.goal_layout.proofs.items.lay_call.Given as goal

abbrev pub invariant-loop-place : goal.invariant-loop-place
invariant-loop-place l = IsCalling l.args l.place l.fn.words l.words l.found
