use Rattle.fcp_reader.proofs.Few.{IsFew}
use Rattle.fcp_reader.proofs.Loops.{Kept}
use Rattle.fcp_reader.proofs.GoalMachine.{goals}
use Rattle.fcp_reader.proofs.goals.goal_items_of.Given as goal

abbrev pub invariant-loop-i : goal.invariant-loop-i
invariant-loop-i l = record { kept : Kept goals l.terminals l.i l.state l.depth; few : IsFew l.state }
